-- A sink in memory.
use Rattle.std.specs.Prelude.{◌≡◌, ◌⊎◌, ℕ, ◌-◌, ◌<◌, List, Option, length, Contains, Some}
use Rattle.chk_base.specs.Causes.{risen}
use Rattle.chk_base.specs.Sink.{SinkState}

-- what a sink in memory means: how many bytes it takes in all, the bound on the bytes that a write takes where one was given, the bytes written, the
-- bytes that it lends, how many calls there were, the numbers of the calls that are to fail, and how many have failed
pub record MemSinkState : Type 0 where
  pub room : ℕ
  pub most : Option ℕ
  pub written : List ℕ
  pub text : List ℕ
  pub calls : ℕ
  pub to_fail : List ℕ
  pub faults : ℕ

-- what it means as a sink
abbrev pub sink_state : MemSinkState → SinkState
sink_state sink = record { written = Some sink.written; faults = sink.faults }

-- the room that is left
abbrev pub room_left : MemSinkState → ℕ
room_left sink = sink.room - length sink.written

-- the next write of this piece is to fail: its number was given, or there is no room for any of it
abbrev pub FailsAt : MemSinkState → List ℕ → Type 0
FailsAt sink piece = Contains sink.to_fail (risen sink.calls) ⊎ ((0 < length piece) × (room_left sink ≡ 0))
