-- What a sink means, and what its call does.
use Rattle.std.specs.Prelude.{◌≡◌, ℕ, List, ◌++◌, take, Option, Result, OnOk, OnErr, IfOk, option_map}
use Rattle.chk_base.specs.declared.sink.Failed.{Failed}
use Rattle.chk_base.specs.Causes.{HasCause, any_error}
use Rattle.chk_base.specs.Pieces.{TakesSome}

-- what a sink means: the bytes written so far where it tells them, and how often it has failed
pub record SinkState : Type 0 where
  pub written : Option (List ℕ)
  pub faults : ℕ

-- a sink with these bytes of which no call was made yet
abbrev pub at_first : Option (List ℕ) → SinkState
at_first written = record { written = written; faults = 0 }

-- bytes with a piece at their end
abbrev pub followed_by : List ℕ → List ℕ → List ℕ
followed_by piece bytes = bytes ++ piece

-- a write of a piece
pub record Writes (before after : SinkState) (piece : List ℕ) (result : Result ℕ Failed) : Type 0 where
  pub count : IfOk result (TakesSome piece)
  pub grown : IfOk result (λ n. after.written ≡ option_map (followed_by (take n piece)) before.written)
  pub kept : OnErr result (after.written ≡ before.written)
  pub cause : HasCause any_error before.faults after.faults result

-- a write of a whole piece; where it fails a prefix of the piece was written
pub record WritesAll (before after : SinkState) (piece : List ℕ) (result : Result Unit Failed) : Type 0 where
  pub whole : OnOk result (after.written ≡ option_map (followed_by piece) before.written)
  pub cut : OnErr result ((n : ℕ) × (after.written ≡ option_map (followed_by (take n piece)) before.written))
  pub cause : HasCause any_error before.faults after.faults result
