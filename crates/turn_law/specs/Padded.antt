-- Runs of a guarded program with their padding.
use Rattle.std.specs.Prelude.{ℕ, Bool, true, false, if◌then◌else◌, ◌==◌, List, [], ◌∷◌, Option, Some, None}
use Rattle.guard_prog.specs.GuardedRun.{Program, State, turn, start_of}

-- a state of a guarded program, and whether only padding follows
pub record Phase : Type 0 where
  pub state : State
  pub is_over : Bool

-- the same state, after which only padding follows
abbrev pub ended : Phase → Phase
ended ph = record { state = ph.state; is_over = true }

-- after a failure only padding follows
abbrev pub after_turn : Option State → Option Phase
after_turn None = None
after_turn (Some s) = Some (record { state = s; is_over = s.is_failed })

-- a turn of the program, which comes before the padding only
abbrev pub acted : Program → Phase → ℕ × ℕ → Option Phase
acted p ph c = if ph.is_over then None else after_turn (turn p ph.state c)

-- a turn of the padding has the word 0
abbrev pub padded_turn : Phase → ℕ → Option Phase
padded_turn ph word = if word == 0 then Some (ended ph) else None

-- a turn with this label and word; label 0 is the padding
abbrev pub step : Program → Phase → ℕ × ℕ → Option Phase
step p ph c = if c.0 == 0 then padded_turn ph c.1 else acted p ph c

-- what the remaining turns make of a phase, if there is one
abbrev pub path_on : (Phase → Option Phase) → Option Phase → Option Phase
path_on rest None = None
path_on rest (Some ph) = rest ph

-- the phase after these turns, or nothing where they are no run with its padding
abbrev pub path : Program → List (ℕ × ℕ) → Phase → Option Phase
path p [] ph = Some ph
path p (c ∷ cs) ph = path_on (path p cs) (step p ph c)

-- the phase before the first turn
abbrev pub beginning : Program → Phase
beginning p = record { state = start_of p; is_over = false }

-- the turns up to before the first label 0
abbrev pub trimmed : List (ℕ × ℕ) → List (ℕ × ℕ)
trimmed [] = []
trimmed (c ∷ cs) = if c.0 == 0 then [] else c ∷ trimmed cs
