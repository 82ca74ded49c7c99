-- What a keep of lines holds.
use Rattle.std.specs.Prelude.{◌≡◌, ℕ, ◌+◌, ◌-◌, ◌^◌, ◌≤◌, min, Option, None, Some, List, [], ◌∷◌, ◌++◌, Result, Ok, Err}
use Rattle.clause_form.specs.declared.line.Line.{Line}
use Rattle.clause_form.specs.declared.keep.KeepFault.{KeepFault}
use Rattle.clause_form.specs.declared.keep.KeepFault.TheVariants.{Failed, Memory}

-- the lines where they are told, with one more
abbrev pub with_line : Option (List Line) → Line → Option (List Line)
with_line None line = None
with_line (Some lines) line = Some (lines ++ line ∷ [])

-- the lines after a call: one more after Ok, the same after a fault
abbrev pub Keeps : Result (Unit {0}) KeepFault → Option (List Line) → Line → Option (List Line) → Type 0
Keeps (Ok _) old line new = new ≡ with_line old line
Keeps (Err _) old line new = new ≡ old

-- a count of faults rose, or stands at its type's end
abbrev pub Rose : ℕ → ℕ → Type 0
Rose before now = min (before + 1) (2 ^ 64 - 1) ≤ now

-- this holds after the fault Failed
abbrev pub OnFailed : Result (Unit {0}) KeepFault → Type 0 → Type 0
OnFailed (Err Failed) P = P
OnFailed (Err Memory) P = Unit {0}
OnFailed (Ok _) P = Unit {0}

-- the count of faults never falls, and Failed comes only where it rose
pub record HasCause (result : Result (Unit {0}) KeepFault) (before now : ℕ) : Type 0 where
  pub later : before ≤ now
  pub failed : OnFailed result (Rose before now)
