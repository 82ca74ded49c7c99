-- What a keep in memory holds.
use Rattle.std.specs.Prelude.{ℕ, ◌+◌, ◌-◌, ◌^◌, min, List, Result, Ok, Err}
use Rattle.clause_form.specs.declared.line.Line.{Line}
use Rattle.clause_form.specs.declared.keep.KeepFault.{KeepFault}
use Rattle.clause_form.specs.declared.keep.KeepFault.TheVariants.{Failed, Memory}

-- the lines, the numbers of the calls that fail, how many calls there were, and how many failed
pub record ListKept : Type 0 where
  pub log : List Line
  pub failing : List ℕ
  pub calls : ℕ
  pub faults : ℕ

-- a count with one more, which stands still at its type's end
abbrev pub one_more : ℕ → ℕ
one_more count = min (count + 1) (2 ^ 64 - 1)

-- how many calls failed after one with this answer
abbrev pub faults_after : Result (Unit {0}) KeepFault → ℕ → ℕ
faults_after (Err Failed) faults = one_more faults
faults_after (Err Memory) faults = faults
faults_after (Ok _) faults = faults
