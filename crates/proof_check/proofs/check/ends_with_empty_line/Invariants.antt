use Rattle.std.proofs.Common.{◌≡◌, ◌≤◌, ◌-◌, drop, length}
use Rattle.clause_form.specs.DerivedLine.{ends_empty}
use Rattle.proof_check.proofs.check.ends_with_empty_line.Given as goal

abbrev pub invariant-loop-line : goal.invariant-loop-line
invariant-loop-line l = record {
  within : l.at ≤ length l.log;
  count : l.count ≡ length l.log;
  same : ends_empty (drop l.at l.log) ≡ ends_empty l.log;
}

abbrev pub decreases-loop-line : goal.decreases-loop-line
decreases-loop-line l = length l.log - l.at
