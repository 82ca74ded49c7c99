use Rattle.std.proofs.Common.{◌≡◌, ◌≤◌, ◌-◌, drop, length}
use Rattle.clause_form.specs.LearnedLine.{has_empty}
use Rattle.proof_check.proofs.check.has_empty_line.Given as goal

abbrev pub invariant-loop-line : goal.invariant-loop-line
invariant-loop-line l = record {
  within : l.at ≤ length l.log;
  count : l.count ≡ length l.log;
  same : has_empty (drop l.at l.log) ≡ has_empty l.log;
}

abbrev pub decreases-loop-line : goal.decreases-loop-line
decreases-loop-line l = length l.log - l.at
