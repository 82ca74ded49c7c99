use Rattle.std.proofs.Common.{◌≡◌, ◌≤◌, ◌+◌, ◌-◌, ◌++◌, drop, length}
use Rattle.proof_check.specs.Checks.{first_bad}
use Rattle.proof_check.proofs.check.bad_line.Given as goal

abbrev pub invariant-loop-line : goal.invariant-loop-line
invariant-loop-line l = record {
  within : l.at ≤ length l.log;
  count : l.count ≡ length l.log;
  variables : l.checker.variables ≡ l.fn.checker.variables;
  same : first_bad (l.at + 1) l.checker.variables (l.checker.formula ++ l.checker.lines) (drop l.at l.log) ≡ first_bad 1 l.fn.checker.variables l.fn.checker.formula l.log;
}

abbrev pub decreases-loop-line : goal.decreases-loop-line
decreases-loop-line l = length l.log - l.at
