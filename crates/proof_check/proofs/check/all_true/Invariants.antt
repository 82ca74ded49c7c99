use Rattle.std.proofs.Common.{◌≡◌, ◌≤◌, ◌-◌, drop, length, true}
use Rattle.clause_form.specs.ClauseTruth.{are_true, values_of}
use Rattle.clause_form.specs.Literals.{are_within}
use Rattle.proof_check.proofs.check.all_true.Given as goal

abbrev pub invariant-loop-clause : goal.invariant-loop-clause
invariant-loop-clause l = record {
  within : l.at ≤ length l.clauses;
  count : l.count ≡ length l.clauses;
  same : are_true (values_of l.values) (drop l.at l.clauses) ≡ are_true (values_of l.values) l.clauses;
  over : are_within (length l.values) (drop l.at l.clauses) ≡ true;
}

abbrev pub decreases-loop-clause : goal.decreases-loop-clause
decreases-loop-clause l = length l.clauses - l.at
