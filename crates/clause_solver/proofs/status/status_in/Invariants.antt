use Rattle.std.proofs.Common.{◌≡◌, ◌+◌, ◌++◌, drop, length, false, count_by}
use Rattle.std.specs.Option.{option_to_list, ForSome}
use Rattle.clause_form.specs.Literals.{has}
use Rattle.clause_form.specs.DerivedLine.{unfalse}
use Rattle.clause_form.specs.LearnedLine.{has_true, is_open}
use Rattle.clause_solver.specs.Trail.{lits_of}
use Rattle.clause_solver.proofs.status.status_in.Given as goal

abbrev pub invariant-loop-lit : goal.invariant-loop-lit
invariant-loop-lit l = record {
  left : unfalse (lits_of l.trail) l.clause ≡ option_to_list l.found ++ unfalse (lits_of l.trail) (drop l.lit-index l.clause);
  unset : ForSome l.found (λ x. has (lits_of l.trail) x ≡ false);
  open_ones : count_by (is_open (lits_of l.trail)) l.clause ≡ length (option_to_list l.found) + count_by (is_open (lits_of l.trail)) (drop l.lit-index l.clause);
  true_ones : has_true (lits_of l.trail) l.clause ≡ has_true (lits_of l.trail) (drop l.lit-index l.clause);
}
