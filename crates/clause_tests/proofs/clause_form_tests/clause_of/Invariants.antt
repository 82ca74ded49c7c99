use Rattle.std.proofs.Common.{◌≡◌, true}
use Rattle.clause_form.specs.Literals.{is_within, last_variable}
use Rattle.clause_tests.proofs.clause_form_tests.clause_of.Given as goal

abbrev pub invariant-loop-code : goal.invariant-loop-code
invariant-loop-code l = record {
  last : l.last ≡ last_variable 0 l.clause;
  within : is_within l.variables l.clause ≡ true;
}
