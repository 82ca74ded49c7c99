use Rattle.std.proofs.Common.{sym, subst}
use Rattle.clause_form.specs.ClauseStore.{HasAt}
use Rattle.clause_form.proofs.Stores.{HasAt-pushed}
use Rattle.clause_tests.proofs.clause_form_tests.a_store_over_ten_thousand_clauses.Goals as goal

pub remove-requires : goal.remove-requires
remove-requires g c = subst (λ ss. HasAt ss c.in_ok-at.at.0) (sym c.in_ok-at.ensures.ok) (HasAt-pushed _ _ c.in_ok-at.ensures.greatest)
