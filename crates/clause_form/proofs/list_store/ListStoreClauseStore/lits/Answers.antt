use Rattle.std.proofs.Common.{sym, ap, ◌∙◌, arith, length}
use Rattle.std.specs.List.{slice_get}
use Rattle.std.specs.Prelude.{is_some}
use Rattle.clause_form.specs.ListStore.{joined}
use Rattle.clause_form.proofs.Gaps.{fits_at, found_at, some_there}
use Rattle.clause_form.proofs.list_store.ListStoreClauseStore.lits.Goals as goal

pub lits_in-requires-clause-within : goal.lits_in-requires-clause-within
lits_in-requires-clause-within c =
    let w = some_there c.args.at.0 c.self.inside.entries.items (fits_at c.self.inside.entries.items c.args.self.now c.args.at.0 c.self.view_is c.requires) in
    let e = ap (λ x. length x) c.as_slice.ensures.value in
    omega (arith, w, e)

pub lits_in-requires-clause-some : goal.lits_in-requires-clause-some
lits_in-requires-clause-some c =
    ap (λ x. is_some (joined (slice_get x c.args.at.0))) c.as_slice.ensures.value ∙ fits_at c.self.inside.entries.items c.args.self.now c.args.at.0 c.self.view_is c.requires

pub returns : goal.returns
returns c =
    found_at c.self.inside.entries.items c.args.self.now c.args.at.0 c.self.view_is ∙ ap (λ x. joined (slice_get x c.args.at.0)) (sym c.as_slice.ensures.value) ∙ c.lits_in.ensures
