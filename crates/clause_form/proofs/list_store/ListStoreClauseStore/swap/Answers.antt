use Rattle.std.proofs.Common.{◌<◌, ap, ◌∙◌, arith, length, subst}
use Rattle.std.specs.Prelude.{IfSome}
use Rattle.clause_form.specs.ClauseStore.{swapped}
use Rattle.clause_form.proofs.Gaps.{fits_at, found_at, some_there, swapped_if}
use Rattle.clause_form.proofs.list_store.ListStoreClauseStore.swap.Goals as goal

pub swap_in-requires-clause-at : goal.swap_in-requires-clause-at
swap_in-requires-clause-at c =
    let w = some_there c.args.at.0 c.self.inside.entries.items (fits_at c.self.inside.entries.items c.args.self.now c.args.at.0 c.self.view_is c.requires.at) in
    omega (arith, w)

pub swap_in-requires-clause-i : goal.swap_in-requires-clause-i
swap_in-requires-clause-i c = subst (λ o. IfSome o (λ lits. c.args.i < length lits)) (found_at c.self.inside.entries.items c.args.self.now c.args.at.0 c.self.view_is) c.requires.i

pub swap_in-requires-clause-j : goal.swap_in-requires-clause-j
swap_in-requires-clause-j c = subst (λ o. IfSome o (λ lits. c.args.j < length lits)) (found_at c.self.inside.entries.items c.args.self.now c.args.at.0 c.self.view_is) c.requires.j

pub returns : goal.returns
returns c =
    swapped_if c.args.at.0 c.args.i c.args.j c.self.inside.entries.items c.swap_in.new.entries.items (fits_at c.self.inside.entries.items c.args.self.now c.args.at.0 c.self.view_is c.requires.at) c.swap_in.ensures
    ∙ ap (λ x. swapped x c.args.at.0 c.args.i c.args.j) c.self.view_is
