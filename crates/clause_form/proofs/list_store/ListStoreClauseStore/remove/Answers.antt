use Rattle.std.proofs.Common.{sym, ap, ◌∙◌, arith}
use Rattle.clause_form.specs.ClauseStore.{without}
use Rattle.clause_form.specs.ListStore.{present}
use Rattle.clause_form.proofs.Gaps.{fits_at, some_there, without_start}
use Rattle.clause_form.proofs.list_store.ListStoreClauseStore.remove.Goals as goal

pub remove_in-requires : goal.remove_in-requires
remove_in-requires c =
    let w = some_there c.args.at.0 c.self.inside.entries.items (fits_at c.self.inside.entries.items c.args.self.now c.args.at.0 c.self.view_is c.requires) in
    omega (arith, w)

pub returns : goal.returns
returns c =
    ap (present 0) c.remove_in.ensures
    ∙ sym (without_start c.args.at.0 c.self.inside.entries.items (fits_at c.self.inside.entries.items c.args.self.now c.args.at.0 c.self.view_is c.requires))
    ∙ ap (λ x. without x c.args.at.0) c.self.view_is
