use Rattle.std.proofs.Common.{◌-◌, get_or, ap, ◌∙◌}
use Rattle.clause_solver.proofs.Numbers.{clause_read}
use Rattle.clause_solver.proofs.numbering.Numbering.clause.Goals as goal

pub lits-requires : goal.lits-requires
lits-requires g c =
    (clause_read (g.C.ClauseStore.stored c.args.store.now) c.args.self.now c.args.number c.index.result.now c.requires.each c.requires.above c.requires.within
    (c.index.ensures ∙ ap (λ x. get_or x (c.args.number - 1) c.index.result.now) c.self.view_is)).0

pub returns : goal.returns
returns g c =
    (clause_read (g.C.ClauseStore.stored c.args.store.now) c.args.self.now c.args.number c.index.result.now c.requires.each c.requires.above c.requires.within
    (c.index.ensures ∙ ap (λ x. get_or x (c.args.number - 1) c.index.result.now) c.self.view_is)).1 ∙ c.lits.ensures
