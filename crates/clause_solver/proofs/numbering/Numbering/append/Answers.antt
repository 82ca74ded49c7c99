use Rattle.std.proofs.Common.{◌∷◌, ◌++◌, [], ap, ◌∙◌}
use Rattle.clause_solver.proofs.Appending.{one_more, has_more, with_last}
use Rattle.clause_solver.proofs.numbering.Numbering.append.Goals as goal

pub returns-clause-each : goal.returns-clause-each
returns-clause-each g c =
    has_more (g.C.ClauseStore.stored c.args.store.now) (g.C.ClauseStore.stored c.push.new.self) c.args.self.now c.push-2.new.self.items c.in_ok-at.at c.args.clause.now
    c.requires c.in_ok-at.ensures.greatest (c.in_ok-at.ensures.ok ∙ ap (with_last (g.C.ClauseStore.stored c.args.store.now) c.in_ok-at.at) c.lits.ensures.lits) (c.in_ok-push.ensures.items ∙ ap (λ x. x ++ c.in_ok-at.at ∷ []) c.self.view_is)

pub returns-clause-clauses : goal.returns-clause-clauses
returns-clause-clauses g c =
    one_more (g.C.ClauseStore.stored c.args.store.now) (g.C.ClauseStore.stored c.push.new.self) c.args.self.now c.push-2.new.self.items c.in_ok-at.at c.args.clause.now
    c.requires c.in_ok-at.ensures.greatest (c.in_ok-at.ensures.ok ∙ ap (with_last (g.C.ClauseStore.stored c.args.store.now) c.in_ok-at.at) c.lits.ensures.lits) (c.in_ok-push.ensures.items ∙ ap (λ x. x ++ c.in_ok-at.at ∷ []) c.self.view_is)
