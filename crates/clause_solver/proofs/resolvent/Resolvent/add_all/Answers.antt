use Rattle.std.proofs.Common.{sym, subst}
use Rattle.std.proofs.lemmas.List.{take_more}
use Rattle.clause_solver.specs.Resolvent.{Adds}
use Rattle.clause_solver.proofs.Adding.{adds_more}
use Rattle.clause_solver.proofs.resolvent.Resolvent.add_all.Goals as goal

pub loop-lit-preserved : goal.loop-lit-preserved
loop-lit-preserved c =
    subst (λ x. Adds c.args.trail.now c.args.self.now.seen c.args.self.now.lower.items x c.add.new.self.seen c.add.new.self.lower.items c.add.new.self.count)
    (sym (take_more c.args.clause.now c.loop-lit.lit-index (record { 0 = 0 }) c.loop-lit-test.true))
    (adds_more c.args.trail.now c.args.self.now.seen c.args.self.now.lower.items c.loop-lit.self.seen c.loop-lit.self.lower.items c.add.new.self.seen c.add.new.self.lower.items _ _ c.loop-lit.self.count c.add.new.self.count c.loop-lit.invariant c.in_ok-add.ensures)
