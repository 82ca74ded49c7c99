use Rattle.std.proofs.Common.{◌+◌, sym, subst}
use Rattle.std.proofs.lemmas.List.{take_more}
use Rattle.clause_solver.proofs.Sorting.{IsBegun, begun_more}
use Rattle.clause_solver.proofs.line.clause_in_order.Goals as goal

pub loop-lit-preserved : goal.loop-lit-preserved
loop-lit-preserved c =
    subst (λ x. IsBegun c.args.lits.now x (c.loop-lit.lit-index + 1)) (sym c.in_ok-push.ensures.ok)
    (begun_more c.args.lits.now c.loop-lit.clause c.loop-lit.lit-index (record { 0 = 0 }) c.loop-lit-test.true c.loop-lit.invariant (take_more c.args.lits.now c.loop-lit.lit-index (record { 0 = 0 }) c.loop-lit-test.true))
