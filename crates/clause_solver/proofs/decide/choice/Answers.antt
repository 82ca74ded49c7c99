use Rattle.std.proofs.Common.{sym, ◌∙◌}
use Rattle.clause_solver.proofs.Models.{open_choice, all_more}
use Rattle.clause_solver.proofs.decide.choice.Goals as goal

pub returns-then-is_open-clause-some : goal.returns-then-is_open-clause-some
returns-then-is_open-clause-some c =
    open_choice c.args.variables c.loop-at.at c.args.trail.now _ c.positive-lit.ensures.literal c.positive-lit.ensures.variable c.loop-at-test.true (sym c.is_open.ensures ∙ c.if-is_open.true) c.loop-at.invariant

pub loop-at-preserved : goal.loop-at-preserved
loop-at-preserved c =
    all_more c.loop-at.at c.args.trail.now _ c.positive-lit.ensures.variable (sym c.is_open.ensures ∙ c.if-is_open.false) c.loop-at.invariant
