use Rattle.std.proofs.Common.{◌==◌, ap, ◌∙◌}
use Rattle.clause_solver.specs.Trail.{decisions}
use Rattle.clause_solver.proofs.Adding.{newest_level, is_level}
use Rattle.clause_solver.proofs.trail.Trail.is_newest.Goals as goal

pub returns-in-Some-clause-answer : goal.returns-in-Some-clause-answer
returns-in-Some-clause-answer c =
    ap (λ k. c.in-Some.level == k) (c.self.invariant.level ∙ ap decisions c.self.view_is)
    ∙ ap (λ o. is_level o (decisions c.args.self.now)) c.in-Some.ensures
    ∙ newest_level c.args.self.now c.args.lit

pub returns-in-None-clause-answer : goal.returns-in-None-clause-answer
returns-in-None-clause-answer c =
    ap (λ o. is_level o (decisions c.args.self.now)) c.in-None.ensures
    ∙ newest_level c.args.self.now c.args.lit
