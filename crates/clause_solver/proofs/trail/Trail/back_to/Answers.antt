use Rattle.std.proofs.Common.{◌≤◌, arith, sym, ◌∙◌}
use Rattle.clause_solver.specs.Trail.{decisions}
use Rattle.clause_solver.proofs.LevelTables.{up_to_all}
use Rattle.clause_solver.proofs.trail.Trail.back_to.Goals as goal

pub returns : goal.returns
returns c =
    let low : decisions c.loop-self.self ≤ c.args.level = let a = c.level.ensures in let b = c.loop-self-test.false in omega arith in
    sym (up_to_all c.args.level c.loop-self.self low) ∙ c.loop-self.invariant
