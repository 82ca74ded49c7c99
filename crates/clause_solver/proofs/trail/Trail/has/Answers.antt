use Rattle.std.proofs.Common.{is_some, ap, ◌∙◌}
use Rattle.clause_solver.proofs.LevelTables.{has_level}
use Rattle.clause_solver.proofs.trail.Trail.has.Goals as goal

pub returns : goal.returns
returns c = c.is_some.ensures ∙ ap is_some c.level_at.ensures ∙ has_level c.args.self.now c.args.lit
