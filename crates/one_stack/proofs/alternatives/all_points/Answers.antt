use Rattle.std.proofs.Common.{sym, subst}
use Rattle.one_stack.specs.Near.{AreAllNear}
use Rattle.one_stack.proofs.alternatives.all_points.Goals as goal

pub put_entity-requires : goal.put_entity-requires
put_entity-requires c = subst AreAllNear (sym c.points_at.ensures) (c.requires c.loop-e.e)
