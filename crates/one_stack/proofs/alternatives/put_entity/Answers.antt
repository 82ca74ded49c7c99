use Rattle.step_ir.specs.Points.{plain_of}
use Rattle.one_stack.proofs.Plainly.{at_map}
use Rattle.one_stack.proofs.alternatives.put_entity.Goals as goal

pub point_alternatives-requires : goal.point_alternatives-requires
point_alternatives-requires c = c.requires c.loop-point.point-index _ (at_map plain_of c.args.points.now c.loop-point.point-index c.point-item.result c.loop-point-test.true c.point-item.is)
