use Rattle.app_generator.proofs.Appending.{next_body, twelve_later}
use Rattle.app_generator.proofs.bodies.put_bodies.Goals as goal

pub loop-i-preserved : goal.loop-i-preserved
loop-i-preserved c = (
  next_body c.args.draws.now.state c.loop-i.draws.state c.args.tasks c.args.arrivals c.loop-i.i c.loop-i.invariant.1 c.loop-i.invariant.0 c.in_ok-put_body.ensures.text,
  twelve_later c.args.draws.now.state c.loop-i.i c.loop-i.draws.state _ c.loop-i.invariant.1 c.in_ok-put_body.ensures.draws,
)
