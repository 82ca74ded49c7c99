use Rattle.app_generator.proofs.bodies.put_before.Goals as goal

pub returns : goal.returns
returns c = c.put.ensures
