use Rattle.report.proofs.replays.put_actor.Goals as goal

pub returns : goal.returns
returns g c = rw (← c.entity_name.ensures) c.put_all.ensures
