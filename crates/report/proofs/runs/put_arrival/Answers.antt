use Rattle.report.proofs.runs.put_arrival.Goals as goal

pub returns : goal.returns
returns g c = rw (← c.entity_name.ensures) c.put_all.ensures
