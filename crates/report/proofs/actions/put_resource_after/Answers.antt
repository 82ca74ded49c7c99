use Rattle.report.proofs.actions.put_resource_after.Goals as goal

pub returns : goal.returns
returns g c = rw (← c.resource_name.ensures) c.put_all.ensures
