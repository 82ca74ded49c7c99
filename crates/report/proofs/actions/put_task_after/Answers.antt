use Rattle.report.proofs.actions.put_task_after.Goals as goal

pub returns : goal.returns
returns g c = rw (← c.entity_name.ensures) c.put_all.ensures
