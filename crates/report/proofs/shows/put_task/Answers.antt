use Rattle.report.proofs.shows.put_task.Goals as goal

pub returns : goal.returns
returns g c = rw (← c.points_at.ensures) c.put_all.ensures
