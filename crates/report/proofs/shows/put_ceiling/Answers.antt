use Rattle.report.proofs.shows.put_ceiling.Goals as goal

pub returns : goal.returns
returns g c = rw (← c.scheduler_ceiling.ensures) c.put_count.ensures
