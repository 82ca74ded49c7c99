use Rattle.report.proofs.shows.put_resource.Goals as goal

pub returns : goal.returns
returns g c = rw (← c.resource_word.ensures) c.put_all.ensures
