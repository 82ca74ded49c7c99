use Rattle.report.proofs.runs.put_head.Goals as goal

pub returns-in-Some : goal.returns-in-Some
returns-in-Some g c = rw c.in-Some.is c.put_all.ensures
