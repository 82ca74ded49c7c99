use Rattle.report.proofs.names.put_call.Goals as goal

pub returns : goal.returns
returns g c = rw (← c.function_name.ensures) c.put_all.ensures
