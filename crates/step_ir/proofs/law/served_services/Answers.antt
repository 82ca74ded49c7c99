use Rattle.step_ir.proofs.Served.{activated_task, chained_task, leaving_none}
use Rattle.step_ir.proofs.law.served_services.Goals as goal

pub returns : goal.returns
returns c = record { activated = activated_task; chained = chained_task; left = leaving_none }
