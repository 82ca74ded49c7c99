use Rattle.step_ir.proofs.law.first_entries.Goals as goal
use Rattle.step_ir.proofs.Lists.{foremost_none, foremost_some, highest_is, highest_none}

pub returns : goal.returns
returns c = record { highest = highest_is; all_empty = highest_none; foremost = foremost_some; no_request = foremost_none }
