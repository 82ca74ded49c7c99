use Rattle.step_ir.proofs.law.codes_tell_no_failures.Goals as goal
use Rattle.step_ir.proofs.Telling.{code_tells}

pub returns : goal.returns
returns c = code_tells
