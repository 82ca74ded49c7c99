use Rattle.step_ir.proofs.Counting.{length_at_most}
use Rattle.step_ir.proofs.law.few_numbers.Goals as goal

pub returns : goal.returns
returns c = length_at_most
