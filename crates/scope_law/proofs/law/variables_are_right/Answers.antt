-- The law is one lemma.
use Rattle.scope_law.proofs.Variables.{variables}
use Rattle.scope_law.proofs.law.variables_are_right.Goals as goal

pub returns : goal.returns
returns c = variables
