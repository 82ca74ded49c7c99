-- The law is one lemma.
use Rattle.scope_law.proofs.Functions.{names_right}
use Rattle.scope_law.proofs.law.names_are_right.Goals as goal

pub returns : goal.returns
returns c = names_right
