-- The law is one lemma.
use Rattle.scope_law.proofs.Serving.{serving}
use Rattle.scope_law.proofs.law.services_are_right.Goals as goal

pub returns : goal.returns
returns c = serving
