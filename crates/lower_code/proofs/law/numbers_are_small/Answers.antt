-- The law is one lemma.
use Rattle.std.proofs.Common.{◌<◌}
use Rattle.lower_code.proofs.Scoping.{body_small}
use Rattle.lower_code.proofs.law.numbers_are_small.Goals as goal

pub returns : goal.returns
returns c = λ globals locals result params n b few within h. body_small globals (λ f args t. f < n) locals result params n b few within (λ f args t k. k) h
