use Rattle.static_rules.proofs.Shortening.{short_chain}
use Rattle.static_rules.proofs.law.chains_may_be_short.Goals as goal

pub returns : goal.returns
returns c = short_chain
