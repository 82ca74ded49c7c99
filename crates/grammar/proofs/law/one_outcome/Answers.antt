-- Reading gives one of three answers, and each says one outcome.
use Rattle.grammar.proofs.Laws
use Rattle.grammar.proofs.law.one_outcome.Goals as goal

pub returns : goal.returns
returns g c = λ L e d text. Laws.one_outcome L d.rules e d.here text
