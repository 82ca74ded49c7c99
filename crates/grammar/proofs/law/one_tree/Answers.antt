-- A text has one tree, since both would be what reading gives.
use Rattle.grammar.proofs.Laws
use Rattle.grammar.proofs.law.one_tree.Goals as goal

pub returns : goal.returns
returns g c = λ L e d. Laws.one_tree L d.rules e d.here
