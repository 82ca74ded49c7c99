-- The tree of the written grammar is the written form of the only tree of the factored one.
use Rattle.c_grammar.proofs.Agree
use Rattle.c_grammar.proofs.law.meanings_agree.Goals as goal

pub returns : goal.returns
returns g c = λ class. Agree.means class
