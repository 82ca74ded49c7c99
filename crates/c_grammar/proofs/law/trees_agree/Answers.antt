-- Each rule keeps what is spelled, so each tree does.
use Rattle.c_grammar.proofs.Agree
use Rattle.c_grammar.proofs.law.trees_agree.Goals as goal

pub returns-clause-factors : goal.returns-clause-factors
returns-clause-factors g c = λ class. Agree.factors class

pub returns-clause-writes : goal.returns-clause-writes
returns-clause-writes g c = λ class. Agree.writes class

pub returns-clause-returns : goal.returns-clause-returns
returns-clause-returns g c = λ class. Agree.comes_back class
