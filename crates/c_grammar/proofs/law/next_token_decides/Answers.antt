-- The test of each rule computes; one tree follows by the law of the grammars that it decides in.
use Rattle.c_grammar.proofs.Agree
use Rattle.c_grammar.proofs.Decides.{unit_decides, one_tree}
use Rattle.c_grammar.specs.Symbols.{class_of}
use Rattle.c_grammar.proofs.law.next_token_decides.Goals as goal

pub returns-clause-decides : goal.returns-clause-decides
returns-clause-decides c = unit_decides

pub returns-clause-one_tree : goal.returns-clause-one_tree
returns-clause-one_tree c = Agree.same_tree class_of one_tree

pub returns-clause-returns : goal.returns-clause-returns
returns-clause-returns c = Agree.goes_forth class_of one_tree
