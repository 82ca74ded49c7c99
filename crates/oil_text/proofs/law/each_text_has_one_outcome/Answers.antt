use Rattle.oil_text.proofs.Exact
use Rattle.oil_text.proofs.law.each_text_has_one_outcome.Goals as goal

pub returns-clause-one_tree : goal.returns-clause-one_tree
returns-clause-one_tree c = Exact.one_tree

pub returns-clause-one_fault : goal.returns-clause-one_fault
returns-clause-one_fault c = Exact.one_fault

pub returns-clause-tree_or_fault : goal.returns-clause-tree_or_fault
returns-clause-tree_or_fault c = Exact.tree_or_fault

pub returns-clause-some_outcome : goal.returns-clause-some_outcome
returns-clause-some_outcome c = Exact.some_outcome
