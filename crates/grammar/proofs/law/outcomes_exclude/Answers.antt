-- What holds of any set of texts, at the sentences of a grammar.
use Rattle.grammar.specs.Grammar.{IsSentence}
use Rattle.grammar.proofs.Outcomes
use Rattle.grammar.proofs.law.outcomes_exclude.Goals as goal

pub returns-clause-fault_or_cut_off : goal.returns-clause-fault_or_cut_off
returns-clause-fault_or_cut_off g c = λ G e text fault cut. Outcomes.fault_or_prefix (IsSentence G e) text fault.0 fault.1 fault.2 cut.goes_on

pub returns-clause-whole_or_fault : goal.returns-clause-whole_or_fault
returns-clause-whole_or_fault g c = λ G e text whole fault. Outcomes.whole_or_fault (IsSentence G e) text fault.0 fault.1 whole fault.2

pub returns-clause-one_fault : goal.returns-clause-one_fault
returns-clause-one_fault g c = λ G e. Outcomes.one_fault (IsSentence G e)
