-- What an automaton does with a text, and which outcome that is.
use Rattle.grammar.proofs.Automaton
use Rattle.grammar.proofs.automaton_law.automaton_is_exact.Goals as goal

pub returns-clause-fault : goal.returns-clause-fault
returns-clause-fault g c = λ A finish. Automaton.fault_iff A finish

pub returns-clause-cut_off : goal.returns-clause-cut_off
returns-clause-cut_off g c = λ A finish. Automaton.cut_off_iff A finish

pub returns-clause-one_outcome : goal.returns-clause-one_outcome
returns-clause-one_outcome g c = λ A finish. Automaton.one_outcome A finish
