-- Each answer of reading, and what it says of the text.
use Rattle.grammar.proofs.Laws
use Rattle.grammar.proofs.Turns
use Rattle.grammar.proofs.law.reading_is_exact.Goals as goal

pub returns-clause-whole : goal.returns-clause-whole
returns-clause-whole g c = λ L e d. Laws.whole_iff L d.rules e d.here

pub returns-clause-fault : goal.returns-clause-fault
returns-clause-fault g c = λ L e d. Laws.fault_iff L d.rules e d.here

pub returns-clause-cut_off : goal.returns-clause-cut_off
returns-clause-cut_off g c = λ L e d. Laws.cut_off_iff L d.rules e d.here

pub returns-clause-answers : goal.returns-clause-answers
returns-clause-answers g c = λ L e d. Turns.never_out L d.rules e d.here
