-- What has a tree in one grammar has one in the other.
use Rattle.grammar.specs.Grammar.{IsSentence}
use Rattle.c_grammar.specs.Written.{written, unit}
use Rattle.c_grammar.specs.Factored.{factored, factored_unit}
use Rattle.c_grammar.proofs.Agree
use Rattle.c_grammar.proofs.law.texts_agree.Goals as goal

pub returns-clause-whole : goal.returns-clause-whole
returns-clause-whole g c = λ class text. (Agree.to_written class text, Agree.to_factored class text)

pub returns-clause-fault : goal.returns-clause-fault
returns-clause-fault g c = λ class text bad rest. (
  Agree.fault (IsSentence (factored class) factored_unit) (IsSentence (written class) unit) (Agree.to_written class) (Agree.to_factored class) text bad rest,
  Agree.fault (IsSentence (written class) unit) (IsSentence (factored class) factored_unit) (Agree.to_factored class) (Agree.to_written class) text bad rest,
)

pub returns-clause-cut_off : goal.returns-clause-cut_off
returns-clause-cut_off g c = λ class text. (
  Agree.cut_off (IsSentence (factored class) factored_unit) (IsSentence (written class) unit) (Agree.to_written class) (Agree.to_factored class) text,
  Agree.cut_off (IsSentence (written class) unit) (IsSentence (factored class) factored_unit) (Agree.to_factored class) (Agree.to_written class) text,
)
