-- Turns suffice, so that reading is one turn and reading again.
use Rattle.std.proofs.Common.{◌∙◌, ap, sym}
use Rattle.grammar.specs.Grammar.{Node}
use Rattle.grammar.specs.Reading.{map_got}
use Rattle.grammar.proofs.Loops
use Rattle.grammar.proofs.Turns
use Rattle.grammar.proofs.law.reading_follows.Goals as goal

pub returns-clause-rule : goal.returns-clause-rule
returns-clause-rule g c = λ L rules n text. Turns.rule_turn L rules n text ∙ ap (map_got Node) (sym (Turns.one_turn L rules (L.grammar.rule n) (rules n).decides text))

pub returns-clause-turn : goal.returns-clause-turn
returns-clause-turn g c = λ L e d. Turns.one_turn L d.rules e d.here

pub returns-clause-takes : goal.returns-clause-takes
returns-clause-takes g c = λ L n d. Loops.takes L d.rules n d.here
