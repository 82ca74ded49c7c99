-- Reading an item is one turn of reading it.
use Rattle.std.proofs.Common.{refl, sym, ◌∙◌}
use Rattle.std.proofs.lemmas.Bool.{and_parts}
use Rattle.grammar.proofs.Loops
use Rattle.grammar.proofs.Turns
use Rattle.grammar.proofs.law.loops.Goals as goal

pub returns-clause-begins : goal.returns-clause-begins
returns-clause-begins g c = λ L e add empty start. Loops.starts L e add empty start

pub returns-clause-goes_on : goal.returns-clause-goes_on
returns-clause-goes_on g c = λ L e d add empty start value text so_far b item rest h. Loops.goes_on L d.rules e d.here add empty start text value (add value item) item rest b (sym (Turns.one_turn L d.rules e (and_parts _ _ d.here).0 text) ∙ h) refl so_far

pub returns-clause-breaks : goal.returns-clause-breaks
returns-clause-breaks g c = λ L e d add empty start value text so_far b rest h. Loops.breaks L d.rules e d.here add empty start text value rest b (sym (Turns.one_turn L d.rules e (and_parts _ _ d.here).0 text) ∙ h) so_far

pub returns-clause-done : goal.returns-clause-done
returns-clause-done g c = λ L e d add empty start value text so_far b. Loops.is_done L d.rules e d.here add empty start text value b so_far
