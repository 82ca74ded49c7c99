use Rattle.std.proofs.Common.{◌∷◌, ap, ◌∙◌}
use Rattle.cert_form.specs.Texts.{tokens}
use Rattle.cert_form.proofs.TableParts.{first_turn_stop}
use Rattle.cert_form.proofs.tables.first_item.Goals as goal

pub returns-in-Some-clause-gives : goal.returns-in-Some-clause-gives
returns-in-Some-clause-gives c = first_turn_stop c.args.more c.args.variables c.args.number (tokens c.args.text.now) (tokens c.in-Some.rest.now) ((rw c.in-Some.is at c.skip.ensures.found) ∙ ap (λ w. w ∷ tokens c.in-Some.rest.now) c.first_stop.ensures)
