use Rattle.cert_form.specs.Texts.{tokens}
use Rattle.cert_form.proofs.Readers.{log_turn_stop}
use Rattle.cert_form.proofs.clauses.log_item.Goals as goal

pub returns-in-Some-clause-gives : goal.returns-in-Some-clause-gives
returns-in-Some-clause-gives c = log_turn_stop c.args.variables c.args.own (tokens c.args.text.now) (tokens c.in-Some.rest.now) (rw c.in-Some.is at c.skip.ensures.found)
