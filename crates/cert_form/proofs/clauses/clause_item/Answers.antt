use Rattle.cert_form.specs.Texts.{tokens}
use Rattle.cert_form.proofs.Readers.{clause_turn_stop}
use Rattle.cert_form.proofs.clauses.clause_item.Goals as goal

pub returns-in-Some-clause-gives : goal.returns-in-Some-clause-gives
returns-in-Some-clause-gives c = clause_turn_stop c.args.variables c.args.above (tokens c.args.text.now) (tokens c.in-Some.rest.now) (rw c.in-Some.is at c.skip.ensures.found)
