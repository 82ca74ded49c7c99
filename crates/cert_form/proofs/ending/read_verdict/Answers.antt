use Rattle.cert_form.specs.Texts.{tokens}
use Rattle.cert_form.proofs.Readers.{end_holds, end_fails, end_undecided}
use Rattle.cert_form.proofs.ending.read_verdict.Goals as goal

pub returns-in-Some-clause-gives : goal.returns-in-Some-clause-gives
returns-in-Some-clause-gives c = end_holds (tokens c.args.text.now) (tokens c.in-Some.rest.now) (rw c.in-Some.is at c.skip.ensures.found)

pub returns-in-Some-skip-clause-gives : goal.returns-in-Some-skip-clause-gives
returns-in-Some-skip-clause-gives c = end_fails (tokens c.args.text.now) (tokens c.in-Some-skip.rest.now) (rw c.in-Some-skip.is at c.skip-2.ensures.found)

pub returns-in-Some-skip-2-clause-gives : goal.returns-in-Some-skip-2-clause-gives
returns-in-Some-skip-2-clause-gives c = end_undecided (tokens c.args.text.now) (tokens c.in-Some-skip-2.rest.now) (rw c.in-Some-skip-2.is at c.skip-3.ensures.found)
