use Rattle.clause_form.proofs.Negations.{variable-literal}
use Rattle.clause_form.proofs.lit.Lit.positive.Goals as goal

pub returns-clause-variable : goal.returns-clause-variable
returns-clause-variable c = variable-literal c.args.number
