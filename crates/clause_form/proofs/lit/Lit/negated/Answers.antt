use Rattle.std.proofs.Common.{ap, ◌∙◌}
use Rattle.clause_form.specs.Literals.{variable}
use Rattle.clause_form.proofs.Negations.{variable-negation}
use Rattle.clause_form.proofs.lit.Lit.negated.Goals as goal

pub returns-clause-variable : goal.returns-clause-variable
returns-clause-variable c = ap variable c.other_of.ensures ∙ variable-negation c.args.self
