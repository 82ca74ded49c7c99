-- The laws of literals that the gates use.
use Rattle.clause_form.proofs.Negations.{variable-negation, variable-literal, IsOf-negation}

pub ruleset literal_laws = (variable-negation, variable-literal, IsOf-negation)
