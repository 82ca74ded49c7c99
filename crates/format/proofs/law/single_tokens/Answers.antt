-- Formats of at most one token.
use Rattle.format.proofs.Exact
use Rattle.format.proofs.law.single_tokens.Goals as goal

pub returns-clause-nothing : goal.returns-clause-nothing
returns-clause-nothing g c = Exact.nothing_exact

pub returns-clause-never : goal.returns-clause-never
returns-clause-never g c = Exact.never_exact

pub returns-clause-one : goal.returns-clause-one
returns-clause-one g c = λ valid token meaning s. Exact.one_exact valid token meaning s
