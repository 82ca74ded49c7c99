-- Formats one after another.
use Rattle.format.proofs.Exact
use Rattle.format.proofs.law.sequences.Goals as goal

pub returns-clause-pair : goal.returns-clause-pair
returns-clause-pair g c = λ F G f h some. Exact.pair_exact F G f h some

pub returns-clause-mapped : goal.returns-clause-mapped
returns-clause-mapped g c = λ to from F r f. Exact.mapped_exact to from F r f
