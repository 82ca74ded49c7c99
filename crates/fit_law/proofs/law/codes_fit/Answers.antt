-- The law is one lemma.
use Rattle.std.proofs.Common.{◌+◌, length, refl}
use Rattle.fit_law.proofs.Whole.{code_fits}
use Rattle.fit_law.proofs.law.codes_fit.Goals as goal

pub returns : goal.returns
returns c = λ app u code is serving variables bodies points bits. code_fits app u (length app.tasks + length app.routines) code is serving variables bodies refl points bits
