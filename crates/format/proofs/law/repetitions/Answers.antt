-- Formats repeated.
use Rattle.format.proofs.Exact
use Rattle.format.proofs.law.repetitions.Goals as goal

pub returns-clause-times : goal.returns-clause-times
returns-clause-times g c = λ item exact some i n. Exact.times_exact item exact some i n

pub returns-clause-counted : goal.returns-clause-counted
returns-clause-counted g c = λ number item count exact some. Exact.counted_exact number item count exact some

pub returns-clause-until : goal.returns-clause-until
returns-clause-until g c = λ stop is_stop item next stops exact apart s. Exact.until_exact stop is_stop item next stops exact apart s
