use Rattle.cert_text.proofs.Spilling.{none}
use Rattle.cert_text.proofs.spill.spill_much.Goals as goal

pub returns-then-as_bytes-lt-HELD : goal.returns-then-as_bytes-lt-HELD
returns-then-as_bytes-lt-HELD g c = none _ _
