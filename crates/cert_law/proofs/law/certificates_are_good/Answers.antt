use Rattle.cert_law.proofs.Accepting.{accepted}
use Rattle.cert_law.proofs.law.certificates_are_good.Goals as goal

pub returns : goal.returns
returns c = accepted
