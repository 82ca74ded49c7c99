use Rattle.cert_text.proofs.Whole.{whole}
use Rattle.cert_text.proofs.law.front_and_rest_are_whole.Goals as goal

pub returns : goal.returns
returns c = whole
