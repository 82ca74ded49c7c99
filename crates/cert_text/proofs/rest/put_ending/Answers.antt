use Rattle.std.proofs.Common.{ap, sym}
use Rattle.cert_text.proofs.Spilling.{same_piece}
use Rattle.cert_text.proofs.rest.put_ending.Goals as goal
use Rattle.cert_text.specs.CertificateParts.{ending_text}
use Rattle.cert_text.specs.CertificateText.{ending_of}
use Rattle.cert_text.specs.declared.rest.Ending.{Ending}

pub returns-in-Holds : goal.returns-in-Holds
returns-in-Holds g c = same_piece (ap (λ (e : Ending). ending_text (ending_of e)) (sym c.in-Holds.is)) c.put_words.ensures
