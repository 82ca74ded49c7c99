-- What exact reading says of the texts of certificates.
use Rattle.cert_form.proofs.Outcomes
use Rattle.cert_form.proofs.law.certificate_texts.Goals as goal

pub returns-clause-one_certificate : goal.returns-clause-one_certificate
returns-clause-one_certificate c = λ a b v w e. Outcomes.one_certificate a b v w e

pub returns-clause-one_outcome : goal.returns-clause-one_outcome
returns-clause-one_outcome c = λ text. Outcomes.one_outcome text
