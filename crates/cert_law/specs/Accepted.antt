-- Texts that the check of certificates accepts.
use Rattle.std.specs.Prelude.{◌≡◌, ℕ, List}
use Rattle.bounded_check.specs.declared.decide.Verdict.{Verdict}
use Rattle.certified_run.specs.Certified.{ending_by}
use Rattle.proof_check.specs.Certs.{IsCertOf, verdict_of}
use Rattle.proof_check.specs.Checks.{answer_of}
use Rattle.proof_check.specs.declared.cert.Cert.{Cert}
use Rattle.proof_check.specs.declared.check.CertAnswer.TheVariants.{Good}

-- the text is that of a certificate, and the answer of its check is that it is good and has this verdict
pub record IsAccepted (text : List ℕ) (v : Verdict) : Type 0 where
  pub cert : Cert
  pub read : IsCertOf text cert
  pub good : answer_of cert ≡ Good (verdict_of (ending_by v))
