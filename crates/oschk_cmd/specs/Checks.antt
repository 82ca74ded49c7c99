-- What is replied to the words of a check, and why.
use Rattle.std.specs.Prelude.{◌≡◌, ℕ, ◌⊎◌, List, length, Some}
use Rattle.chk_base.specs.Causes.{Rose}
use Rattle.chk_base.specs.Desk.{DeskState, Fetch}
use Rattle.clause_form.specs.ClauseTruth.{HasNoModel}
use Rattle.command_words.specs.Asked.{IsCheck}
use Rattle.proof_check.specs.Certs.{IsCertOf}
use Rattle.proof_check.specs.Certs as certs
use Rattle.proof_check.specs.Checks.{HasModel, answer_of, clauses_of}
use Rattle.proof_check.specs.declared.cert.Cert.{Cert}
use Rattle.proof_check.specs.declared.cert.CertFault.TheVariants as fault
use Rattle.answers.specs.declared.verdict.Verdict.TheVariants as verdict
use Rattle.proof_check.specs.declared.check.CertAnswer.{CertAnswer}
use Rattle.proof_check.specs.declared.check.CertAnswer.TheVariants as answer
use Rattle.report.specs.declared.reports.CertReport.{CertReport}
use Rattle.report.specs.declared.reports.CertReport.TheVariants as told
use Rattle.answers.specs.declared.refusal.Refusal.{Refusal}
use Rattle.answers.specs.declared.refusal.Refusal.TheVariants as why
use Rattle.oschk_cmd.specs.declared.reply.Reply.{Reply}
use Rattle.oschk_cmd.specs.declared.reply.Reply.TheVariants as reply
use Rattle.oschk_cmd.specs.declared.status.Status.TheVariants.{Good, NotPermitted}
use Rattle.oschk_cmd.specs.Replies.{check_status}
use Rattle.oschk_cmd.specs.Fetched.{HasLongFile, HasText, cert_limit}

-- an answer, as it is reported
abbrev pub answer_told : CertAnswer → CertReport
answer_told (answer.Good v) = told.Good v
answer_told (answer.BadLine number) = told.BadLine number
answer_told answer.BadVerdict = told.BadVerdict

-- what the check of a certificate tells: the number of its log's lines and the answer, with what a good one shows
pub record IsChecked (cert : Cert) (lines : ℕ) (answered : CertReport) : Type 0 where
  pub lines_are : lines ≡ length cert.log
  pub answer_is : answered ≡ answer_told (answer_of cert)
  pub holds : answer_of cert ≡ answer.Good verdict.Holds → HasNoModel (clauses_of cert)
  pub fails : answer_of cert ≡ answer.Good verdict.Fails → HasModel cert

-- a text is that of a certificate, and this is what its check tells
pub record IsCertChecked (bytes : List ℕ) (lines : ℕ) (answered : CertReport) : Type 0 where
  pub cert : Cert
  pub cert_is : IsCertOf bytes cert
  pub checked : IsChecked cert lines answered

-- why a text is no certificate's
abbrev pub IsCertRefusal : List ℕ → Refusal → Type 0
IsCertRefusal bytes (why.CertByte place) = certs.IsRefusal bytes (fault.Byte place)
IsCertRefusal bytes (why.CertToken place) = certs.IsRefusal bytes (fault.Token place)
IsCertRefusal bytes (why.CertEnd place) = certs.IsRefusal bytes (fault.EndOfText place)
IsCertRefusal bytes _ = ⊥

-- the certificate is too long
pub record IsLongCert (desk : DeskState) (name : List ℕ) (refusal : Refusal) : Type 0 where
  pub long : HasLongFile desk cert_limit name
  pub is : refusal ≡ why.LongCert

-- the certificate was fetched, and is refused
pub record IsFetchedRefused (desk : DeskState) (name : List ℕ) (refusal : Refusal) : Type 0 where
  pub bytes : List ℕ
  pub has_bytes : HasText desk cert_limit name bytes
  pub why : IsCertRefusal bytes refusal

-- the certificate was fetched, and its check tells this
pub record IsFetchedCert (desk : DeskState) (name : List ℕ) (lines : ℕ) (answered : CertReport) : Type 0 where
  pub bytes : List ℕ
  pub has_bytes : HasText desk cert_limit name bytes
  pub checked : IsCertChecked bytes lines answered

-- the desk failed at the fetch of the certificate
pub record HasCheckFault (name : List ℕ) (before after : DeskState) : Type 0 where
  pub rose : Rose before.faults after.faults
  pub last : after.last_fault ≡ Some (Fetch name)

-- why this is replied to the words of a check
abbrev pub IsCheckReply : List ℕ → DeskState → DeskState → Reply → Type 0
IsCheckReply name before after reply.ReadFault = HasCheckFault name before after
IsCheckReply name before after reply.OutOfMemory = Unit {0}
IsCheckReply name before after (reply.Refused refusal) = IsLongCert before name refusal ⊎ IsFetchedRefused before name refusal
IsCheckReply name before after (reply.Checked lines answered) = IsFetchedCert before name lines answered
IsCheckReply name before after _ = ⊥

-- why this is replied to a certificate's text
abbrev pub IsCertReply : List ℕ → Reply → Type 0
IsCertReply bytes reply.OutOfMemory = Unit {0}
IsCertReply bytes (reply.Refused refusal) = IsCertRefusal bytes refusal
IsCertReply bytes (reply.Checked lines answered) = IsCertChecked bytes lines answered
IsCertReply bytes _ = ⊥

-- what the check tells
abbrev pub IsCheckedReply : Cert → Reply → Type 0
IsCheckedReply cert (reply.Checked lines answered) = IsChecked cert lines answered
IsCheckedReply cert _ = ⊥

-- the words ask for the check of a certificate, whose text the desk has, if it tells its files
pub record ChecksCert (words : List (List ℕ)) (desk : DeskState) (cert : Cert) : Type 0 where
  pub name : List ℕ
  pub is_check : IsCheck words name
  pub bytes : List ℕ
  pub has_bytes : HasText desk cert_limit name bytes
  pub cert_is : IsCertOf bytes cert

-- it is good: all lines are derived, and its verdict fits; so where it holds no assignment makes formula and goal true, and where it fails its model does
pub record HasGoodCert (words : List (List ℕ)) (desk : DeskState) : Type 0 where
  pub cert : Cert
  pub checks : ChecksCert words desk cert
  pub good : check_status (answer_told (answer_of cert)) ≡ Good
  pub holds : answer_of cert ≡ answer.Good verdict.Holds → HasNoModel (clauses_of cert)
  pub fails : answer_of cert ≡ answer.Good verdict.Fails → HasModel cert

-- it is bad: a line isn't derived, or its verdict doesn't fit
pub record HasBadCert (words : List (List ℕ)) (desk : DeskState) : Type 0 where
  pub cert : Cert
  pub checks : ChecksCert words desk cert
  pub bad : check_status (answer_told (answer_of cert)) ≡ NotPermitted
