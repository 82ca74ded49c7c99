-- What the reader of certificates answers.
use Rattle.std.specs.Prelude.{◌≡◌, ℕ, Bool, true, false, Option, Some, None, List, ◌∷◌, ◌++◌}
use Rattle.chk_base.specs.declared.place.Place.{Place}
use Rattle.chk_base.specs.Places.{place_after}
use Rattle.grammar.specs.FirstFault.{IsFirstFault, IsCutOff}
use Rattle.cert_form.specs.declared.reading.Parts.{Parts}
use Rattle.cert_form.specs.declared.ending.Outcome.{Outcome}
use Rattle.cert_form.specs.declared.ending.Outcome.TheVariants as outcomes
use Rattle.cert_form.specs.Words.{Token}
use Rattle.cert_form.specs.Certificate as ends
use Rattle.cert_form.specs.Certificate.{Certificate, Ending}
use Rattle.cert_form.specs.CertificateText.{certificate_words}
use Rattle.cert_form.specs.IsCertificate.{is_certificate, IsCertificateText}
use Rattle.cert_form.specs.Texts.{tokens, concat, is_byte}
use Rattle.cert_form.specs.Answers.{are_bytes}
use Rattle.proof_check.specs.declared.cert.Cert.{Cert}
use Rattle.proof_check.specs.declared.cert.CertFault.{CertFault}
use Rattle.proof_check.specs.declared.cert.CertFault.TheVariants as faults
use Rattle.answers.specs.declared.verdict.Verdict.{Verdict}
use Rattle.answers.specs.declared.verdict.Verdict.TheVariants.{Holds, Fails, Undecided}

-- the verdict's word
abbrev pub verdict_of : Ending → Verdict
verdict_of ends.Holds = Holds
verdict_of (ends.Fails values) = Fails
verdict_of ends.Undecided = Undecided

-- the model stands after 'verdict fails' alone
abbrev pub model_of : Ending → Option (List Bool)
model_of ends.Holds = None
model_of (ends.Fails values) = Some values
model_of ends.Undecided = None

-- The text is that of a certificate, and this one has its parts.
pub record IsCertOf (text : List ℕ) (cert : Cert) : Type 0 where
  pub certificate : Certificate
  pub valid : is_certificate certificate ≡ true
  pub spelled : tokens text ≡ certificate_words certificate
  pub budget : cert.budget ≡ certificate.budget
  pub variables : cert.formula.variables ≡ certificate.variables
  pub clauses : cert.formula.clauses ≡ certificate.clauses
  pub goal : cert.goal ≡ certificate.goal
  pub log : cert.log ≡ certificate.log
  pub verdict : cert.verdict ≡ verdict_of certificate.ending
  pub model : cert.model ≡ model_of certificate.ending

-- the first byte that no certificate's text may have stands at this place
pub record IsByteFault (text : List ℕ) (place : Place) : Type 0 where
  pub before : List ℕ
  pub bad : ℕ
  pub rest : List ℕ
  pub parts : text ≡ before ++ bad ∷ rest
  pub fine : are_bytes before ≡ true
  pub strange : is_byte bad ≡ false
  pub at : place ≡ place_after before

-- all bytes may stand in a certificate's text, and the first fault among the tokens begins at this place
pub record IsTokenFault (text : List ℕ) (place : Place) : Type 0 where
  pub fine : are_bytes text ≡ true
  pub bad : Token
  pub rest : List Token
  pub fault : IsFirstFault IsCertificateText (tokens text) bad rest
  pub at : place ≡ place_after (concat fault.before)

-- all bytes may stand in a certificate's text, which this one begins and isn't; the place is that after the last byte
pub record IsEndFault (text : List ℕ) (place : Place) : Type 0 where
  pub fine : are_bytes text ≡ true
  pub cut_off : IsCutOff IsCertificateText (tokens text)
  pub at : place ≡ place_after text

-- Why the text is refused; want of memory says nothing of it.
abbrev pub IsRefusal : List ℕ → CertFault → Type 0
IsRefusal text (faults.Byte place) = IsByteFault text place
IsRefusal text (faults.Token place) = IsTokenFault text place
IsRefusal text (faults.EndOfText place) = IsEndFault text place
IsRefusal text faults.Memory = Unit {0}

-- the verdict and the model of an outcome
abbrev pub outcome_verdict : Outcome → Verdict
outcome_verdict outcomes.Holds = Holds
outcome_verdict (outcomes.Fails values) = Fails
outcome_verdict outcomes.Undecided = Undecided

abbrev pub outcome_model : Outcome → Option (List Bool)
outcome_model outcomes.Holds = None
outcome_model (outcomes.Fails values) = Some values
outcome_model outcomes.Undecided = None

-- a certificate has the parts that were read
pub record HasParts (cert : Cert) (parts : Parts) : Type 0 where
  pub budget : cert.budget ≡ parts.budget
  pub formula : cert.formula ≡ parts.formula
  pub goal : cert.goal ≡ parts.goal
  pub log : cert.log ≡ parts.log
  pub verdict : cert.verdict ≡ outcome_verdict parts.outcome
  pub model : cert.model ≡ outcome_model parts.outcome
