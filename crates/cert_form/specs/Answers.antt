-- What the reader of whole texts answers.
use Rattle.std.specs.Prelude.{◌≡◌, ℕ, ◌<◌, ◌≤◌, Bool, true, false, ◌&&◌, List, [], ◌∷◌, length, take, get_or}
use Rattle.grammar.specs.FirstFault.{IsFirstFault, IsCutOff}
use Rattle.cert_form.specs.Words.{Token}
use Rattle.cert_form.specs.Certificate.{Certificate}
use Rattle.cert_form.specs.IsCertificate.{is_certificate, IsCertificateText}
use Rattle.cert_form.specs.CertificateText.{certificate_words}
use Rattle.cert_form.specs.Texts.{tokens, concat, is_byte}
use Rattle.cert_form.specs.Verdicts.{ending_of}
use Rattle.cert_form.specs.declared.reading.Parts.{Parts}
use Rattle.cert_form.specs.declared.reading.Stop.{Stop}
use Rattle.cert_form.specs.declared.reading.Stop.TheVariants.{Memory, Token as TokenStop, End}

-- the text is that of a certificate, and these are the parts of it that are kept
pub record IsReadAs (text : List ℕ) (parts : Parts) : Type 0 where
  pub certificate : Certificate
  pub valid : is_certificate certificate ≡ true
  pub spelled : tokens text ≡ certificate_words certificate
  pub budget : parts.budget ≡ certificate.budget
  pub variables : parts.formula.variables ≡ certificate.variables
  pub clauses : parts.formula.clauses ≡ certificate.clauses
  pub goal : parts.goal ≡ certificate.goal
  pub log : parts.log ≡ certificate.log
  pub ending : ending_of parts.outcome ≡ certificate.ending

-- the first fault is the token that begins at this offset
pub record IsFaultAt (text : List ℕ) (offset : ℕ) : Type 0 where
  pub bad : Token
  pub rest : List Token
  pub fault : IsFirstFault IsCertificateText (tokens text) bad rest
  pub within : offset ≤ length text
  pub before : take offset text ≡ concat fault.before

-- why the reader stopped
abbrev pub IsStop : List ℕ → Stop → Type 0
IsStop text Memory = Unit {0}
IsStop text (TokenStop offset) = IsFaultAt text offset
IsStop text End = IsCutOff IsCertificateText (tokens text)

-- each byte is one that a certificate's text may have
abbrev pub are_bytes : List ℕ → Bool
are_bytes [] = true
are_bytes (b ∷ bs) = is_byte b && are_bytes bs

-- the first byte that no certificate's text may have stands at this offset
pub record IsStrange (text : List ℕ) (offset : ℕ) : Type 0 where
  pub within : offset < length text
  pub before : are_bytes (take offset text) ≡ true
  pub strange : is_byte (get_or text offset 0) ≡ false
