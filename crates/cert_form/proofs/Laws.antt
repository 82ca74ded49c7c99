-- Exact reading of certificates.
use Rattle.std.proofs.Common.{◌≡◌, true, List, [], ◌∷◌, ◌∙◌, refl}
use Rattle.format.specs.Format.{Got, Stuck}
use Rattle.format.specs.Faults.{IsWhole}
use Rattle.grammar.specs.FirstFault.{IsFirstFault, IsCutOff}
use Rattle.format.proofs.Exact.{accepted, is_read, fault, trailing, cut_off}
use Rattle.cert_form.specs.Words.{Token}
use Rattle.cert_form.specs.Certificate.{Certificate, certificate}
use Rattle.cert_form.specs.CertificateText.{certificate_words}
use Rattle.cert_form.proofs.Certificate.{certificate_exact, certificate_some}
use Rattle.cert_form.proofs.Plain.{certificate_spelled}

-- a text that is read is the text of that certificate
pub whole : (ts : List Token) (c : Certificate) → certificate.read ts ≡ Got c [] → (certificate.valid c ≡ true) × (ts ≡ certificate_words c)
whole ts c e = let t = accepted certificate certificate_exact ts c e in (t.valid, t.spelled ∙ certificate_spelled c t.valid)

-- each certificate's text is read, and gives that certificate
pub each : (c : Certificate) → certificate.valid c ≡ true → certificate.read (certificate_words c) ≡ Got c []
each c v =
    let e = certificate_spelled c v in
    rw (← e) (is_read certificate certificate_exact (certificate.spell c) c (record { valid = v; spelled = refl }))

-- the first fault
pub first_fault : (ts : List Token) (bad : Token) (rest : List Token) → certificate.read ts ≡ Stuck (bad ∷ rest) → IsFirstFault (IsWhole certificate) ts bad rest
first_fault = fault certificate certificate_exact certificate_some

-- what follows a whole text
pub left_over : (ts : List Token) (c : Certificate) (bad : Token) (rest : List Token) → certificate.read ts ≡ Got c (bad ∷ rest) → IsFirstFault (IsWhole certificate) ts bad rest
left_over = trailing certificate certificate_exact

-- a text that ends too soon
pub too_short : (ts : List Token) → certificate.read ts ≡ Stuck [] → IsCutOff (IsWhole certificate) ts
too_short = cut_off certificate certificate_exact certificate_some
