-- What a certificate that was read is, and why a text is refused.
use Rattle.std.proofs.Common.{◌≡◌, ℕ, ◌+◌, true, ◌&&◌, ◌==◌, IfSome, List, ◌++◌, length, take, drop, get_or, take-append-drop, refl, sym, ap, subst, ◌∙◌, arith}
use Rattle.std.proofs.lemmas.Bool.{and_parts}
use Rattle.std.proofs.lemmas.Bool.Decides.{nat_tests}
use Rattle.std.proofs.lemmas.List.{take_all, drop_more}
use Rattle.chk_base.specs.declared.place.Place.{Place}
use Rattle.chk_base.specs.Places.{place_after}
use Rattle.clause_form.specs.declared.formula.Formula.{Formula}
use Rattle.clause_form.specs.Literals.{rises_above, is_within, are_within}
use Rattle.grammar.specs.FirstFault.{IsCutOff}
use Rattle.cert_form.specs.declared.reading.Parts.{Parts}
use Rattle.cert_form.specs.declared.ending.Outcome.{Outcome}
use Rattle.cert_form.specs.declared.ending.Outcome.TheVariants as outcomes
use Rattle.cert_form.specs.Certificate as ends
use Rattle.cert_form.specs.Certificate.{Certificate, Ending}
use Rattle.cert_form.specs.Words.{limit, within}
use Rattle.cert_form.specs.IsCertificate.{is_small, is_clause_over, are_labels, are_depths, are_rows, are_lines, is_ending, is_certificate, IsCertificateText}
use Rattle.cert_form.specs.Texts.{tokens}
use Rattle.cert_form.specs.Verdicts.{ending_of}
use Rattle.cert_form.specs.Answers.{IsReadAs, IsFaultAt, IsStrange, are_bytes}
use Rattle.proof_check.specs.declared.cert.Cert.{Cert}
use Rattle.proof_check.specs.Certs.{verdict_of, model_of, IsCertOf, IsByteFault, IsTokenFault, IsEndFault, outcome_verdict, outcome_model, HasParts}

pub byte_fault : (text : List ℕ) (offset : ℕ) (place : Place) → IsStrange text offset → place ≡ place_after (take offset text) → IsByteFault text place
byte_fault text offset place s e = record {
  before = take offset text;
  bad = get_or text offset 0;
  rest = drop (offset + 1) text;
  parts = sym (take-append-drop offset text) ∙ ap (λ w. take offset text ++ w) (drop_more text offset 0 s.within);
  fine = s.before;
  strange = s.strange;
  at = e;
}

pub token_fault : (text : List ℕ) (offset : ℕ) (place : Place) → are_bytes text ≡ true → IsFaultAt text offset → place ≡ place_after (take offset text) → IsTokenFault text place
token_fault text offset place b f e = record { fine = b; bad = f.bad; rest = f.rest; fault = f.fault; at = e ∙ ap place_after f.before }

pub end_fault : (text : List ℕ) (place : Place) → are_bytes text ≡ true → IsCutOff IsCertificateText (tokens text) → place ≡ place_after (take (length text) text) → IsEndFault text place
end_fault text place b c e = record { fine = b; cut_off = c; at = e ∙ ap place_after (take_all (length text) text (omega arith)) }

-- ---- the certificate that was read

same_verdict : (o : Outcome) → outcome_verdict o ≡ verdict_of (ending_of o)
same_verdict outcomes.Holds = refl
same_verdict (outcomes.Fails values) = refl
same_verdict outcomes.Undecided = refl

same_model : (o : Outcome) → outcome_model o ≡ model_of (ending_of o)
same_model outcomes.Holds = refl
same_model (outcomes.Fails values) = refl
same_model outcomes.Undecided = refl

pub cert_from : (text : List ℕ) (parts : Parts) (cert : Cert) → IsReadAs text parts → HasParts cert parts → IsCertOf text cert
cert_from text parts cert r h = record {
  certificate = r.certificate;
  valid = r.valid;
  spelled = r.spelled;
  budget = h.budget ∙ r.budget;
  variables = ap (λ (f : Formula). f.variables) h.formula ∙ r.variables;
  clauses = ap (λ (f : Formula). f.clauses) h.formula ∙ r.clauses;
  goal = h.goal ∙ r.goal;
  log = h.log ∙ r.log;
  verdict = h.verdict ∙ same_verdict parts.outcome ∙ ap verdict_of r.ending;
  model = h.model ∙ same_model parts.outcome ∙ ap model_of r.ending;
}

-- the goal, and the end, of what is plainly a certificate
goal_of : (c : Certificate) → is_certificate c ≡ true → is_within c.variables c.goal ≡ true
goal_of c v =
    let n = c.variables in
    let E = are_lines n (length c.clauses + 2) c.log && is_ending n c.ending in
    let T = (are_depths n c.turns c.depth_lits && ((length c.turn_lits == c.turns) && are_rows n (length c.labels) c.turn_lits)) && E in
    let L = (is_small (length c.labels) && are_labels c.labels) && T in
    let G = is_clause_over n c.goal && L in
    let C = (is_small (length c.clauses) && are_within n c.clauses) && G in
    let p1 = and_parts (is_small c.turns) (is_small c.arrivals && (is_small c.budget && (within 1 limit n && C))) v in
    let p2 = and_parts (is_small c.arrivals) (is_small c.budget && (within 1 limit n && C)) p1.1 in
    let p3 = and_parts (is_small c.budget) (within 1 limit n && C) p2.1 in
    let p4 = and_parts (within 1 limit n) C p3.1 in
    let p5 = and_parts (is_small (length c.clauses) && are_within n c.clauses) G p4.1 in
    let p6 = and_parts (is_clause_over n c.goal) L p5.1 in
    (and_parts (rises_above 0 c.goal) (is_within n c.goal) p6.0).1

end_of : (c : Certificate) → is_certificate c ≡ true → is_ending c.variables c.ending ≡ true
end_of c v =
    let n = c.variables in
    let R = are_lines n (length c.clauses + 2) c.log in
    let E = R && is_ending n c.ending in
    let D = are_depths n c.turns c.depth_lits && ((length c.turn_lits == c.turns) && are_rows n (length c.labels) c.turn_lits) in
    let L = (is_small (length c.labels) && are_labels c.labels) && (D && E) in
    let G = is_clause_over n c.goal && L in
    let C = (is_small (length c.clauses) && are_within n c.clauses) && G in
    let p1 = and_parts (is_small c.turns) (is_small c.arrivals && (is_small c.budget && (within 1 limit n && C))) v in
    let p2 = and_parts (is_small c.arrivals) (is_small c.budget && (within 1 limit n && C)) p1.1 in
    let p3 = and_parts (is_small c.budget) (within 1 limit n && C) p2.1 in
    let p4 = and_parts (within 1 limit n) C p3.1 in
    let p5 = and_parts (is_small (length c.clauses) && are_within n c.clauses) G p4.1 in
    let p6 = and_parts (is_clause_over n c.goal) L p5.1 in
    let p7 = and_parts (is_small (length c.labels) && are_labels c.labels) (D && E) p6.1 in
    let p8 = and_parts D E p7.1 in
    (and_parts R (is_ending n c.ending) p8.1).1

pub goal_within : (text : List ℕ) (cert : Cert) → IsCertOf text cert → is_within cert.formula.variables cert.goal ≡ true
goal_within text cert h = ap (λ n. is_within n cert.goal) h.variables ∙ ap (is_within h.certificate.variables) h.goal ∙ goal_of h.certificate h.valid

model_sized : (n : ℕ) (e : Ending) → is_ending n e ≡ true → IfSome (model_of e) (λ values. length values ≡ n)
model_sized n ends.Holds v = tt
model_sized n (ends.Fails values) v = grind (arith, nat_tests, v)
model_sized n ends.Undecided v = tt

pub model_length : (text : List ℕ) (cert : Cert) → IsCertOf text cert → IfSome cert.model (λ values. length values ≡ cert.formula.variables)
model_length text cert h =
    let m = model_sized h.certificate.variables h.certificate.ending (end_of h.certificate h.valid) in
    subst (λ n. IfSome cert.model (λ values. length values ≡ n)) (sym h.variables) (subst (λ o. IfSome o (λ values. length values ≡ h.certificate.variables)) (sym h.model) m)
