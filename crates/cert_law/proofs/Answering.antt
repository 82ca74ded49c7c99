-- The check of a certificate with this encoding, log and verdict answers that it is good.
use Rattle.std.proofs.Common.{◌≡◌, ℕ, ◌+◌, true, not, ◌==◌, Some, None, List, [], ◌∷◌, ◌++◌, length, if◌then◌else◌, refl, ap, ◌∙◌}
use Rattle.std.proofs.lemmas.Bool.{and_from, eq-eqb}
use Rattle.bounded_check.specs.declared.decide.Verdict.{Verdict}
use Rattle.bounded_check.specs.declared.decide.Verdict.TheVariants as verdict
use Rattle.bounded_check.specs.Verdicts.{IsDecided, with_goal}
use Rattle.cert_form.specs.Certificate.{Ending}
use Rattle.cert_text.specs.declared.front.Bounds.{Bounds}
use Rattle.certified_run.specs.Certified.{ending_by}
use Rattle.clause_form.specs.declared.lit.Lit.{Lit}
use Rattle.clause_form.specs.declared.line.Line.{Line}
use Rattle.clause_form.specs.ClauseTruth.{are_true, values_of}
use Rattle.clause_form.specs.DerivedLine.{AreDerived}
use Rattle.clause_form.specs.LearnedLine.{has_empty}
use Rattle.one_stack.specs.declared.label.Label.{Label}
use Rattle.proof_check.specs.Certs.{verdict_of, model_of}
use Rattle.proof_check.specs.Checks.{first_bad, fits, answer_by, answer_of}
use Rattle.proof_check.specs.declared.cert.Cert.{Cert}
use Rattle.proof_check.specs.declared.check.CertAnswer.TheVariants.{Good, BadVerdict}
use Rattle.turn_encoding.specs.declared.encoding.Encoding.{Encoding}
use Rattle.turn_encoding.specs.Encodings.{encoding_of}

-- no line is bad where each is derived
pub none_bad : (number n : ℕ) (cs : List (List Lit)) (log : List Line) → AreDerived n cs log → first_bad number n cs log ≡ None
none_bad number n cs [] d = refl
none_bad number n cs (line ∷ lines) d =
    ap (λ b. if b then first_bad (number + 1) n (cs ++ line.clause ∷ []) lines else Some number) d.0
    ∙ none_bad (number + 1) n (cs ++ line.clause ∷ []) lines d.1

-- what is kept of the certificate of an encoding, a log and an end
abbrev pub cert_of : Bounds → Encoding → List Line → Ending → Cert
cert_of bounds e log ending =
    record {
      budget = bounds.budget;
      formula = e.formula;
      goal = e.goal;
      log = log;
      verdict = verdict_of ending;
      model = model_of ending;
    }

-- the verdict fits
verdict_fits : (bounds : Bounds) (e : Encoding) (labels : List Label) (log : List Line) (v : Verdict) → IsDecided (encoding_of e) labels bounds.budget log v
    → fits (verdict_of (ending_by v)) (cert_of bounds e log (ending_by v)) ≡ true
verdict_fits bounds e labels log verdict.Holds d = d.1
verdict_fits bounds e labels log (verdict.Fails values choices) d =
    and_from (are_true (values_of values) (with_goal (encoding_of e))) (not (has_empty log)) d.0.model (ap not d.1)
verdict_fits bounds e labels log verdict.Undecided d =
    and_from (length log == bounds.budget) (not (has_empty log)) (eq-eqb (length log) bounds.budget d.count) (ap not d.not_empty)

-- the answer is that the certificate is good
pub answered : (bounds : Bounds) (e : Encoding) (labels : List Label) (log : List Line) (v : Verdict)
    → AreDerived e.formula.variables (with_goal (encoding_of e)) log → IsDecided (encoding_of e) labels bounds.budget log v
    → answer_of (cert_of bounds e log (ending_by v)) ≡ Good (verdict_of (ending_by v))
answered bounds e labels log v derived decided =
    let cert = cert_of bounds e log (ending_by v) in
    ap (λ b. answer_by b cert) (none_bad 1 e.formula.variables (with_goal (encoding_of e)) log derived)
    ∙ ap (λ b. if b then Good (verdict_of (ending_by v)) else BadVerdict) (verdict_fits bounds e labels log v decided)
