-- The text of the certificate of a run that is decided is accepted.
use Rattle.std.proofs.Common.{◌≤◌, ◌^◌, List, length, refl}
use Rattle.application.specs.declared.app.App.{App}
use Rattle.bounded_check.specs.declared.decide.Verdict.{Verdict}
use Rattle.cert_law.proofs.Answering.{answered, cert_of}
use Rattle.cert_law.proofs.Fitting.{certificate_is}
use Rattle.cert_law.proofs.Spacing.{certificate_tokens}
use Rattle.cert_law.specs.Accepted.{IsAccepted}
use Rattle.cert_text.specs.CertificateText.{certificate_of}
use Rattle.cert_text.specs.declared.front.Bounds.{Bounds}
use Rattle.certified_run.specs.Certified.{IsEvidence, ending_by, text_with}
use Rattle.certified_run.specs.Names.{texts_of}
use Rattle.clause_form.specs.declared.line.Line.{Line}
use Rattle.one_stack.specs.declared.label.Label.{Label}
use Rattle.step_ir.specs.declared.code.Code.{Code}
use Rattle.turn_encoding.specs.declared.encoding.Encoding.{Encoding}
use Rattle.cert_law.specs.Named.{HaveNames}

-- read by its tokens, with the parts that are kept, and good
pub accepted : (app : App) (code : Code) (bounds : Bounds) (e : Encoding) (labels : List Label) (log : List Line) (v : Verdict)
    → HaveNames app → 1 ≤ bounds.turns → bounds.turns ≤ 512 → bounds.arrivals ≤ 15 → bounds.budget ≤ 10 ^ 12
    → IsEvidence app code bounds e labels log v → length (text_with app bounds e labels log (ending_by v)) ≤ 2 ^ 30
    → IsAccepted (text_with app bounds e labels log (ending_by v)) v
accepted app code bounds e labels log v names least most arrivals budget evidence short =
    let certificate = certificate_of bounds e (texts_of app labels) log (ending_by v) in
    let valid = certificate_is app code bounds e labels log v names least most arrivals budget evidence short in
    record {
      cert = cert_of bounds e log (ending_by v);
      read =
          record {
            certificate = certificate;
            valid = valid;
            spelled = certificate_tokens certificate valid;
            budget = refl;
            variables = refl;
            clauses = refl;
            goal = refl;
            log = refl;
            verdict = refl;
            model = refl;
          };
      good = answered bounds e labels log v evidence.derived.derived evidence.decided;
    }
