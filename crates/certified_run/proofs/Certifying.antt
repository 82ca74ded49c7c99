-- A certificate whose front and rest are appended, or a prefix of them.
use Rattle.std.proofs.Common.{◌≡◌, ℕ, ◌≤◌, List, [], ◌++◌, length, take, sym, ap, subst, ◌∙◌}
use Rattle.std.proofs.lemmas.List.{append-nil}
use Rattle.std.specs.Prelude.{Ok, Err, IsSome, option_map}
use Rattle.application.specs.declared.app.App.{App}
use Rattle.bounded_check.specs.declared.decide.Verdict.{Verdict}
use Rattle.bounded_check.specs.Depicts.{Depicts}
use Rattle.bounded_check.specs.Verdicts.{Means}
use Rattle.cert_form.specs.Certificate as c
use Rattle.cert_text.specs.CertificateParts.{front_text, rest_text}
use Rattle.cert_text.specs.CertificateText.{certificate_of, certificate_text}
use Rattle.cert_text.specs.declared.front.Bounds.{Bounds}
use Rattle.cert_text.specs.declared.label.LabelText.{LabelText}
use Rattle.certified_run.specs.Certified.{Front, IsCertified, IsEncodingOf, IsEvidence, Prefix, ending_by, text_with}
use Rattle.certified_run.specs.Names.{ArePoints, texts_of}
use Rattle.chk_base.specs.declared.desk.PutFault.{PutFault}
use Rattle.chk_base.specs.Desk.{AppendsAll, DeskState, with_piece_at}
use Rattle.clause_form.specs.declared.line.Line.{Line}
use Rattle.one_stack.specs.declared.label.Label.{Label}
use Rattle.step_ir.specs.declared.code.Code.{Code}
use Rattle.step_ir.specs.Points.{start_bits}
use Rattle.step_ir.specs.PointStep.{behaviour_of}
use Rattle.step_ir.specs.Setting.{setting_of}
use Rattle.turn_encoding.specs.declared.encoding.Encoding.{Encoding}
use Rattle.turn_encoding.specs.Encodings.{encoding_of, HasShape}

-- front and rest are the text of the certificate
abbrev pub AreWhole : Type 0
AreWhole =
    (bounds : Bounds) (encoding : Encoding) (labels : List LabelText) (log : List Line) (ending : c.Ending)
    → front_text bounds encoding labels ++ rest_text log ending ≡ certificate_text (certificate_of bounds encoding labels log ending)

-- what was begun stays begun
pub begun_still : (a b : DeskState) → b.current ≡ a.current → IsSome a.current → IsSome b.current
begun_still a b same begun = subst IsSome (sym same) begun

-- an encoding depicts the application, has its shape, is of few entities, and has points of 16 bits
pub encodes_of : (app : App) (code : Code) (bounds : Bounds) (e : Encoding) (labels : List Label) (depth : ℕ) → depth ≡ (setting_of app).entities
    → Depicts (encoding_of e) labels (setting_of app) (behaviour_of code) (start_bits code) bounds.turns bounds.arrivals
    → HasShape (encoding_of e) depth (length labels) bounds.turns → depth ≤ 16 → ArePoints labels → IsEncodingOf app code bounds e labels
encodes_of app code bounds e labels depth same depicts shape few points =
    record {
      depicts = depicts;
      shape = subst (λ (n : ℕ). HasShape (encoding_of e) n (length labels) bounds.turns) same shape;
      few = subst (λ (n : ℕ). n ≤ 16) same few;
      points = points;
    }

-- no more than a front is appended
pub front_cut : (app : App) (code : Code) (bounds : Bounds) (e : Encoding) (labels : List Label) (texts : List LabelText) → texts ≡ texts_of app labels
    → IsEncodingOf app code bounds e labels → (a b : DeskState) (error : PutFault)
    → AppendsAll a b (front_text bounds e texts) (Err error) → IsCertified app code bounds a b (Err error)
front_cut app code bounds e labels texts told encodes a b error all =
    record {
      whole = tt;
      cut =
          Front
          (record {
            encoding = e;
            labels = labels;
            count = all.cut.0;
            encodes = encodes;
            written = all.cut.1 ∙ ap (λ (x : List LabelText). option_map (with_piece_at a.current (take all.cut.0 (front_text bounds e x))) a.files) told;
          });
      current = all.current;
      cause = record { later = all.cause.later; failed = all.cause.failed };
      last_fault = all.last_fault;
    }

-- a front is appended, and then memory runs out
pub front_alone : (bounds : Bounds) (e : Encoding) (texts : List LabelText) (a b : DeskState) (error : PutFault)
    → AppendsAll a b (front_text bounds e texts ++ []) (Err error) → AppendsAll a b (front_text bounds e texts) (Err error)
front_alone bounds e texts a b error all = subst (λ (t : List ℕ). AppendsAll a b t (Err error)) (append-nil (front_text bounds e texts)) all

module _ (law : AreWhole) (app : App) (code : Code) (bounds : Bounds) (e : Encoding) (labels : List Label) (texts : List LabelText) (told : texts ≡ texts_of app labels)
    (lines log : List Line) (same : lines ≡ log) (end : c.Ending) (v : Verdict) (ends : end ≡ ending_by v) (evidence : IsEvidence app code bounds e labels log v) where
  -- the text that both parts make
  text_of_both : front_text bounds e texts ++ rest_text lines end ≡ text_with app bounds e labels log (ending_by v)
  text_of_both =
      law bounds e texts lines end
      ∙ ap (λ (x : List LabelText). certificate_text (certificate_of bounds e x lines end)) told
      ∙ ap (λ (x : List Line). certificate_text (certificate_of bounds e (texts_of app labels) x end)) same
      ∙ ap (λ (x : c.Ending). certificate_text (certificate_of bounds e (texts_of app labels) log x)) ends

  -- both parts are appended
  pub done : (a b : DeskState) → AppendsAll a b (front_text bounds e texts ++ rest_text lines end) (Ok tt) → IsCertified app code bounds a b (Ok v)
  done a b all =
      record {
        whole =
            record {
              encoding = e;
              labels = labels;
              log = log;
              evidence = evidence;
              written = all.whole ∙ ap (λ (t : List ℕ). option_map (with_piece_at a.current t) a.files) text_of_both;
            };
        cut = tt;
        current = all.current;
        cause = record { later = all.cause.later; failed = λ fails. absurd (cc) };
        last_fault = all.last_fault;
      }

  -- a prefix of both is appended
  pub cut : (a b : DeskState) (error : PutFault) → Means app code bounds.turns bounds.arrivals v
      → AppendsAll a b (front_text bounds e texts ++ rest_text lines end) (Err error) → IsCertified app code bounds a b (Err error)
  cut a b error means all =
      record {
        whole = tt;
        cut =
            Prefix
            (record {
              encoding = e;
              labels = labels;
              log = log;
              verdict = v;
              count = all.cut.0;
              evidence = evidence;
              means = means;
              written = all.cut.1 ∙ ap (λ (t : List ℕ). option_map (with_piece_at a.current (take all.cut.0 t)) a.files) text_of_both;
            });
        current = all.current;
        cause = record { later = all.cause.later; failed = all.cause.failed };
        last_fault = all.last_fault;
      }
