-- A run that is decided: the one run where it fails, and a certificate that is whole where memory runs out after it.
use Rattle.std.proofs.Common.{◌≡◌, inr, ℕ, zero, suc, true, List, length, Option, is_some, Ok, refl, sym, ap, ◌∙◌, arith}
use Rattle.std.proofs.Math.Seq.{take-length}
use Rattle.std.specs.Prelude.{option_map}
use Rattle.application.specs.declared.app.App.{App}
use Rattle.bounded_check.specs.declared.decide.Verdict.{Verdict}
use Rattle.bounded_check.specs.Verdicts.{Means}
use Rattle.cert_text.specs.declared.front.Bounds.{Bounds}
use Rattle.certified_run.specs.Certified.{HasCertificate, Prefix, ending_by, text_with}
use Rattle.chk_base.specs.declared.desk.PutFault.{PutFault}
use Rattle.chk_base.specs.declared.desk.PutFault.TheVariants.{Failed, Memory}
use Rattle.chk_base.specs.Desk.{Begins, DeskState, with_piece_at}
use Rattle.one_run.specs.OneRun.{IsRunOf, steps}
use Rattle.one_stack.specs.TaskForm.{is_task_form}
use Rattle.replay.specs.Replaying.{events_for}
use Rattle.step_ir.specs.declared.code.Code.{Code}
use Rattle.step_ir.specs.declared.event.Choice.{Choice}
use Rattle.step_ir.specs.declared.event.Event.{Event}
use Rattle.step_ir.specs.declared.event.Failure.{Failure}
use Rattle.step_ir.specs.PermittedSchedule.{arrivals_in}
use Rattle.decided_run.specs.Decided.{IsFailingRun, IsUndone}

-- steps of who runs are no arrivals
no_arrivals : (n : ℕ) → arrivals_in (steps n) ≡ 0
no_arrivals zero = refl
no_arrivals (suc n) = no_arrivals n

-- the one run, where it ends in a failure
pub is_failing_one : (app : App) (code : Code) (k : ℕ) (choices : List Choice) (events : List Event) (failure : Option Failure)
    → IsRunOf app code k events failure → is_some failure ≡ true → choices ≡ steps (length events)
    → IsFailingRun app code k 0 (record { replayed = record { events = events; failure = failure }; choices = choices })
is_failing_one app code k choices events failure is some chosen =
    let none : arrivals_in choices ≡ 0 = ap arrivals_in chosen ∙ no_arrivals (length events) in
    record {
      replayed = ap (events_for app code) chosen ∙ is.replayed;
      failure = is.failure_is;
      failed = is.fails ∙ some;
      short = is.schedule.short;
      few = omega (arith, none);
    }

-- memory ran out after the whole text of a certificate was appended
pub ran_out : (app : App) (code : Code) (bounds : Bounds) (cert : List ℕ) (before begun after : DeskState) (v : Verdict) (error : PutFault)
    → error ≡ Memory → is_task_form app code ≡ true → Begins before begun cert (Ok tt) → HasCertificate app code bounds begun after v → Means app code bounds.turns bounds.arrivals v
    → IsUndone app code bounds cert before after error
ran_out app code bounds cert before begun after v error memory form begins has means =
    let text = text_with app bounds has.encoding has.labels has.log (ending_by v) in
    record {
      left =
          inr
          (record {
            form = form;
            begun = begun;
            begins = begins;
            cut =
                Prefix
                (record {
                  encoding = has.encoding;
                  labels = has.labels;
                  log = has.log;
                  verdict = v;
                  count = length text;
                  evidence = has.evidence;
                  means = means;
                  written = has.written ∙ ap (λ (t : List ℕ). option_map (with_piece_at begun.current t) begun.files) (sym (take-length text));
                });
          });
      cause = λ failed. absurd (let both : Memory ≡ Failed = sym memory ∙ failed in cc);
      form = λ failed. form;
    }
