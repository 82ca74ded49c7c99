-- Permitted choices are never refused.
use Rattle.std.proofs.Common.{◌≡◌, ℕ, List, [], ◌∷◌, ◌++◌, Option, Some, None, refl, sym, ap, ◌∙◌}
use Rattle.application.specs.declared.app.App.{App}
use Rattle.bounded_check.specs.Verdicts.{IsFailing}
use Rattle.osek_machine.specs.declared.machine.StateView.{StateView}
use Rattle.osek_machine.specs.Steps.{start_of}
use Rattle.replay.specs.Replaying.{IsRefused, run_for}
use Rattle.step_ir.specs.declared.code.Code.{Code}
use Rattle.step_ir.specs.declared.event.Choice.{Choice}
use Rattle.step_ir.specs.declared.event.Event.{Event}
use Rattle.step_ir.specs.EntityStep.{Behaviour}
use Rattle.step_ir.specs.PermittedSchedule.{events_of, follow, prepend, run}
use Rattle.step_ir.specs.PointStep.{Bits, behaviour_of}
use Rattle.step_ir.specs.SchedulerState.{State}
use Rattle.step_ir.specs.SchedulerStep.{step}
use Rattle.step_ir.specs.Setting.{Setting, setting_of}

-- events and the last state
abbrev Run : Type 0
Run = List Event × State ℕ Bits

-- there is no run of choices of which one isn't permitted after those before it
module _ (app : Setting) (beh : Behaviour ℕ Bits) (c : Choice) (after : List Choice) (mid : State ℕ Bits) (refused : step app beh mid c ≡ None) where
  stops : (cs : List Choice) (es : List Event) (st : State ℕ Bits) → run app beh cs st ≡ Some (es, mid) → run app beh (cs ++ c ∷ after) st ≡ None
  stops [] es st is =
      let both : ◌≡◌ {A = Option Run} (Some ([], st)) (Some (es, mid)) = is in
      let same : ◌≡◌ {A = Run} ([], st) (es, mid) = cc in
      ap (λ s. follow (step app beh s c) (run app beh after)) (ap (λ (r : Run). r.1) same) ∙ ap (λ o. follow o (run app beh after)) refused
  stops (x ∷ cs) es st is = first (stops cs) (step app beh st x) is
    where
      rest : (y : Event) (o o' : Option Run) → ((es' : List Event) → o ≡ Some (es', mid) → o' ≡ None) → prepend y o ≡ Some (es, mid) → prepend y o' ≡ None
      rest y None o' ih is = absurd (let none : ◌≡◌ {A = Option Run} None (Some (es, mid)) = is in cc)
      rest y (Some r) o' ih is =
          let both : ◌≡◌ {A = Option Run} (Some (y ∷ r.0, r.1)) (Some (es, mid)) = is in
          let same : ◌≡◌ {A = Run} (y ∷ r.0, r.1) (es, mid) = cc in
          ap (prepend y) (ih r.0 (ap (λ s. Some (r.0, s)) (ap (λ (q : Run). q.1) same)))

      first : ((es' : List Event) (st' : State ℕ Bits) → run app beh cs st' ≡ Some (es', mid) → run app beh (cs ++ c ∷ after) st' ≡ None) → (o : Option (Event × State ℕ Bits)) → follow o (run app beh cs) ≡ Some (es, mid) → follow o (run app beh (cs ++ c ∷ after)) ≡ None
      first again None is = refl
      first again (Some n) is = rest n.0 (run app beh cs n.1) (run app beh (cs ++ c ∷ after) n.1) (λ es' h. again es' n.1 h) is

-- choices that are a permitted schedule aren't refused
pub none_refused : (app : App) (code : Code) (k m : ℕ) (choices : List Choice) (at : ℕ) (state : StateView) (events : List Event)
    → IsFailing app code k m choices → IsRefused app code choices at state events → ⊥
none_refused app code k m choices at state events failing refused =
    let none = stops (setting_of app) (behaviour_of code) refused.choice refused.after refused.reached refused.refused refused.before events (start_of app code) refused.run in
    let both : ◌≡◌ {A = Option (List Event)} None (Some failing.events) = sym (ap events_of (ap (run_for app code) refused.parts ∙ none)) ∙ failing.permitted in
    cc
