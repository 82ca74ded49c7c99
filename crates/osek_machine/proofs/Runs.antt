-- Runs that go on by one choice.
use Rattle.std.proofs.Common.{◌≡◌, ℕ, Bool, true, false, List, [], ◌∷◌, ◌++◌, Option, Some, None, refl, sym, ap, subst, ◌∙◌}
use Rattle.application.specs.declared.app.App.{App}
use Rattle.osek_machine.specs.declared.machine.Outcome.{Outcome}
use Rattle.osek_machine.specs.declared.machine.Outcome.TheVariants as answer
use Rattle.osek_machine.specs.Kept.{Kept, state_of}
use Rattle.osek_machine.specs.Steps.{HasAnswered, HasRun, IsMade, IsOutcome, IsStep, StandsAt, GoesOn, start_of, step_of}
use Rattle.step_ir.specs.declared.code.Code.{Code}
use Rattle.step_ir.specs.declared.event.Choice.{Choice}
use Rattle.step_ir.specs.declared.event.Event.{Event}
use Rattle.step_ir.specs.EntityStep.{Behaviour, is_failure}
use Rattle.step_ir.specs.PermittedSchedule.{fails, follow, prepend, run}
use Rattle.step_ir.specs.PointStep.{Bits, behaviour_of}
use Rattle.step_ir.specs.SchedulerState.{State}
use Rattle.step_ir.specs.SchedulerStep.{step}
use Rattle.step_ir.specs.Setting.{Setting, setting_of}

-- events and the last state
abbrev Run : Type 0
Run = List Event × State ℕ Bits

module _ (app : Setting) (beh : Behaviour ℕ Bits) (c : Choice) (e : Event) (mid last : State ℕ Bits) (next : step app beh mid c ≡ Some (e, last)) where
  run-append : (cs : List Choice) (es : List Event) (st : State ℕ Bits) → run app beh cs st ≡ Some (es, mid) → run app beh (cs ++ c ∷ []) st ≡ Some (es ++ e ∷ [], last)
  run-append [] es st is =
      let both : ◌≡◌ {A = Option Run} (Some ([], st)) (Some (es, mid)) = is in
      let same : ◌≡◌ {A = Run} ([], st) (es, mid) = cc in
      subst (λ (r : Run). follow (step app beh st c) (run app beh []) ≡ Some (r.0 ++ e ∷ [], last)) same
      (ap (λ s. follow (step app beh s c) (run app beh [])) (ap (λ (r : Run). r.1) same) ∙ ap (λ o. follow o (run app beh [])) next)
  run-append (x ∷ cs) es st is = first (run-append cs) (step app beh st x) is
    where
      rest : (y : Event) (o o' : Option Run) → ((es' : List Event) → o ≡ Some (es', mid) → o' ≡ Some (es' ++ e ∷ [], last)) → prepend y o ≡ Some (es, mid) → prepend y o' ≡ Some (es ++ e ∷ [], last)
      rest y None o' ih is = absurd (let none : ◌≡◌ {A = Option Run} None (Some (es, mid)) = is in cc)
      rest y (Some r) o' ih is =
          let both : ◌≡◌ {A = Option Run} (Some (y ∷ r.0, r.1)) (Some (es, mid)) = is in
          let same : ◌≡◌ {A = Run} (y ∷ r.0, r.1) (es, mid) = cc in
          ap (prepend y) (ih r.0 (ap (λ s. Some (r.0, s)) (ap (λ (q : Run). q.1) same)))
          ∙ ap (λ xs. Some (xs ++ e ∷ [], last)) (ap (λ (q : Run). q.0) same)

      first : ((es' : List Event) (st' : State ℕ Bits) → run app beh cs st' ≡ Some (es', mid) → run app beh (cs ++ c ∷ []) st' ≡ Some (es' ++ e ∷ [], last)) → (o : Option (Event × State ℕ Bits)) → follow o (run app beh cs) ≡ Some (es, mid) → follow o (run app beh (cs ++ c ∷ [])) ≡ Some (es ++ e ∷ [], last)
      first again None is = absurd (let none : ◌≡◌ {A = Option Run} None (Some (es, mid)) = is in cc)
      first again (Some n) is =
          rest n.0 (run app beh cs n.1) (run app beh (cs ++ c ∷ []) n.1) (λ es' h. again es' n.1 h) is

-- a schedule fails where its last event is a failure
fails-last : (es : List Event) (e : Event) → fails (es ++ e ∷ []) ≡ is_failure e.action
fails-last [] e = refl
fails-last (x ∷ []) e = refl
fails-last (x ∷ y ∷ es) e = fails-last (y ∷ es) e

-- one more step
made : (app : App) (code : Code) (choices : List Choice) (events : List Event) (choice : Choice) (old new : Kept) (event : Event) (next : Event × State ℕ Bits) (failed : Bool) → HasRun app code choices events old → new.app ≡ old.app → new.code ≡ old.code → step_of old.app old.code (state_of old) choice ≡ Some next → IsMade next failed event (state_of new) → HasRun app code (choices ++ choice ∷ []) (events ++ event ∷ []) new × (fails (events ++ event ∷ []) ≡ failed)
made app code choices events choice old new event next failed has same_app same_code is by = (
  record {
    same_app = same_app ∙ has.same_app;
    same_code = same_code ∙ has.same_code;
    run = run-append (setting_of app) (behaviour_of code) choice event (state_of old) (state_of new) here choices events (start_of app code) has.run;
  },
  fails-last events event ∙ by.failure,
)
  where
    here : step_of app code (state_of old) choice ≡ Some (event, state_of new)
    here =
        ap (λ a. step_of a code (state_of old) choice) (sym has.same_app)
        ∙ ap (λ c. step_of old.app c (state_of old) choice) (sym has.same_code)
        ∙ is
        ∙ ap (λ x. Some (x, next.1)) (sym by.told)
        ∙ ap (λ s. Some (event, s)) (sym by.state)

-- a step of the scheduler goes on from whatever led to the machine
pub goes_on : (choice : Choice) (old new : Kept) (result : Outcome) → IsStep choice old result new → GoesOn choice old result new
goes_on choice old new result steps app code choices events has = go (step_of old.app old.code (state_of old) choice) refl result steps.outcome
  where
    go : (o : Option (Event × State ℕ Bits)) → step_of old.app old.code (state_of old) choice ≡ o → (r : Outcome) → IsOutcome o (state_of old) r (state_of new) → HasAnswered app code choices events choice old r new
    go None is (answer.Event event) h = absurd h
    go None is (answer.Failed event) h = absurd h
    go None is answer.Refused h = (
      record {
        same_app = steps.app ∙ has.same_app;
        same_code = steps.code ∙ has.same_code;
        run = has.run ∙ ap (λ s. Some (events, s)) (sym h);
      },
      ap (λ a. step_of a code (state_of old) choice) (sym has.same_app) ∙ ap (λ c. step_of old.app c (state_of old) choice) (sym has.same_code) ∙ is,
    )
    go (Some next) is (answer.Event event) h =
        made app code choices events choice old new event next false has steps.app steps.code is h
    go (Some next) is (answer.Failed event) h =
        made app code choices events choice old new event next true has steps.app steps.code is h
    go (Some next) is answer.Refused h = absurd h

-- a machine at the start has run no choice
pub begun : (app : App) (code : Code) (m : Kept) → StandsAt app code (start_of app code) m → HasRun app code [] [] m
begun app code m stands =
    record {
      same_app = stands.same_app;
      same_code = stands.same_code;
      run = ap (λ s. Some ([], s)) (sym stands.state);
    }
