-- The one run: what it has done so far is a permitted schedule.
use Rattle.std.proofs.Common.{◌≡◌, ◌≢◌, ℕ, zero, suc, ◌+◌, ◌≤◌, Bool, true, false, List, [], ◌∷◌, ◌++◌, length, Option, Some, None, is_some, refl, sym, ap, ◌∙◌, add-one, length-append, subst, arith}
use Rattle.application.specs.declared.app.App.{App}
use Rattle.osek_machine.specs.Kept.{Kept}
use Rattle.osek_machine.specs.Steps.{HasRun}
use Rattle.replay.specs.Replaying.{failure_of, last_failure}
use Rattle.step_ir.specs.declared.code.Code.{Code}
use Rattle.step_ir.specs.declared.event.Choice.{Choice}
use Rattle.step_ir.specs.declared.event.Choice.TheVariants.{Go}
use Rattle.step_ir.specs.declared.event.Event.{Event}
use Rattle.step_ir.specs.declared.event.EventAction.{EventAction}
use Rattle.step_ir.specs.declared.event.EventAction.TheVariants as action
use Rattle.step_ir.specs.declared.event.Failure.{Failure}
use Rattle.step_ir.specs.EntityStep.{is_failure}
use Rattle.step_ir.specs.PermittedSchedule.{arrivals_in, events_of, fails}
use Rattle.one_run.specs.OneRun.{steps, IsRunOf, NoneFails}

-- one more step
pub steps-append : (n : ℕ) → steps n ++ Go ∷ [] ≡ steps (n + 1)
steps-append n = rw add-one (go n)
  where
    go : (n : ℕ) → steps n ++ Go ∷ [] ≡ steps (suc n)
    go zero = refl
    go (suc n) = ap (λ (cs : List Choice). Go ∷ cs) (go n)

-- steps of who runs are no arrivals
no_arrivals : (n : ℕ) → arrivals_in (steps n) ≡ 0
no_arrivals zero = refl
no_arrivals (suc n) = no_arrivals n

-- an event is a failure where it has one
is_failure_of : (a : EventAction) → is_failure a ≡ is_some (failure_of a)
is_failure_of action.Arrive = refl
is_failure_of (action.Read c w) = refl
is_failure_of (action.Write c w) = refl
is_failure_of (action.Local c w) = refl
is_failure_of (action.Branch b) = refl
is_failure_of (action.Input c w) = refl
is_failure_of (action.Call f) = refl
is_failure_of (action.Return s) = refl
is_failure_of (action.Service s) = refl
is_failure_of action.Assert = refl
is_failure_of action.End = refl
is_failure_of (action.Fail f s) = refl

-- events fail where the last has a failure
fails-last : (es : List Event) → fails es ≡ is_some (last_failure es)
fails-last [] = refl
fails-last (e ∷ []) = is_failure_of e.action
fails-last (e ∷ f ∷ es) = fails-last (f ∷ es)

-- the last of events is the one that was put at their end
pub last_failure-append : (es : List Event) (e : Event) → last_failure (es ++ e ∷ []) ≡ failure_of e.action
last_failure-append [] e = refl
last_failure-append (f ∷ []) e = refl
last_failure-append (f ∷ g ∷ es) e = last_failure-append (g ∷ es) e

-- events that don't fail have no failure at their end
pub no_failure : (es : List Event) → fails es ≡ false → None ≡ last_failure es
no_failure es unfailed = none (last_failure es) (sym (fails-last es) ∙ unfailed)
  where
    none : (o : Option Failure) → is_some o ≡ false → None ≡ o
    none None is = refl
    none (Some x) is = absurd cc

-- what a machine has run is a permitted schedule
pub is_run : (app : App) (code : Code) (k : ℕ) (events : List Event) (found : Option Failure) (m : Kept) → HasRun app code (steps (length events)) events m → length events ≤ k → found ≡ last_failure events → (found ≡ None → NoneFails app code k) → IsRunOf app code k events found
is_run app code k events found m run short is holds =
    let few = no_arrivals (length events) in
    record {
      schedule = record { choices = steps (length events); permitted = ap events_of run.run; short = short; few = omega (arith, few) };
      replayed = ap events_of run.run;
      failure_is = is;
      fails = fails-last events ∙ ap is_some (sym is);
      holds = holds;
    }

-- the failure of an event that fails is one
pub failure-some : (e : Event) (es : List Event) → fails (es ++ e ∷ []) ≡ true → failure_of e.action ≢ None
failure-some e es failed none = never (sym (fails-last (es ++ e ∷ [])) ∙ failed)
  where
    never : is_some (last_failure (es ++ e ∷ [])) ≡ true → ⊥
    never some =
        let is : is_some (failure_of e.action) ≡ true = ap is_some (sym (last_failure-append es e)) ∙ some in
        let no : ◌≡◌ {A = Bool} false true = sym (ap is_some none) ∙ is in cc

-- one more event after one more step
pub next_run : (app : App) (code : Code) (events next : List Event) (event : Event) (m : Kept) → next ≡ events ++ event ∷ [] → HasRun app code (steps (length events) ++ Go ∷ []) (events ++ event ∷ []) m → HasRun app code (steps (length next)) next m
next_run app code events next event m is run =
    let count : length next ≡ length events + 1 = rw is (length-append events (event ∷ [])) in
    let choices : steps (length events) ++ Go ∷ [] ≡ steps (length next) = steps-append (length events) ∙ ap steps (sym count) in
    let moved : HasRun app code (steps (length next)) (events ++ event ∷ []) m = subst (λ (cs : List Choice). HasRun app code cs (events ++ event ∷ []) m) choices run in
    subst (λ (es : List Event). HasRun app code (steps (length next)) es m) (sym is) moved
