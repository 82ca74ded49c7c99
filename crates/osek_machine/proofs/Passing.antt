-- A step is told as a failure exactly where it stops all.
use Rattle.std.proofs.Common.{◌≡◌, ℕ, Bool, true, false, ◌&&◌, Option, Some, None, refl, sym, subst, ◌∙◌, if◌then◌else◌}
use Rattle.osek_machine.proofs.Deeds.{effect_stopped, leave_stopped}
use Rattle.step_ir.specs.declared.code.Code.{Code}
use Rattle.step_ir.specs.declared.event.Choice.{Choice}
use Rattle.step_ir.specs.declared.event.Choice.TheVariants.{Go, GoWith}
use Rattle.step_ir.specs.declared.event.EventAction.{EventAction}
use Rattle.step_ir.specs.declared.event.Failure.{Failure}
use Rattle.step_ir.specs.declared.event.Service.{Service}
use Rattle.step_ir.specs.Deeds.{Deed, Moves, Leaves, Stops, action_of, serve, same_width, deed_of}
use Rattle.step_ir.specs.EntityStep.{After, Want, Does, Inputs, Calls, Ends, Fails, InputFails, Behaviour, TellsNoFailure, TellsNoFailures, is_failure}
use Rattle.step_ir.specs.Numbers.{is_empty}
use Rattle.step_ir.specs.PointStep.{Bits, behaviour_of}
use Rattle.step_ir.specs.SchedulerState.{State}
use Rattle.step_ir.specs.SchedulerStep as scheduler
use Rattle.step_ir.specs.Services.{Scene, fault, fault_of}
use Rattle.step_ir.specs.Setting.{Setting}

-- what a deed leaves as it is stopped says whether its action is a failure
abbrev Tells : Setting → Behaviour ℕ Bits → ℕ → State ℕ Bits → Option (Deed ℕ Bits) → Type 0
Tells app beh e st None = Unit {0}
Tells app beh e st (Some d) = is_failure (action_of d) ≡ (scheduler.act app beh e d st).is_stopped

module _ (app : Setting) (beh : Behaviour ℕ Bits) (e : ℕ) (st : State ℕ Bits) (up : st.is_stopped ≡ false) where
  moves_tell : (action : EventAction) (after : After ℕ Bits) → is_failure action ≡ false → Tells app beh e st (Some (Moves action after))
  moves_tell action after h = h ∙ sym up

  serves_tell : (c : Scene) (service : Service) (after : After ℕ Bits) (o : Option Failure) → Tells app beh e st (Some (serve service after o))
  serves_tell c service after None = sym (effect_stopped app beh e service (scheduler.move e after st) ∙ up)
  serves_tell c service after (Some f) = refl

  leaves_tell : Tells app beh e st (Some Leaves)
  leaves_tell =
      sym (leave_stopped app beh (scheduler.without_routine e st.active) st.running (record st { active = scheduler.without_routine e st.active }) ∙ up)

  ends_tell : (a b : Bool) → Tells app beh e st (Some (if a then Stops (fault 7) None else (if b then Leaves else Stops (fault 9) None)))
  ends_tell true b = refl
  ends_tell false true = leaves_tell
  ends_tell false false = refl

  input_tells : (b : Bool) (d : Deed ℕ Bits) → Tells app beh e st (Some d) → Tells app beh e st (if b then Some d else None)
  input_tells true d h = h
  input_tells false d h = tt

  deeds_tell : (c : Scene) (want : Want ℕ Bits) (choice : Choice) → TellsNoFailure want → Tells app beh e st (deed_of app c want choice)
  deeds_tell c (Does action after) Go h = moves_tell action after h
  deeds_tell c (Inputs width action after) (GoWith w) h =
      input_tells (same_width w.width width) (Moves (action w) (after w)) (moves_tell (action w) (after w) (h w))
  deeds_tell c (Calls service after) Go h = serves_tell c service after (fault_of app c service)
  deeds_tell c Ends Go h = ends_tell (app.is_task c.caller) (is_empty c.sections && is_empty c.held)
  deeds_tell c (Fails failure) Go h = refl
  deeds_tell c (InputFails width failure) (GoWith w) h = input_tells (same_width w.width width) (Stops failure None) refl
  deeds_tell c _ _ h = tt

-- the event of a step is a failure exactly where the step stops all
pub told_failure : (app : Setting) (code : Code) → TellsNoFailures (behaviour_of code) → (e at : ℕ) (st : State ℕ Bits) (c : Scene) (choice : Choice) (d : Deed ℕ Bits) → st.is_stopped ≡ false → deed_of app c ((behaviour_of code).wants e at st.globals) choice ≡ Some d → is_failure (action_of d) ≡ (scheduler.act app (behaviour_of code) e d st).is_stopped
told_failure app code law e at st c choice d up is =
    subst (Tells app (behaviour_of code) e st) is
    (deeds_tell app (behaviour_of code) e st up c ((behaviour_of code).wants e at st.globals) choice (law e at st.globals))
