-- What a scheduler has to do for a step, and the event that tells it.
use Rattle.std.specs.Prelude.{ℕ, Bool, true, false, ◌&&◌, Option, Some, None, if◌then◌else◌}
use Rattle.chk_base.specs.declared.place.Place.{Place}
use Rattle.chk_base.specs.declared.word.Width.{Width}
use Rattle.chk_base.specs.declared.word.Width.TheVariants.{W1, W8, W16, W32}
use Rattle.step_ir.specs.declared.event.Choice.{Choice}
use Rattle.step_ir.specs.declared.event.Choice.TheVariants.{Go, GoWith}
use Rattle.step_ir.specs.declared.event.Event.{Event}
use Rattle.step_ir.specs.declared.event.EventAction.{EventAction}
use Rattle.step_ir.specs.declared.event.EventAction.TheVariants as Action
use Rattle.step_ir.specs.declared.event.Failure.{Failure}
use Rattle.step_ir.specs.declared.event.Next.{Next}
use Rattle.step_ir.specs.declared.event.Next.TheVariants.{Runs, Idle, Stop}
use Rattle.step_ir.specs.declared.event.Service.{Service}
use Rattle.step_ir.specs.EntityStep.{After, Want, Does, Inputs, Calls, Ends, Fails, InputFails}
use Rattle.step_ir.specs.Numbers.{is_empty}
use Rattle.step_ir.specs.Services.{Scene, fault, fault_of}
use Rattle.step_ir.specs.Setting.{Setting}

-- what a scheduler has to do for the step of an entity
pub data Deed (S G : Type 0) : Type 0 where
  -- the entity's own step
  Moves : (action : EventAction) (after : After S G) → Deed S G
  -- a service without an error
  Serves : (service : Service) (after : After S G) → Deed S G
  -- a routine ends
  Leaves : Deed S G
  -- a failure, of a service where there is one
  Stops : (failure : Failure) (service : Option Service) → Deed S G

-- the action that an event tells
abbrev pub action_of : {S G : Type 0} → Deed S G → EventAction
action_of (Moves action after) = action
action_of (Serves service after) = Action.Service service
action_of Leaves = Action.End
action_of (Stops failure service) = Action.Fail failure service

-- a service, by its first error
abbrev pub serve : {S G : Type 0} → Service → After S G → Option Failure → Deed S G
serve service after None = Serves service after
serve service after (Some failure) = Stops failure (Some service)

-- the end of a body: a task's is a failure, and a routine's is one where a section is open or a resource held
abbrev pub end_of : {S G : Type 0} → Setting → Scene → Deed S G
end_of app c =
    if app.is_task c.caller
    then Stops (fault 7) None
    else (if is_empty c.sections && is_empty c.held then Leaves else Stops (fault 9) None)

-- two widths are the same
abbrev pub same_width : Width → Width → Bool
same_width W1 W1 = true
same_width W8 W8 = true
same_width W16 W16 = true
same_width W32 W32 = true
same_width _ _ = false

-- what is to be done where an entity wants this and is given this choice; nothing where the choice isn't permitted: an input takes a word of its width, and nothing else takes a word
abbrev pub deed_of : {S G : Type 0} → Setting → Scene → Want S G → Choice → Option (Deed S G)
deed_of app c (Does action after) Go = Some (Moves action after)
deed_of app c (Inputs width action after) (GoWith w) =
    if same_width w.width width then Some (Moves (action w) (after w)) else None
deed_of app c (Calls service after) Go = Some (serve service after (fault_of app c service))
deed_of app c Ends Go = Some (end_of app c)
deed_of app c (Fails failure) Go = Some (Stops failure None)
deed_of app c (InputFails width failure) (GoWith w) =
    if same_width w.width width then Some (Stops failure None) else None
deed_of app c _ _ = None

-- who runs afterwards, by whether a failure has stopped all, and by the actor
abbrev pub next_of : Bool → Option ℕ → Next
next_of true actor = Stop
next_of false None = Idle
next_of false (Some e) = Runs (record { 0 = e })

-- the event of a step of this entity
abbrev pub happened : ℕ → EventAction → Place → Next → Event
happened e action place next = record { actor = record { 0 = e }; action = action; next = next; place = place }
