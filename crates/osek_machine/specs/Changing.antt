-- What the parts of a step change.
use Rattle.std.specs.Prelude.{◌≡◌, ℕ, Bool, true, false, Some, None}
use Rattle.chk_base.specs.declared.place.Place.{Place}
use Rattle.osek_machine.specs.CellWords.{bits}
use Rattle.osek_machine.specs.declared.machine.Outcome.{Outcome}
use Rattle.osek_machine.specs.declared.machine.Outcome.TheVariants as answer
use Rattle.osek_machine.specs.declared.perform.Performed.{Performed}
use Rattle.osek_machine.specs.declared.perform.Performed.TheVariants.{Did, Calls, Ends, Fails, Refused}
use Rattle.osek_machine.specs.Kept.{Kept, state_of}
use Rattle.step_ir.specs.declared.event.Event.{Event}
use Rattle.step_ir.specs.declared.event.Service.{Service}
use Rattle.step_ir.specs.Deeds.{Deed, Moves, Stops, action_of, happened, next_of, serve, end_of}
use Rattle.step_ir.specs.EntityStep.{Behaviour}
use Rattle.step_ir.specs.PointStep.{behaviour_of, Bits}
use Rattle.step_ir.specs.SchedulerState.{State, actor, scene}
use Rattle.step_ir.specs.SchedulerStep.{act}
use Rattle.step_ir.specs.Services.{fault_of}
use Rattle.step_ir.specs.Setting.{Setting, setting_of}

-- the machine's state changes so, and it stays over the same application and code
pub record Changes (change : Setting → Behaviour ℕ Bits → State ℕ Bits → State ℕ Bits) (old new : Kept) : Type 0 where
  pub state : state_of new ≡ change (setting_of old.app) (behaviour_of old.code) (state_of old)
  pub app : new.app ≡ old.app
  pub code : new.code ≡ old.code

-- this entity acts, and its service has no error
pub record IsServable (k : Kept) (e : ℕ) (s : Service) : Type 0 where
  pub no_fault : fault_of (setting_of k.app) (scene (setting_of k.app) (state_of k) e) s ≡ None
  pub acts : actor (setting_of k.app) (state_of k) ≡ Some e

-- this event is told, as a failure where the machine is stopped
abbrev pub IsToldAs : Outcome → Event → Bool → Type 0
IsToldAs (answer.Event event) e stopped = (event ≡ e) × (stopped ≡ false)
IsToldAs (answer.Failed event) e stopped = (event ≡ e) × (stopped ≡ true)
IsToldAs answer.Refused e stopped = ⊥

-- this deed of this entity was done, and told
pub record IsDeed (d : Deed ℕ Bits) (e : ℕ) (place : Place) (old : Kept) (result : Outcome) (new : Kept) : Type 0 where
  pub state : state_of new ≡ act (setting_of old.app) (behaviour_of old.code) e d (state_of old)
  pub told : IsToldAs result (happened e (action_of d) place (next_of new.stopped (actor (setting_of old.app) (state_of new)))) new.stopped
  pub app : new.app ≡ old.app
  pub code : new.code ≡ old.code

-- what is left of a step after the point's own part was done
abbrev pub IsFinished : Performed → ℕ → Place → Kept → Outcome → Kept → Type 0
IsFinished (Did action next) e place old result new =
    IsDeed (Moves action (record { state = next; globals = bits old.cells })) e place old result new
IsFinished (Calls service next) e place old result new =
    IsDeed (serve service (record { state = next; globals = bits old.cells }) (fault_of (setting_of old.app) (scene (setting_of old.app) (state_of old) e) service)) e place old result new
IsFinished Ends e place old result new =
    IsDeed (end_of (setting_of old.app) (scene (setting_of old.app) (state_of old) e)) e place old result new
IsFinished (Fails failure) e place old result new = IsDeed (Stops failure None) e place old result new
IsFinished Refused e place old result new = (result ≡ answer.Refused) × (new ≡ old)
