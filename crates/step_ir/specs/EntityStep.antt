-- What an entity, a task or a routine, does of itself: how it starts, and what it does next.
use Rattle.std.specs.Prelude.{◌≡◌, ℕ, Bool, true, false}
use Rattle.chk_base.specs.declared.place.Place.{Place}
use Rattle.chk_base.specs.declared.word.Width.{Width}
use Rattle.chk_base.specs.Widths.{PlainWord}
use Rattle.step_ir.specs.declared.event.EventAction.{EventAction}
use Rattle.step_ir.specs.declared.event.EventAction.TheVariants as Action
use Rattle.step_ir.specs.declared.event.Failure.{Failure}
use Rattle.step_ir.specs.declared.event.Service.{Service}

-- an entity's own state, and the globals, after a step
pub record After (S G : Type 0) : Type 0 where
  pub state : S
  pub globals : G

-- what an entity does next
pub data Want (S G : Type 0) : Type 0 where
  -- a step of its own
  Does : (action : EventAction) (after : After S G) → Want S G
  -- an input of this width
  Inputs : (width : Width) (action : PlainWord → EventAction) (after : PlainWord → After S G) → Want S G
  -- a service, after which it goes on so
  Calls : (service : Service) (after : After S G) → Want S G
  -- the end of its body
  Ends : Want S G
  Fails : (failure : Failure) → Want S G
  -- an input of this width that fails whatever the word is
  InputFails : (width : Width) (failure : Failure) → Want S G

-- how entities start, and what each does next, by its own state and the globals, and at which place
pub record Behaviour (S G : Type 0) : Type 0 where
  pub start : ℕ → S
  pub wants : ℕ → S → G → Want S G
  pub place : ℕ → S → Place

-- an action that is a failure
abbrev pub is_failure : EventAction → Bool
is_failure (Action.Fail failure service) = true
is_failure _ = false

-- the entity's own step is no failure
abbrev pub TellsNoFailure : {S G : Type 0} → Want S G → Type 0
TellsNoFailure (Does action after) = is_failure action ≡ false
TellsNoFailure (Inputs width action after) = (word : PlainWord) → is_failure (action word) ≡ false
TellsNoFailure _ = Unit {0}

-- no own step of an entity is told as a failure
abbrev pub TellsNoFailures : {S G : Type 0} → Behaviour S G → Type 0
TellsNoFailures {S} {G} beh = (e : ℕ) (state : S) (globals : G) → TellsNoFailure (beh.wants e state globals)
