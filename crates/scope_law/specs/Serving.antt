-- What the services in a typed unit name.
use Rattle.std.specs.Prelude.{◌≡◌, ℕ, Some, slice_get}
use Rattle.application.specs.declared.app.App.{App}
use Rattle.step_ir.specs.Fits.{IsServiceFit}
use Rattle.typed_unit.specs.Plain.{PlainStatement, PlainBlock, NoStatement, StatementThen, PlainFunction, PlainEntity, PlainUnit}
use Rattle.typed_unit.specs.Plain as p

module _ (app : App) where
  -- the task or resource that a service in a statement names is one of the application's
  abbrev mutual
    pub Serves : PlainStatement → Type 0
    Serves (p.Serve place service at) = IsServiceFit app service
    Serves (p.If place q on off) = AllServe on × AllServe off
    Serves (p.While place q body) = AllServe body
    Serves (p.For place start q step body) = AllServe start × AllServe step × AllServe body
    Serves (p.Block place body) = AllServe body
    Serves _ = Unit {0}

    pub AllServe : PlainBlock → Type 0
    AllServe NoStatement = Unit {0}
    AllServe (StatementThen s b) = Serves s × AllServe b

  -- so it is in all bodies of a unit
  pub record AreServing (u : PlainUnit) : Type 0 where
    pub functions : (g : ℕ) (f : PlainFunction) → slice_get u.functions g ≡ Some f → AllServe f.body
    pub entities : (i : ℕ) (e : PlainEntity) → slice_get u.entities i ≡ Some e → AllServe e.body
