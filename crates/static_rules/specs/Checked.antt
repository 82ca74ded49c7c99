-- Units that are checked for an application.
use Rattle.std.specs.Prelude.{◌≡◌, []}
use Rattle.application.specs.declared.app.App.{App}
use Rattle.typed_unit.specs.declared.typed.TypedUnit.{TypedUnit}
use Rattle.typed_unit.specs.Typed as typed
use Rattle.typed_unit.specs.Plain.{PlainUnit}
use Rattle.typed_unit.specs.Views.{unit_of}
use Rattle.c_rules.specs.First.{IsFirst}
use Rattle.static_rules.specs.declared.check.RuleFault.{RuleFault}
use Rattle.static_rules.specs.declared.check.RuleFault.TheVariants.{Rule, Memory}
use Rattle.static_rules.specs.Rules.{faults}

-- a checked unit fits an application: the unit fits it, and it breaks no rule
pub record Fits (app : App) (checked : TypedUnit) : Type 0 where
  pub unit : typed.Fits app (unit_of checked)
  pub unbroken : faults (unit_of checked) app ≡ []

-- why a unit is refused: its first fault; want of memory is free
abbrev pub IsRefusal : PlainUnit → App → RuleFault → Type 0
IsRefusal unit app (Rule rule place) = IsFirst (faults unit app) (record { rule = rule; place = place })
IsRefusal unit app Memory = Unit {0}
