-- What is answered for a C text.
use Rattle.application.specs.declared.app.App.{App}
use Rattle.c_unit.specs.declared.unit.Unit.{Unit as WrittenUnit}
use Rattle.c_rules.specs.First.{IsFirst}
use Rattle.c_rules.specs.UnitRules.{faults}
use Rattle.c_types.specs.declared.types.TypeFault.{TypeFault}
use Rattle.c_types.specs.declared.types.TypeFault.TheVariants.{Rule, Memory}

-- why a text is refused: its first fault; want of memory is free
abbrev pub IsRefusal : WrittenUnit → App → TypeFault → Type 0
IsRefusal unit app (Rule rule place) = IsFirst (faults unit app) (record { rule = rule; place = place })
IsRefusal unit app Memory = Unit {0}
