-- What is answered for a tree.
use Rattle.std.specs.Prelude.{ℕ, List, Option}
use Rattle.oil_tree.specs.declared.tree.OilTree.{OilTree}
use Rattle.oil_rules.specs.First.{IsFirst}
use Rattle.oil_rules.specs.Rules.{faults}
use Rattle.app_model.specs.declared.build.AppFault.{AppFault}
use Rattle.app_model.specs.declared.build.AppFault.TheVariants.{Rule, Memory}

-- why a tree is refused: its first fault; want of memory is free
abbrev pub IsRefusal : OilTree → Option (List ℕ) → AppFault → Type 0
IsRefusal tree mode (Rule rule place) = IsFirst (faults tree mode) (record { rule = rule; place = place })
IsRefusal tree mode Memory = Unit {0}
