use Rattle.std.proofs.Common.{◌≡◌, ◌&&◌, drop, zip}
use Rattle.std.specs.List.{list_all}
use Rattle.c_rules.specs.UnitRules.{are_same}
use Rattle.c_rules.proofs.units.same_parameters.Given as goal

-- the parameters so far have the same types, and what is left decides
abbrev pub invariant-loop-i : goal.invariant-loop-i
invariant-loop-i l = list_all are_same (zip l.a l.b) ≡ (l.same && list_all are_same (zip (drop l.i l.a) (drop l.i l.b)))
