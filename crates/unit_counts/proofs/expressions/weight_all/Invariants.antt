use Rattle.std.proofs.Common.{◌≡◌, ◌+◌, ◌-◌, ◌^◌, ◌≤◌, drop, map}
use Rattle.typed_unit.specs.Views.{expr_of}
use Rattle.lower_law.specs.Counts.{saturated, weight_all}
use Rattle.unit_counts.proofs.expressions.weight_all.Given as goal

-- what is left of the expressions
abbrev pub invariant-loop-e : goal.invariant-loop-e
invariant-loop-e l =
    (saturated (weight_all (map expr_of l.es)) ≡ saturated (l.sum + weight_all (map expr_of (drop l.e-index l.es))))
    × (l.sum ≤ 2 ^ 64 - 1)
