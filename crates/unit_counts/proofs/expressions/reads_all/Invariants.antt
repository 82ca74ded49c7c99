use Rattle.std.proofs.Common.{◌≡◌, ◌+◌, ◌-◌, ◌^◌, ◌≤◌, drop, map}
use Rattle.typed_unit.specs.Views.{expr_of}
use Rattle.lower_law.specs.Counts.{saturated, reads_all}
use Rattle.unit_counts.proofs.expressions.reads_all.Given as goal

-- what is left of the expressions
abbrev pub invariant-loop-e : goal.invariant-loop-e
invariant-loop-e l =
    (saturated (reads_all (map expr_of l.es)) ≡ saturated (l.sum + reads_all (map expr_of (drop l.e-index l.es))))
    × (l.sum ≤ 2 ^ 64 - 1)
