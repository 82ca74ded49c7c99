use Rattle.std.proofs.Common.{◌≡◌, ◌+◌, ◌-◌, ◌^◌, ◌≤◌, drop}
use Rattle.lower_law.specs.Counts.{saturated, global_bits, sum_of}
use Rattle.unit_counts.proofs.counts.globals_bits.Given as goal

-- what is left of the variables
abbrev pub invariant-loop-g : goal.invariant-loop-g
invariant-loop-g l =
    (saturated (sum_of global_bits l.globals) ≡ saturated (l.sum + sum_of global_bits (drop l.g-index l.globals)))
    × (l.sum ≤ 2 ^ 64 - 1)
