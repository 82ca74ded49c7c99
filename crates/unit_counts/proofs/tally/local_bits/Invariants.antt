use Rattle.std.proofs.Common.{◌≡◌, ◌+◌, ◌-◌, ◌^◌, ◌≤◌, drop}
use Rattle.lower_law.specs.Counts.{saturated, local_bits}
use Rattle.unit_counts.proofs.tally.local_bits.Given as goal

-- what is left of the locals
abbrev pub invariant-loop-l : goal.invariant-loop-l
invariant-loop-l l =
    (saturated (local_bits l.locals) ≡ saturated (l.sum + local_bits (drop l.l-index l.locals))) × (l.sum ≤ 2 ^ 64 - 1)
