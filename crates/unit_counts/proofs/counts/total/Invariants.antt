use Rattle.std.proofs.Common.{◌≡◌, ◌+◌, ◌-◌, ◌^◌, ◌≤◌, drop}
use Rattle.lower_law.specs.Counts.{saturated, sum_of}
use Rattle.unit_counts.proofs.counts.total.Given as goal

-- what is left of the numbers
abbrev pub invariant-loop-t : goal.invariant-loop-t
invariant-loop-t l =
    record {
      points : saturated (sum_of (λ t. t.points) l.tallies) ≡ saturated (l.points + sum_of (λ t. t.points) (drop l.t-index l.tallies));
      weight : saturated (sum_of (λ t. t.weight) l.tallies) ≡ saturated (l.weight + sum_of (λ t. t.weight) (drop l.t-index l.tallies));
      bits : saturated (sum_of (λ t. t.bits) l.tallies) ≡ saturated (l.bits + sum_of (λ t. t.bits) (drop l.t-index l.tallies));
      points_fit : l.points ≤ 2 ^ 64 - 1;
      weight_fits : l.weight ≤ 2 ^ 64 - 1;
      bits_fit : l.bits ≤ 2 ^ 64 - 1;
    }
