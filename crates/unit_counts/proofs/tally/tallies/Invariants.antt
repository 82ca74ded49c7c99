use Rattle.std.proofs.Common.{◌≡◌}
use Rattle.unit_counts.specs.Tallies.{tallies_to}
use Rattle.unit_counts.proofs.tally.tallies.Given as goal

abbrev pub invariant-loop-depth : goal.invariant-loop-depth
invariant-loop-depth l = l.tallies ≡ tallies_to l.sizes l._depth
