use Rattle.std.proofs.Common.{◌≡◌, map, take}
use Rattle.unit_counts.specs.Tallies.{tally_of}
use Rattle.unit_counts.proofs.tally.next_tallies.Given as goal

abbrev pub invariant-loop-size : goal.invariant-loop-size
invariant-loop-size l = l.tallies ≡ map (tally_of l.calls) (take l.size-index l.sizes)
