use Rattle.std.proofs.Common.{◌≡◌}
use Rattle.typed_unit.specs.Views.{unit_of}
use Rattle.unit_counts.specs.Tallies.{entity_tallies}
use Rattle.unit_counts.proofs.counts.entity_tallies.Given as goal

abbrev pub invariant-loop-number : goal.invariant-loop-number
invariant-loop-number l = l.tallies ≡ entity_tallies (unit_of l.unit) l.number
