use Rattle.std.proofs.Common.{◌+◌, ◌*◌, ◌≤◌, length, []}
use Rattle.oil_tree.specs.Listed.{listed}
use Rattle.oil_text.specs.OilMeaning.{attribute_at}
use Rattle.oil_text.proofs.Repeated.{SoFar, Attributes}
use Rattle.oil_text.proofs.reading.+attributes.Given as goal

abbrev pub decreases-attribute : goal.decreases-attribute
decreases-attribute l = 4 * l.below + 1

abbrev pub decreases-attributes : goal.decreases-attributes
decreases-attributes l = 4 * l.below + 2

abbrev pub decreases-optional_block : goal.decreases-optional_block
decreases-optional_block l = 4 * l.below + 3

abbrev pub decreases-nested : goal.decreases-nested
decreases-nested l = 4 * l.below

abbrev pub invariant-attributes-loop-alloc : goal.invariant-attributes-loop-alloc
invariant-attributes-loop-alloc l = record {
  so_far : SoFar (Attributes l.below) attribute_at [] l.tokens (listed l.attributes) l.rest;
  shorter : length l.rest ≤ length l.tokens;
}

abbrev pub decreases-attributes-loop-alloc : goal.decreases-attributes-loop-alloc
decreases-attributes-loop-alloc l = length l.rest
