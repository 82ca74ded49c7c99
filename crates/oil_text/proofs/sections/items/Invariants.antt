use Rattle.std.proofs.Common.{◌≤◌, length, []}
use Rattle.oil_text.specs.OilMeaning.{item_at}
use Rattle.oil_text.proofs.Repeated.{SoFar, InCpu}
use Rattle.oil_text.proofs.sections.items.Given as goal

abbrev pub invariant-loop-alloc : goal.invariant-loop-alloc
invariant-loop-alloc l = record {
  so_far : SoFar InCpu item_at [] l.tokens l.items l.rest;
  shorter : length l.rest ≤ length l.tokens;
}

abbrev pub decreases-loop-alloc : goal.decreases-loop-alloc
decreases-loop-alloc l = length l.rest
