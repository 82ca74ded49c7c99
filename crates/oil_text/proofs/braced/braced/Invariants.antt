use Rattle.std.proofs.Common.{◌+◌, ◌<◌, ◌≤◌, length}
use Rattle.oil_text.proofs.Braces.{IsOpen}
use Rattle.oil_text.proofs.braced.braced.Given as goal

abbrev pub invariant-loop-depth : goal.invariant-loop-depth
invariant-loop-depth l = record {
  so_far : IsOpen l.tokens l.depth l.rest;
  few : l.depth + length l.rest ≤ length l.tokens;
  shorter : length l.rest < length l.tokens;
}

abbrev pub decreases-loop-depth : goal.decreases-loop-depth
decreases-loop-depth l = length l.rest
