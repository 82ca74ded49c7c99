use Rattle.std.proofs.Common.{◌≤◌, length}
use Rattle.oil_text.specs.OilMeaning.{place_at}
use Rattle.oil_text.proofs.Repeated.{SoFar, Includes}
use Rattle.oil_text.proofs.sections.includes.Given as goal

abbrev pub invariant-loop-rest : goal.invariant-loop-rest
invariant-loop-rest l = record {
  so_far : SoFar Includes place_at l.fn.places l.tokens l.found l.rest;
  shorter : length l.rest ≤ length l.tokens;
}

abbrev pub decreases-loop-rest : goal.decreases-loop-rest
decreases-loop-rest l = length l.rest
