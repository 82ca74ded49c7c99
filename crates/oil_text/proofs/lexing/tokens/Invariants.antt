use Rattle.std.proofs.Common.{◌-◌, length}
use Rattle.oil_text.proofs.Cutting.{IsCutSoFar}
use Rattle.oil_text.proofs.lexing.tokens.Given as goal

abbrev pub invariant-loop-place : goal.invariant-loop-place
invariant-loop-place l = IsCutSoFar l.text l.tokens.items l.place

abbrev pub decreases-loop-place : goal.decreases-loop-place
decreases-loop-place l = length l.text - l.place.offset
