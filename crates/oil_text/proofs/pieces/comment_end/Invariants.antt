use Rattle.std.proofs.Common.{length, ◌-◌}
use Rattle.oil_text.specs.Pieces.{is_comment_end}
use Rattle.oil_text.proofs.Longest.{Behind}
use Rattle.oil_text.proofs.pieces.comment_end.Given as goal

abbrev pub invariant-loop-at : goal.invariant-loop-at
invariant-loop-at l = Behind is_comment_end l.bytes l.at

abbrev pub decreases-loop-at : goal.decreases-loop-at
decreases-loop-at l = length l.bytes - l.at
