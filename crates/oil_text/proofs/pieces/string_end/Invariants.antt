use Rattle.oil_text.specs.Pieces.{is_string_end}
use Rattle.oil_text.proofs.Longest.{Behind}
use Rattle.oil_text.proofs.pieces.string_end.Given as goal

abbrev pub invariant-loop-i : goal.invariant-loop-i
invariant-loop-i l = Behind is_string_end l.bytes l.i
