-- The law is one lemma.
use Rattle.lower_pieces.proofs.Expansion.{points_of_all}
use Rattle.lower_pieces.proofs.law.pieces_are_points.Goals as goal

pub returns : goal.returns
returns c = points_of_all
