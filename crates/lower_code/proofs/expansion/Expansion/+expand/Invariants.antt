use Rattle.std.proofs.Common.{◌≡◌, ◌+◌, ◌*◌, ◌++◌, length}
use Rattle.std.specs.Prelude.{map}
use Rattle.std.specs.Vec.Iter.{into_iter_items, into_iter_len}
use Rattle.step_ir.specs.Points.{plain_of}
use Rattle.lower_law.specs.Exact.{exchanged}
use Rattle.lower_pieces.specs.Expanded.{expanded}
use Rattle.lower_pieces.specs.Pieces.{piece_of}
use Rattle.lower_code.specs.Plans.{PiecesFit, CallFitsTo, plans_to}
use Rattle.lower_code.proofs.expansion.Expansion.+expand.Given as goal

-- what is left of the pieces
abbrev pub invariant-all-loop-piece : goal.invariant-all-loop-piece
invariant-all-loop-piece l =
    PiecesFit (CallFitsTo l.self.functions.now l.self.temp l.d) (map piece_of (into_iter_items l.piece-iterator))
    × (into_iter_len l.piece-iterator ≡ length (into_iter_items l.piece-iterator))
    × (map plain_of l.initial.points ++ expanded (plans_to (exchanged l.self.first) l.self.temp l.self.functions.now l.d) (map piece_of l.fn.pieces.items)
    ≡ map plain_of l.points ++ expanded (plans_to (exchanged l.self.first) l.self.temp l.self.functions.now l.d) (map piece_of (into_iter_items l.piece-iterator)))

abbrev pub decreases-body : goal.decreases-body
decreases-body l = 4 * l.d + 3

abbrev pub decreases-all : goal.decreases-all
decreases-all l = 4 * l.d + 2

abbrev pub decreases-piece : goal.decreases-piece
decreases-piece l = 4 * l.d + 1

abbrev pub decreases-called : goal.decreases-called
decreases-called l = 4 * l.d
