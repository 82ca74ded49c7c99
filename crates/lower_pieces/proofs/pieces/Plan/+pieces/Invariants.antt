use Rattle.std.proofs.Common.{◌≡◌, ◌^◌, ◌++◌, drop}
use Rattle.std.specs.Prelude.{map}
use Rattle.step_ir.specs.Points.{item_of}
use Rattle.lower_law.specs.Exact.{exchanged}
use Rattle.lower_law.specs.Statements.{block}
use Rattle.lower_pieces.specs.Acting.{context_of}
use Rattle.lower_pieces.specs.Fitting.{AllFit}
use Rattle.lower_pieces.specs.Pieces.{piece_of, pieces_all}
use Rattle.lower_pieces.specs.Sized.{number_at}
use Rattle.lower_pieces.specs.Trees.{statement_of}
use Rattle.lower_pieces.proofs.pieces.Plan.+pieces.Given as goal

-- what is left of the statements
abbrev pub invariant-all-loop-i : goal.invariant-all-loop-i
invariant-all-loop-i l =
    AllFit (2 ^ 16) l.self.functions.now (number_at l.self.sizes.now) (number_at l.self.rooms.now) l.self.temp l.frame.base l.at l.cell (block (map statement_of (drop l.i l.b)))
    × (map piece_of l.initial.out.items ++ pieces_all (exchanged l.self.first) l.self.temp l.self.functions.now (number_at l.self.sizes.now) (number_at l.self.rooms.now) (context_of l.frame) l.initial.at l.initial.cell (block (map statement_of l.b)) (map item_of l.after)
    ≡ map piece_of l.out.items ++ pieces_all (exchanged l.self.first) l.self.temp l.self.functions.now (number_at l.self.sizes.now) (number_at l.self.rooms.now) (context_of l.frame) l.at l.cell (block (map statement_of (drop l.i l.b))) (map item_of l.after))
