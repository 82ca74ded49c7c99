use Rattle.std.proofs.Common.{◌≡◌, ◌++◌}
use Rattle.std.specs.Prelude.{map}
use Rattle.step_ir.specs.Points.{plain_of}
use Rattle.lower_pieces.specs.Pieces.{Stands, piece_of}
use Rattle.lower_pieces.proofs.pieces.push_points.Given as goal

-- the points so far
abbrev pub invariant-loop-point : goal.invariant-loop-point
invariant-loop-point l = map piece_of l.out.items ≡ map piece_of l.initial.out.items ++ map Stands (map plain_of l.yielded)
