use Rattle.std.proofs.Common.{◌≡◌}
use Rattle.std.specs.Prelude.{map}
use Rattle.step_ir.specs.Points.{plain_of}
use Rattle.lower.specs.EntityCodes.{exchanged_front}
use Rattle.lower.proofs.copies.reordered.Given as goal

-- the points so far
abbrev pub invariant-loop-at : goal.invariant-loop-at
invariant-loop-at l = map plain_of l.copied ≡ exchanged_front l.first (map plain_of l.fn.points) l.at
