use Rattle.std.proofs.Common.{◌≡◌, ◌-◌, ◌^◌, min, take}
use Rattle.std.specs.Prelude.{map}
use Rattle.lower_law.specs.Statements.{block}
use Rattle.lower_law.specs.Statements.{room_all}
use Rattle.lower_pieces.specs.Sized.{number_at}
use Rattle.lower_pieces.specs.Trees.{statement_of}
use Rattle.lower_pieces.proofs.sizes.+rooms.Given as goal

-- the sum so far
abbrev pub invariant-room_all-loop-s : goal.invariant-room_all-loop-s
invariant-room_all-loop-s l = l.total ≡ min (room_all (number_at l.rooms) (block (map statement_of (take l.s-index l.b)))) (2 ^ 64 - 1)
