-- One more statement counts.
use Rattle.std.proofs.Common.{ap, arith}
use Rattle.lower_law.specs.Statements.{room}
use Rattle.lower_pieces.specs.Sized.{number_at}
use Rattle.lower_pieces.specs.Trees.{statement_of}
use Rattle.lower_pieces.proofs.Summed.{room_more}
use Rattle.lower_pieces.proofs.sizes.+rooms.Goals as goal

pub room_all-loop-s-preserved : goal.room_all-loop-s-preserved
room_all-loop-s-preserved t c =
    let h = room_more (number_at c.args.rooms.now) c.args.b.now c.loop-s.s-index c.s-item.result (omega arith) in
    let q = ap (λ x. room (number_at c.args.rooms.now) (statement_of x)) c.s-item.is in
    omega (arith, h, q, c.loop-s.invariant, c.room.ensures, c.saturating_add-total.ensures)
