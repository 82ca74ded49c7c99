use Rattle.std.proofs.Common.{arith, ap, length}
use Rattle.turn_unroll.proofs.Opening.{bits_marked, length-push, marks_more}
use Rattle.turn_unroll.proofs.guards.word_places.Goals as goal

pub loop-i-init : goal.loop-i-init
loop-i-init c = record { count = ap length c.new-places.ensures.items; marks = λ k h. absurd (omega (arith, h)) }

pub loop-i-preserved : goal.loop-i-preserved
loop-i-preserved c = record {
  count = length-push c.loop-i.places.items _ _ c.loop-i.i c.in_ok-push.ensures.items c.loop-i.invariant.count;
  marks = marks_more c.loop-i.places.items _ c.most_bits-bits.result c.loop-i.i c.in_ok-push.ensures.items c.loop-i.invariant.count c.loop-i.invariant.marks;
}

pub returns : goal.returns
returns c = bits_marked c.args.opened.now _ c.most_bits-bits.result c.loop-i.i (omega arith) c.loop-i.invariant.count c.most_bits-bits.ensures.most c.most_bits-bits.ensures.few c.loop-i.invariant.marks
