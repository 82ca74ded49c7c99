use Rattle.std.proofs.Common.{arith}
use Rattle.turn_unroll.proofs.Opening.{bits_all, bits_none, bits_step}
use Rattle.turn_unroll.proofs.guards.most_bits.Goals as goal

pub loop-i-init : goal.loop-i-init
loop-i-init c = record { below = bits_none c.args.opened.now 0; few = omega arith }

pub loop-i-preserved : goal.loop-i-preserved
loop-i-preserved c =
    let s = bits_step c.args.opened.now c.loop-i.i c.loop-i.most _ _ c.index-opened-i.is (omega arith) c.bits_with-most.ensures c.loop-i.invariant.few c.loop-i.invariant.below in
    record { below = s.0; few = s.1 }

pub returns-clause-most : goal.returns-clause-most
returns-clause-most c = bits_all c.args.opened.now c.loop-i.i _ (omega arith) c.loop-i.invariant.below
