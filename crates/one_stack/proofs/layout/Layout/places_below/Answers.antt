use Rattle.std.proofs.Common.{◌+◌, arith, sym, ◌∙◌, ap₂}
use Rattle.one_stack.specs.Tables.{room_in}
use Rattle.one_stack.proofs.Stepping.{sum_more}
use Rattle.one_stack.proofs.layout.Layout.places_below.Goals as goal

pub loop-l-preserved : goal.loop-l-preserved
loop-l-preserved c =
    record {
      is = ap₂ (λ a b. a + b) c.loop-l.invariant.is c.room.ensures.count ∙ sym (sum_more (room_in c.args.self.now) c.loop-l.l);
      few = omega (arith, c.loop-l.invariant.few, c.room.ensures.few);
    }
