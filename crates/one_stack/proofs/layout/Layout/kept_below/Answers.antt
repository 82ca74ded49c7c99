use Rattle.std.proofs.Common.{◌+◌, arith, sym, ◌∙◌, ap₂}
use Rattle.one_stack.proofs.Stepping.{sum_more}
use Rattle.one_stack.proofs.layout.Layout.kept_below.Goals as goal

pub loop-x-preserved : goal.loop-x-preserved
loop-x-preserved c =
    record {
      is = ap₂ (λ a b. a + b) c.loop-x.invariant.is c.resources.ensures.count ∙ sym (sum_more (λ x. c.args.self.now.resources) c.loop-x._x);
      few = omega (arith, c.loop-x.invariant.few, c.resources.ensures.few);
    }
