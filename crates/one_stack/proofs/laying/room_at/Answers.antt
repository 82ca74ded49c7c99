use Rattle.std.proofs.Common.{◌+◌, ◌∙◌, ◌==◌, if◌then◌else◌, arith, ap₂, sym}
use Rattle.one_stack.proofs.Stepping.{sum_more}
use Rattle.step_ir.specs.Setting.{setting_of}
use Rattle.one_stack.proofs.laying.room_at.Goals as goal

pub loop-t-preserved : goal.loop-t-preserved
loop-t-preserved c =
    record {
      is = ap₂ (λ a b. a + b) c.loop-t.invariant.is c.limit_in-sum.ensures.count ∙ sym (sum_more (λ t. if (setting_of c.args.app.now).level t == c.args.l then (setting_of c.args.app.now).limit t else 0) c.loop-t.t);
      few = omega (arith, c.loop-t.invariant.few, c.limit_in-sum.ensures.few);
    }
