use Rattle.std.proofs.Common.{◌∙◌, ◌+◌, ap}
use Rattle.one_stack.specs.Built.{mark_at}
use Rattle.one_stack.specs.Tables.{seen}
use Rattle.one_stack.proofs.Stepping.{item_put}
use Rattle.one_stack.proofs.starts.put_level.Goals as goal
use Rattle.step_ir.specs.Agreement.{fresh_at}

pub loop-i-preserved : goal.loop-i-preserved
loop-i-preserved c =
    item_put _ c.loop-i.i _ _ _ _ c.in_ok-push.ensures.ok
    (c.mark_at.ensures ∙ ap (λ ts. mark_at (λ t. t + 1) (fresh_at (seen c.args.layout.now) c.args.l ts) c.loop-i.i) c.as_slice.ensures.value)
    c.loop-i.invariant
