use Rattle.std.proofs.Common.{◌∙◌, ◌++◌, ap}
use Rattle.one_stack.specs.Built.{table}
use Rattle.one_stack.proofs.Stepping.{list_put}
use Rattle.one_stack.proofs.starts.put_kept.Goals as goal

pub loop-e-preserved : goal.loop-e-preserved
loop-e-preserved c =
    list_put (λ e. table c.args.layout.now.resources (λ q. 0)) c.loop-e._e _ _ _
    (c.in_ok-put_zeros.ensures ∙ ap (λ n. c.loop-e.starts ++ table n (λ q. 0)) c.resources.ensures.count) c.loop-e.invariant
