use Rattle.one_stack.proofs.Plainly.{copies_more}
use Rattle.one_stack.proofs.sets.put_copies.Goals as goal

pub loop-set-preserved : goal.loop-set-preserved
loop-set-preserved c = copies_more c.args.others.now c.loop-set.set-index c.set-item.result _ _ _ _ c.loop-set-test.true c.set-item.is c.in_ok-put_set.ensures c.in_ok-value.ensures c.loop-set.invariant
