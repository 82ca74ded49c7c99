use Rattle.std.proofs.Common.{[]}
use Rattle.one_stack.specs.Labelled.{label_at}
use Rattle.one_stack.proofs.Stepping.{item_put}
use Rattle.one_stack.proofs.labels.labels_of.Goals as goal

pub loop-i-preserved : goal.loop-i-preserved
loop-i-preserved c = item_put (label_at c.args.entities c.args.points.now) c.loop-i.i _ _ [] _ c.in_ok-push.ensures.ok c.label_at.ensures c.loop-i.invariant
