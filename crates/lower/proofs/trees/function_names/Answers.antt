-- One more name.
use Rattle.lower.proofs.Gathering.{names_end, names_more}
use Rattle.lower.proofs.trees.function_names.Goals as goal

pub loop-f-preserved : goal.loop-f-preserved
loop-f-preserved c =
    names_more c.args.functions.now c.loop-f.f-index c.f-item.result c.f-item.result _ _ _ c.loop-f-test.true c.f-item.is c.in_ok-copy.ensures c.in_ok-push.ensures.ok c.loop-f.invariant

pub returns : goal.returns
returns c = names_end c.args.functions.now c.loop-f.f-index _ c.loop-f-test.false c.loop-f.invariant
