-- One more function.
use Rattle.lower.proofs.Gathering.{functions_end, functions_more, small_at}
use Rattle.lower.proofs.trees.function_trees.Goals as goal

pub function-requires-clause-locals : goal.function-requires-clause-locals
function-requires-clause-locals c =
    (small_at c.args.globals.now c.args.functions.now c.loop-f.f-index c.f-item.result c.f-item.result c.requires.small c.loop-f-test.true c.f-item.is).locals

pub function-requires-clause-numbers : goal.function-requires-clause-numbers
function-requires-clause-numbers c =
    (small_at c.args.globals.now c.args.functions.now c.loop-f.f-index c.f-item.result c.f-item.result c.requires.small c.loop-f-test.true c.f-item.is).numbers

pub loop-f-preserved : goal.loop-f-preserved
loop-f-preserved c =
    functions_more c.args.globals.now c.args.functions.now c.loop-f.f-index c.f-item.result c.f-item.result _ _ _ c.loop-f-test.true c.f-item.is c.in_ok-function.ensures c.in_ok-push.ensures.items c.loop-f.invariant

pub returns : goal.returns
returns c = functions_end c.args.globals.now c.args.functions.now c.loop-f.f-index _ c.loop-f-test.false c.loop-f.invariant
