use Rattle.static_rules.proofs.Reaching.{chain_begins, chain_more}
use Rattle.static_rules.proofs.found.called_after.Goals as goal

pub loop-after-init : goal.loop-after-init
loop-after-init c = chain_begins c.args.bodies.now c.args.start.now c.in_ok-flags.flags.items c.in_ok-flags.ensures

pub loop-after-preserved : goal.loop-after-preserved
loop-after-preserved c =
    chain_more c.args.bodies.now c.args.start.now c.loop-after.after c.loop-after.flags.items c.in_ok-flags-2.flags.items c.as_slice.result.now
    c.loop-after.invariant c.as_slice.ensures.value c.in_ok-flags-2.ensures
