use Rattle.static_rules.proofs.Reaching.{spread_begins, spread_more, spread_ends}
use Rattle.static_rules.proofs.found.reached_from.Goals as goal

pub loop-count-init : goal.loop-count-init
loop-count-init c =
    spread_begins c.args.bodies.now c.args.start.now c.in_ok-found.found.flags.items c.find_called.new.self.flags.items c.in_ok-found.found.fresh.items c.find_called.new.self.fresh.items
    c.in_ok-found.ensures.flags c.in_ok-found.ensures.fresh c.in_ok-find_called.ensures

pub loop-count-preserved : goal.loop-count-preserved
loop-count-preserved c =
    spread_more c.args.bodies.now c.args.start.now c.loop-count.count c.loop-count.found.flags.items c.loop-count.found.fresh.items c.in_ok-found-2.found.flags.items c.in_ok-found-2.found.fresh.items
    c.loop-count.auto.count c.loop-count.invariant c.in_ok-found-2.ensures

pub returns : goal.returns
returns c =
    spread_ends c.args.bodies.now c.args.start.now c.loop-count.count c.loop-count.found.flags.items c.loop-count.found.fresh.items
    c.loop-count-test.false c.loop-count.auto.count-end c.loop-count.invariant
