use Rattle.std.proofs.Common.{arith, sym}
use Rattle.turn_unroll.proofs.Waying.{taken_of, taken_more, below_of_way, gathers_none, gathers_read, gathers_all}
use Rattle.turn_unroll.proofs.ways.put_ways.Goals as goal

pub loop-i-init : goal.loop-i-init
loop-i-init c = gathers_none _ c.args.side c.args.ways.now c.args.row.now c.requires.row

pub put_way-requires-clause-taken : goal.put_way-requires-clause-taken
put_way-requires-clause-taken c = taken_of _ c.args.ways.now c.loop-i.i _ c.index-ways-i.is (taken_more _ _ c.args.ways.now c.loop-i.invariant.extends.grows c.requires.taken) (omega arith)

pub put_way-requires-clause-fits : goal.put_way-requires-clause-fits
put_way-requires-clause-fits c = below_of_way c.args.side _ _ c.args.ways.now c.loop-i.i _ c.index-ways-i.is c.requires.fits (sym c.loop-i.invariant.count) (omega arith)

pub loop-i-preserved : goal.loop-i-preserved
loop-i-preserved c = gathers_read _ _ _ c.args.side c.args.ways.now c.loop-i.i _ _ _ _ c.index-ways-i.is (omega arith) c.loop-i.invariant c.in_ok-put_way.ensures

pub returns : goal.returns
returns c = gathers_all _ _ c.args.side c.args.ways.now c.loop-i.i _ _ (omega arith) c.loop-i.invariant
