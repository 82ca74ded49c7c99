use Rattle.std.proofs.Common.{arith, refl}
use Rattle.turn_unroll.specs.Ways.{holds_of}
use Rattle.turn_unroll.proofs.Making.{never_gives}
use Rattle.turn_unroll.proofs.Waying.{taken_of, taken_more, any_none, any_read, any_all}
use Rattle.turn_unroll.proofs.ways.any_of.Goals as goal

pub loop-i-init : goal.loop-i-init
loop-i-init c = any_none _ (holds_of c.args.test) c.args.ways.now _ (never_gives _ _ c.requires.truth refl)

pub loop-i-preserved : goal.loop-i-preserved
loop-i-preserved c = any_read _ _ _ (holds_of c.args.test) c.args.ways.now c.loop-i.i _ _ _ c.index-ways-i.is (omega arith) c.loop-i.invariant c.in_ok-some.ensures

pub returns : goal.returns
returns c = any_all _ _ (holds_of c.args.test) c.args.ways.now c.loop-i.i _ (omega arith) c.loop-i.invariant

pub or_where-requires-clause-taken : goal.or_where-requires-clause-taken
or_where-requires-clause-taken c = taken_of _ c.args.ways.now c.loop-i.i _ c.index-ways-i.is (taken_more _ _ c.args.ways.now c.loop-i.invariant.extends.grows c.requires.ways) (omega arith)
