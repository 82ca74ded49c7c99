use Rattle.std.proofs.Common.{arith}
use Rattle.clause_form.proofs.Rising.{AreOf-more}
use Rattle.bit_circuit.proofs.Numbers.{are-get}
use Rattle.bit_circuit.proofs.OneByOne.{each_more, each_all}
use Rattle.turn_unroll.proofs.cells.choose_into.Goals as goal

pub choose-requires-clause-b : goal.choose-requires-clause-b
choose-requires-clause-b c = are-get _ c.loop-i.lits c.loop-i.i _ c.loop-i.invariant.inside (omega (arith, c.loop-i.invariant.length_kept, c.requires.same_length))

pub choose-requires-clause-a : goal.choose-requires-clause-a
choose-requires-clause-a c = are-get _ c.args.b.now c.loop-i.i _ (AreOf-more _ _ c.args.b.now c.loop-i.invariant.extends.grows c.requires.b) (omega arith)

pub loop-i-preserved : goal.loop-i-preserved
loop-i-preserved c = each_more _ _ _ _ _ c.loop-i.lits c.args.b.now c.loop-i.i _ _ (omega arith) c.requires.same_length c.loop-i.invariant c.in_ok-lits.ensures

pub returns : goal.returns
returns c = each_all _ _ _ _ _ c.args.b.now c.loop-i.i _ (omega arith) c.loop-i.invariant
