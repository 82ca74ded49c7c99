use Rattle.std.proofs.Common.{arith}
use Rattle.clause_form.proofs.Rising.{AreOf-more}
use Rattle.bit_circuit.proofs.Numbers.{are-get}
use Rattle.bit_circuit.proofs.OneByOne.{some_more, some_all}
use Rattle.bit_circuit.proofs.circuit.Circuit.any.Goals as goal

pub or-requires-clause-b : goal.or-requires-clause-b
or-requires-clause-b c = are-get _ c.args.lits.now c.loop-i.i _ (AreOf-more _ _ c.args.lits.now c.loop-i.invariant.extends.grows c.requires) (omega arith)

pub loop-i-preserved : goal.loop-i-preserved
loop-i-preserved c = some_more _ _ _ c.args.lits.now c.loop-i.i (record { 0 = 0 }) _ _ (omega arith) c.loop-i.invariant c.in_ok-some.ensures

pub returns : goal.returns
returns c = some_all _ _ c.args.lits.now c.loop-i.i _ (omega arith) c.loop-i.invariant
