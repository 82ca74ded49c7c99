use Rattle.std.proofs.Common.{arith}
use Rattle.clause_form.proofs.Rising.{AreOf-more}
use Rattle.bit_circuit.proofs.Numbers.{are-get}
use Rattle.bit_circuit.proofs.Adding.{adds_more}
use Rattle.bit_circuit.proofs.circuit.Circuit.add_into.Goals as goal

pub add_bit-requires-clause-a : goal.add_bit-requires-clause-a
add_bit-requires-clause-a c = are-get _ c.loop-i.sum c.loop-i.i _ c.loop-i.invariant.inside (omega (arith, c.loop-i.invariant.length_kept, c.requires.same_length))

pub add_bit-requires-clause-b : goal.add_bit-requires-clause-b
add_bit-requires-clause-b c = are-get _ c.args.b.now c.loop-i.i _ (AreOf-more _ _ c.args.b.now c.loop-i.invariant.extends.grows c.requires.b) (omega arith)

pub loop-i-preserved : goal.loop-i-preserved
loop-i-preserved c =
    adds_more _ _ _ _ c.loop-i.sum c.args.b.now c.loop-i.i (record { 0 = 0 }) _ _ _ _ (omega arith) c.requires.same_length c.loop-i.invariant c.in_ok-digit.ensures
