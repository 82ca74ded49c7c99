use Rattle.std.proofs.Common.{arith}
use Rattle.bit_circuit.proofs.OneByOne.{negated_more}
use Rattle.bit_circuit.proofs.bits.negate_all.Goals as goal

pub loop-lit-preserved : goal.loop-lit-preserved
loop-lit-preserved c = negated_more c.args.lits.now c.loop-lit.lits c.loop-lit.lit-index _ c.negated.result (omega arith) (omega (arith, c.loop-lit.auto.lits)) c.loop-lit.invariant c.negated.ensures.negation
