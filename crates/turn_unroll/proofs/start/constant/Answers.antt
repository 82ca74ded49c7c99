use Rattle.std.proofs.Common.{arith, refl, [], ◌∷◌, false}
use Rattle.clause_form.specs.Literals.{literal}
use Rattle.bit_circuit.specs.Extension.{formula}
use Rattle.bit_circuit.proofs.Buses.{odd_bit, constant_none, constant_more, constant_all}
use Rattle.turn_unroll.proofs.Starting.{constant_made, known_made}
use Rattle.turn_unroll.proofs.start.constant.Goals as goal

pub loop-i-init : goal.loop-i-init
loop-i-init c = constant_none (formula 1 ((literal 1 ∷ []) ∷ [])) _ _ _ (known_made false _ refl) refl

pub loop-i-preserved : goal.loop-i-preserved
loop-i-preserved c = constant_more _ _ c.loop-i.i c.loop-i.rest c.loop-i.lits _ _ (omega arith) (known_made _ _ c.known.ensures) (odd_bit c.loop-i.rest) c.loop-i.invariant

pub returns : goal.returns
returns c = constant_made _ _ (constant_all _ _ c.loop-i.i c.loop-i.rest c.loop-i.lits (omega arith) (omega arith) c.loop-i.invariant)
