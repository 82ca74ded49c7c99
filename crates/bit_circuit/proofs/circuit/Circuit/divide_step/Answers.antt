use Rattle.clause_form.proofs.Rising.{AreOf-more}
use Rattle.bit_circuit.specs.BusValue.{moved_lits}
use Rattle.bit_circuit.specs.declared.shift.Way.TheVariants.{Up}
use Rattle.bit_circuit.proofs.Shifting.{are-moved}
use Rattle.bit_circuit.proofs.Multiplying.{divide_step_made}
use Rattle.bit_circuit.proofs.circuit.Circuit.divide_step.Goals as goal

pub add_into-requires-clause-sum : goal.add_into-requires-clause-sum
add_into-requires-clause-sum c = rw (c.copy_from_slice.ensures.after, c.move_up.ensures) (are-moved _ Up _ 1 _ c.requires.rest c.requires.digit)

pub choose_into-requires-clause-lits : goal.choose_into-requires-clause-lits
choose_into-requires-clause-lits c = rw c.move_up.ensures (AreOf-more _ _ (moved_lits Up c.args.rest.now 1 c.args.digit) c.in_ok-fits.ensures.extends.grows (are-moved _ Up _ 1 _ c.requires.rest c.requires.digit))

pub returns : goal.returns
returns c = divide_step_made _ _ _ _ _ _ _ _ _ _ _ c.requires.rest_width c.requires.width c.requires.rest c.requires.digit c.move_up.ensures c.yes.ensures (rw c.copy_from_slice.ensures.after at c.in_ok-fits.ensures) c.in_ok-choose_into.ensures
