use Rattle.bit_circuit.proofs.Growth.{roomy_pushed}
use Rattle.bit_circuit.proofs.circuit.Circuit.add.Goals as goal

pub invariant_of-self-2 : goal.invariant_of-self-2
invariant_of-self-2 c = roomy_pushed _ _ _ _ _ c.self.view_is c.in_ok-push.ensures.ok c.requires c.lits.ensures.rising c.self.invariant
