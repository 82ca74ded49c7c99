use Rattle.std.proofs.Common.{◌≡◌, length, rules}
use Rattle.bit_circuit.specs.BusValue.{number}
use Rattle.bit_circuit.proofs.Composition.{made_negated}
use Rattle.bit_circuit.proofs.Comparing.{less_made, le_not}
use Rattle.bit_circuit.proofs.circuit.Circuit.is_less.Goals as goal

pub returns : goal.returns
returns c =
    let k : length c.args.b.lits ≡ 32 = search rules in
    let l : length c.args.a.lits ≡ 32 = search rules in
    rw c.negated.ensures.negation (made_negated _ _ _ _ _ 160 (less_made _ _ c.args.a.lits c.args.b.lits _ _ l k c.in_ok-fits.ensures) (λ v. le_not (number v c.args.a.lits) (number v c.args.b.lits)))
