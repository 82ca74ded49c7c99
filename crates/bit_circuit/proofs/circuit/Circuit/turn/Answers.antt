use Rattle.std.proofs.Common.{◌≡◌, length, rules}
use Rattle.bit_circuit.proofs.Signing.{turn_made}
use Rattle.bit_circuit.proofs.circuit.Circuit.turn.Goals as goal

pub returns : goal.returns
returns c =
    let l : length c.args.a.lits ≡ 32 = search rules in
    turn_made _ c.args.a.lits (record { 0 = 0 }) _ l c.requires c.negated.ensures.negation
