use Rattle.std.proofs.Common.{◌≡◌, length, rules}
use Rattle.bit_circuit.proofs.Buses.{chosen_bus}
use Rattle.turn_unroll.proofs.cells.choose_bus.Goals as goal

pub returns : goal.returns
returns c =
    let k : length c.args.a.lits ≡ 32 = search rules in
    let l : length c.args.b.lits ≡ 32 = search rules in
    chosen_bus _ _ c.args.c _ _ _ l k c.in_ok-choose_into.ensures
