use Rattle.std.proofs.Common.{◌≡◌, ◌-◌, length, rules, arith}
use Rattle.bit_circuit.proofs.Numbers.{are-get}
use Rattle.bit_circuit.proofs.Selecting.{inside_at}
use Rattle.bit_circuit.proofs.Choosing.{plain_cell, signed_cell, bits_least}
use Rattle.bit_circuit.proofs.circuit.Circuit.cell.Goals as goal

pub extend-requires-clause-a : goal.extend-requires-clause-a
extend-requires-clause-a c = inside_at _ c.args.cells.now c.args.at _ c.at-bus.ensures c.requires.cells.inside

pub extend-requires-clause-fill : goal.extend-requires-clause-fill
extend-requires-clause-fill c =
    let l : length c.at-bus.result.lits ≡ 32 = search rules in
    let h = bits_least c.width_of.result in
    are-get _ c.at-bus.result.lits (c.bits-bits.result - 1) _ (inside_at _ c.args.cells.now c.args.at _ c.at-bus.ensures c.requires.cells.inside) (omega (arith, h.0, h.1, c.bits-bits.ensures))

pub returns-then-signed : goal.returns-then-signed
returns-then-signed c =
    let l : length c.at-bus.result.lits ≡ 32 = search rules in
    signed_cell _ c.args.widths.now c.args.cells.now c.args.at c.bits-bits.result c.width_of.result c.at-bus.result (record { 0 = 0 }) _ c.args.signed c.if-signed.true c.requires.cells c.width_of.ensures c.at-bus.ensures l c.bits-bits.ensures c.extend.ensures

pub returns-else-signed : goal.returns-else-signed
returns-else-signed c =
    let l : length c.at-bus.result.lits ≡ 32 = search rules in
    plain_cell _ c.args.widths.now c.args.cells.now c.args.at c.at-bus.result c.args.signed c.if-signed.false c.requires.cells c.requires.at c.at-bus.ensures l
