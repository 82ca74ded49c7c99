use Rattle.std.proofs.Common.{◌≡◌, length, rules, arith}
use Rattle.std.proofs.lemmas.Result.{IfOk-weaker}
use Rattle.bit_circuit.specs.declared.bus.Bus.{Bus}
use Rattle.turn_unroll.proofs.Setting.{masked_lowest, masked_part8, masked_part16, masked_whole}
use Rattle.turn_unroll.proofs.cells.masked.Goals as goal

pub returns-in-W1 : goal.returns-in-W1
returns-in-W1 c =
    let n : length c.lowest.result.lits ≡ 32 = search rules in
    masked_lowest _ c.args.bus.lits c.lowest.result.lits c.args.width c.in-W1.is n c.requires.truth (c.lowest.ensures.inside _ c.requires.truth.starts c.requires.bus) c.lowest.ensures.number

pub returns-in-W8 : goal.returns-in-W8
returns-in-W8 c = IfOk-weaker _ _ _ (λ (r : Bus) m. masked_part8 _ _ c.args.bus.lits r.lits c.args.width c.in-W8.is m) c.unary.ensures

pub returns-in-W16 : goal.returns-in-W16
returns-in-W16 c = IfOk-weaker _ _ _ (λ (r : Bus) m. masked_part16 _ _ c.args.bus.lits r.lits c.args.width c.in-W16.is m) c.unary-in-W16.ensures

pub returns-in-W32 : goal.returns-in-W32
returns-in-W32 c =
    let n : length c.args.bus.lits ≡ 32 = search rules in
    masked_whole _ c.args.bus.lits c.args.width c.in-W32.is n c.requires.bus
