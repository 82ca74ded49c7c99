use Rattle.std.proofs.Common.{◌≡◌, length, rules, arith}
use Rattle.turn_unroll.proofs.Setting.{lowest_number, lowest_inside}
use Rattle.turn_unroll.proofs.cells.lowest.Goals as goal

pub returns-clause-number : goal.returns-clause-number
returns-clause-number c =
    let n : length c.args.bus.lits ≡ 32 = search rules in
    λ v o. lowest_number v c.args.bus.lits _ o (omega arith)

pub returns-clause-inside : goal.returns-clause-inside
returns-clause-inside c =
    let k : length c.args.bus.lits ≡ 32 = search rules in
    λ n h o. lowest_inside n c.args.bus.lits _ h (omega arith) o
