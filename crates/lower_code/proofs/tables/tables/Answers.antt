-- All tables are there.
use Rattle.std.proofs.Common.{◌≡◌, length, sym, ap, ◌∙◌, arith}
use Rattle.lower_code.specs.Tables.{tables_to}
use Rattle.lower_code.proofs.Tabled.{count_tables}
use Rattle.lower_code.proofs.tables.tables.Goals as goal

pub returns : goal.returns
returns c =
    let functions = c.args.functions.now in
    let end : c.loop-i.i ≡ c.args.levels = omega (arith, c.loop-i-test.false, c.loop-i.auto.i-end) in
    let all = c.loop-i.invariant.0 ∙ ap (tables_to functions) end in
    let count = ap length all ∙ count_tables functions c.args.levels in
    record { levels = count; tables = all ∙ ap (tables_to functions) (sym count) }
