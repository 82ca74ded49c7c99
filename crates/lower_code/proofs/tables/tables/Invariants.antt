use Rattle.std.proofs.Common.{◌≡◌}
use Rattle.lower_code.specs.Tables.{table_to, tables_to}
use Rattle.lower_code.proofs.tables.tables.Given as goal

-- the tables so far, and the next one
abbrev pub invariant-loop-i : goal.invariant-loop-i
invariant-loop-i l = (l.tables ≡ tables_to l.functions l.i) × (l.table ≡ table_to l.functions l.i)
