use Rattle.std.proofs.Common.{◌≡◌, ◌+◌, ◌-◌, ◌≤◌, length}
use Rattle.cert_form.specs.Parts.{rows_read}
use Rattle.cert_form.specs.Texts.{tokens}
use Rattle.cert_form.proofs.tables.rows.Given as goal

abbrev pub invariant-loop-turn : goal.invariant-loop-turn
invariant-loop-turn l = record {
  same : rows_read l.table l.variables l.width l.first l.count (tokens l.text) ≡ rows_read l.table l.variables l.width l.turn (l.first + l.count - l.turn) (tokens l.rest);
  shorter : length l.rest ≤ length l.text;
}
