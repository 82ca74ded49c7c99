use Rattle.std.proofs.Common.{◌≡◌, ◌+◌, ◌-◌, ◌≤◌, length}
use Rattle.cert_form.specs.Parts.{row_read}
use Rattle.cert_form.specs.Texts.{tokens}
use Rattle.cert_form.proofs.tables.row.Given as goal

abbrev pub invariant-loop-number : goal.invariant-loop-number
invariant-loop-number l = record {
  same : row_read l.table l.variables l.turn l.first l.count (tokens l.text) ≡ row_read l.table l.variables l.turn l.number (l.first + l.count - l.number) (tokens l.rest);
  shorter : length l.rest ≤ length l.text;
}
