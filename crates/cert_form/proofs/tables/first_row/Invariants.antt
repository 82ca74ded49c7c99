use Rattle.std.proofs.Common.{◌≡◌, ◌≤◌, ◌<◌, length}
use Rattle.cert_form.specs.Parts.{first_row_read, first_rest_read}
use Rattle.cert_form.specs.Texts.{tokens}
use Rattle.cert_form.proofs.tables.first_row.Given as goal

abbrev pub invariant-items : goal.invariant-items
invariant-items l = record {
  same : first_row_read l.more l.variables (tokens l.text) ≡ first_rest_read l.more l.variables l.number (tokens l.rest);
  some : 1 ≤ l.number;
  at_most : l.number ≤ 17;
  shorter : length l.rest < length l.text;
}

abbrev pub decreases-items : goal.decreases-items
decreases-items l = length l.rest
