use Rattle.std.proofs.Common.{◌≡◌, ◌-◌, ◌≤◌, length}
use Rattle.cert_form.specs.Parts.{labels_read}
use Rattle.cert_form.specs.Texts.{tokens}
use Rattle.cert_form.proofs.labels.labels.Given as goal

abbrev pub invariant-loop-number : goal.invariant-loop-number
invariant-loop-number l = record {
  same : labels_read 0 l.count (tokens l.text) ≡ labels_read l.number (l.count - l.number) (tokens l.rest);
  shorter : length l.rest ≤ length l.text;
}
