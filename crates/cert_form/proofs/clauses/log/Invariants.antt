use Rattle.std.proofs.Common.{◌≡◌, ◌+◌, ◌≤◌, length}
use Rattle.format.specs.Format.{ahead}
use Rattle.cert_form.specs.Certificate.{log}
use Rattle.cert_form.specs.Texts.{tokens}
use Rattle.cert_form.proofs.clauses.log.Given as goal

abbrev pub invariant-items : goal.invariant-items
invariant-items l = record {
  so_far : (log l.variables l.first).read (tokens l.text) ≡ ahead l.log ((log l.variables l.own).read (tokens l.rest));
  room : l.own + length l.rest ≤ l.first + length l.text;
  shorter : length l.rest ≤ length l.text;
}

abbrev pub decreases-items : goal.decreases-items
decreases-items l = length l.rest
