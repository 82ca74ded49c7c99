use Rattle.std.proofs.Common.{◌≡◌, ◌≤◌, length}
use Rattle.format.specs.Format.{ahead}
use Rattle.cert_form.specs.Certificate.{hints}
use Rattle.cert_form.specs.Texts.{tokens}
use Rattle.cert_form.proofs.clauses.hints.Given as goal

abbrev pub invariant-items : goal.invariant-items
invariant-items l = record {
  so_far : (hints l.own).read (tokens l.text) ≡ ahead l.hints ((hints l.own).read (tokens l.rest));
  shorter : length l.rest ≤ length l.text;
}

abbrev pub decreases-items : goal.decreases-items
decreases-items l = length l.rest
