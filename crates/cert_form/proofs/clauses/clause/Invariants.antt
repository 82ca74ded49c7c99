use Rattle.std.proofs.Common.{◌≡◌, ◌≤◌, length, true}
use Rattle.clause_form.specs.Literals.{is_within, last_variable}
use Rattle.format.specs.Format.{ahead}
use Rattle.cert_form.specs.Certificate.{clause, clause_from}
use Rattle.cert_form.specs.Texts.{tokens}
use Rattle.cert_form.proofs.clauses.clause.Given as goal

abbrev pub invariant-items : goal.invariant-items
invariant-items l = record {
  so_far : (clause l.variables).read (tokens l.text) ≡ ahead l.clause ((clause_from l.variables l.above).read (tokens l.rest));
  last : l.above ≡ last_variable 0 l.clause;
  at_most : l.above ≤ l.variables;
  inside : is_within l.variables l.clause ≡ true;
  shorter : length l.rest ≤ length l.text;
}

abbrev pub decreases-items : goal.decreases-items
decreases-items l = length l.rest
