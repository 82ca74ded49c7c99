use Rattle.std.proofs.Common.{◌≡◌, ◌-◌, ◌≤◌, length}
use Rattle.format.specs.Format.{ahead, times}
use Rattle.cert_form.specs.Words.{lined}
use Rattle.cert_form.specs.Certificate.{clause}
use Rattle.cert_form.specs.Texts.{tokens}
use Rattle.cert_form.proofs.clauses.clauses.Given as goal

abbrev pub invariant-loop-i : goal.invariant-loop-i
invariant-loop-i l = record {
  so_far : (times (λ _. lined (clause l.variables)) 0 l.count).read (tokens l.text) ≡ ahead l.formula.clauses ((times (λ _. lined (clause l.variables)) l.i (l.count - l.i)).read (tokens l.rest));
  same : l.formula.variables ≡ l.variables;
  shorter : length l.rest ≤ length l.text;
}
