use Rattle.std.proofs.Common.{◌∙◌, arith}
use Rattle.format.specs.Format.{times}
use Rattle.cert_form.specs.Words.{lined}
use Rattle.cert_form.specs.Certificate.{clause}
use Rattle.cert_form.specs.Texts.{tokens}
use Rattle.cert_form.proofs.Readers.{times_more}
use Rattle.cert_form.proofs.clauses.clauses.Goals as goal

pub loop-i-preserved : goal.loop-i-preserved
loop-i-preserved c = record {
  so_far = rw c.in_ok-push.ensures.ok (times_more (λ _. lined (clause c.args.variables)) ((times (λ _. lined (clause c.args.variables)) 0 c.args.count).read (tokens c.args.text.now)) c.loop-i.formula.clauses c.loop-i.i c.args.count (tokens c.loop-i.rest.now) (tokens c.in_ok-clause.after.now) c.in_ok-clause.clause c.loop-i-test.true c.loop-i.invariant.so_far c.in_ok-clause.ensures.gives);
  same = c.in_ok-push.ensures.variables ∙ c.loop-i.invariant.same;
  shorter = let a = c.in_ok-clause.ensures.shorter in let b = c.loop-i.invariant.shorter in omega (arith, a, b);
}
