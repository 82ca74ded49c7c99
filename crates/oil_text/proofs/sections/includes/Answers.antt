use Rattle.std.proofs.Common.{sym, ◌∙◌, arith}
use Rattle.std.proofs.lemmas.Result.{err_from_is_err_and}
use Rattle.oil_text.specs.OilMeaning.{place_at}
use Rattle.oil_text.proofs.Repeated.{Includes, goes_on, stops_so, done_gives, done_means}
use Rattle.oil_text.proofs.sections.includes.Goals as goal

pub returns-in_err-place-clause-gives : goal.returns-in_err-place-clause-gives
returns-in_err-place-clause-gives c =
    let p = err_from_is_err_and c.from_residual.result c.from_residual.ensures.1 in
    rw (p.1, p.2) (stops_so Includes place_at c.args.places c.args.tokens.now c.loop-rest.rest.now c.loop-rest.found c.in_err-place.field-0.0 (sym c.is_next.ensures ∙ c.loop-rest-test.true) c.in_err-place.ensures.gives c.loop-rest.invariant.so_far)

pub loop-rest-preserved : goal.loop-rest-preserved
loop-rest-preserved c = record {
  so_far = goes_on Includes place_at c.args.places c.args.tokens.now c.loop-rest.rest.now c.loop-rest.found c.push.new.self c.in_ok-place.place c.in_ok-place.after.now (sym c.is_next.ensures ∙ c.loop-rest-test.true) c.in_ok-place.ensures.gives c.in_ok-place.ensures.means c.in_ok-push.ensures.ok c.loop-rest.invariant.so_far;
  shorter = omega (arith, c.in_ok-place.ensures.shorter, c.loop-rest.invariant.shorter);
}

pub returns-clause-gives : goal.returns-clause-gives
returns-clause-gives c = done_gives Includes place_at c.args.places c.args.tokens.now c.loop-rest.rest.now c.loop-rest.found (sym c.is_next.ensures ∙ c.loop-rest-test.false) c.loop-rest.invariant.so_far

pub returns-clause-means : goal.returns-clause-means
returns-clause-means c = done_means Includes place_at c.args.places c.args.tokens.now c.loop-rest.rest.now c.loop-rest.found (sym c.is_next.ensures ∙ c.loop-rest-test.false) c.loop-rest.invariant.so_far
