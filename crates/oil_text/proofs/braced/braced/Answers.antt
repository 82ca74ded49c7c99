use Rattle.std.proofs.Common.{◌≡◌, ◌+◌, ◌<◌, length, arith}
use Rattle.std.proofs.lemmas.Result.{err_from_is_err_and}
use Rattle.oil_text.proofs.Braces.{opens, stops_first, goes_on, ends, closes}
use Rattle.oil_text.proofs.braced.braced.Goals as goal

pub returns-in_err-after_first-clause-gives : goal.returns-in_err-after_first-clause-gives
returns-in_err-after_first-clause-gives c =
    let p = err_from_is_err_and c.from_residual.result c.from_residual.ensures.1 in
    rw (p.1, p.2) (stops_first c.args.tokens.now c.in_err-after_first.field-0.0 c.in_err-after_first.ensures.gives)

pub loop-depth-init : goal.loop-depth-init
loop-depth-init c = record {
  so_far = opens c.args.tokens.now c.in_ok-after_first.after_first.now _ c.in_ok-after_first.ensures.gives;
  few = omega (arith, c.in_ok-after_first.ensures.shorter);
  shorter = c.in_ok-after_first.ensures.shorter;
}

pub returns-then-is_empty-clause-gives : goal.returns-then-is_empty-clause-gives
returns-then-is_empty-clause-gives c = ends c.args.tokens.now c.loop-depth.depth c.loop-depth.rest.now (omega (arith, c.loop-depth-test.true)) (search (arith, c.is_empty.ensures, c.if-is_empty.true)) c.loop-depth.invariant.so_far

pub loop-depth-preserved : goal.loop-depth-preserved
loop-depth-preserved c =
    let some : 0 < length c.loop-depth.rest.now = search (arith, c.is_empty.ensures, c.if-is_empty.false) in
    let left : length c.split_at.result.1.now + 1 ≡ length c.loop-depth.rest.now = c.split_at.ensures.back_len in
    record {
      so_far = rw (c.depth_after-depth.ensures.depth, c.split_at.ensures.back) (goes_on c.args.tokens.now c.loop-depth.depth c.loop-depth.rest.now c.index-rest-0.result (omega (arith, c.loop-depth-test.true)) some c.loop-depth.invariant.so_far);
      few = omega (arith, some, c.depth_after-depth.ensures.few, left, c.loop-depth.invariant.few);
      shorter = omega (arith, some, left, c.loop-depth.invariant.shorter);
    }

pub returns-clause-gives : goal.returns-clause-gives
returns-clause-gives c = closes c.args.tokens.now c.loop-depth.depth c.loop-depth.rest.now (omega (arith, c.loop-depth-test.false)) c.loop-depth.invariant.so_far
