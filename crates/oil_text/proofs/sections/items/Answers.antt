use Rattle.std.proofs.Common.{[], sym, ◌∙◌, arith}
use Rattle.std.proofs.lemmas.Result.{err_from_is_err_and}
use Rattle.oil_text.specs.OilMeaning.{item_at}
use Rattle.oil_text.proofs.Repeated.{InCpu, goes_on, stops_so, done_gives, done_means}
use Rattle.oil_text.proofs.sections.items.Goals as goal

pub returns-in_err-item-clause-gives : goal.returns-in_err-item-clause-gives
returns-in_err-item-clause-gives c =
    let p = err_from_is_err_and c.from_residual.result c.from_residual.ensures.1 in
    rw (p.1, p.2) (stops_so InCpu item_at [] c.args.tokens.now c.loop-alloc.rest.now c.loop-alloc.items c.in_err-item.field-0.0 (sym c.is_item.ensures ∙ c.loop-alloc-test.true) c.in_err-item.ensures.gives c.loop-alloc.invariant.so_far)

pub loop-alloc-preserved : goal.loop-alloc-preserved
loop-alloc-preserved c = record {
  so_far = goes_on InCpu item_at [] c.args.tokens.now c.loop-alloc.rest.now c.loop-alloc.items c.push.new.self c.in_ok-item.item c.in_ok-item.after.now (sym c.is_item.ensures ∙ c.loop-alloc-test.true) c.in_ok-item.ensures.gives c.in_ok-item.ensures.means c.in_ok-push.ensures.ok c.loop-alloc.invariant.so_far;
  shorter = omega (arith, c.in_ok-item.ensures.shorter, c.loop-alloc.invariant.shorter);
}

pub returns-clause-gives : goal.returns-clause-gives
returns-clause-gives c = done_gives InCpu item_at [] c.args.tokens.now c.loop-alloc.rest.now c.loop-alloc.items (sym c.is_item.ensures ∙ c.loop-alloc-test.false) c.loop-alloc.invariant.so_far

pub returns-clause-means : goal.returns-clause-means
returns-clause-means c = done_means InCpu item_at [] c.args.tokens.now c.loop-alloc.rest.now c.loop-alloc.items (sym c.is_item.ensures ∙ c.loop-alloc-test.false) c.loop-alloc.invariant.so_far
