use Rattle.oil_text.proofs.Cutting.{one_more}
use Rattle.oil_text.proofs.lexing.tokens.Goals as goal

pub loop-place-preserved : goal.loop-place-preserved
loop-place-preserved c =
    let begins = rw c.split_at.ensures.back at c.in-Some.ensures.found in
    let kept = rw (c.split_at-in-loop-place.ensures.front, c.split_at.ensures.back) at c.in_ok-keep.ensures in
    one_more c.args.text.now c.loop-place.tokens.items c.keep.new.tokens.items c.loop-place.place c.advance-place.result c.in-Some.found c.in-Some.len begins c.advance-place.ensures kept c.loop-place.invariant
