-- All points are in their places.
use Rattle.std.proofs.Common.{map, arith}
use Rattle.std.proofs.lemmas.List.{length-map}
use Rattle.step_ir.specs.Points.{plain_of}
use Rattle.lower.proofs.Exchanging.{all_exchanged, none_exchanged}
use Rattle.lower.proofs.copies.reordered.Goals as goal

pub returns : goal.returns
returns c =
    let l = length-map c.args.points plain_of in
    let e = c.len-at-end.ensures in
    let past = c.loop-at-test.false in
    let upper = c.loop-at.auto in
    all_exchanged c.args.first (map plain_of c.args.points) (omega (arith, l, c.requires.within)) _ c.loop-at.at (omega (arith, l, e, past)) (omega (arith, l, e, upper.at-end)) c.loop-at.invariant

pub returns-then-first-eq0 : goal.returns-then-first-eq0
returns-then-first-eq0 c = none_exchanged (map plain_of c.args.points) c.args.first c.if-first-eq0.true
