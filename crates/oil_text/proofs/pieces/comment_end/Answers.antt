use Rattle.oil_text.proofs.PieceLaws.{star_at, other_at, star_alone, comment_open}
use Rattle.oil_text.proofs.pieces.comment_end.Goals.{else-bytes-at-eq42-via-then-bytes-at-eq42+else-bytes-at-eq47, else-bytes-at-eq42-via-else-bytes-at-eq42}
use Rattle.oil_text.proofs.pieces.comment_end.Goals as goal

pub returns-then-bytes-at-eq47-clause-found : goal.returns-then-bytes-at-eq47-clause-found
returns-then-bytes-at-eq47-clause-found c = star_at c.args.bytes.now c.loop-at.at c.loop-at-test.true c.if-bytes-at-eq42.true c.if-bytes-at-eq47.true c.loop-at.invariant

pub loop-at-preserved : goal.loop-at-preserved
loop-at-preserved c =
    elim c.else-bytes-at-eq42.branch [
      | else-bytes-at-eq42-via-then-bytes-at-eq42+else-bytes-at-eq47 w ↦ star_alone c.args.bytes.now c.loop-at.at c.loop-at-test.true w.if-bytes-at-eq47.false c.loop-at.invariant
      | else-bytes-at-eq42-via-else-bytes-at-eq42 w ↦ other_at c.args.bytes.now c.loop-at.at c.loop-at-test.true w.if-bytes-at-eq42.false c.loop-at.invariant
    ]

pub returns-clause-none : goal.returns-clause-none
returns-clause-none c = comment_open c.args.bytes.now c.loop-at.at c.loop-at-test.false c.loop-at.invariant
