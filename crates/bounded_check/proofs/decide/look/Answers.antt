use Rattle.std.proofs.Common.{subst, sym}
use Rattle.bounded_check.proofs.Looking.{left_here, left_next}
use Rattle.bounded_check.proofs.decide.look.Goals as goal

pub look_at-requires : goal.look_at-requires
look_at-requires c =
    left_here c.loop-at.checker c.args.log.now c.loop-at.at c.in-Some.line.now c.loop-at.invariant (cc (c.in-Some.ensures))

pub loop-at-preserved : goal.loop-at-preserved
loop-at-preserved c =
    left_next c.loop-at.checker c.look_at.new.checker c.args.log.now c.loop-at.at c.in-Some.line.now c.loop-at.invariant (cc (c.in-Some.ensures)) c.in_ok-look_at.ensures
