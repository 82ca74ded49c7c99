use Rattle.std.proofs.Common.{length}
use Rattle.one_stack.proofs.start.+mark_at.Given as goal

abbrev pub decreases-mark_at : goal.decreases-mark_at
decreases-mark_at l = length l.tasks.now
