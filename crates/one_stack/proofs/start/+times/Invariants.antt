use Rattle.std.proofs.Common.{length}
use Rattle.one_stack.proofs.start.+times.Given as goal

abbrev pub decreases-times : goal.decreases-times
decreases-times l = length l.tasks.now
