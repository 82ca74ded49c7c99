use Rattle.std.proofs.Common.{length}
use Rattle.one_stack.proofs.points.+any_of.Given as goal

abbrev pub decreases-any_of : goal.decreases-any_of
decreases-any_of l = length l.traps.now
