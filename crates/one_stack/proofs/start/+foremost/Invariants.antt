use Rattle.std.proofs.Common.{length}
use Rattle.one_stack.proofs.start.+foremost.Given as goal

abbrev pub decreases-foremost : goal.decreases-foremost
decreases-foremost l = length l.tasks.now
