use Rattle.std.proofs.Common.{length}
use Rattle.one_stack.proofs.start.+put_without.Given as goal

abbrev pub decreases-put_without : goal.decreases-put_without
decreases-put_without l = length l.tasks.now
