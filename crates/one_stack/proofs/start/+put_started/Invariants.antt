use Rattle.std.proofs.Common.{length}
use Rattle.one_stack.proofs.start.+put_started.Given as goal

abbrev pub decreases-put_started : goal.decreases-put_started
decreases-put_started l = length l.tasks.now
