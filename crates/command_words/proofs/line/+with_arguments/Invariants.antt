use Rattle.std.proofs.Common.{length}
use Rattle.command_words.proofs.line.+with_arguments.Given as goal

abbrev pub decreases-with_arguments : goal.decreases-with_arguments
decreases-with_arguments l = length l.names.now
