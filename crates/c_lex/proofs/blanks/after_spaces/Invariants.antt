use Rattle.std.proofs.Common.{◌≡◌, ◌≤◌, length}
use Rattle.c_lex.specs.Blanks.{after_spaces}
use Rattle.c_lex.proofs.blanks.after_spaces.Given as goal

abbrev pub invariant-loop-length : goal.invariant-loop-length
invariant-loop-length l = record { same : after_spaces l.bytes ≡ after_spaces l.rest; within : length l.rest ≤ length l.bytes }

abbrev pub decreases-loop-length : goal.decreases-loop-length
decreases-loop-length l = length l.rest
