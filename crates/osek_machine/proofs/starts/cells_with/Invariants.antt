use Rattle.osek_machine.proofs.StartWords.{IsSetUpTo}
use Rattle.osek_machine.proofs.starts.cells_with.Given as goal

abbrev pub invariant-loop-i : goal.invariant-loop-i
invariant-loop-i l = IsSetUpTo l.words l.cells l.i
