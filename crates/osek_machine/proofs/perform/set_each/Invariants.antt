use Rattle.osek_machine.proofs.CallSets.{IsSetting}
use Rattle.osek_machine.proofs.perform.set_each.Given as goal

abbrev pub invariant-loop-i : goal.invariant-loop-i
invariant-loop-i l = IsSetting l.initial.cells l.cells l.sets l.values l.i
