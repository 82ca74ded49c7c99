use Rattle.replay.proofs.Names.{NoneNamed}
use Rattle.replay.proofs.schedule.routine_of.Given as goal

abbrev pub invariant-loop-i : goal.invariant-loop-i
invariant-loop-i l = NoneNamed l.routines l.i l.name
