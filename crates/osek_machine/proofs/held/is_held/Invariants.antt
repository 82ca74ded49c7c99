use Rattle.std.proofs.Common.{◌≡◌, drop}
use Rattle.osek_machine.proofs.held.is_held.Given as goal
use Rattle.osek_machine.specs.Held.{any_holds}

abbrev pub invariant-loop-i : goal.invariant-loop-i
invariant-loop-i l = any_holds l.resource l.held ≡ any_holds l.resource (drop l.i l.held)
