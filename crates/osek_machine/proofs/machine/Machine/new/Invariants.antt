use Rattle.osek_machine.proofs.machine.Machine.new.Given as goal
use Rattle.osek_machine.specs.Beginning.{IsStarting}

abbrev pub invariant-loop-t : goal.invariant-loop-t
invariant-loop-t l = IsStarting l.app l.code l.t l.machine
