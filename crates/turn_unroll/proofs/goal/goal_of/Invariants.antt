use Rattle.std.proofs.Common.{◌≡◌, ◌++◌, take}
use Rattle.turn_law.specs.Building.{free_of}
use Rattle.turn_unroll.specs.Goals.{front_of}
use Rattle.turn_unroll.proofs.goal.goal_of.Given as goal

abbrev pub invariant-loop-i : goal.invariant-loop-i
invariant-loop-i l = l.goal ≡ front_of l.failures ++ free_of (take l.i l.failures)
