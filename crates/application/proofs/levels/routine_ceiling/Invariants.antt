use Rattle.std.proofs.Common.{◌≡◌, take, filter}
use Rattle.application.specs.Levels.{greatest, routine_levels_of, routine_declares}
use Rattle.application.proofs.levels.routine_ceiling.Given as goal

-- the greatest level so far
abbrev pub invariant-loop-routine : goal.invariant-loop-routine
invariant-loop-routine l = l.highest ≡ greatest (routine_levels_of (filter (routine_declares l.resource) (take l.routine-index l.routines)))
