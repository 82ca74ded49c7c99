use Rattle.std.proofs.Common.{length}
use Rattle.static_rules.specs.Chains.{called_after}
use Rattle.static_rules.specs.Found.{IsTable}
use Rattle.static_rules.proofs.found.called_after.Given as goal

-- the calls so far
abbrev pub invariant-loop-after : goal.invariant-loop-after
invariant-loop-after l = IsTable l.flags.items (length l.bodies) (called_after l.bodies l.start l.after)
