use Rattle.std.proofs.Common.{◌≡◌, take}
use Rattle.one_stack.specs.Laid.{counts_of}
use Rattle.one_stack.proofs.laying.counts_of.Given as goal

abbrev pub invariant-loop-entity : goal.invariant-loop-entity
invariant-loop-entity l = l.counts.items ≡ counts_of (take l.entity-index l.entities)
