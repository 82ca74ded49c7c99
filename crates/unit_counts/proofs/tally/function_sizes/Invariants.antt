use Rattle.std.proofs.Common.{◌≡◌, map, take}
use Rattle.unit_counts.specs.Tallies.{function_size}
use Rattle.unit_counts.proofs.tally.function_sizes.Given as goal

abbrev pub invariant-loop-f : goal.invariant-loop-f
invariant-loop-f l = l.sizes ≡ map function_size (take l.f-index l.functions)
