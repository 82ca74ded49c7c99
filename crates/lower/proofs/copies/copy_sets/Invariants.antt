use Rattle.std.proofs.Common.{◌≡◌, ◌++◌, drop}
use Rattle.std.specs.Prelude.{map}
use Rattle.step_ir.specs.Points.{set_of}
use Rattle.lower.proofs.copies.copy_sets.Given as goal

-- what is left of the sets
abbrev pub invariant-loop-one : goal.invariant-loop-one
invariant-loop-one l = map set_of l.sets ≡ map set_of l.copied ++ map set_of (drop l.one-index l.sets)
