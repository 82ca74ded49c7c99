use Rattle.std.proofs.Common.{◌≡◌, ◌++◌, drop}
use Rattle.std.specs.Prelude.{map}
use Rattle.step_ir.specs.Points.{item_of}
use Rattle.lower_pieces.proofs.steps.copy_traps.Given as goal

-- what is left of the traps
abbrev pub invariant-loop-trap : goal.invariant-loop-trap
invariant-loop-trap l = map item_of l.traps ≡ map item_of l.copied ++ map item_of (drop l.trap-index l.traps)
