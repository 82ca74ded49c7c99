use Rattle.std.proofs.Common.{◌≡◌, ◌++◌, drop}
use Rattle.std.specs.Prelude.{map}
use Rattle.step_ir.specs.Points.{item_of}
use Rattle.lower_pieces.proofs.steps.push_nexts.Given as goal

-- what is left of the nexts
abbrev pub invariant-loop-next : goal.invariant-loop-next
invariant-loop-next l = map item_of l.initial.nexts ++ map item_of l.more ≡ map item_of l.nexts ++ map item_of (drop l.next-index l.more)
