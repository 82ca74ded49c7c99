use Rattle.std.proofs.Common.{◌≡◌, drop, map}
use Rattle.step_ir.specs.Points.{item_of}
use Rattle.step_ir.specs.PointStep.{first}
use Rattle.lower.specs.Zeros.{at_zero}
use Rattle.lower.proofs.starts.first_running.Given as goal

-- none so far isn't 0
abbrev pub invariant-loop-next : goal.invariant-loop-next
invariant-loop-next l = first at_zero (map item_of l.nexts) ≡ first at_zero (map item_of (drop l.next-index l.nexts))
