use Rattle.std.proofs.Common.{◌≡◌, ◌++◌, take}
use Rattle.guard_prog.specs.Drafts.{plain_alternatives}
use Rattle.turn_law.specs.Unrolled.{offers_here}
use Rattle.turn_unroll.specs.Ways.{offers_of}
use Rattle.turn_unroll.proofs.offers.push_point.Given as goal

abbrev pub invariant-loop-i : goal.invariant-loop-i
invariant-loop-i l = offers_of l.all.items ≡ offers_of l.fn.all.items ++ offers_here l.point (plain_alternatives (take l.i l.alternatives))
