use Rattle.std.proofs.Common.{◌≡◌, take}
use Rattle.turn_law.specs.Unrolled.{offers_from}
use Rattle.turn_unroll.specs.Ways.{offers_of}
use Rattle.turn_unroll.proofs.offers.all_offers.Given as goal

abbrev pub invariant-loop-i : goal.invariant-loop-i
invariant-loop-i l = offers_of l.all.items ≡ offers_from 0 (take l.i l.points)
