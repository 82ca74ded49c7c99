use Rattle.std.proofs.Common.{◌≡◌, take}
use Rattle.turn_unroll.specs.Offers.{greatest_of}
use Rattle.turn_unroll.specs.Ways.{offers_of}
use Rattle.turn_unroll.proofs.offers.greatest_label.Given as goal

abbrev pub invariant-loop-i : goal.invariant-loop-i
invariant-loop-i l = l.most ≡ greatest_of (offers_of (take l.i l.offers))
