use Rattle.std.proofs.Common.{take}
use Rattle.turn_unroll.specs.Places.{AreMarked}
use Rattle.turn_unroll.proofs.guards.label_places.Given as goal

abbrev pub invariant-loop-i : goal.invariant-loop-i
invariant-loop-i l = AreMarked l.count (take l.i l.opened) l.places.items
