use Rattle.std.proofs.Common.{◌≡◌, ◌≤◌, ◌*◌}
use Rattle.one_stack.specs.Built.{sum_below}
use Rattle.one_stack.specs.Tables.{room_in}
use Rattle.one_stack.proofs.layout.Layout.places_below.Given as goal

abbrev pub invariant-loop-l : goal.invariant-loop-l
invariant-loop-l l = record { is : l.sum ≡ sum_below l.l (room_in l.self); few : l.sum ≤ 128 * l.l }
