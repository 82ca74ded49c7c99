use Rattle.std.proofs.Common.{◌≡◌}
use Rattle.one_stack.specs.Built.{sum_below}
use Rattle.one_stack.specs.Tables.{count_in}
use Rattle.one_stack.proofs.layout.Layout.points_before.Given as goal

abbrev pub invariant-loop-x : goal.invariant-loop-x
invariant-loop-x l = l.sum ≡ sum_below l.x (count_in l.self)
