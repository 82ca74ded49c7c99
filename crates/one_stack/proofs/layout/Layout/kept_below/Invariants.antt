use Rattle.std.proofs.Common.{◌≡◌, ◌≤◌, ◌*◌}
use Rattle.one_stack.specs.Built.{sum_below}
use Rattle.one_stack.proofs.layout.Layout.kept_below.Given as goal

abbrev pub invariant-loop-x : goal.invariant-loop-x
invariant-loop-x l = record { is : l.sum ≡ sum_below l._x (λ x. l.self.resources); few : l.sum ≤ 17 * l._x }
