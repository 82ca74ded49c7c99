use Rattle.std.proofs.Common.{◌-◌}
use Rattle.turn_unroll.specs.Demands.{Demands, each_implied}
use Rattle.turn_unroll.proofs.labels.demand_each.Given as goal

abbrev pub invariant-loop-i : goal.invariant-loop-i
invariant-loop-i l = Demands l.fn.circuit l.circuit l.fn.demands l.demands (λ v. each_implied v l.labels l.offered 1 (l.i - 1))
