use Rattle.std.proofs.Common.{◌-◌}
use Rattle.clause_form.specs.ClauseTruth.{is_lit_true}
use Rattle.turn_unroll.specs.Demands.{Demands, all_imply}
use Rattle.turn_unroll.proofs.words.demand_bits.Given as goal

abbrev pub invariant-loop-i : goal.invariant-loop-i
invariant-loop-i l = Demands l.fn.circuit l.circuit l.fn.demands l.demands (λ v. all_imply v l.word (is_lit_true v l.wide) l.from (l.i - l.from))
