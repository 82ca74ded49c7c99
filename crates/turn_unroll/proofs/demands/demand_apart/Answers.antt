use Rattle.turn_unroll.proofs.Demanding.{apart_made, on_ok}
use Rattle.turn_unroll.proofs.demands.demand_apart.Goals as goal

pub returns : goal.returns
returns c = on_ok c.demand.result _ _ (λ d. apart_made _ _ _ _ c.args.a c.args.b c.in_ok-clash.clash c.negated.result c.requires.truth c.requires.demands c.in_ok-clash.ensures c.negated.ensures.negation d) c.demand.ensures
