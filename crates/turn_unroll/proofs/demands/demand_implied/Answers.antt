use Rattle.turn_unroll.proofs.Demanding.{implied_made, on_ok}
use Rattle.turn_unroll.proofs.demands.demand_implied.Goals as goal

pub returns : goal.returns
returns c = on_ok c.demand.result _ _ (λ d. implied_made _ _ _ _ c.args.a c.negated.result c.args.b c.in_ok-implied.implied c.requires.truth c.negated.ensures.negation c.requires.demands c.in_ok-implied.ensures d) c.demand.ensures
