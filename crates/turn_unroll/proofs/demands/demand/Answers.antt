use Rattle.std.proofs.Common.{rules, ◌++◌, ◌≡◌, OnOk}
use Rattle.turn_unroll.specs.Demands.{IsDemanded}
use Rattle.turn_unroll.proofs.Demanding.{demanded_anyway, demanded_plain, on_ok}
use Rattle.turn_unroll.proofs.demands.demand.Goals as goal

pub returns-then-eq : goal.returns-then-eq
returns-then-eq c = demanded_anyway c.args.demands.now c.args.lit (search rules)

pub returns-else-eq : goal.returns-else-eq
returns-else-eq c = on_ok c.push.result _ _ (λ e. demanded_plain c.args.demands.now c.push.new.self c.args.lit e) c.push.ensures.ok
