use Rattle.std.proofs.Common.{◌≡◌, length, rules, arith}
use Rattle.turn_unroll.proofs.Opening.{nonzero_made}
use Rattle.turn_unroll.proofs.guards.is_nonzero.Goals as goal

pub returns : goal.returns
returns c = nonzero_made _ _ c.args.bus.lits c.in_ok-truth.truth.lits _ c.in_ok-truth.ensures
