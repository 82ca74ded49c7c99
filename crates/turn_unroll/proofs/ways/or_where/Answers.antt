use Rattle.std.proofs.Common.{sym, ◌∙◌}
use Rattle.std.proofs.lemmas.Result.{IfOk-weaker}
use Rattle.turn_unroll.specs.Ways.{holds_of}
use Rattle.turn_unroll.proofs.Waying.{joined, skipped}
use Rattle.turn_unroll.proofs.ways.or_where.Goals as goal

pub returns-then-holds : goal.returns-then-holds
returns-then-holds c = IfOk-weaker _ _ _ (λ r m. joined _ _ (holds_of c.args.test) c.args.some r c.args.way (sym c.holds.ensures ∙ c.if-holds.true) m) c.or.ensures

pub returns-else-holds : goal.returns-else-holds
returns-else-holds c = skipped _ (holds_of c.args.test) c.args.some c.args.way c.requires.some (sym c.holds.ensures ∙ c.if-holds.false)
