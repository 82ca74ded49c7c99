use Rattle.one_stack.proofs.Tabling.{few_requests}
use Rattle.std.proofs.Common.{◌≤◌, sym, subst}
use Rattle.one_stack.proofs.laying.limit_of.Goals as goal

pub returns-clause-few : goal.returns-clause-few
returns-clause-few c = subst (λ n. n ≤ 8) (sym c.limit_at.ensures) (few_requests c.args.app.now c.requires c.args.t)
