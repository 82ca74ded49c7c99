use Rattle.std.proofs.Common.{rules, sym, ◌∙◌}
use Rattle.std.proofs.lemmas.Result.{IfOk-weaker}
use Rattle.clause_form.proofs.Rising.{IsOf-more}
use Rattle.turn_unroll.proofs.Opening.{open_made, open_never}
use Rattle.turn_unroll.proofs.guards.open_where.Goals as goal

pub returns-then-eq : goal.returns-then-eq
returns-then-eq c = open_never _ c.args.at c.args.widths.now c.args.cells.now c.args.guard.now c.requires.truth (search rules)

pub and-requires-clause-a : goal.and-requires-clause-a
and-requires-clause-a c = IsOf-more _ _ c.args.at c.in_ok-truth.ensures.extends.grows (IsOf-more _ _ c.args.at c.in_ok-value.ensures.extends.grows c.requires.at)

pub returns : goal.returns
returns c = IfOk-weaker _ _ _ (λ r m. open_made _ _ _ _ c.args.at _ _ r c.args.widths.now c.args.cells.now c.args.guard.now _ c.in_ok-value.ensures c.in_ok-truth.ensures m) c.and.ensures
