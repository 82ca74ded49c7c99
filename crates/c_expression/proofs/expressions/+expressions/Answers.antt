-- A loop over a level: one operand more, a stop within an operand, and the end. A first operand and what follows it.
use Rattle.std.proofs.Common.{◌≡◌, ◌-◌, suc, length, arith}
use Rattle.std.proofs.lemmas.Result.{err_from_is_err_and}
use Rattle.grammar.specs.Grammar.{Many, Rule}
use Rattle.c_grammar.specs.Factored.{TheExpression, TheLevel, after, all_joined}
use Rattle.c_grammar.specs.Written.{choice}
use Rattle.c_expression.proofs.Chains.{more, starts, goes_on_linked, breaks, done_gives, done_means, joined_gives, joined_means}
use Rattle.c_expression.proofs.Operands.{after_means, expression_stops, expression_gives, expression_means, level_stops, level_gives, level_means}
use Rattle.c_expression.proofs.Parts.{first_stops, then_gives, stops_give, still_shorter}
use Rattle.c_expression.proofs.expressions.+expressions.Goals as goal

pub chain-items-init : goal.chain-items-init
chain-items-init t c = record { read = starts c.args.level c.requires c.args.first c.args.tokens.now; not_longer = omega arith }

pub chain-returns-in_err-operand-clause-gives : goal.chain-returns-in_err-operand-clause-gives
chain-returns-in_err-operand-clause-gives t c =
    let p = err_from_is_err_and c.from_residual.result c.from_residual.ensures.1 in
    stops_give (λ x. x.1.now) (Many (more c.args.level)) c.from_residual.result c.args.tokens.now p.0 c.in_err-operand.field-0.0 p.1 p.2 (breaks c.args.level c.requires c.args.first c.args.tokens.now c.items.rest.now c.items.so_far c.in-Some.after.now c.in_err-operand.field-0.0 c.in-Some.ensures.begins c.in-Some.ensures.gives c.in_err-operand.ensures.gives c.items.invariant.read)

pub chain-returns-clause-gives : goal.chain-returns-clause-gives
chain-returns-clause-gives t c = done_gives c.args.level c.requires c.args.first c.args.tokens.now c.items.rest.now c.items.so_far c.in_default.ensures.none c.items.invariant.read

pub chain-returns-clause-means : goal.chain-returns-clause-means
chain-returns-clause-means t c = done_means c.args.level c.requires c.args.first c.args.tokens.now c.items.rest.now c.items.so_far c.in_default.ensures.none c.items.invariant.read

pub chain-items-preserved : goal.chain-items-preserved
chain-items-preserved t c = record {
  read = goes_on_linked c.args.level c.requires c.args.first c.args.tokens.now c.items.rest.now c.items.so_far c.in-Some.place c.in-Some.binary c.in-Some.after.now c.in_ok-operand.operand c.in_ok-operand.after.now c.in_ok-next.next c.in_ok-next.ensures
      c.in-Some.ensures.begins c.in-Some.ensures.gives c.in-Some.ensures.place c.in-Some.ensures.means c.in_ok-operand.ensures.gives c.in_ok-operand.ensures.means c.items.invariant.read;
  not_longer = still_shorter (length c.args.tokens.now) (length c.items.rest.now) (length c.in-Some.after.now) (length c.in_ok-operand.after.now) c.items.invariant.not_longer c.in-Some.ensures.shorter c.in_ok-operand.ensures.shorter;
}

pub joined-returns-clause-gives : goal.joined-returns-clause-gives
joined-returns-clause-gives t c =
    let e : c.args.level ≡ suc (c.args.level - 1) = omega (arith, c.if-level-eq0.false) in
    joined_gives (λ x. x.1.now) (λ x. x.0) c.args.level (c.args.level - 1) e c.chain.result c.args.tokens.now c.in_ok-left.rest.now c.in_ok-left.ensures.gives c.chain.ensures.gives

pub joined-returns-clause-means : goal.joined-returns-clause-means
joined-returns-clause-means t c =
    let e : c.args.level ≡ suc (c.args.level - 1) = omega (arith, c.if-level-eq0.false) in
    joined_means (λ x. x.1.now) (λ x. x.0) c.args.level (c.args.level - 1) e c.chain.result c.args.first c.in_ok-left.left c.args.tokens.now c.in_ok-left.rest.now c.in_ok-left.ensures.gives c.in_ok-left.ensures.means c.chain.ensures.gives c.chain.ensures.means

pub all_joined-returns-clause-gives : goal.all_joined-returns-clause-gives
unfolding all_joined
all_joined-returns-clause-gives t c = c.joined.ensures.gives

pub all_joined-returns-clause-means : goal.all_joined-returns-clause-means
unfolding all_joined
all_joined-returns-clause-means t c = c.joined.ensures.means

pub expression-returns-in_err-first-clause-gives : goal.expression-returns-in_err-first-clause-gives
expression-returns-in_err-first-clause-gives t c =
    let p = err_from_is_err_and c.from_residual.result c.from_residual.ensures.1 in
    stops_give (λ x. x.1.now) (Rule TheExpression) c.from_residual.result c.args.tokens.now p.0 c.in_err-first.field-0.0 p.1 p.2 (expression_stops c.args.tokens.now c.in_err-first.field-0.0 c.in_err-first.ensures.gives)

pub expression-returns-clause-gives : goal.expression-returns-clause-gives
expression-returns-clause-gives t c = expression_gives (λ x. x.1.now) c.after.result c.args.tokens.now c.in_ok-first.rest.now c.in_ok-first.ensures.gives c.after.ensures.gives

pub expression-returns-clause-means : goal.expression-returns-clause-means
expression-returns-clause-means t c = expression_means (λ x. x.1.now) (λ x. x.0) c.after.result c.in_ok-first.first c.args.tokens.now c.in_ok-first.rest.now c.in_ok-first.ensures.gives c.in_ok-first.ensures.means c.after.ensures.gives c.after.ensures.means

pub operand-returns-in_err-first-clause-gives : goal.operand-returns-in_err-first-clause-gives
operand-returns-in_err-first-clause-gives t c =
    let p = err_from_is_err_and c.from_residual.result c.from_residual.ensures.1 in
    stops_give (λ x. x.1.now) (Rule (TheLevel c.args.level)) c.from_residual.result c.args.tokens.now p.0 c.in_err-first.field-0.0 p.1 p.2 (level_stops c.args.level c.requires c.args.tokens.now c.in_err-first.field-0.0 c.in_err-first.ensures.gives)

pub operand-returns-clause-gives : goal.operand-returns-clause-gives
operand-returns-clause-gives t c = level_gives (λ x. x.1.now) c.args.level c.requires c.joined.result c.args.tokens.now c.in_ok-first.rest.now c.in_ok-first.ensures.gives c.joined.ensures.gives

pub operand-returns-clause-means : goal.operand-returns-clause-means
operand-returns-clause-means t c = level_means (λ x. x.1.now) (λ x. x.0) c.args.level c.requires c.joined.result c.in_ok-first.first c.args.tokens.now c.in_ok-first.rest.now c.in_ok-first.ensures.gives c.in_ok-first.ensures.means c.joined.ensures.gives c.joined.ensures.means

pub after-returns-in_err-value-clause-gives : goal.after-returns-in_err-value-clause-gives
after-returns-in_err-value-clause-gives t c =
    let p = err_from_is_err_and c.from_residual.result c.from_residual.ensures.1 in
    stops_give (λ x. x.1.now) after c.from_residual.result c.args.tokens.now p.0 c.in_err-value.field-0.0 p.1 p.2 (first_stops all_joined (choice TheExpression) c.args.tokens.now c.in_err-value.field-0.0 c.in_err-value.ensures.gives)

pub after-returns-clause-gives : goal.after-returns-clause-gives
after-returns-clause-gives t c = then_gives (λ x. x.1.now) all_joined (choice TheExpression) c.choice.result c.args.tokens.now c.in_ok-value.rest.now c.in_ok-value.ensures.gives c.choice.ensures.gives

pub after-returns-clause-means : goal.after-returns-clause-means
after-returns-clause-means t c = after_means (λ x. x.1.now) (λ x. x.0) c.choice.result c.args.first c.in_ok-value.value c.args.tokens.now c.in_ok-value.rest.now c.in_ok-value.ensures.gives c.in_ok-value.ensures.means c.choice.ensures.gives c.choice.ensures.means
