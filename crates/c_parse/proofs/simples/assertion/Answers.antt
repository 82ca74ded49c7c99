-- A stop within an assertion, and all of it.
use Rattle.std.proofs.Common.{refl}
use Rattle.std.proofs.lemmas.Result.{err_from_is_err_and}
use Rattle.grammar.specs.Grammar.{Rule, ◌▸◌}
use Rattle.c_grammar.specs.declared.symbol.Symbol.TheVariants.{Assert, LeftParenthesis, RightParenthesis}
use Rattle.c_grammar.specs.Factored.{TheExpression}
use Rattle.c_grammar.specs.Written.{spelled}
use Rattle.c_parse.proofs.Chains.{stops_first, stops_second, tree_both, reads_both}
use Rattle.c_parse.proofs.simples.assertion.Goals as goal

pub returns-in_err-place-clause-gives : goal.returns-in_err-place-clause-gives
returns-in_err-place-clause-gives c =
    let p = err_from_is_err_and c.from_residual.result c.from_residual.ensures.1 in
    let s0 = stops_first (spelled Assert) (spelled LeftParenthesis ▸ Rule TheExpression ▸ spelled RightParenthesis) c.args.tokens.now c.in_err-place.field-0.0 c.in_err-place.ensures.gives in
    rw (p.1, p.2) s0

pub returns-in_err-rest-clause-gives : goal.returns-in_err-rest-clause-gives
returns-in_err-rest-clause-gives c =
    let p = err_from_is_err_and c.from_residual-in_err-rest.result c.from_residual-in_err-rest.ensures.1 in
    let s1 = stops_first (spelled LeftParenthesis) (Rule TheExpression ▸ spelled RightParenthesis) c.in_ok-place.rest.now c.in_err-rest.field-0.0 c.in_err-rest.ensures.gives in
    let s0 = stops_second (spelled Assert) (spelled LeftParenthesis ▸ Rule TheExpression ▸ spelled RightParenthesis) c.args.tokens.now c.in_ok-place.rest.now c.in_err-rest.field-0.0 c.in_ok-place.ensures.gives s1 in
    rw (p.1, p.2) s0

pub returns-in_err-condition-clause-gives : goal.returns-in_err-condition-clause-gives
returns-in_err-condition-clause-gives c =
    let p = err_from_is_err_and c.from_residual-in_err-condition.result c.from_residual-in_err-condition.ensures.1 in
    let s2 = stops_first (Rule TheExpression) (spelled RightParenthesis) c.in_ok-rest.rest.now c.in_err-condition.field-0.0 c.in_err-condition.ensures.gives in
    let s1 = stops_second (spelled LeftParenthesis) (Rule TheExpression ▸ spelled RightParenthesis) c.in_ok-place.rest.now c.in_ok-rest.rest.now c.in_err-condition.field-0.0 c.in_ok-rest.ensures.gives s2 in
    let s0 = stops_second (spelled Assert) (spelled LeftParenthesis ▸ Rule TheExpression ▸ spelled RightParenthesis) c.args.tokens.now c.in_ok-place.rest.now c.in_err-condition.field-0.0 c.in_ok-place.ensures.gives s1 in
    rw (p.1, p.2) s0

pub returns-in_err-rest-2-clause-gives : goal.returns-in_err-rest-2-clause-gives
returns-in_err-rest-2-clause-gives c =
    let p = err_from_is_err_and c.from_residual-in_err-rest-2.result c.from_residual-in_err-rest-2.ensures.1 in
    let s2 = stops_second (Rule TheExpression) (spelled RightParenthesis) c.in_ok-rest.rest.now c.in_ok-condition.rest.now c.in_err-rest-2.field-0.0 c.in_ok-condition.ensures.gives c.in_err-rest-2.ensures.gives in
    let s1 = stops_second (spelled LeftParenthesis) (Rule TheExpression ▸ spelled RightParenthesis) c.in_ok-place.rest.now c.in_ok-rest.rest.now c.in_err-rest-2.field-0.0 c.in_ok-rest.ensures.gives s2 in
    let s0 = stops_second (spelled Assert) (spelled LeftParenthesis ▸ Rule TheExpression ▸ spelled RightParenthesis) c.args.tokens.now c.in_ok-place.rest.now c.in_err-rest-2.field-0.0 c.in_ok-place.ensures.gives s1 in
    rw (p.1, p.2) s0

pub returns-clause-gives : goal.returns-clause-gives
returns-clause-gives c =
    let r2 = reads_both (Rule TheExpression) (spelled RightParenthesis) c.in_ok-rest.rest.now c.in_ok-condition.rest.now c.in_ok-rest-2.rest.now c.in_ok-condition.ensures.gives c.in_ok-rest-2.ensures.gives in
    let r1 = reads_both (spelled LeftParenthesis) (Rule TheExpression ▸ spelled RightParenthesis) c.in_ok-place.rest.now c.in_ok-rest.rest.now c.in_ok-rest-2.rest.now c.in_ok-rest.ensures.gives r2 in
    let r0 = reads_both (spelled Assert) (spelled LeftParenthesis ▸ Rule TheExpression ▸ spelled RightParenthesis) c.args.tokens.now c.in_ok-place.rest.now c.in_ok-rest-2.rest.now c.in_ok-place.ensures.gives r1 in
    r0

pub returns-clause-means : goal.returns-clause-means
returns-clause-means c =
    let r2 = reads_both (Rule TheExpression) (spelled RightParenthesis) c.in_ok-rest.rest.now c.in_ok-condition.rest.now c.in_ok-rest-2.rest.now c.in_ok-condition.ensures.gives c.in_ok-rest-2.ensures.gives in
    let r1 = reads_both (spelled LeftParenthesis) (Rule TheExpression ▸ spelled RightParenthesis) c.in_ok-place.rest.now c.in_ok-rest.rest.now c.in_ok-rest-2.rest.now c.in_ok-rest.ensures.gives r2 in
    let t0 = tree_both (spelled Assert) (spelled LeftParenthesis ▸ Rule TheExpression ▸ spelled RightParenthesis) c.args.tokens.now c.in_ok-place.rest.now c.in_ok-rest-2.rest.now c.in_ok-place.ensures.gives r1 in
    let t1 = tree_both (spelled LeftParenthesis) (Rule TheExpression ▸ spelled RightParenthesis) c.in_ok-place.rest.now c.in_ok-rest.rest.now c.in_ok-rest-2.rest.now c.in_ok-rest.ensures.gives r2 in
    let t2 = tree_both (Rule TheExpression) (spelled RightParenthesis) c.in_ok-rest.rest.now c.in_ok-condition.rest.now c.in_ok-rest-2.rest.now c.in_ok-condition.ensures.gives c.in_ok-rest-2.ensures.gives in
    rw (t0, t1, t2) (rw (c.in_ok-place.ensures.means, c.in_ok-condition.ensures.means) refl)
