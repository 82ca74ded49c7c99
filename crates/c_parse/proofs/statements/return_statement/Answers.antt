-- A stop within a return, and all of it.
use Rattle.std.proofs.Common.{refl}
use Rattle.std.proofs.lemmas.Result.{err_from_is_err_and}
use Rattle.grammar.specs.Grammar.{Rule, optional, ◌▸◌}
use Rattle.c_grammar.specs.declared.symbol.Symbol.TheVariants.{Return, Semicolon}
use Rattle.c_grammar.specs.Factored.{TheExpression, TheReturn}
use Rattle.c_grammar.specs.Written.{spelled}
use Rattle.c_parse.proofs.Chains.{stops_first, stops_second, stops_rule, tree_both, reads_both, tree_rule, reads_rule}
use Rattle.c_parse.proofs.statements.return_statement.Goals as goal

pub returns-in_err-place-clause-gives : goal.returns-in_err-place-clause-gives
returns-in_err-place-clause-gives c =
    let p = err_from_is_err_and c.from_residual.result c.from_residual.ensures.1 in
    let s0 = stops_first (spelled Return) (optional (Rule TheExpression) ▸ spelled Semicolon) c.args.tokens.now c.in_err-place.field-0.0 c.in_err-place.ensures.gives in
    rw (p.1, p.2) (stops_rule TheReturn c.args.tokens.now c.in_err-place.field-0.0 s0)

pub returns-in_err-value-clause-gives : goal.returns-in_err-value-clause-gives
returns-in_err-value-clause-gives c =
    let p = err_from_is_err_and c.from_residual-in_err-value.result c.from_residual-in_err-value.ensures.1 in
    let s1 = stops_first (optional (Rule TheExpression)) (spelled Semicolon) c.in_ok-place.rest.now c.in_err-value.field-0.0 c.in_err-value.ensures.gives in
    let s0 = stops_second (spelled Return) (optional (Rule TheExpression) ▸ spelled Semicolon) c.args.tokens.now c.in_ok-place.rest.now c.in_err-value.field-0.0 c.in_ok-place.ensures.gives s1 in
    rw (p.1, p.2) (stops_rule TheReturn c.args.tokens.now c.in_err-value.field-0.0 s0)

pub returns-in_err-rest-clause-gives : goal.returns-in_err-rest-clause-gives
returns-in_err-rest-clause-gives c =
    let p = err_from_is_err_and c.from_residual-in_err-rest.result c.from_residual-in_err-rest.ensures.1 in
    let s1 = stops_second (optional (Rule TheExpression)) (spelled Semicolon) c.in_ok-place.rest.now c.in_ok-value.rest.now c.in_err-rest.field-0.0 c.in_ok-value.ensures.gives c.in_err-rest.ensures.gives in
    let s0 = stops_second (spelled Return) (optional (Rule TheExpression) ▸ spelled Semicolon) c.args.tokens.now c.in_ok-place.rest.now c.in_err-rest.field-0.0 c.in_ok-place.ensures.gives s1 in
    rw (p.1, p.2) (stops_rule TheReturn c.args.tokens.now c.in_err-rest.field-0.0 s0)

pub returns-clause-gives : goal.returns-clause-gives
returns-clause-gives c =
    let r1 = reads_both (optional (Rule TheExpression)) (spelled Semicolon) c.in_ok-place.rest.now c.in_ok-value.rest.now c.in_ok-rest.rest.now c.in_ok-value.ensures.gives c.in_ok-rest.ensures.gives in
    let r0 = reads_both (spelled Return) (optional (Rule TheExpression) ▸ spelled Semicolon) c.args.tokens.now c.in_ok-place.rest.now c.in_ok-rest.rest.now c.in_ok-place.ensures.gives r1 in
    reads_rule TheReturn c.args.tokens.now c.in_ok-rest.rest.now r0

pub returns-clause-means : goal.returns-clause-means
returns-clause-means c =
    let r1 = reads_both (optional (Rule TheExpression)) (spelled Semicolon) c.in_ok-place.rest.now c.in_ok-value.rest.now c.in_ok-rest.rest.now c.in_ok-value.ensures.gives c.in_ok-rest.ensures.gives in
    let r0 = reads_both (spelled Return) (optional (Rule TheExpression) ▸ spelled Semicolon) c.args.tokens.now c.in_ok-place.rest.now c.in_ok-rest.rest.now c.in_ok-place.ensures.gives r1 in
    let t0 = tree_rule TheReturn c.args.tokens.now c.in_ok-rest.rest.now r0 in
    let t1 = tree_both (spelled Return) (optional (Rule TheExpression) ▸ spelled Semicolon) c.args.tokens.now c.in_ok-place.rest.now c.in_ok-rest.rest.now c.in_ok-place.ensures.gives r1 in
    let t2 = tree_both (optional (Rule TheExpression)) (spelled Semicolon) c.in_ok-place.rest.now c.in_ok-value.rest.now c.in_ok-rest.rest.now c.in_ok-value.ensures.gives c.in_ok-rest.ensures.gives in
    rw (t0, t1, t2) (rw (c.in_ok-place.ensures.means, c.in_ok-value.ensures.means) refl)
