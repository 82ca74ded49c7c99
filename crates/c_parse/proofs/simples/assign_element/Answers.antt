-- A stop within the assignment to an element, and all of it.
use Rattle.std.proofs.Common.{refl}
use Rattle.std.proofs.lemmas.Result.{err_from_is_err_and}
use Rattle.grammar.specs.Grammar.{Rule, ◌▸◌}
use Rattle.c_grammar.specs.declared.symbol.Symbol.TheVariants.{Assign, LeftBracket, RightBracket}
use Rattle.c_grammar.specs.Factored.{TheExpression}
use Rattle.c_grammar.specs.Written.{spelled}
use Rattle.c_parse.proofs.Chains.{stops_first, stops_second, tree_both, reads_both}
use Rattle.c_parse.proofs.simples.assign_element.Goals as goal

pub returns-in_err-rest-clause-gives : goal.returns-in_err-rest-clause-gives
returns-in_err-rest-clause-gives c =
    let p = err_from_is_err_and c.from_residual.result c.from_residual.ensures.1 in
    let s0 = stops_first (spelled LeftBracket) (Rule TheExpression ▸ spelled RightBracket ▸ spelled Assign ▸ Rule TheExpression) c.args.tokens.now c.in_err-rest.field-0.0 c.in_err-rest.ensures.gives in
    rw (p.1, p.2) s0

pub returns-in_err-index-clause-gives : goal.returns-in_err-index-clause-gives
returns-in_err-index-clause-gives c =
    let p = err_from_is_err_and c.from_residual-in_err-index.result c.from_residual-in_err-index.ensures.1 in
    let s1 = stops_first (Rule TheExpression) (spelled RightBracket ▸ spelled Assign ▸ Rule TheExpression) c.in_ok-rest.rest.now c.in_err-index.field-0.0 c.in_err-index.ensures.gives in
    let s0 = stops_second (spelled LeftBracket) (Rule TheExpression ▸ spelled RightBracket ▸ spelled Assign ▸ Rule TheExpression) c.args.tokens.now c.in_ok-rest.rest.now c.in_err-index.field-0.0 c.in_ok-rest.ensures.gives s1 in
    rw (p.1, p.2) s0

pub returns-in_err-rest-2-clause-gives : goal.returns-in_err-rest-2-clause-gives
returns-in_err-rest-2-clause-gives c =
    let p = err_from_is_err_and c.from_residual-in_err-rest-2.result c.from_residual-in_err-rest-2.ensures.1 in
    let s2 = stops_first (spelled RightBracket) (spelled Assign ▸ Rule TheExpression) c.in_ok-index.rest.now c.in_err-rest-2.field-0.0 c.in_err-rest-2.ensures.gives in
    let s1 = stops_second (Rule TheExpression) (spelled RightBracket ▸ spelled Assign ▸ Rule TheExpression) c.in_ok-rest.rest.now c.in_ok-index.rest.now c.in_err-rest-2.field-0.0 c.in_ok-index.ensures.gives s2 in
    let s0 = stops_second (spelled LeftBracket) (Rule TheExpression ▸ spelled RightBracket ▸ spelled Assign ▸ Rule TheExpression) c.args.tokens.now c.in_ok-rest.rest.now c.in_err-rest-2.field-0.0 c.in_ok-rest.ensures.gives s1 in
    rw (p.1, p.2) s0

pub returns-in_err-rest-3-clause-gives : goal.returns-in_err-rest-3-clause-gives
returns-in_err-rest-3-clause-gives c =
    let p = err_from_is_err_and c.from_residual-in_err-rest-3.result c.from_residual-in_err-rest-3.ensures.1 in
    let s3 = stops_first (spelled Assign) (Rule TheExpression) c.in_ok-rest-2.rest.now c.in_err-rest-3.field-0.0 c.in_err-rest-3.ensures.gives in
    let s2 = stops_second (spelled RightBracket) (spelled Assign ▸ Rule TheExpression) c.in_ok-index.rest.now c.in_ok-rest-2.rest.now c.in_err-rest-3.field-0.0 c.in_ok-rest-2.ensures.gives s3 in
    let s1 = stops_second (Rule TheExpression) (spelled RightBracket ▸ spelled Assign ▸ Rule TheExpression) c.in_ok-rest.rest.now c.in_ok-index.rest.now c.in_err-rest-3.field-0.0 c.in_ok-index.ensures.gives s2 in
    let s0 = stops_second (spelled LeftBracket) (Rule TheExpression ▸ spelled RightBracket ▸ spelled Assign ▸ Rule TheExpression) c.args.tokens.now c.in_ok-rest.rest.now c.in_err-rest-3.field-0.0 c.in_ok-rest.ensures.gives s1 in
    rw (p.1, p.2) s0

pub returns-in_err-value-clause-gives : goal.returns-in_err-value-clause-gives
returns-in_err-value-clause-gives c =
    let p = err_from_is_err_and c.from_residual-in_err-value.result c.from_residual-in_err-value.ensures.1 in
    let s3 = stops_second (spelled Assign) (Rule TheExpression) c.in_ok-rest-2.rest.now c.in_ok-rest-3.rest.now c.in_err-value.field-0.0 c.in_ok-rest-3.ensures.gives c.in_err-value.ensures.gives in
    let s2 = stops_second (spelled RightBracket) (spelled Assign ▸ Rule TheExpression) c.in_ok-index.rest.now c.in_ok-rest-2.rest.now c.in_err-value.field-0.0 c.in_ok-rest-2.ensures.gives s3 in
    let s1 = stops_second (Rule TheExpression) (spelled RightBracket ▸ spelled Assign ▸ Rule TheExpression) c.in_ok-rest.rest.now c.in_ok-index.rest.now c.in_err-value.field-0.0 c.in_ok-index.ensures.gives s2 in
    let s0 = stops_second (spelled LeftBracket) (Rule TheExpression ▸ spelled RightBracket ▸ spelled Assign ▸ Rule TheExpression) c.args.tokens.now c.in_ok-rest.rest.now c.in_err-value.field-0.0 c.in_ok-rest.ensures.gives s1 in
    rw (p.1, p.2) s0

pub returns-clause-gives : goal.returns-clause-gives
returns-clause-gives c =
    let r3 = reads_both (spelled Assign) (Rule TheExpression) c.in_ok-rest-2.rest.now c.in_ok-rest-3.rest.now c.in_ok-value.rest.now c.in_ok-rest-3.ensures.gives c.in_ok-value.ensures.gives in
    let r2 = reads_both (spelled RightBracket) (spelled Assign ▸ Rule TheExpression) c.in_ok-index.rest.now c.in_ok-rest-2.rest.now c.in_ok-value.rest.now c.in_ok-rest-2.ensures.gives r3 in
    let r1 = reads_both (Rule TheExpression) (spelled RightBracket ▸ spelled Assign ▸ Rule TheExpression) c.in_ok-rest.rest.now c.in_ok-index.rest.now c.in_ok-value.rest.now c.in_ok-index.ensures.gives r2 in
    let r0 = reads_both (spelled LeftBracket) (Rule TheExpression ▸ spelled RightBracket ▸ spelled Assign ▸ Rule TheExpression) c.args.tokens.now c.in_ok-rest.rest.now c.in_ok-value.rest.now c.in_ok-rest.ensures.gives r1 in
    r0

pub returns-clause-means : goal.returns-clause-means
returns-clause-means c =
    let r3 = reads_both (spelled Assign) (Rule TheExpression) c.in_ok-rest-2.rest.now c.in_ok-rest-3.rest.now c.in_ok-value.rest.now c.in_ok-rest-3.ensures.gives c.in_ok-value.ensures.gives in
    let r2 = reads_both (spelled RightBracket) (spelled Assign ▸ Rule TheExpression) c.in_ok-index.rest.now c.in_ok-rest-2.rest.now c.in_ok-value.rest.now c.in_ok-rest-2.ensures.gives r3 in
    let r1 = reads_both (Rule TheExpression) (spelled RightBracket ▸ spelled Assign ▸ Rule TheExpression) c.in_ok-rest.rest.now c.in_ok-index.rest.now c.in_ok-value.rest.now c.in_ok-index.ensures.gives r2 in
    let t0 = tree_both (spelled LeftBracket) (Rule TheExpression ▸ spelled RightBracket ▸ spelled Assign ▸ Rule TheExpression) c.args.tokens.now c.in_ok-rest.rest.now c.in_ok-value.rest.now c.in_ok-rest.ensures.gives r1 in
    let t1 = tree_both (Rule TheExpression) (spelled RightBracket ▸ spelled Assign ▸ Rule TheExpression) c.in_ok-rest.rest.now c.in_ok-index.rest.now c.in_ok-value.rest.now c.in_ok-index.ensures.gives r2 in
    let t2 = tree_both (spelled RightBracket) (spelled Assign ▸ Rule TheExpression) c.in_ok-index.rest.now c.in_ok-rest-2.rest.now c.in_ok-value.rest.now c.in_ok-rest-2.ensures.gives r3 in
    let t3 = tree_both (spelled Assign) (Rule TheExpression) c.in_ok-rest-2.rest.now c.in_ok-rest-3.rest.now c.in_ok-value.rest.now c.in_ok-rest-3.ensures.gives c.in_ok-value.ensures.gives in
    rw (t0, t1, t2, t3) (rw (c.in_ok-index.ensures.means, c.in_ok-value.ensures.means) refl)
