-- A stop within the parts of an array, and all of them.
use Rattle.std.proofs.Common.{refl}
use Rattle.std.proofs.lemmas.Result.{err_from_is_err_and}
use Rattle.grammar.specs.Grammar.{optional, ◌▸◌}
use Rattle.c_grammar.specs.declared.symbol.Symbol.TheVariants.{LeftBracket, RightBracket}
use Rattle.c_grammar.specs.Factored.{TheBounds, factored_constants}
use Rattle.c_grammar.specs.Written.{number, spelled}
use Rattle.c_parse.proofs.Chains.{stops_first, stops_second, stops_rule, tree_both, reads_both, tree_rule, reads_rule}
use Rattle.c_parse.proofs.externals.bounds.Goals as goal

pub returns-in_err-rest-clause-gives : goal.returns-in_err-rest-clause-gives
returns-in_err-rest-clause-gives c =
    let p = err_from_is_err_and c.from_residual.result c.from_residual.ensures.1 in
    let s0 = stops_first (spelled LeftBracket) (number ▸ spelled RightBracket ▸ optional factored_constants) c.args.tokens.now c.in_err-rest.field-0.0 c.in_err-rest.ensures.gives in
    rw (p.1, p.2) (stops_rule TheBounds c.args.tokens.now c.in_err-rest.field-0.0 s0)

pub returns-in_err-length-clause-gives : goal.returns-in_err-length-clause-gives
returns-in_err-length-clause-gives c =
    let p = err_from_is_err_and c.from_residual-in_err-length.result c.from_residual-in_err-length.ensures.1 in
    let s1 = stops_first number (spelled RightBracket ▸ optional factored_constants) c.in_ok-rest.rest.now c.in_err-length.field-0.0 c.in_err-length.ensures.gives in
    let s0 = stops_second (spelled LeftBracket) (number ▸ spelled RightBracket ▸ optional factored_constants) c.args.tokens.now c.in_ok-rest.rest.now c.in_err-length.field-0.0 c.in_ok-rest.ensures.gives s1 in
    rw (p.1, p.2) (stops_rule TheBounds c.args.tokens.now c.in_err-length.field-0.0 s0)

pub returns-in_err-rest-2-clause-gives : goal.returns-in_err-rest-2-clause-gives
returns-in_err-rest-2-clause-gives c =
    let p = err_from_is_err_and c.from_residual-in_err-rest-2.result c.from_residual-in_err-rest-2.ensures.1 in
    let s2 = stops_first (spelled RightBracket) (optional factored_constants) c.in_ok-length.rest.now c.in_err-rest-2.field-0.0 c.in_err-rest-2.ensures.gives in
    let s1 = stops_second number (spelled RightBracket ▸ optional factored_constants) c.in_ok-rest.rest.now c.in_ok-length.rest.now c.in_err-rest-2.field-0.0 c.in_ok-length.ensures.gives s2 in
    let s0 = stops_second (spelled LeftBracket) (number ▸ spelled RightBracket ▸ optional factored_constants) c.args.tokens.now c.in_ok-rest.rest.now c.in_err-rest-2.field-0.0 c.in_ok-rest.ensures.gives s1 in
    rw (p.1, p.2) (stops_rule TheBounds c.args.tokens.now c.in_err-rest-2.field-0.0 s0)

pub returns-in_err-constants-clause-gives : goal.returns-in_err-constants-clause-gives
returns-in_err-constants-clause-gives c =
    let p = err_from_is_err_and c.from_residual-in_err-constants.result c.from_residual-in_err-constants.ensures.1 in
    let s2 = stops_second (spelled RightBracket) (optional factored_constants) c.in_ok-length.rest.now c.in_ok-rest-2.rest.now c.in_err-constants.field-0.0 c.in_ok-rest-2.ensures.gives c.in_err-constants.ensures.gives in
    let s1 = stops_second number (spelled RightBracket ▸ optional factored_constants) c.in_ok-rest.rest.now c.in_ok-length.rest.now c.in_err-constants.field-0.0 c.in_ok-length.ensures.gives s2 in
    let s0 = stops_second (spelled LeftBracket) (number ▸ spelled RightBracket ▸ optional factored_constants) c.args.tokens.now c.in_ok-rest.rest.now c.in_err-constants.field-0.0 c.in_ok-rest.ensures.gives s1 in
    rw (p.1, p.2) (stops_rule TheBounds c.args.tokens.now c.in_err-constants.field-0.0 s0)

pub returns-clause-gives : goal.returns-clause-gives
returns-clause-gives c =
    let r2 = reads_both (spelled RightBracket) (optional factored_constants) c.in_ok-length.rest.now c.in_ok-rest-2.rest.now c.in_ok-constants.rest.now c.in_ok-rest-2.ensures.gives c.in_ok-constants.ensures.gives in
    let r1 = reads_both number (spelled RightBracket ▸ optional factored_constants) c.in_ok-rest.rest.now c.in_ok-length.rest.now c.in_ok-constants.rest.now c.in_ok-length.ensures.gives r2 in
    let r0 = reads_both (spelled LeftBracket) (number ▸ spelled RightBracket ▸ optional factored_constants) c.args.tokens.now c.in_ok-rest.rest.now c.in_ok-constants.rest.now c.in_ok-rest.ensures.gives r1 in
    reads_rule TheBounds c.args.tokens.now c.in_ok-constants.rest.now r0

pub returns-clause-means : goal.returns-clause-means
returns-clause-means c =
    let r2 = reads_both (spelled RightBracket) (optional factored_constants) c.in_ok-length.rest.now c.in_ok-rest-2.rest.now c.in_ok-constants.rest.now c.in_ok-rest-2.ensures.gives c.in_ok-constants.ensures.gives in
    let r1 = reads_both number (spelled RightBracket ▸ optional factored_constants) c.in_ok-rest.rest.now c.in_ok-length.rest.now c.in_ok-constants.rest.now c.in_ok-length.ensures.gives r2 in
    let r0 = reads_both (spelled LeftBracket) (number ▸ spelled RightBracket ▸ optional factored_constants) c.args.tokens.now c.in_ok-rest.rest.now c.in_ok-constants.rest.now c.in_ok-rest.ensures.gives r1 in
    let t0 = tree_rule TheBounds c.args.tokens.now c.in_ok-constants.rest.now r0 in
    let t1 = tree_both (spelled LeftBracket) (number ▸ spelled RightBracket ▸ optional factored_constants) c.args.tokens.now c.in_ok-rest.rest.now c.in_ok-constants.rest.now c.in_ok-rest.ensures.gives r1 in
    let t2 = tree_both number (spelled RightBracket ▸ optional factored_constants) c.in_ok-rest.rest.now c.in_ok-length.rest.now c.in_ok-constants.rest.now c.in_ok-length.ensures.gives r2 in
    let t3 = tree_both (spelled RightBracket) (optional factored_constants) c.in_ok-length.rest.now c.in_ok-rest-2.rest.now c.in_ok-constants.rest.now c.in_ok-rest-2.ensures.gives c.in_ok-constants.ensures.gives in
    rw (t0, t1, t2, t3) (rw (c.in_ok-length.ensures.means, c.in_ok-constants.ensures.means) refl)
