-- A stop within a comma and a variable, and both.
use Rattle.std.proofs.Common.{refl}
use Rattle.std.proofs.lemmas.Result.{err_from_is_err_and}
use Rattle.grammar.specs.Grammar.{Rule}
use Rattle.c_grammar.specs.declared.symbol.Symbol.TheVariants.{Comma}
use Rattle.c_grammar.specs.Factored.{TheVariable}
use Rattle.c_grammar.specs.Written.{spelled}
use Rattle.c_parse.proofs.Chains.{stops_first, stops_second, tree_both, reads_both}
use Rattle.c_parse.proofs.externals.further_variable.Goals as goal

pub returns-in_err-rest-clause-gives : goal.returns-in_err-rest-clause-gives
returns-in_err-rest-clause-gives c =
    let p = err_from_is_err_and c.from_residual.result c.from_residual.ensures.1 in
    let s0 = stops_first (spelled Comma) (Rule TheVariable) c.args.tokens.now c.in_err-rest.field-0.0 c.in_err-rest.ensures.gives in
    rw (p.1, p.2) s0

pub returns-in_err-variable-clause-gives : goal.returns-in_err-variable-clause-gives
returns-in_err-variable-clause-gives c =
    let p = err_from_is_err_and c.from_residual-in_err-variable.result c.from_residual-in_err-variable.ensures.1 in
    let s0 = stops_second (spelled Comma) (Rule TheVariable) c.args.tokens.now c.in_ok-rest.rest.now c.in_err-variable.field-0.0 c.in_ok-rest.ensures.gives c.in_err-variable.ensures.gives in
    rw (p.1, p.2) s0

pub returns-clause-gives : goal.returns-clause-gives
returns-clause-gives c =
    let r0 = reads_both (spelled Comma) (Rule TheVariable) c.args.tokens.now c.in_ok-rest.rest.now c.in_ok-variable.rest.now c.in_ok-rest.ensures.gives c.in_ok-variable.ensures.gives in
    r0

pub returns-clause-means : goal.returns-clause-means
returns-clause-means c =
    let t0 = tree_both (spelled Comma) (Rule TheVariable) c.args.tokens.now c.in_ok-rest.rest.now c.in_ok-variable.rest.now c.in_ok-rest.ensures.gives c.in_ok-variable.ensures.gives in
    rw t0 (rw (c.in_ok-variable.ensures.means) refl)
