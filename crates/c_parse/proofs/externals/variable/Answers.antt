-- A stop within a variable, and all of it.
use Rattle.std.proofs.Common.{◌∙◌}
use Rattle.std.proofs.lemmas.Result.{err_from_is_err_and}
use Rattle.c_grammar.specs.Factored.{TheVariable, initial}
use Rattle.c_grammar.specs.Written.{name}
use Rattle.c_expression.specs.Reads.{written_at}
use Rattle.c_parse.proofs.Meant.{variable_meant}
use Rattle.c_parse.proofs.Chains.{stops_first, stops_second, stops_rule, tree_both, reads_both, tree_rule, reads_rule}
use Rattle.c_parse.proofs.externals.variable.Goals as goal

pub returns-in_err-name-clause-gives : goal.returns-in_err-name-clause-gives
returns-in_err-name-clause-gives c =
    let p = err_from_is_err_and c.from_residual.result c.from_residual.ensures.1 in
    let s0 = stops_first name initial c.args.tokens.now c.in_err-name.field-0.0 c.in_err-name.ensures.gives in
    rw (p.1, p.2) (stops_rule TheVariable c.args.tokens.now c.in_err-name.field-0.0 s0)

pub returns-in_err-variable-clause-gives : goal.returns-in_err-variable-clause-gives
returns-in_err-variable-clause-gives c =
    let p = err_from_is_err_and c.from_residual-in_err-variable.result c.from_residual-in_err-variable.ensures.1 in
    let s0 = stops_second name initial c.args.tokens.now c.in_ok-name.rest.now c.in_err-variable.field-0.0 c.in_ok-name.ensures.gives c.in_err-variable.ensures.gives in
    rw (p.1, p.2) (stops_rule TheVariable c.args.tokens.now c.in_err-variable.field-0.0 s0)

pub returns-clause-gives : goal.returns-clause-gives
returns-clause-gives c =
    let r0 = reads_both name initial c.args.tokens.now c.in_ok-name.rest.now c.in_ok-variable.rest.now c.in_ok-name.ensures.gives c.in_ok-variable.ensures.gives in
    reads_rule TheVariable c.args.tokens.now c.in_ok-variable.rest.now r0

pub returns-clause-means : goal.returns-clause-means
returns-clause-means c =
    let r0 = reads_both name initial c.args.tokens.now c.in_ok-name.rest.now c.in_ok-variable.rest.now c.in_ok-name.ensures.gives c.in_ok-variable.ensures.gives in
    let t0 = tree_rule TheVariable c.args.tokens.now c.in_ok-variable.rest.now r0 in
    let t1 = tree_both name initial c.args.tokens.now c.in_ok-name.rest.now c.in_ok-variable.rest.now c.in_ok-name.ensures.gives c.in_ok-variable.ensures.gives in
    rw (t0, t1) (variable_meant (written_at name c.args.tokens.now) (written_at initial c.in_ok-name.rest.now) ∙ rw c.in_ok-name.ensures.means c.in_ok-variable.ensures.means)
