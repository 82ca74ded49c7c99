-- A stop within variables, and all of them.
use Rattle.std.proofs.lemmas.Result.{err_from_is_err_and}
use Rattle.grammar.specs.Grammar.{Many, Rule, ◌▸◌}
use Rattle.c_grammar.specs.declared.symbol.Symbol.TheVariants.{Comma, Semicolon}
use Rattle.c_grammar.specs.Factored.{TheVariable, TheVariables, initial}
use Rattle.c_grammar.specs.Written.{spelled}
use Rattle.c_parse.proofs.Chains.{stops_first, stops_second, stops_rule, reads_both, reads_rule}
use Rattle.c_parse.proofs.externals.variables.Goals as goal

pub returns-in_err-variable-clause-gives : goal.returns-in_err-variable-clause-gives
returns-in_err-variable-clause-gives c =
    let p = err_from_is_err_and c.from_residual.result c.from_residual.ensures.1 in
    let s0 = stops_first initial (Many (spelled Comma ▸ Rule TheVariable) ▸ spelled Semicolon) c.args.tokens.now c.in_err-variable.field-0.0 c.in_err-variable.ensures.gives in
    rw (p.1, p.2) (stops_rule TheVariables c.args.tokens.now c.in_err-variable.field-0.0 s0)

pub returns-in_err-declarations-clause-gives : goal.returns-in_err-declarations-clause-gives
returns-in_err-declarations-clause-gives c =
    let p = err_from_is_err_and c.from_residual-in_err-declarations.result c.from_residual-in_err-declarations.ensures.1 in
    let s1 = stops_first (Many (spelled Comma ▸ Rule TheVariable)) (spelled Semicolon) c.in_ok-variable.rest.now c.in_err-declarations.field-0.0 c.in_err-declarations.ensures.gives in
    let s0 = stops_second initial (Many (spelled Comma ▸ Rule TheVariable) ▸ spelled Semicolon) c.args.tokens.now c.in_ok-variable.rest.now c.in_err-declarations.field-0.0 c.in_ok-variable.ensures.gives s1 in
    rw (p.1, p.2) (stops_rule TheVariables c.args.tokens.now c.in_err-declarations.field-0.0 s0)

pub returns-in_err-rest-clause-gives : goal.returns-in_err-rest-clause-gives
returns-in_err-rest-clause-gives c =
    let p = err_from_is_err_and c.from_residual-in_err-rest.result c.from_residual-in_err-rest.ensures.1 in
    let s1 = stops_second (Many (spelled Comma ▸ Rule TheVariable)) (spelled Semicolon) c.in_ok-variable.rest.now c.in_ok-declarations.rest.now c.in_err-rest.field-0.0 c.in_ok-declarations.ensures.gives c.in_err-rest.ensures.gives in
    let s0 = stops_second initial (Many (spelled Comma ▸ Rule TheVariable) ▸ spelled Semicolon) c.args.tokens.now c.in_ok-variable.rest.now c.in_err-rest.field-0.0 c.in_ok-variable.ensures.gives s1 in
    rw (p.1, p.2) (stops_rule TheVariables c.args.tokens.now c.in_err-rest.field-0.0 s0)

pub returns-clause-gives : goal.returns-clause-gives
returns-clause-gives c =
    let r1 = reads_both (Many (spelled Comma ▸ Rule TheVariable)) (spelled Semicolon) c.in_ok-variable.rest.now c.in_ok-declarations.rest.now c.in_ok-rest.rest.now c.in_ok-declarations.ensures.gives c.in_ok-rest.ensures.gives in
    let r0 = reads_both initial (Many (spelled Comma ▸ Rule TheVariable) ▸ spelled Semicolon) c.args.tokens.now c.in_ok-variable.rest.now c.in_ok-rest.rest.now c.in_ok-variable.ensures.gives r1 in
    reads_rule TheVariables c.args.tokens.now c.in_ok-rest.rest.now r0
