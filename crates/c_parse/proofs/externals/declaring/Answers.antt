-- A stop within the declaration of a task or a resource, and all of it.
use Rattle.std.proofs.Common.{[], ◌∷◌}
use Rattle.std.proofs.lemmas.Result.{err_from_is_err_and}
use Rattle.grammar.specs.Grammar.{◌▸◌}
use Rattle.c_grammar.specs.declared.symbol.Symbol.TheVariants.{DeclareResource, DeclareTask, LeftParenthesis, RightParenthesis, Semicolon}
use Rattle.c_grammar.specs.Written.{name, one_of, spelled}
use Rattle.c_parse.proofs.Chains.{stops_first, stops_second, reads_both}
use Rattle.c_parse.proofs.externals.declaring.Goals as goal

pub returns-in_err-is_task-clause-gives : goal.returns-in_err-is_task-clause-gives
returns-in_err-is_task-clause-gives c =
    let p = err_from_is_err_and c.from_residual.result c.from_residual.ensures.1 in
    let s0 = stops_first (one_of (DeclareTask ∷ DeclareResource ∷ [])) (spelled LeftParenthesis ▸ name ▸ spelled RightParenthesis ▸ spelled Semicolon) c.args.tokens.now c.in_err-is_task.field-0.0 c.in_err-is_task.ensures.gives in
    rw (p.1, p.2) s0

pub returns-in_err-rest-clause-gives : goal.returns-in_err-rest-clause-gives
returns-in_err-rest-clause-gives c =
    let p = err_from_is_err_and c.from_residual-in_err-rest.result c.from_residual-in_err-rest.ensures.1 in
    let s1 = stops_first (spelled LeftParenthesis) (name ▸ spelled RightParenthesis ▸ spelled Semicolon) c.in_ok-is_task.rest.now c.in_err-rest.field-0.0 c.in_err-rest.ensures.gives in
    let s0 = stops_second (one_of (DeclareTask ∷ DeclareResource ∷ [])) (spelled LeftParenthesis ▸ name ▸ spelled RightParenthesis ▸ spelled Semicolon) c.args.tokens.now c.in_ok-is_task.rest.now c.in_err-rest.field-0.0 c.in_ok-is_task.ensures.gives s1 in
    rw (p.1, p.2) s0

pub returns-in_err-name-clause-gives : goal.returns-in_err-name-clause-gives
returns-in_err-name-clause-gives c =
    let p = err_from_is_err_and c.from_residual-in_err-name.result c.from_residual-in_err-name.ensures.1 in
    let s2 = stops_first name (spelled RightParenthesis ▸ spelled Semicolon) c.in_ok-rest.rest.now c.in_err-name.field-0.0 c.in_err-name.ensures.gives in
    let s1 = stops_second (spelled LeftParenthesis) (name ▸ spelled RightParenthesis ▸ spelled Semicolon) c.in_ok-is_task.rest.now c.in_ok-rest.rest.now c.in_err-name.field-0.0 c.in_ok-rest.ensures.gives s2 in
    let s0 = stops_second (one_of (DeclareTask ∷ DeclareResource ∷ [])) (spelled LeftParenthesis ▸ name ▸ spelled RightParenthesis ▸ spelled Semicolon) c.args.tokens.now c.in_ok-is_task.rest.now c.in_err-name.field-0.0 c.in_ok-is_task.ensures.gives s1 in
    rw (p.1, p.2) s0

pub returns-in_err-rest-2-clause-gives : goal.returns-in_err-rest-2-clause-gives
returns-in_err-rest-2-clause-gives c =
    let p = err_from_is_err_and c.from_residual-in_err-rest-2.result c.from_residual-in_err-rest-2.ensures.1 in
    let s3 = stops_first (spelled RightParenthesis) (spelled Semicolon) c.in_ok-name.rest.now c.in_err-rest-2.field-0.0 c.in_err-rest-2.ensures.gives in
    let s2 = stops_second name (spelled RightParenthesis ▸ spelled Semicolon) c.in_ok-rest.rest.now c.in_ok-name.rest.now c.in_err-rest-2.field-0.0 c.in_ok-name.ensures.gives s3 in
    let s1 = stops_second (spelled LeftParenthesis) (name ▸ spelled RightParenthesis ▸ spelled Semicolon) c.in_ok-is_task.rest.now c.in_ok-rest.rest.now c.in_err-rest-2.field-0.0 c.in_ok-rest.ensures.gives s2 in
    let s0 = stops_second (one_of (DeclareTask ∷ DeclareResource ∷ [])) (spelled LeftParenthesis ▸ name ▸ spelled RightParenthesis ▸ spelled Semicolon) c.args.tokens.now c.in_ok-is_task.rest.now c.in_err-rest-2.field-0.0 c.in_ok-is_task.ensures.gives s1 in
    rw (p.1, p.2) s0

pub returns-in_err-rest-3-clause-gives : goal.returns-in_err-rest-3-clause-gives
returns-in_err-rest-3-clause-gives c =
    let p = err_from_is_err_and c.from_residual-in_err-rest-3.result c.from_residual-in_err-rest-3.ensures.1 in
    let s3 = stops_second (spelled RightParenthesis) (spelled Semicolon) c.in_ok-name.rest.now c.in_ok-rest-2.rest.now c.in_err-rest-3.field-0.0 c.in_ok-rest-2.ensures.gives c.in_err-rest-3.ensures.gives in
    let s2 = stops_second name (spelled RightParenthesis ▸ spelled Semicolon) c.in_ok-rest.rest.now c.in_ok-name.rest.now c.in_err-rest-3.field-0.0 c.in_ok-name.ensures.gives s3 in
    let s1 = stops_second (spelled LeftParenthesis) (name ▸ spelled RightParenthesis ▸ spelled Semicolon) c.in_ok-is_task.rest.now c.in_ok-rest.rest.now c.in_err-rest-3.field-0.0 c.in_ok-rest.ensures.gives s2 in
    let s0 = stops_second (one_of (DeclareTask ∷ DeclareResource ∷ [])) (spelled LeftParenthesis ▸ name ▸ spelled RightParenthesis ▸ spelled Semicolon) c.args.tokens.now c.in_ok-is_task.rest.now c.in_err-rest-3.field-0.0 c.in_ok-is_task.ensures.gives s1 in
    rw (p.1, p.2) s0

pub returns-clause-gives : goal.returns-clause-gives
returns-clause-gives c =
    let r3 = reads_both (spelled RightParenthesis) (spelled Semicolon) c.in_ok-name.rest.now c.in_ok-rest-2.rest.now c.in_ok-rest-3.rest.now c.in_ok-rest-2.ensures.gives c.in_ok-rest-3.ensures.gives in
    let r2 = reads_both name (spelled RightParenthesis ▸ spelled Semicolon) c.in_ok-rest.rest.now c.in_ok-name.rest.now c.in_ok-rest-3.rest.now c.in_ok-name.ensures.gives r3 in
    let r1 = reads_both (spelled LeftParenthesis) (name ▸ spelled RightParenthesis ▸ spelled Semicolon) c.in_ok-is_task.rest.now c.in_ok-rest.rest.now c.in_ok-rest-3.rest.now c.in_ok-rest.ensures.gives r2 in
    let r0 = reads_both (one_of (DeclareTask ∷ DeclareResource ∷ [])) (spelled LeftParenthesis ▸ name ▸ spelled RightParenthesis ▸ spelled Semicolon) c.args.tokens.now c.in_ok-is_task.rest.now c.in_ok-rest-3.rest.now c.in_ok-is_task.ensures.gives r1 in
    r0
