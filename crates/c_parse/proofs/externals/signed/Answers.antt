-- A stop within a number and its sign, and both.
use Rattle.std.proofs.Common.{◌∙◌, sym}
use Rattle.std.proofs.lemmas.Result.{err_from_is_err_and}
use Rattle.grammar.specs.Grammar.{optional}
use Rattle.c_grammar.specs.declared.symbol.Symbol.TheVariants.{Minus}
use Rattle.c_grammar.specs.Written.{number, spelled}
use Rattle.c_expression.specs.Reads.{written_at}
use Rattle.c_parse.proofs.Meant.{signed_meant}
use Rattle.c_parse.proofs.Chains.{stops_first, stops_second, tree_both, reads_both}
use Rattle.c_parse.proofs.externals.signed.Goals as goal

pub returns-in_err-sign-clause-gives : goal.returns-in_err-sign-clause-gives
returns-in_err-sign-clause-gives c =
    let p = err_from_is_err_and c.from_residual.result c.from_residual.ensures.1 in
    let s0 = stops_first (optional (spelled Minus)) number c.args.tokens.now c.in_err-sign.field-0.0 c.in_err-sign.ensures.gives in
    rw (p.1, p.2) s0

pub returns-in_err-number-clause-gives : goal.returns-in_err-number-clause-gives
returns-in_err-number-clause-gives c =
    let p = err_from_is_err_and c.from_residual-in_err-number.result c.from_residual-in_err-number.ensures.1 in
    let s0 = stops_second (optional (spelled Minus)) number c.args.tokens.now c.in_ok-sign.rest.now c.in_err-number.field-0.0 c.in_ok-sign.ensures.gives c.in_err-number.ensures.gives in
    rw (p.1, p.2) s0

pub returns-clause-gives : goal.returns-clause-gives
returns-clause-gives c =
    let r0 = reads_both (optional (spelled Minus)) number c.args.tokens.now c.in_ok-sign.rest.now c.in_ok-number.rest.now c.in_ok-sign.ensures.gives c.in_ok-number.ensures.gives in
    r0

pub returns-clause-means : goal.returns-clause-means
returns-clause-means c =
    let t0 = tree_both (optional (spelled Minus)) number c.args.tokens.now c.in_ok-sign.rest.now c.in_ok-number.rest.now c.in_ok-sign.ensures.gives c.in_ok-number.ensures.gives in
    rw t0 (signed_meant (written_at (optional (spelled Minus)) c.args.tokens.now) (written_at number c.in_ok-sign.rest.now) ∙ rw (c.in_ok-sign.ensures.means, c.in_ok-number.ensures.means) (sym c.signed_by.ensures))
