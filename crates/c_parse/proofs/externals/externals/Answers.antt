-- One external more, a stop within one, and the end.
use Rattle.std.proofs.Common.{◌∙◌, [], sym}
use Rattle.std.proofs.lemmas.Result.{err_from_is_err_and}
use Rattle.grammar.specs.Grammar.{Rule}
use Rattle.c_grammar.specs.Factored.{TheExternal}
use Rattle.c_parse.specs.Units.{external_of}
use Rattle.c_expression.proofs.ListLoops
use Rattle.c_parse.proofs.Lows.{externals_low}
use Rattle.c_parse.proofs.externals.externals.Goals as goal

pub items-init : goal.items-init
items-init c = rw c.new-externals.ensures (ListLoops.starts (Rule TheExternal) externals_low external_of [] c.args.tokens.now)

pub returns-in_err-external-clause-gives : goal.returns-in_err-external-clause-gives
returns-in_err-external-clause-gives c =
    let p = err_from_is_err_and c.from_residual.result c.from_residual.ensures.1 in
    rw (p.1, p.2) (ListLoops.breaks (Rule TheExternal) externals_low external_of [] c.args.tokens.now c.items.rest.now c.items.externals c.in_err-external.field-0.0 (sym c.begins_external.ensures ∙ c.items-test.true) c.in_err-external.ensures.gives c.items.invariant)

pub items-preserved : goal.items-preserved
items-preserved c = ListLoops.goes_on (Rule TheExternal) externals_low external_of [] c.args.tokens.now c.items.rest.now c.items.externals c.in_ok-external.external c.push.new.self c.in_ok-external.after.now (sym c.begins_external.ensures ∙ c.items-test.true) c.in_ok-external.ensures.gives c.in_ok-external.ensures.means c.in_ok-push.ensures.ok c.items.invariant

pub returns-clause-gives : goal.returns-clause-gives
returns-clause-gives c = ListLoops.done_gives (Rule TheExternal) externals_low external_of [] c.args.tokens.now c.items.rest.now c.items.externals (sym c.begins_external.ensures ∙ c.items-test.false) c.items.invariant

pub returns-clause-means : goal.returns-clause-means
returns-clause-means c = sym (ListLoops.done_means (Rule TheExternal) externals_low external_of [] c.args.tokens.now c.items.rest.now c.items.externals (sym c.begins_external.ensures ∙ c.items-test.false) c.items.invariant)
