-- One item more, a stop within an item, and the end.
use Rattle.std.proofs.Common.{◌∙◌, sym, arith}
use Rattle.std.proofs.lemmas.Result.{err_from_is_err_and}
use Rattle.grammar.specs.Grammar.{◌▸◌}
use Rattle.c_grammar.specs.declared.symbol.Symbol.TheVariants.{Comma}
use Rattle.c_grammar.specs.Written.{spelled, parameter}
use Rattle.c_parse.specs.Units.{further_parameter}
use Rattle.c_expression.proofs.ListLoops
use Rattle.c_parse.proofs.Lows.{parameters_low}
use Rattle.c_parse.proofs.externals.further_parameters.Goals as goal

pub items-init : goal.items-init
items-init c = record { read = ListLoops.starts (spelled Comma ▸ parameter) parameters_low (further_parameter) c.args.parameters c.args.tokens.now; not_longer = omega arith }

pub returns-in_err-parameter-clause-gives : goal.returns-in_err-parameter-clause-gives
returns-in_err-parameter-clause-gives c =
    let p = err_from_is_err_and c.from_residual.result c.from_residual.ensures.1 in
    rw (p.1, p.2) (ListLoops.breaks (spelled Comma ▸ parameter) parameters_low (further_parameter) c.args.parameters c.args.tokens.now c.items.rest.now c.items.parameters c.in_err-parameter.field-0.0 (sym c.begins.ensures ∙ c.items-test.true) c.in_err-parameter.ensures.gives c.items.invariant.read)

pub items-preserved : goal.items-preserved
items-preserved c = record {
  read = ListLoops.goes_on (spelled Comma ▸ parameter) parameters_low (further_parameter) c.args.parameters c.args.tokens.now c.items.rest.now c.items.parameters c.in_ok-parameter.parameter c.push.new.self c.in_ok-parameter.after.now (sym c.begins.ensures ∙ c.items-test.true) c.in_ok-parameter.ensures.gives c.in_ok-parameter.ensures.means c.in_ok-push.ensures.ok c.items.invariant.read;
  not_longer = omega (arith, c.items.invariant.not_longer, c.in_ok-parameter.ensures.shorter);
}

pub returns-clause-gives : goal.returns-clause-gives
returns-clause-gives c = ListLoops.done_gives (spelled Comma ▸ parameter) parameters_low (further_parameter) c.args.parameters c.args.tokens.now c.items.rest.now c.items.parameters (sym c.begins.ensures ∙ c.items-test.false) c.items.invariant.read

pub returns-clause-means : goal.returns-clause-means
returns-clause-means c = ListLoops.done_means (spelled Comma ▸ parameter) parameters_low (further_parameter) c.args.parameters c.args.tokens.now c.items.rest.now c.items.parameters (sym c.begins.ensures ∙ c.items-test.false) c.items.invariant.read
