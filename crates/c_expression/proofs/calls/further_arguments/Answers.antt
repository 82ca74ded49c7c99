-- One item more, a stop within an item, and the end.
use Rattle.std.proofs.Common.{◌∙◌, length, sym, arith}
use Rattle.std.proofs.lemmas.Result.{err_from_is_err_and}
use Rattle.grammar.specs.Grammar.{Many, Rule, ◌▸◌}
use Rattle.c_grammar.specs.declared.symbol.Symbol.TheVariants.{Comma}
use Rattle.c_grammar.specs.Written.{spelled}
use Rattle.c_grammar.specs.Factored.{TheExpression}
use Rattle.c_expression.specs.Expressions.{further_argument}
use Rattle.c_expression.proofs.ListLoops
use Rattle.c_expression.proofs.Lows.{arguments_low}
use Rattle.c_expression.proofs.Parts.{still_short, stops_give}
use Rattle.c_expression.proofs.calls.further_arguments.Goals as goal

pub items-init : goal.items-init
items-init c = record { read = ListLoops.starts (spelled Comma ▸ Rule TheExpression) arguments_low further_argument c.args.arguments c.args.tokens.now; not_longer = omega arith }

pub returns-in_err-argument-clause-gives : goal.returns-in_err-argument-clause-gives
returns-in_err-argument-clause-gives c =
    let p = err_from_is_err_and c.from_residual.result c.from_residual.ensures.1 in
    stops_give (λ x. x.1.now) (Many (spelled Comma ▸ Rule TheExpression)) c.from_residual.result c.args.tokens.now p.0 c.in_err-argument.field-0.0 p.1 p.2 (ListLoops.breaks (spelled Comma ▸ Rule TheExpression) arguments_low further_argument c.args.arguments c.args.tokens.now c.items.rest.now c.items.arguments c.in_err-argument.field-0.0 (sym c.begins.ensures ∙ c.items-test.true) c.in_err-argument.ensures.gives c.items.invariant.read)

pub items-preserved : goal.items-preserved
items-preserved c = record {
  read = ListLoops.goes_on (spelled Comma ▸ Rule TheExpression) arguments_low further_argument c.args.arguments c.args.tokens.now c.items.rest.now c.items.arguments c.in_ok-argument.argument c.push.new.self c.in_ok-argument.after.now (sym c.begins.ensures ∙ c.items-test.true) c.in_ok-argument.ensures.gives c.in_ok-argument.ensures.means c.in_ok-push.ensures.ok c.items.invariant.read;
  not_longer = still_short (length c.args.tokens.now) (length c.items.rest.now) (length c.in_ok-argument.after.now) c.items.invariant.not_longer c.in_ok-argument.ensures.shorter;
}

pub returns-clause-gives : goal.returns-clause-gives
returns-clause-gives c = ListLoops.done_gives (spelled Comma ▸ Rule TheExpression) arguments_low further_argument c.args.arguments c.args.tokens.now c.items.rest.now c.items.arguments (sym c.begins.ensures ∙ c.items-test.false) c.items.invariant.read

pub returns-clause-means : goal.returns-clause-means
returns-clause-means c = ListLoops.done_means (spelled Comma ▸ Rule TheExpression) arguments_low further_argument c.args.arguments c.args.tokens.now c.items.rest.now c.items.arguments (sym c.begins.ensures ∙ c.items-test.false) c.items.invariant.read
