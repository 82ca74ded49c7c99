-- One item more, a stop within an item, and the end.
use Rattle.std.proofs.Common.{◌∙◌, sym, arith}
use Rattle.std.proofs.lemmas.Result.{err_from_is_err_and}
use Rattle.grammar.specs.Grammar.{Rule, ◌▸◌}
use Rattle.c_grammar.specs.declared.symbol.Symbol.TheVariants.{Comma}
use Rattle.c_grammar.specs.Written.{spelled}
use Rattle.c_grammar.specs.Factored.{TheVariable}
use Rattle.c_parse.specs.Units.{further_variable}
use Rattle.c_expression.proofs.ListLoops
use Rattle.c_parse.proofs.Lows.{variables_low}
use Rattle.c_parse.proofs.externals.further_variables.Goals as goal

pub items-init : goal.items-init
items-init c = record { read = ListLoops.starts (spelled Comma ▸ Rule TheVariable) variables_low (further_variable c.args.constant c.args.type_name) c.args.declarations c.args.tokens.now; not_longer = omega arith }

pub returns-in_err-declaration-clause-gives : goal.returns-in_err-declaration-clause-gives
returns-in_err-declaration-clause-gives c =
    let p = err_from_is_err_and c.from_residual.result c.from_residual.ensures.1 in
    rw (p.1, p.2) (ListLoops.breaks (spelled Comma ▸ Rule TheVariable) variables_low (further_variable c.args.constant c.args.type_name) c.args.declarations c.args.tokens.now c.items.rest.now c.items.declarations c.in_err-declaration.field-0.0 (sym c.begins.ensures ∙ c.items-test.true) c.in_err-declaration.ensures.gives c.items.invariant.read)

pub items-preserved : goal.items-preserved
items-preserved c = record {
  read = ListLoops.goes_on (spelled Comma ▸ Rule TheVariable) variables_low (further_variable c.args.constant c.args.type_name) c.args.declarations c.args.tokens.now c.items.rest.now c.items.declarations c.in_ok-declaration.declaration c.push.new.self c.in_ok-declaration.after.now (sym c.begins.ensures ∙ c.items-test.true) c.in_ok-declaration.ensures.gives c.in_ok-declaration.ensures.means c.in_ok-push.ensures.ok c.items.invariant.read;
  not_longer = omega (arith, c.items.invariant.not_longer, c.in_ok-declaration.ensures.shorter);
}

pub returns-clause-gives : goal.returns-clause-gives
returns-clause-gives c = ListLoops.done_gives (spelled Comma ▸ Rule TheVariable) variables_low (further_variable c.args.constant c.args.type_name) c.args.declarations c.args.tokens.now c.items.rest.now c.items.declarations (sym c.begins.ensures ∙ c.items-test.false) c.items.invariant.read

pub returns-clause-means : goal.returns-clause-means
returns-clause-means c = ListLoops.done_means (spelled Comma ▸ Rule TheVariable) variables_low (further_variable c.args.constant c.args.type_name) c.args.declarations c.args.tokens.now c.items.rest.now c.items.declarations (sym c.begins.ensures ∙ c.items-test.false) c.items.invariant.read
