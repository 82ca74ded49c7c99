-- One item more, a stop within an item, and the end.
use Rattle.std.proofs.Common.{◌∙◌, sym, arith}
use Rattle.std.proofs.lemmas.Result.{err_from_is_err_and}
use Rattle.grammar.specs.Grammar.{◌▸◌}
use Rattle.c_grammar.specs.declared.symbol.Symbol.TheVariants.{Comma}
use Rattle.c_grammar.specs.Written.{spelled, declarator}
use Rattle.c_grammar.specs.Factored.{TheRight}
use Rattle.c_parse.specs.Statements.{further_declarator}
use Rattle.c_expression.proofs.ListLoops
use Rattle.c_parse.proofs.Lows.{declarators_low}
use Rattle.c_parse.proofs.simples.further_declarators.Goals as goal

pub items-init : goal.items-init
items-init c = record { read = ListLoops.starts (spelled Comma ▸ declarator TheRight) declarators_low (further_declarator) c.args.declarators c.args.tokens.now; not_longer = omega arith }

pub returns-in_err-declarator-clause-gives : goal.returns-in_err-declarator-clause-gives
returns-in_err-declarator-clause-gives c =
    let p = err_from_is_err_and c.from_residual.result c.from_residual.ensures.1 in
    rw (p.1, p.2) (ListLoops.breaks (spelled Comma ▸ declarator TheRight) declarators_low (further_declarator) c.args.declarators c.args.tokens.now c.items.rest.now c.items.declarators c.in_err-declarator.field-0.0 (sym c.begins.ensures ∙ c.items-test.true) c.in_err-declarator.ensures.gives c.items.invariant.read)

pub items-preserved : goal.items-preserved
items-preserved c = record {
  read = ListLoops.goes_on (spelled Comma ▸ declarator TheRight) declarators_low (further_declarator) c.args.declarators c.args.tokens.now c.items.rest.now c.items.declarators c.in_ok-declarator.declarator c.push.new.self c.in_ok-declarator.after.now (sym c.begins.ensures ∙ c.items-test.true) c.in_ok-declarator.ensures.gives c.in_ok-declarator.ensures.means c.in_ok-push.ensures.ok c.items.invariant.read;
  not_longer = omega (arith, c.items.invariant.not_longer, c.in_ok-declarator.ensures.shorter);
}

pub returns-clause-gives : goal.returns-clause-gives
returns-clause-gives c = ListLoops.done_gives (spelled Comma ▸ declarator TheRight) declarators_low (further_declarator) c.args.declarators c.args.tokens.now c.items.rest.now c.items.declarators (sym c.begins.ensures ∙ c.items-test.false) c.items.invariant.read

pub returns-clause-means : goal.returns-clause-means
returns-clause-means c = ListLoops.done_means (spelled Comma ▸ declarator TheRight) declarators_low (further_declarator) c.args.declarators c.args.tokens.now c.items.rest.now c.items.declarators (sym c.begins.ensures ∙ c.items-test.false) c.items.invariant.read
