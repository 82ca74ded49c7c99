-- One constant more, a stop within one, a comma after the last one, and the end.
use Rattle.std.proofs.Common.{◌∙◌, sym, refl, arith}
use Rattle.std.proofs.lemmas.Result.{err_from_is_err_and}
use Rattle.grammar.specs.Grammar.{Nil, Pair, Left, Right, Node}
use Rattle.c_grammar.specs.declared.symbol.Symbol.TheVariants.{Comma}
use Rattle.c_grammar.specs.Trees.{written_tree}
use Rattle.c_grammar.specs.Written.{spelled}
use Rattle.c_expression.specs.Reads.{tree_at}
use Rattle.c_parse.proofs.Tails
use Rattle.c_parse.proofs.externals.tail.Goals as goal

pub items-init : goal.items-init
items-init c = record { read = Tails.starts c.args.constants c.args.tokens.now; not_longer = omega arith }

pub items-preserved : goal.items-preserved
items-preserved c = record {
  read = Tails.goes_on c.args.constants c.args.tokens.now c.items.rest.now c.items.constants c.in_ok-after.after.now c.in_ok-constant.after.now c.in_ok-constant.constant c.push.new.self (sym c.begins.ensures ∙ c.items-test.true) c.in_ok-after.ensures.gives (sym c.begins_constant.ensures ∙ c.if-not-begins_constant.false) c.in_ok-constant.ensures.gives c.in_ok-constant.ensures.means c.in_ok-push.ensures.ok c.items.invariant.read;
  not_longer = omega (arith, c.items.invariant.not_longer, c.in_ok-after.ensures.shorter, c.in_ok-constant.ensures.shorter);
}

pub returns-in_err-constant-clause-gives : goal.returns-in_err-constant-clause-gives
returns-in_err-constant-clause-gives c =
    let p = err_from_is_err_and c.from_residual-in_err-constant.result c.from_residual-in_err-constant.ensures.1 in
    rw (p.1, p.2) (Tails.stops_there c.args.constants c.args.tokens.now c.items.rest.now c.items.constants c.in_err-constant.field-0.0 (Tails.stops_item c.items.rest.now c.in_ok-after.after.now (tree_at (spelled Comma) c.items.rest.now) c.in_err-constant.field-0.0 (sym c.begins.ensures ∙ c.items-test.true) c.in_ok-after.ensures.gives (sym c.begins_constant.ensures ∙ c.if-not-begins_constant.false) c.in_err-constant.ensures.gives) c.items.invariant.read)

pub returns-then-not-begins_constant-clause-gives : goal.returns-then-not-begins_constant-clause-gives
returns-then-not-begins_constant-clause-gives c =
    let t = tree_at (spelled Comma) c.items.rest.now in
    Tails.ends_gives c.args.constants c.args.tokens.now c.items.rest.now c.items.constants (Left (Node (Pair t (Right Nil)))) c.in_ok-after.after.now (Tails.last_comma c.items.rest.now c.in_ok-after.after.now t (sym c.begins.ensures ∙ c.items-test.true) c.in_ok-after.ensures.gives (sym c.begins_constant.ensures ∙ c.if-not-begins_constant.true)) c.items.invariant.read

pub returns-then-not-begins_constant-clause-means : goal.returns-then-not-begins_constant-clause-means
returns-then-not-begins_constant-clause-means c =
    let t = tree_at (spelled Comma) c.items.rest.now in
    Tails.ends_constants c.args.constants c.args.tokens.now c.items.rest.now c.items.constants (Left (Node (Pair t (Right Nil)))) (Left (written_tree (spelled Comma) t)) c.in_ok-after.after.now (Tails.last_comma c.items.rest.now c.in_ok-after.after.now t (sym c.begins.ensures ∙ c.items-test.true) c.in_ok-after.ensures.gives (sym c.begins_constant.ensures ∙ c.if-not-begins_constant.true)) (Tails.last_comma_written t) c.items.invariant.read

pub returns-clause-gives : goal.returns-clause-gives
returns-clause-gives c = Tails.ends_gives c.args.constants c.args.tokens.now c.items.rest.now c.items.constants (Right Nil) c.items.rest.now (Tails.left_out c.items.rest.now (sym c.begins.ensures ∙ c.items-test.false)) c.items.invariant.read

pub returns-clause-means : goal.returns-clause-means
returns-clause-means c = Tails.ends_constants c.args.constants c.args.tokens.now c.items.rest.now c.items.constants (Right Nil) (Right Nil) c.items.rest.now (Tails.left_out c.items.rest.now (sym c.begins.ensures ∙ c.items-test.false)) refl c.items.invariant.read
