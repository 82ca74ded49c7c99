-- One branch more, a stop within one, a last block, and the end. A list of statements likewise.
use Rattle.std.proofs.Common.{◌∙◌, List, [], Some, ap, sym, refl, arith}
use Rattle.c_unit.specs.declared.statement.Statement.{Statement}
use Rattle.std.proofs.lemmas.Result.{err_from_is_err_and}
use Rattle.grammar.specs.Grammar.{Rule, Nil, Pair, Left, Right, Node}
use Rattle.c_grammar.specs.declared.symbol.Symbol.TheVariants.{Else}
use Rattle.c_grammar.specs.Factored.{TheStatement, TheBlock}
use Rattle.c_grammar.specs.Written.{spelled}
use Rattle.c_grammar.specs.Trees.{written_tree}
use Rattle.c_expression.specs.Reads.{tree_at}
use Rattle.c_parse.specs.Statements.{statement_of}
use Rattle.c_expression.proofs.ListLoops
use Rattle.c_parse.proofs.Elses
use Rattle.c_parse.proofs.Fors
use Rattle.c_parse.proofs.Lows.{statements_low}
use Rattle.c_parse.proofs.Meant.{statements_mapped}
use Rattle.c_parse.proofs.statements.+statements.Goals as goal

pub statements-items-init : goal.statements-items-init
statements-items-init t c = record { read = rw c.new-statements.ensures (ListLoops.starts (Rule TheStatement) statements_low statement_of [] c.args.tokens.now); not_longer = omega arith }

pub statements-returns-in_err-statement-clause-gives : goal.statements-returns-in_err-statement-clause-gives
statements-returns-in_err-statement-clause-gives t c =
    let p = err_from_is_err_and c.from_residual.result c.from_residual.ensures.1 in
    rw (p.1, p.2) (ListLoops.breaks (Rule TheStatement) statements_low statement_of [] c.args.tokens.now c.items.rest.now c.items.statements c.in_err-statement.field-0.0 (sym c.begins_statement.ensures ∙ c.items-test.true) c.in_err-statement.ensures.gives c.items.invariant.read)

pub statements-items-preserved : goal.statements-items-preserved
statements-items-preserved t c = record {
  read = ListLoops.goes_on (Rule TheStatement) statements_low statement_of [] c.args.tokens.now c.items.rest.now c.items.statements c.in_ok-statement.statement c.push.new.self c.in_ok-statement.after.now (sym c.begins_statement.ensures ∙ c.items-test.true) c.in_ok-statement.ensures.gives c.in_ok-statement.ensures.means c.in_ok-push.ensures.ok c.items.invariant.read;
  not_longer = omega (arith, c.items.invariant.not_longer, c.in_ok-statement.ensures.shorter);
}

pub statements-returns-clause-gives : goal.statements-returns-clause-gives
statements-returns-clause-gives t c = ListLoops.done_gives (Rule TheStatement) statements_low statement_of [] c.args.tokens.now c.items.rest.now c.items.statements (sym c.begins_statement.ensures ∙ c.items-test.false) c.items.invariant.read

pub statements-returns-clause-means : goal.statements-returns-clause-means
statements-returns-clause-means t c = statements_mapped _ ∙ sym (ListLoops.done_means (Rule TheStatement) statements_low statement_of [] c.args.tokens.now c.items.rest.now c.items.statements (sym c.begins_statement.ensures ∙ c.items-test.false) c.items.invariant.read)

pub otherwise-items-init : goal.otherwise-items-init
otherwise-items-init t c = record { read = Elses.starts c.args.branches c.args.tokens.now; not_longer = omega arith }

pub otherwise-items-preserved : goal.otherwise-items-preserved
otherwise-items-preserved t c = record {
  read = Elses.goes_on c.args.branches c.args.tokens.now c.items.rest.now c.items.branches c.in_ok-after.after.now c.in_ok-branch.after.now c.in_ok-branch.branch c.push.new.self (sym c.begins.ensures ∙ c.items-test.true) c.in_ok-after.ensures.gives (sym c.begins-in-items.ensures ∙ c.if-not-begins.false) c.in_ok-branch.ensures.gives c.in_ok-branch.ensures.means c.in_ok-push.ensures.ok c.items.invariant.read;
  not_longer = omega (arith, c.items.invariant.not_longer, c.in_ok-after.ensures.shorter, c.in_ok-branch.ensures.shorter);
}

pub otherwise-returns-in_err-branch-clause-gives : goal.otherwise-returns-in_err-branch-clause-gives
otherwise-returns-in_err-branch-clause-gives t c =
    let p = err_from_is_err_and c.from_residual-in_err-branch.result c.from_residual-in_err-branch.ensures.1 in
    rw (p.1, p.2) (Elses.stops_there c.args.branches c.args.tokens.now c.items.rest.now c.items.branches c.in_err-branch.field-0.0 (Elses.stops_item c.items.rest.now c.in_ok-after.after.now (tree_at (spelled Else) c.items.rest.now) c.in_err-branch.field-0.0 (sym c.begins.ensures ∙ c.items-test.true) c.in_ok-after.ensures.gives (sym c.begins-in-items.ensures ∙ c.if-not-begins.false) c.in_err-branch.ensures.gives) c.items.invariant.read)

pub otherwise-returns-in_err-block-clause-gives : goal.otherwise-returns-in_err-block-clause-gives
otherwise-returns-in_err-block-clause-gives t c =
    let p = err_from_is_err_and c.from_residual-in_err-block.result c.from_residual-in_err-block.ensures.1 in
    rw (p.1, p.2) (Elses.stops_there c.args.branches c.args.tokens.now c.items.rest.now c.items.branches c.in_err-block.field-0.0 (Elses.stops_block c.items.rest.now c.in_ok-after.after.now (tree_at (spelled Else) c.items.rest.now) c.in_err-block.field-0.0 (sym c.begins.ensures ∙ c.items-test.true) c.in_ok-after.ensures.gives (sym c.begins-in-items.ensures ∙ c.if-not-begins.true) c.in_err-block.ensures.gives) c.items.invariant.read)

pub otherwise-returns-then-not-begins-clause-gives : goal.otherwise-returns-then-not-begins-clause-gives
otherwise-returns-then-not-begins-clause-gives t c =
    let e = tree_at (spelled Else) c.items.rest.now in
    let b = tree_at (Rule TheBlock) c.in_ok-after.after.now in
    Elses.ends_gives c.args.branches c.args.tokens.now c.items.rest.now c.items.branches (Left (Node (Pair e (Right b)))) c.in_ok-block.after.now (Elses.last_block c.items.rest.now c.in_ok-after.after.now c.in_ok-block.after.now e b (sym c.begins.ensures ∙ c.items-test.true) c.in_ok-after.ensures.gives (sym c.begins-in-items.ensures ∙ c.if-not-begins.true) c.in_ok-block.ensures.gives) c.items.invariant.read

pub otherwise-returns-then-not-begins-clause-branches : goal.otherwise-returns-then-not-begins-clause-branches
otherwise-returns-then-not-begins-clause-branches t c =
    let e = tree_at (spelled Else) c.items.rest.now in
    let b = tree_at (Rule TheBlock) c.in_ok-after.after.now in
    Elses.ends_branches c.args.branches c.args.tokens.now c.items.rest.now c.items.branches (Left (Node (Pair e (Right b)))) (Left (Pair (written_tree (spelled Else) e) (written_tree (Rule TheBlock) b))) c.in_ok-block.after.now (Elses.last_block c.items.rest.now c.in_ok-after.after.now c.in_ok-block.after.now e b (sym c.begins.ensures ∙ c.items-test.true) c.in_ok-after.ensures.gives (sym c.begins-in-items.ensures ∙ c.if-not-begins.true) c.in_ok-block.ensures.gives) (Elses.last_block_written e b) c.items.invariant.read

pub otherwise-returns-then-not-begins-clause-last : goal.otherwise-returns-then-not-begins-clause-last
otherwise-returns-then-not-begins-clause-last t c =
    let e = tree_at (spelled Else) c.items.rest.now in
    let b = tree_at (Rule TheBlock) c.in_ok-after.after.now in
    Elses.ends_last c.args.branches c.args.tokens.now c.items.rest.now c.items.branches (Left (Node (Pair e (Right b)))) (Left (Pair (written_tree (spelled Else) e) (written_tree (Rule TheBlock) b))) c.in_ok-block.after.now (Elses.last_block c.items.rest.now c.in_ok-after.after.now c.in_ok-block.after.now e b (sym c.begins.ensures ∙ c.items-test.true) c.in_ok-after.ensures.gives (sym c.begins-in-items.ensures ∙ c.if-not-begins.true) c.in_ok-block.ensures.gives) (Elses.last_block_written e b) c.items.invariant.read ∙ ap (λ (x : List Statement). Some x) c.in_ok-block.ensures.means

pub otherwise-returns-clause-gives : goal.otherwise-returns-clause-gives
otherwise-returns-clause-gives t c = Elses.ends_gives c.args.branches c.args.tokens.now c.items.rest.now c.items.branches (Right Nil) c.items.rest.now (Elses.left_out c.items.rest.now (sym c.begins.ensures ∙ c.items-test.false)) c.items.invariant.read

pub otherwise-returns-clause-branches : goal.otherwise-returns-clause-branches
otherwise-returns-clause-branches t c = Elses.ends_branches c.args.branches c.args.tokens.now c.items.rest.now c.items.branches (Right Nil) (Right Nil) c.items.rest.now (Elses.left_out c.items.rest.now (sym c.begins.ensures ∙ c.items-test.false)) refl c.items.invariant.read

pub otherwise-returns-clause-last : goal.otherwise-returns-clause-last
otherwise-returns-clause-last t c = Elses.ends_last c.args.branches c.args.tokens.now c.items.rest.now c.items.branches (Right Nil) (Right Nil) c.items.rest.now (Elses.left_out c.items.rest.now (sym c.begins.ensures ∙ c.items-test.false)) refl c.items.invariant.read

pub for_statement-returns-clause-means : goal.for_statement-returns-clause-means
for_statement-returns-clause-means t c = Fors.for_means c.args.tokens.now c.in_ok-place.rest.now c.in_ok-rest.rest.now c.in_ok-start.rest.now c.in_ok-rest-2.rest.now c.in_ok-condition.rest.now c.in_ok-rest-3.rest.now c.in_ok-step.rest.now c.in_ok-rest-4.rest.now c.in_ok-block.rest.now c.in_ok-place.place c.in_ok-start.start c.in_ok-condition.condition c.in_ok-step.step c.in_ok-block.block c.in_ok-place.ensures.gives c.in_ok-rest.ensures.gives c.in_ok-start.ensures.gives c.in_ok-rest-2.ensures.gives c.in_ok-condition.ensures.gives c.in_ok-rest-3.ensures.gives c.in_ok-step.ensures.gives c.in_ok-rest-4.ensures.gives c.in_ok-block.ensures.gives c.in_ok-place.ensures.means c.in_ok-start.ensures.means c.in_ok-condition.ensures.means c.in_ok-step.ensures.means c.in_ok-block.ensures.means
