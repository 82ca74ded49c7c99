-- The parts of an `if` and of a `for`, and the branches that are left.
use denote.Param.Weighed.{at_most}
use Rattle.std.proofs.Common.{◌≡◌, ◌-◌, ◌^◌, [], ◌∷◌, Some, None, sym, ap, ◌∙◌, subst, arith, rules}
use Rattle.std.specs.Prelude.{map, IfOk}
use Rattle.typed_unit.specs.declared.typed.TypedBranch.{TypedBranch}
use Rattle.typed_unit.specs.declared.typed.TypedBranch as written_branch
use Rattle.typed_unit.specs.declared.typed.TypedStatement as written
use Rattle.typed_unit.specs.declared.typed.TypedStatement.TheVariants as s
use Rattle.typed_unit.specs.Views as typed
use Rattle.lower_law.specs.Statements.{CellStatement, Loop, Block, block}
use Rattle.lower_pieces.specs.declared.tree.StatementTree as made
use Rattle.lower_pieces.specs.Trees.{tree_of, statement_of}
use Rattle.lower_code.specs.Chains.{BranchesBelow}
use Rattle.lower_code.proofs.Chained.{branches_at, otherwise_at, start_at, step_at, body_at, one_below, no_branch, block_seen, if_done, for_done, all_done}
use Rattle.lower_code.proofs.statements.+statements.Goals as goal

pub branched-returns-in-None : goal.branched-returns-in-None
branched-returns-in-None t c =
    let e : statement_of (made.Block c.args.off) ≡ Block (block (map statement_of c.args.off.items)) = search (rules, made.the_lemmas) in
    e ∙ no_branch c.args.globals.now c.args.locals.now c.args.place c.args.branches.now (block (map statement_of c.args.off.items)) c.in-None.ensures.lookup.3

pub chained-branch-alloc-requires : goal.chained-branch-alloc-requires
chained-branch-alloc-requires t c =
    let one = c.index-branches-i in
    let within = c.loop-i.invariant.0 in
    let some = c.loop-i-test.true in
    let h = one_below c.args.globals.now c.args.locals.now (2 ^ 16) c.args.branches.now (c.loop-i.i - 1) one.result (omega (arith, within, some)) c.requires.numbers in
    (first_of (search (rules, written_branch.the_lemmas, at_most), grind (arith, written_branch.the_lemmas, at_most)), (c.requires.cells, subst (λ (b : TypedBranch). BranchesBelow c.args.globals.now c.args.locals.now (2 ^ 16) (typed.branch_of b ∷ [])) (sym one.is) h))

pub statement-statement_block-requires-in-For : goal.statement-statement_block-requires-in-For
statement-statement_block-requires-in-For t c =
    let a = c.in-For in
    (first_of (search (rules, written.the_lemmas), grind (arith, written.the_lemmas)), (c.requires.cells, start_at c.args.globals.now c.args.locals.now (2 ^ 16) c.args.s.now a.place a.start a.test a.step a.body _ a.is c.as_slice-in-For.ensures c.requires.numbers))

pub statement-statement_block-requires-in-For-2 : goal.statement-statement_block-requires-in-For-2
statement-statement_block-requires-in-For-2 t c =
    let a = c.in-For in
    (first_of (search (rules, written.the_lemmas), grind (arith, written.the_lemmas)), (c.requires.cells, step_at c.args.globals.now c.args.locals.now (2 ^ 16) c.args.s.now a.place a.start a.test a.step a.body _ a.is c.as_slice-in-For-2.ensures c.requires.numbers))

pub statement-statement_block-requires-in-For-3 : goal.statement-statement_block-requires-in-For-3
statement-statement_block-requires-in-For-3 t c =
    let a = c.in-For in
    (first_of (search (rules, written.the_lemmas), grind (arith, written.the_lemmas)), (c.requires.cells, body_at c.args.globals.now c.args.locals.now (2 ^ 16) c.args.s.now a.place a.start a.test a.step a.body _ a.is c.as_slice-in-For-3.ensures c.requires.numbers))

pub statement-returns-in_ok-push-in-For : goal.statement-returns-in_ok-push-in-For
statement-returns-in_ok-push-in-For t c =
    let a = c.in-For in
    let start = block_seen c.args.globals.now c.args.locals.now a.start _ _ c.as_slice-in-For.ensures c.in_ok-all-in-For.ensures in
    let third = block_seen c.args.globals.now c.args.locals.now a.step _ _ c.as_slice-in-For-2.ensures c.in_ok-statement_block-in-For.ensures in
    let inner = block_seen c.args.globals.now c.args.locals.now a.body _ _ c.as_slice-in-For-3.ensures c.in_ok-statement_block-in-For-2.ensures in
    let loop = made.Loop a.place c.in_ok-condition-in-For.field-0 c.in_ok-statement_block-in-For.field-0 c.in_ok-statement_block-in-For-2.field-0 in
    let e : statement_of (made.Block c.push.new.self) ≡ Block (block (map statement_of c.push.new.self.items)) = search (rules, made.the_lemmas) in
    let l : statement_of loop
    ≡ Loop a.place (tree_of c.in_ok-condition-in-For.field-0) (block (map statement_of c.in_ok-statement_block-in-For.field-0.items)) (block (map statement_of c.in_ok-statement_block-in-For-2.field-0.items)) =
    search (rules, made.the_lemmas) in
    e
    ∙ for_done c.args.globals.now c.args.locals.now c.args.s.now a.place a.start a.test a.step a.body c.push.new.self.items c.in_ok-all-in-For.all.items loop _ _ _
    a.is c.in_ok-push-in-For.ensures.items start l c.in_ok-condition-in-For.ensures third inner

pub statement-branched-requires : goal.statement-branched-requires
statement-branched-requires t c =
    let a = c.in-If in
    (first_of (search (rules, written.the_lemmas), grind (arith, written.the_lemmas)), (c.requires.cells, branches_at c.args.globals.now c.args.locals.now (2 ^ 16) c.args.s.now a.place a.branches _ a.otherwise a.is c.as_slice-in-None.ensures c.requires.numbers))

pub statement-branched-requires-in-Some : goal.statement-branched-requires-in-Some
statement-branched-requires-in-Some t c =
    let a = c.in-If in
    (first_of (search (rules, written.the_lemmas), grind (arith, written.the_lemmas)), (c.requires.cells, branches_at c.args.globals.now c.args.locals.now (2 ^ 16) c.args.s.now a.place a.branches _ a.otherwise a.is c.as_slice-in-Some-2.ensures c.requires.numbers))

pub statement-statement_block-requires : goal.statement-statement_block-requires
statement-statement_block-requires t c =
    let a = c.in-If in
    let e = a.is ∙ ap (λ o. s.If a.place a.branches o) c.in-Some.is in
    (first_of (search (rules, written.the_lemmas), grind (arith, written.the_lemmas)), (c.requires.cells, otherwise_at c.args.globals.now c.args.locals.now (2 ^ 16) c.args.s.now a.place a.branches c.in-Some.body _ e c.as_slice-in-Some.ensures c.requires.numbers))

pub statement-returns-in-None : goal.statement-returns-in-None
statement-returns-in-None t c =
    let a = c.in-If in
    let e = a.is ∙ ap (λ o. s.If a.place a.branches o) c.in-None.is in
    let q = if_done c.args.globals.now c.args.locals.now c.args.s.now a.place a.branches _ None _ e c.as_slice-in-None.ensures (ap (λ ts. block (map statement_of ts)) c.new.ensures.items) in
    subst (λ (x : CellStatement). IfOk c.branched.result (λ r. statement_of r ≡ x)) q c.branched.ensures

pub statement-returns-in_ok-off-in-Some : goal.statement-returns-in_ok-off-in-Some
statement-returns-in_ok-off-in-Some t c =
    let a = c.in-If in
    let e = a.is ∙ ap (λ o. s.If a.place a.branches o) c.in-Some.is in
    let off = block_seen c.args.globals.now c.args.locals.now c.in-Some.body _ _ c.as_slice-in-Some.ensures c.in_ok-off-in-Some.ensures in
    let q = if_done c.args.globals.now c.args.locals.now c.args.s.now a.place a.branches _ (Some c.in-Some.body) _ e c.as_slice-in-Some-2.ensures off in
    subst (λ (x : CellStatement). IfOk c.branched-in-Some.result (λ r. statement_of r ≡ x)) q c.branched-in-Some.ensures

pub statement_block-returns : goal.statement_block-returns
statement_block-returns t c =
    all_done c.args.globals.now c.args.locals.now c.args.ss.now c.loop-s.s-index (block (map statement_of c.loop-s.trees.items)) (omega arith) c.loop-s.invariant.1
