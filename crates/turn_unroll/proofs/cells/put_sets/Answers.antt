use Rattle.std.proofs.Common.{◌≡◌, ◌<◌, ◌-◌, length, drop, arith, sym, subst}
use Rattle.clause_form.proofs.Rising.{IsOf-more}
use Rattle.guard_prog.specs.Drafts.{plain_sets}
use Rattle.guard_prog.specs.GuardedRun.{value_set}
use Rattle.guard_prog.proofs.Turns.{drop_before}
use Rattle.bit_circuit.proofs.Choosing.{cells_more}
use Rattle.turn_unroll.specs.Cells.{SetsCells, cell_in, sets_in, width_in}
use Rattle.turn_unroll.proofs.Making.{truth_more}
use Rattle.turn_unroll.proofs.Setting.{set_within, sets_more, sets_none, sets_whole}
use Rattle.turn_unroll.proofs.cells.put_sets.Goals as goal

pub loop-i-init : goal.loop-i-init
loop-i-init c = sets_none _ c.args.widths.now c.args.cells.now c.args.next.now c.args.taken c.args.sets.now c.requires.next

pub put_set-requires-clause-truth : goal.put_set-requires-clause-truth
put_set-requires-clause-truth c = truth_more _ _ _ c.requires.truth c.loop-i.invariant.extends

pub put_set-requires-clause-next : goal.put_set-requires-clause-next
put_set-requires-clause-next c = c.loop-i.invariant.inside

pub put_set-requires-clause-cells : goal.put_set-requires-clause-cells
put_set-requires-clause-cells c = cells_more _ _ _ c.args.widths.now c.args.cells.now c.loop-i.invariant.extends c.requires.cells

pub put_set-requires-clause-taken : goal.put_set-requires-clause-taken
put_set-requires-clause-taken c = IsOf-more _ _ c.args.taken c.loop-i.invariant.extends.grows c.requires.taken

pub put_set-requires-clause-cell : goal.put_set-requires-clause-cell
put_set-requires-clause-cell c =
    let lt : c.loop-i.i - 1 < length c.args.sets.now = omega arith in
    let w = set_within _ c.args.sets.now (c.loop-i.i - 1) _ c.index-sets-i.is lt c.requires.sets in
    omega (arith, w.0, c.loop-i.invariant.count, c.requires.count)

pub put_set-requires-clause-names : goal.put_set-requires-clause-names
put_set-requires-clause-names c =
    let lt : c.loop-i.i - 1 < length c.args.sets.now = omega arith in
    (set_within _ c.args.sets.now (c.loop-i.i - 1) _ c.index-sets-i.is lt c.requires.sets).1

pub loop-i-preserved : goal.loop-i-preserved
loop-i-preserved c =
    let some : 0 < c.loop-i.i = omega arith in
    let lt : c.loop-i.i - 1 < length c.args.sets.now = omega arith in
    let front = drop_before c.args.sets.now c.loop-i.i _ some lt c.index-sets-i.is in
    subst (λ sets. SetsCells c.args.circuit.now c.put_set.new.circuit c.args.next.now c.put_set.new.next (λ v q. sets_in v c.args.taken (value_set (width_in c.args.widths.now) (cell_in v c.args.cells.now) (plain_sets sets) q) (cell_in v c.args.next.now q))) (sym front)
    (sets_more c.args.circuit.now c.loop-i.circuit c.put_set.new.circuit c.args.widths.now c.args.cells.now c.args.next.now c.loop-i.next c.put_set.new.next c.args.taken c.index-sets-i.result (drop c.loop-i.i c.args.sets.now) c.requires.cells.same_length c.loop-i.invariant c.in_ok-put_set.ensures)

pub returns : goal.returns
returns c = sets_whole c.args.circuit.now c.loop-i.circuit c.args.widths.now c.args.cells.now c.args.next.now c.loop-i.next c.args.taken c.args.sets.now c.loop-i.i (omega arith) c.loop-i.invariant
