use Rattle.std.proofs.Common.{sym, subst, Some}
use Rattle.clause_form.proofs.Rising.{AreOf-more}
use Rattle.guard_prog.specs.Drafts.{plain_sets}
use Rattle.bit_circuit.specs.BusValue.{number}
use Rattle.turn_law.specs.Sight.{set_of}
use Rattle.turn_unroll.specs.Cells.{SetsCells, cell_in, sets_in, width_in}
use Rattle.turn_unroll.proofs.Making.{truth_more}
use Rattle.turn_unroll.proofs.Setting.{input_more}
use Rattle.turn_unroll.proofs.cells.put_input.Goals as goal

pub put_cell-requires-clause-truth : goal.put_cell-requires-clause-truth
put_cell-requires-clause-truth c = truth_more _ _ _ c.requires.truth c.in_ok-put_sets.ensures.extends

pub put_cell-requires-clause-value : goal.put_cell-requires-clause-value
put_cell-requires-clause-value c = AreOf-more _ _ c.args.word.lits c.in_ok-put_sets.ensures.extends.grows c.requires.word

pub returns-in_ok-put_cell : goal.returns-in_ok-put_cell
returns-in_ok-put_cell c =
    subst (λ ss. SetsCells c.args.circuit.now c.put_cell.new.circuit c.args.next.now c.put_cell.new.next (λ v q. sets_in v c.args.taken (set_of (width_in c.args.widths.now) (cell_in v c.args.cells.now) (number v c.args.word.lits) (Some c.args.input) (plain_sets ss) q) (cell_in v c.args.next.now q))) (sym c.in-Some.ensures.cases.0)
    (input_more c.args.circuit.now c.put_sets.new.circuit c.put_cell.new.circuit c.args.widths.now c.args.cells.now c.args.next.now c.put_sets.new.next c.put_cell.new.next c.args.taken c.in-Some.first.now c.in-Some.others.now c.args.input c.args.word.lits c.in_ok-put_sets.ensures c.in_ok-put_cell.ensures)
