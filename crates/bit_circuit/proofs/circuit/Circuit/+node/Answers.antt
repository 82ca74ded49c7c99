use Rattle.std.proofs.lemmas.Result.{IfOk-weaker}
use Rattle.clause_form.proofs.Rising.{AreOf-more}
use Rattle.chk_base.specs.Operators.{unary_value, binary_value}
use Rattle.chk_base.specs.WordValue.{picked, chosen, word_at}
use Rattle.bit_circuit.specs.Selection.{words_of}
use Rattle.bit_circuit.proofs.Choosing.{cells_kept, one_node, two_node, three_node}
use Rattle.bit_circuit.proofs.circuit.Circuit.+node.Goals as goal

pub binary-requires-clause-a : goal.binary-requires-clause-a
binary-requires-clause-a t c = AreOf-more _ _ c.in_ok-left-in-Bin.left.lits c.in_ok-right-in-Bin.ensures.made.extends.grows c.in_ok-left-in-Bin.ensures.made.inside

pub choose_bus-requires-clause-c : goal.choose_bus-requires-clause-c
choose_bus-requires-clause-c t c = AreOf-more _ _ c.in_ok-test-in-Choose.test.lits c.in_ok-other-in-Choose.ensures.made.extends.grows (AreOf-more _ _ c.in_ok-test-in-Choose.test.lits c.in_ok-then-in-Choose.ensures.made.extends.grows c.in_ok-test-in-Choose.ensures.made.inside)

pub choose_bus-requires-clause-a : goal.choose_bus-requires-clause-a
choose_bus-requires-clause-a t c = AreOf-more _ _ c.in_ok-then-in-Choose.then.lits c.in_ok-other-in-Choose.ensures.made.extends.grows c.in_ok-then-in-Choose.ensures.made.inside

pub returns-in_ok-place-in-Pick-clause-made : goal.returns-in_ok-place-in-Pick-clause-made
returns-in_ok-place-in-Pick-clause-made t c = rw (c.in-Pick.is, ← c.deref.ensures) (IfOk-weaker _ _ _ (λ r p. one_node (λ v n. picked (word_at (words_of v c.args.widths.now c.args.cells.now)) c.in-Pick.base c.in-Pick.len c.in-Pick.signed n) _ _ _ c.in_ok-place-in-Pick.place.lits _ _ _ c.in_ok-place-in-Pick.ensures.made p) c.pick_cell.ensures)

pub returns-in_ok-operand-in-Un-clause-made : goal.returns-in_ok-operand-in-Un-clause-made
returns-in_ok-operand-in-Un-clause-made t c = rw (c.in-Un.is, ← c.deref-in-Un.ensures) (IfOk-weaker _ _ _ (λ r p. one_node (λ v n. unary_value c.in-Un.op n) _ _ _ c.in_ok-operand-in-Un.operand.lits _ _ _ c.in_ok-operand-in-Un.ensures.made p) c.unary.ensures)

pub returns-in_ok-right-in-Bin-clause-made : goal.returns-in_ok-right-in-Bin-clause-made
returns-in_ok-right-in-Bin-clause-made t c = rw (c.in-Bin.is, ← c.deref-in-Bin.ensures, ← c.deref-in-Bin-2.ensures) (IfOk-weaker _ _ _ (λ r p. two_node (λ m n. binary_value c.in-Bin.op m n) _ _ _ _ c.in_ok-left-in-Bin.left.lits c.in_ok-right-in-Bin.right.lits _ _ _ _ _ c.in_ok-left-in-Bin.ensures.made c.in_ok-right-in-Bin.ensures.made p) c.binary.ensures)

pub returns-in_ok-other-in-Choose-clause-made : goal.returns-in_ok-other-in-Choose-clause-made
returns-in_ok-other-in-Choose-clause-made t c = rw (c.in-Choose.is, ← c.deref-in-Choose.ensures, ← c.deref-in-Choose-2.ensures, ← c.deref-in-Choose-3.ensures) (IfOk-weaker _ _ _ (λ r p. three_node (λ l m n. chosen l m n) _ _ _ _ _ c.in_ok-test-in-Choose.test.lits c.in_ok-then-in-Choose.then.lits c.in_ok-other-in-Choose.other.lits _ _ _ _ _ _ _ c.in_ok-test-in-Choose.ensures.made c.in_ok-then-in-Choose.ensures.made c.in_ok-other-in-Choose.ensures.made p) c.choose_bus.ensures)

pub returns-in_ok-place-in-Pick-clause-cells : goal.returns-in_ok-place-in-Pick-clause-cells
returns-in_ok-place-in-Pick-clause-cells t c = cells_kept _ _ c.args.widths.now c.args.cells.now _ _ _ c.in_ok-place-in-Pick.ensures.cells c.pick_cell.ensures

pub returns-in_ok-operand-in-Un-clause-cells : goal.returns-in_ok-operand-in-Un-clause-cells
returns-in_ok-operand-in-Un-clause-cells t c = cells_kept _ _ c.args.widths.now c.args.cells.now _ _ _ c.in_ok-operand-in-Un.ensures.cells c.unary.ensures

pub returns-in_ok-right-in-Bin-clause-cells : goal.returns-in_ok-right-in-Bin-clause-cells
returns-in_ok-right-in-Bin-clause-cells t c = cells_kept _ _ c.args.widths.now c.args.cells.now _ _ _ c.in_ok-right-in-Bin.ensures.cells c.binary.ensures

pub returns-in_ok-other-in-Choose-clause-cells : goal.returns-in_ok-other-in-Choose-clause-cells
returns-in_ok-other-in-Choose-clause-cells t c = cells_kept _ _ c.args.widths.now c.args.cells.now _ _ _ c.in_ok-other-in-Choose.ensures.cells c.choose_bus.ensures
