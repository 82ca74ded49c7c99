use Rattle.std.proofs.Common.{◌∙◌, ap, sym}
use Rattle.chk_base.specs.Widths.{PlainWord}
use Rattle.osek_machine.proofs.starts.cells_with.Goals as goal
use Rattle.osek_machine.proofs.StartWords.{all_set, set_next, word_read, zeros_set}

pub loop-i-init : goal.loop-i-init
loop-i-init c = zeros_set c.args.words.now _ _ c.in_ok-cells.ensures (c.as_slice.ensures.value ∙ c.in_ok-widths.ensures)

pub set-requires-clause-width : goal.set-requires-clause-width
set-requires-clause-width c =
    ap (λ (w : PlainWord). w.width) (word_read c.args.words.now c.loop-i.i c.index-words-i.result c.loop-i-test.true c.index-words-i.is)
    ∙ sym (c.loop-i.invariant.widths c.loop-i.i)

pub loop-i-preserved : goal.loop-i-preserved
loop-i-preserved c =
    set_next c.args.words.now c.loop-i.cells _ c.loop-i.i c.index-words-i.result c.loop-i-test.true (word_read c.args.words.now c.loop-i.i c.index-words-i.result c.loop-i-test.true c.index-words-i.is) c.set.ensures c.loop-i.invariant

pub returns : goal.returns
returns c = all_set c.args.words.now c.loop-i.cells c.loop-i.i c.loop-i-test.false c.loop-i.invariant
