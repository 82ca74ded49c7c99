use Rattle.std.proofs.Common.{arith}
use Rattle.std.proofs.lemmas.List.{get_or_default}
use Rattle.std.proofs.lemmas.Result.{err_from_is_err_and}
use Rattle.report.specs.ShowTexts.{note_text}
use Rattle.report.proofs.Printing.{each_cut, each_next, prints_nothing}
use Rattle.report.proofs.shows.put_notes.Goals as goal

pub loop-i-init : goal.loop-i-init
loop-i-init g c = prints_nothing _ _

pub returns-in_err-put_note : goal.returns-in_err-put_note
returns-in_err-put_note g c = let p = err_from_is_err_and c.from_residual.result c.from_residual.ensures.1 in rw (p.1, ← c.items-notes.ensures) (each_cut (λ n x. note_text x) 0 _ c.loop-i.i c.loop-i.i _ c.loop-i-test.true (get_or_default _ _ _ _ c.loop-i-test.true) (omega arith) c.loop-i.invariant c.in_err-put_note.ensures)

pub loop-i-preserved : goal.loop-i-preserved
loop-i-preserved g c = each_next (λ n x. note_text x) 0 _ c.loop-i.i c.loop-i.i _ c.loop-i-test.true (get_or_default _ _ _ _ c.loop-i-test.true) (omega arith) c.loop-i.invariant c.in_ok-put_note.ensures
