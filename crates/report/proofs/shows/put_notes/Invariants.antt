use Rattle.std.proofs.Common.{take, Ok}
use Rattle.report.specs.ShowTexts.{note_text}
use Rattle.report.specs.Lines.{each}
use Rattle.report.specs.Printing.{Prints}
use Rattle.report.proofs.shows.put_notes.Given as goal

abbrev pub invariant-loop-i : goal.invariant-loop-i
invariant-loop-i g l = Prints (g.S.Sink.state l.initial.out) (g.S.Sink.state l.out) (each (λ n x. note_text x) 0 (take l.i l.notes)) (Ok tt)
