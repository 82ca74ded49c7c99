use Rattle.std.proofs.Common.{take, length, Ok}
use Rattle.report.specs.ShowTexts.{routine_line}
use Rattle.report.specs.Lines.{each}
use Rattle.report.specs.Printing.{Prints}
use Rattle.report.proofs.shows.put_routines.Given as goal

abbrev pub invariant-loop-i : goal.invariant-loop-i
invariant-loop-i g l = Prints (g.S.Sink.state l.initial.out) (g.S.Sink.state l.out) (each (routine_line l.code) (length l.app.tasks) (take l.i l.routines)) (Ok tt)
