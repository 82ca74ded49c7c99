use Rattle.std.proofs.Common.{take, Ok}
use Rattle.report.specs.ShowTexts.{task_line}
use Rattle.report.specs.Lines.{each}
use Rattle.report.specs.Printing.{Prints}
use Rattle.report.proofs.shows.put_tasks.Given as goal

abbrev pub invariant-loop-i : goal.invariant-loop-i
invariant-loop-i g l = Prints (g.S.Sink.state l.initial.out) (g.S.Sink.state l.out) (each (task_line l.code) 0 (take l.i l.tasks)) (Ok tt)
