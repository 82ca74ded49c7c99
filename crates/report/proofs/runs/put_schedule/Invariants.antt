use Rattle.std.proofs.Common.{take, Ok}
use Rattle.report.specs.RunTexts.{choice_line}
use Rattle.std.specs.Prelude.{slice_get}
use Rattle.report.specs.Lines.{each}
use Rattle.report.specs.Printing.{Prints}
use Rattle.report.proofs.runs.put_schedule.Given as goal

abbrev pub invariant-loop-i : goal.invariant-loop-i
invariant-loop-i g l = Prints (g.S.Sink.state l.initial.out) (g.S.Sink.state l.out) (each (λ n c. choice_line l.app l.code (slice_get l.events n) c) 0 (take l.i l.choices)) (Ok tt)
