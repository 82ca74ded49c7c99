use Rattle.std.proofs.Common.{take, Ok}
use Rattle.report.specs.EventTexts.{event_line}
use Rattle.report.specs.Lines.{each}
use Rattle.report.specs.Printing.{Prints}
use Rattle.report.proofs.events.put_events.Given as goal

abbrev pub invariant-loop-i : goal.invariant-loop-i
invariant-loop-i g l = Prints (g.S.Sink.state l.initial.out) (g.S.Sink.state l.out) (each (event_line l.app l.code) 1 (take l.i l.events)) (Ok tt)
