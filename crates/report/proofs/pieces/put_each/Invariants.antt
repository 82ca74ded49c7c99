use Rattle.std.proofs.Common.{take, Ok}
use Rattle.report.specs.Pieces.{piece_text}
use Rattle.report.specs.Lines.{each}
use Rattle.report.specs.Printing.{Prints}
use Rattle.report.proofs.pieces.put_each.Given as goal

abbrev pub invariant-loop-i : goal.invariant-loop-i
invariant-loop-i g l = Prints (g.S.Sink.state l.initial.out) (g.S.Sink.state l.out) (each (λ n x. piece_text x) 0 (take l.i l.pieces)) (Ok tt)
