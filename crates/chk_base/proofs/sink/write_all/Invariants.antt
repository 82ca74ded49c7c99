use Rattle.std.proofs.Common.{ℕ, List, length}
use Rattle.chk_base.proofs.SinkSoFar.{SoFar}
use Rattle.chk_base.proofs.sink.write_all.Given as goal

abbrev pub invariant-loop-rest : goal.invariant-loop-rest
invariant-loop-rest g l = (done : List ℕ) × SoFar (g.S.Sink.state l.initial.out) (g.S.Sink.state l.out) l.piece done l.rest

abbrev pub decreases-loop-rest : goal.decreases-loop-rest
decreases-loop-rest g l = length l.rest
