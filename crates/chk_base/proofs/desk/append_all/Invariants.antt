use Rattle.std.proofs.Common.{ℕ, List, length}
use Rattle.chk_base.proofs.DeskSoFar.{SoFar}
use Rattle.chk_base.proofs.desk.append_all.Given as goal

abbrev pub invariant-loop-rest : goal.invariant-loop-rest
invariant-loop-rest g l = (done : List ℕ) × SoFar (g.D.Desk.state l.initial.desk) (g.D.Desk.state l.desk) l.piece done l.rest

abbrev pub decreases-loop-rest : goal.decreases-loop-rest
decreases-loop-rest g l = length l.rest
