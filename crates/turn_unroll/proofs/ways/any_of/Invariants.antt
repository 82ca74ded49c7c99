use Rattle.std.proofs.Common.{take}
use Rattle.turn_unroll.specs.Rows.{GivesLit}
use Rattle.turn_unroll.specs.Ways.{any_way, holds_of}
use Rattle.turn_unroll.proofs.ways.any_of.Given as goal

abbrev pub invariant-loop-i : goal.invariant-loop-i
invariant-loop-i l = GivesLit l.fn.circuit l.circuit l.some (λ v. any_way v (holds_of l.test) (take l.i l.ways))
