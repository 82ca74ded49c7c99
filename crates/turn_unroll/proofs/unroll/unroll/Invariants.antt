use Rattle.turn_unroll.specs.Unrolls.{IsUnrolled}
use Rattle.turn_unroll.proofs.unroll.unroll.Given as goal

abbrev pub invariant-loop-t : goal.invariant-loop-t
invariant-loop-t l = IsUnrolled l.draft l.count l.t l.unrolled
