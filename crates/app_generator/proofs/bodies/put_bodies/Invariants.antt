use Rattle.std.proofs.Common.{◌≡◌, ◌*◌, Ok}
use Rattle.std.specs.declared.alloc.AllocError.{AllocError}
use Rattle.app_generator.specs.Drawn.{state_after}
use Rattle.app_generator.specs.Generated.{body_from, each_below}
use Rattle.app_generator.specs.Puts.{Puts}
use Rattle.app_generator.proofs.bodies.put_bodies.Given as goal

abbrev pub invariant-loop-i : goal.invariant-loop-i
invariant-loop-i l =
    Puts {E = AllocError} l.fn.text l.text (each_below (body_from l.fn.draws.state l.tasks l.arrivals) l.i) (Ok tt) × (l.draws.state ≡ state_after l.fn.draws.state (12 * l.i))
