use Rattle.std.proofs.Common.{◌≡◌, ◌++◌, map, take}
use Rattle.guard_prog.specs.Drafts.{plain_alternatives}
use Rattle.step_ir.specs.Points.{plain_of}
use Rattle.one_stack.specs.Rules as rules
use Rattle.one_stack.specs.Tables.{plan_in, seen, width_in}
use Rattle.one_stack.proofs.alternatives.put_entity.Given as goal

abbrev pub invariant-loop-point : goal.invariant-loop-point
invariant-loop-point l =
    map plain_alternatives l.all
    ≡ map plain_alternatives l.initial.all ++ map (rules.point_alternatives (seen l.layout) (plan_in l.layout) (width_in l.layout) l.e) (map plain_of (take l.point-index l.points))
