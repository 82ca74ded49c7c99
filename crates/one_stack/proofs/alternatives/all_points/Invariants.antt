use Rattle.std.proofs.Common.{◌≡◌, [], ◌∷◌, map}
use Rattle.guard_prog.specs.Drafts.{plain_alternatives}
use Rattle.step_ir.specs.Points.{points_in}
use Rattle.one_stack.specs.Built.{concat_below}
use Rattle.one_stack.specs.Rules as rules
use Rattle.one_stack.specs.Tables.{plan_in, seen, width_in}
use Rattle.one_stack.proofs.alternatives.all_points.Given as goal

abbrev pub invariant-loop-e : goal.invariant-loop-e
invariant-loop-e l =
    map plain_alternatives l.all
    ≡ [] ∷ concat_below l.e (λ e. map (rules.point_alternatives (seen l.layout) (plan_in l.layout) (width_in l.layout) e) (points_in l.code e))
