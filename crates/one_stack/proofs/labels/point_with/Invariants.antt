use Rattle.std.proofs.Common.{◌≡◌, drop}
use Rattle.one_stack.specs.Labelled.{point_with}
use Rattle.one_stack.proofs.labels.point_with.Given as goal

abbrev pub invariant-loop-i : goal.invariant-loop-i
invariant-loop-i l = l.found ≡ point_with l.label l.i (drop l.i l.points)
