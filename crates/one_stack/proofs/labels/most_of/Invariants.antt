use Rattle.std.proofs.Common.{◌≡◌, max, drop}
use Rattle.one_stack.specs.Labelled.{most_of}
use Rattle.one_stack.proofs.labels.most_of.Given as goal

abbrev pub invariant-loop-point : goal.invariant-loop-point
invariant-loop-point l = max l.most (most_of (drop l.point-index l.points)) ≡ most_of l.points
