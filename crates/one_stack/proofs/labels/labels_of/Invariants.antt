use Rattle.std.proofs.Common.{◌≡◌}
use Rattle.one_stack.specs.Built.{table}
use Rattle.one_stack.specs.Labelled.{label_at}
use Rattle.one_stack.proofs.labels.labels_of.Given as goal

abbrev pub invariant-loop-i : goal.invariant-loop-i
invariant-loop-i l = l.labels ≡ table l.i (label_at l.entities l.points)
