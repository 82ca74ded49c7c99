use Rattle.std.proofs.Common.{◌≡◌, max, drop}
use Rattle.one_stack.specs.Labelled.{most_in}
use Rattle.one_stack.proofs.labels.most_in.Given as goal

abbrev pub invariant-loop-a : goal.invariant-loop-a
invariant-loop-a l = max l.most (most_in (drop l.a-index l.alternatives)) ≡ most_in l.alternatives
