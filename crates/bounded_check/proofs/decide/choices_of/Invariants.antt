use Rattle.std.proofs.Common.{◌≡◌}
use Rattle.bounded_check.proofs.Looking.{first_choices}
use Rattle.bounded_check.proofs.decide.choices_of.Given as goal
use Rattle.one_stack.specs.Labelled.{chosen_by}

abbrev pub invariant-loop-at : goal.invariant-loop-at
invariant-loop-at l = l.choices ≡ first_choices (chosen_by l.stack.labels) l.run l.at
