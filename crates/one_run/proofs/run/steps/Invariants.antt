use Rattle.std.proofs.Common.{◌≡◌}
use Rattle.one_run.specs.OneRun.{steps}
use Rattle.one_run.proofs.run.steps.Given as goal

abbrev pub invariant-loop : goal.invariant-loop
invariant-loop l = l.choices ≡ steps l.counter
