use Rattle.std.proofs.Common.{◌≡◌, ◌+◌, ◌-◌}
use Rattle.format.specs.Format.{ahead, times}
use Rattle.cert_form.specs.Words.{spaced, value_token}
use Rattle.cert_form.specs.Texts.{tokens}
use Rattle.cert_form.proofs.ending.values.Given as goal

abbrev pub invariant-loop-variable : goal.invariant-loop-variable
invariant-loop-variable l = (times (λ v. spaced (value_token v)) 1 l.variables).read (tokens l.text) ≡ ahead l.values ((times (λ v. spaced (value_token v)) l.variable (l.variables + 1 - l.variable)).read (tokens l.rest))
