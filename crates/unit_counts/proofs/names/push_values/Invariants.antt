use Rattle.std.proofs.Common.{◌≡◌, ◌++◌}
use Rattle.lower_law.specs.Layout.{value_names}
use Rattle.unit_counts.proofs.names.push_values.Given as goal

abbrev pub invariant-loop-value : goal.invariant-loop-value
invariant-loop-value l = l.names ≡ l.initial.names ++ value_names l._value
