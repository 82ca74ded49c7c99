use Rattle.std.proofs.Common.{◌≡◌, ◌-◌, ◌++◌}
use Rattle.lower_law.specs.Layout.{element_names}
use Rattle.unit_counts.proofs.names.push_elements.Given as goal

-- what is left of the elements
abbrev pub invariant-loop-at : goal.invariant-loop-at
invariant-loop-at l = l.initial.names ++ element_names l.g 0 l.len ≡ l.names ++ element_names l.g l.at (l.len - l.at)
