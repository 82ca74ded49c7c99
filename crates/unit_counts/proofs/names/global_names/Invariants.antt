use Rattle.std.proofs.Common.{◌≡◌, ◌++◌, drop}
use Rattle.lower_law.specs.Layout.{global_names}
use Rattle.unit_counts.proofs.names.global_names.Given as goal

-- what is left of the variables
abbrev pub invariant-loop-g : goal.invariant-loop-g
invariant-loop-g l = global_names l.globals ≡ l.names ++ global_names (drop l.g-index l.globals)
