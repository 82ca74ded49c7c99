use Rattle.std.proofs.Common.{◌≡◌, ◌++◌, drop}
use Rattle.lower_law.specs.Layout.{local_names}
use Rattle.unit_counts.proofs.names.push_locals.Given as goal

-- what is left of the locals
abbrev pub invariant-loop-l : goal.invariant-loop-l
invariant-loop-l l = l.initial.names ++ local_names l.locals ≡ l.names ++ local_names (drop l.l-index l.locals)
