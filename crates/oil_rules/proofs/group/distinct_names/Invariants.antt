use Rattle.std.proofs.Common.{◌≡◌, take}
use Rattle.oil_rules.specs.Names.{distinct}
use Rattle.oil_rules.specs.Objects.{texts_in}
use Rattle.oil_rules.proofs.group.distinct_names.Given as goal

-- the names of the items so far
abbrev pub invariant-loop-item : goal.invariant-loop-item
invariant-loop-item l = l.names ≡ distinct (texts_in l.group (take l.item-index l.items))
