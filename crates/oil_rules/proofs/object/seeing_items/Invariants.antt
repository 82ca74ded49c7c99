use Rattle.std.proofs.Common.{◌≡◌, take}
use Rattle.std.specs.List.{flat_map}
use Rattle.oil_rules.specs.First.{first_of}
use Rattle.oil_rules.specs.Rules.{item_faults}
use Rattle.oil_rules.proofs.object.seeing_items.Given as goal

-- the faults of the items so far are seen
abbrev pub invariant-loop-item : goal.invariant-loop-item
invariant-loop-item l =
    l.first.fault ≡ first_of l.initial.first.fault (flat_map (item_faults l.known) (take l.item-index l.items))
