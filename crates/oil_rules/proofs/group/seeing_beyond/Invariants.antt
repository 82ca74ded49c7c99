use Rattle.std.proofs.Common.{◌≡◌, drop}
use Rattle.oil_rules.specs.Objects.{names_in}
use Rattle.oil_rules.specs.First.{first_of}
use Rattle.oil_rules.specs.Rules.{at_names}
use Rattle.oil_rules.proofs.group.seeing_beyond.Given as goal

-- what is left gives the whole answer
abbrev pub invariant-loop-item : goal.invariant-loop-item
invariant-loop-item l =
    first_of l.first.fault (at_names l.rule (drop l.left (names_in l.group (drop l.item-index l.items))))
    ≡ first_of l.initial.first.fault (at_names l.rule (drop l.limit (names_in l.group l.items)))
