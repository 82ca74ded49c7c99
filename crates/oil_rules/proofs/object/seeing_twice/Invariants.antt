use Rattle.std.proofs.Common.{◌≡◌, drop, []}
use Rattle.oil_rules.specs.Names.{repeats}
use Rattle.oil_rules.specs.First.{first_of}
use Rattle.oil_rules.specs.Rules.{at_names, single_names}
use Rattle.oil_rules.proofs.object.seeing_twice.Given as goal

-- what is left gives the whole answer
abbrev pub invariant-loop-attribute : goal.invariant-loop-attribute
invariant-loop-attribute l =
    first_of l.first.fault (at_names 11 (repeats l.names (single_names l.kind (drop l.attribute-index l.attributes))))
    ≡ first_of l.initial.first.fault (at_names 11 (repeats [] (single_names l.kind l.attributes)))
