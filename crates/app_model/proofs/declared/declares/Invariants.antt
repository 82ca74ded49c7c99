use Rattle.std.proofs.Common.{◌≡◌, take, fold, []}
use Rattle.std.specs.List.{flat_map}
use Rattle.app_model.specs.Application.{with_number, reference}
use Rattle.app_model.proofs.declared.declares.Given as goal

-- the numbers so far
abbrev pub invariant-loop-attribute : goal.invariant-loop-attribute
invariant-loop-attribute l =
    l.numbers ≡ fold with_number [] (flat_map (reference l.known l.kind) (take l.attribute-index l.attributes))
