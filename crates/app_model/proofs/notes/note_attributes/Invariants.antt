use Rattle.std.proofs.Common.{◌≡◌, ◌++◌, take}
use Rattle.std.specs.List.{flat_map}
use Rattle.app_model.specs.Application.{attribute_notes}
use Rattle.app_model.proofs.notes.note_attributes.Given as goal

-- the notes of the attributes so far
abbrev pub invariant-loop-attribute : goal.invariant-loop-attribute
invariant-loop-attribute l =
    l.notes ≡ l.initial.notes ++ flat_map (attribute_notes l.kind) (take l.attribute-index l.attributes)
