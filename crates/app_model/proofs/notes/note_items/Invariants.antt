use Rattle.std.proofs.Common.{◌≡◌, ◌++◌, take}
use Rattle.std.specs.List.{flat_map}
use Rattle.app_model.specs.Application.{item_notes}
use Rattle.app_model.proofs.notes.note_items.Given as goal

-- the notes of the items so far
abbrev pub invariant-loop-item : goal.invariant-loop-item
invariant-loop-item l = l.notes ≡ l.initial.notes ++ flat_map item_notes (take l.item-index l.items)
