use Rattle.std.proofs.Common.{◌≡◌, ◌++◌, take}
use Rattle.app_model.specs.Application.{include_notes}
use Rattle.app_model.proofs.notes.note_includes.Given as goal

-- the notes of the includes so far
abbrev pub invariant-loop-place : goal.invariant-loop-place
invariant-loop-place l = l.notes ≡ l.initial.notes ++ include_notes (take l.place-index l.includes)
