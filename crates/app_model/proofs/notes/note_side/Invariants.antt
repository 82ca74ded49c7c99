use Rattle.std.proofs.Common.{◌≡◌, ◌++◌, take, filter, not, nat_lt, if◌then◌else◌}
use Rattle.app_model.specs.Application.{include_notes}
use Rattle.app_model.proofs.notes.note_side.Given as goal

-- the notes of the includes so far
abbrev pub invariant-loop-place : goal.invariant-loop-place
invariant-loop-place l =
    l.notes ≡ l.initial.notes ++ include_notes (filter (λ p. if l.before then nat_lt p.offset l.offset else not (nat_lt p.offset l.offset)) (take l.place-index l.includes))
