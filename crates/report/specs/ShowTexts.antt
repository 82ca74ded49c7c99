-- The report of levels, ceilings, counts and notes.
use Rattle.std.specs.Prelude.{ℕ, Bool, true, false, List, [], ◌++◌, length, slice_get, codes}
use Rattle.application.specs.declared.app.App.{App}
use Rattle.application.specs.declared.app.Note.{Note}
use Rattle.application.specs.declared.app.Resource.{Resource}
use Rattle.application.specs.declared.app.Routine.{Routine}
use Rattle.application.specs.declared.app.Task.{Task}
use Rattle.application.specs.Levels.{highest_task_level}
use Rattle.step_ir.specs.declared.code.Code.{Code}
use Rattle.step_ir.specs.Points.{points_of}
use Rattle.report.specs.Lines.{line, each, counted, class_text, place_text}
use Rattle.report.specs.RunTexts.{points_text}

-- how many points the entity with this number has
abbrev pub points_at : Code → ℕ → ℕ
points_at code e = length (points_of (slice_get code.entities e))

-- a task with its levels, the requests that it may have, and its points
abbrev pub task_text : Code → ℕ → Task → List ℕ
task_text code e t =
    codes "task " ++ t.name ++ counted (codes " level ") t.level ++ counted (codes " run ") t.run_level ++ counted (codes " requests ") t.requests
    ++ counted (codes " points ") (points_at code e)

abbrev pub task_line : Code → ℕ → Task → List ℕ
task_line code e t = line (task_text code e t)

-- a routine with its level and its points
abbrev pub routine_line : Code → ℕ → Routine → List ℕ
routine_line code e r = line (codes "isr " ++ r.name ++ counted (codes " level ") r.level ++ counted (codes " points ") (points_at code e))

-- the word of a resource
abbrev pub resource_word : Bool → List ℕ
resource_word true = codes "internal "
resource_word false = codes "resource "

-- a resource with its ceiling
abbrev pub resource_text : Resource → List ℕ
resource_text r = line (resource_word r.internal ++ r.name ++ counted (codes " ceiling ") r.ceiling)

-- the scheduler as a resource, where it is one
abbrev pub scheduler_text : App → Bool → List ℕ
scheduler_text app true = line (counted (codes "resource RES_SCHEDULER ceiling ") (highest_task_level app))
scheduler_text app false = []

-- a note and its place
abbrev pub note_text : Note → List ℕ
note_text note = line (counted (codes "note N") note.number ++ codes " at " ++ place_text note.place)

-- the tasks and routines, numbered from 0, tasks first
abbrev pub entities_text : App → Code → List ℕ
entities_text app code = each (task_line code) 0 app.tasks ++ each (routine_line code) (length app.tasks) app.routines

-- the resources
abbrev pub resources_text : App → List ℕ
resources_text app = each (λ n r. resource_text r) 0 app.resources ++ scheduler_text app app.res_scheduler

-- the counts of points, of the bits of cells, and of the work of a turn
abbrev pub counts_text : Code → List ℕ
counts_text code = points_text code ++ line (counted (codes "cells ") code.cells) ++ line (counted (codes "weight ") code.weight)

-- the application mode
abbrev pub mode_line : App → List ℕ
mode_line app = line (codes "mode " ++ app.mode)

-- the first three lines
abbrev pub top_text : App → List ℕ
top_text app = line (codes "oschk show") ++ class_text app.class ++ mode_line app

-- the report
abbrev pub show_text : App → Code → List ℕ
show_text app code = top_text app ++ entities_text app code ++ resources_text app ++ counts_text code ++ each (λ n x. note_text x) 0 app.notes
