-- Lines, and what several texts have in common.
use Rattle.std.specs.Prelude.{ℕ, zero, suc, ◌+◌, ◌-◌, List, [], ◌∷◌, ◌++◌, length, map, Option, Some, None, slice_get, unwrap_or, codes, decimal}
use Rattle.application.specs.declared.app.App.{App}
use Rattle.application.specs.declared.app.Class.{Class}
use Rattle.application.specs.declared.app.Class.TheVariants as class
use Rattle.chk_base.specs.declared.place.Place.{Place}
use Rattle.step_ir.specs.declared.event.Event.{Event}
use Rattle.step_ir.specs.declared.event.Failure.{Failure}

-- a text, and the end of its line
abbrev pub line : List ℕ → List ℕ
line text = text ++ 10 ∷ []

-- a text, and a number in decimal digits
abbrev pub counted : List ℕ → ℕ → List ℕ
counted text number = text ++ decimal number

-- the texts of items one after another, where each is given its number, the first of these
abbrev pub each : {A : Type 0} → (ℕ → A → List ℕ) → ℕ → List A → List ℕ
each text n [] = []
each text n (x ∷ xs) = text n x ++ each text (n + 1) xs

-- the name of an entity; tasks are numbered first, and then routines
abbrev pub entity_name : App → ℕ → List ℕ
entity_name app e = unwrap_or (slice_get (map (λ t. t.name) app.tasks ++ map (λ r. r.name) app.routines) e) []

-- the name of a resource; the scheduler has the number after the last
abbrev pub resource_name : App → ℕ → List ℕ
resource_name app r = unwrap_or (slice_get (map (λ r. r.name) app.resources) r) (codes "RES_SCHEDULER")

-- a place as line and column
abbrev pub place_text : Place → List ℕ
place_text p = decimal p.line ++ codes ":" ++ decimal p.column

-- a blank, and a status that isn't E_OK (OSEK OS 2.2.3, 13.1)
abbrev pub code_text : ℕ → List ℕ
code_text zero = []
code_text (suc n) = counted (codes " ") (suc n)

-- a failure by its number, with the status of a service
abbrev pub failure_text : Failure → List ℕ
failure_text f = counted (codes "F") f.number ++ code_text f.code

-- the place of an event, if there is one
abbrev pub place_of : Option Event → Option Place
place_of None = None
place_of (Some e) = Some e.place

-- the place of the last event
abbrev pub last_place : List Event → Option Place
last_place events = place_of (slice_get events (length events - 1))

-- the words before a place, and the place, if there is one
abbrev pub at_text : Option Place → List ℕ
at_text None = []
at_text (Some place) = codes " at " ++ place_text place

-- a failure, and the place of the event that it is
abbrev pub failure_at : Failure → List Event → List ℕ
failure_at f events = failure_text f ++ at_text (last_place events)

-- the class (OSEK OS 2.2.3, 3.2)
abbrev pub class_text : Class → List ℕ
class_text class.Bcc1 = line (codes "class BCC1")
class_text class.Bcc2 = line (codes "class BCC2")
