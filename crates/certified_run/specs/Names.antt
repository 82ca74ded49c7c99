-- Names of entities, and what labels stand for.
use Rattle.std.specs.Prelude.{ℕ, ◌<◌, ◌^◌, List, [], ◌∷◌, ◌++◌, if◌then◌else◌, map, slice_get, unwrap_or}
use Rattle.application.specs.declared.app.App.{App}
use Rattle.cert_text.specs.declared.label.LabelText.{LabelText}
use Rattle.cert_text.specs.declared.label.LabelText.TheVariants.{Idle, Arrive, Step}
use Rattle.one_stack.specs.declared.label.Label.{Label}

-- the name of an entity; tasks are numbered first, and then routines
abbrev pub entity_name : App → ℕ → List ℕ
entity_name app e = unwrap_or (slice_get (map (λ t. t.name) app.tasks ++ map (λ r. r.name) app.routines) e) []

-- a label stands for the arrival of its entity, or for a step of it from its point
abbrev pub text_of : App → Label → LabelText
text_of app label =
    if label.arrives then Arrive (entity_name app label.entity.0) else Step (entity_name app label.entity.0) label.point

-- label 0 is idle, and each other label is of the list
abbrev pub texts_of : App → List Label → List LabelText
texts_of app labels = Idle ∷ map (text_of app) labels

-- the point of each label is a number of 16 bits
abbrev pub ArePoints : List Label → Type 0
ArePoints [] = Unit {0}
ArePoints (label ∷ labels) = (label.point < 2 ^ 16) × ArePoints labels
