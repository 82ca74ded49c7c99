-- The labels of the program, and the choices that they stand for.
use Rattle.std.specs.Prelude.{◌≡◌, ℕ, ◌+◌, ◌-◌, ◌%◌, ◌<◌, ◌==◌, max, Bool, false, List, [], ◌∷◌, Option, Some, None, if◌then◌else◌, slice_get}
use Rattle.std.specs.List.{list_any}
use Rattle.chk_base.specs.declared.word.Width.{Width}
use Rattle.chk_base.specs.Widths.{limit_of}
use Rattle.guard_prog.specs.declared.draft.Alternative.{Alternative}
use Rattle.one_stack.specs.Built.{table}
use Rattle.one_stack.specs.declared.label.Label.{Label}
use Rattle.step_ir.specs.declared.event.Choice.{Choice}
use Rattle.step_ir.specs.declared.event.Choice.TheVariants.{Go, GoWith, Arrive}
use Rattle.step_ir.specs.declared.event.Event.{Event}

-- a step goes on, with the word at the input's width where there is an input
abbrev pub step_with : Option Width → ℕ → Choice
step_with None word = Go
step_with (Some w) word = GoWith (record { width = w; bits = word })

-- where a step takes an input, the word is one of its width
abbrev pub Takes : Option Width → ℕ → Type 0
Takes None word = Unit {0}
Takes (Some w) word = word < limit_of w

-- the same of a label
abbrev pub IsTaken : Option Label → ℕ → Type 0
IsTaken None word = Unit {0}
IsTaken (Some label) word = Takes label.input word

-- a label with a word stands for an arrival or for a step
abbrev pub chosen : Option Label → ℕ → Choice
chosen None word = Go
chosen (Some label) word = if label.arrives then Arrive label.entity else step_with label.input word

-- the meaning of labels with words: label 1 is the first of the list
abbrev pub chosen_by : List Label → ℕ → ℕ → Choice
chosen_by labels l word = chosen (slice_get labels (l - 1)) word

-- the label takes this word
abbrev pub TakesWord : List Label → ℕ → ℕ → Type 0
TakesWord labels l word = IsTaken (slice_get labels (l - 1)) word

-- the label's entity is the one that acts in this event
abbrev pub IsActor : Option Label → Event → Type 0
IsActor None event = Unit {0}
IsActor (Some label) event = label.entity.0 ≡ event.actor.0

-- turn by turn, the entity of the label is the one that acts
abbrev pub AreActors : List Label → List (ℕ × ℕ) → List Event → Type 0
AreActors labels [] [] = Unit {0}
AreActors labels [] (event ∷ events) = ⊥
AreActors labels (pair ∷ pairs) [] = ⊥
AreActors labels (pair ∷ pairs) (event ∷ events) = IsActor (slice_get labels (pair.0 - 1)) event × AreActors labels pairs events

-- the greatest label of these alternatives, and 0 without one
abbrev pub most_in : List Alternative → ℕ
most_in [] = 0
most_in (a ∷ others) = max a.label (most_in others)

-- the greatest label of these points
abbrev pub most_of : List (List Alternative) → ℕ
most_of [] = 0
most_of (p ∷ ps) = max (most_in p) (most_of ps)

-- an alternative of a point has this label
abbrev pub has_label : ℕ → List Alternative → Bool
has_label label alternatives = list_any (λ a. a.label == label) alternatives

-- the first of these points that has this label, where the first of all has the number n; and 0 where none has it
abbrev pub point_with : ℕ → ℕ → List (List Alternative) → ℕ
point_with label n [] = 0
point_with label n (p ∷ ps) = if has_label label p then n else point_with label (n + 1) ps

-- the item at this place of the labels, where there are so many entities with these points: label 1 + e is of the entity e, and so is every label that is 1 + e modulo the number of entities
abbrev pub label_at : ℕ → List (List Alternative) → ℕ → Label
label_at entities points i =
    record { entity = record { 0 = i % max entities 1 }; point = point_with (i + 1) 0 points; arrives = false; input = None }

-- the labels of these points, up to the greatest
abbrev pub labels_of : ℕ → List (List Alternative) → List Label
labels_of entities points = table (most_of points) (label_at entities points)
