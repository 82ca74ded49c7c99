-- The names of an application's entities.
use Rattle.std.specs.Prelude.{◌≡◌, ℕ, true, List, [], ◌∷◌, ◌++◌, map}
use Rattle.application.specs.declared.app.App.{App}
use Rattle.cert_form.specs.Words.{is_name}

-- each is a letter or `_`, and then letters, digits and `_`
abbrev pub AreNames : List (List ℕ) → Type 0
AreNames [] = Unit {0}
AreNames (name ∷ names) = (is_name name ≡ true) × AreNames names

-- the names of tasks, and then of routines
abbrev pub entity_names : App → List (List ℕ)
entity_names app = map (λ t. t.name) app.tasks ++ map (λ r. r.name) app.routines
