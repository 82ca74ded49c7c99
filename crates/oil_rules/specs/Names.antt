-- Lists of names.
use Rattle.std.specs.Prelude.{ℕ, Bool, if◌then◌else◌, List, [], ◌∷◌, ◌++◌, fold}
use Rattle.std.specs.List.{list_any}
use Rattle.std.specs.Str.{bytes_eq}
use Rattle.chk_base.specs.declared.text.Name.{Name}

-- the name is in the list
abbrev pub has_name : List (List ℕ) → List ℕ → Bool
has_name names name = list_any (bytes_eq name) names

-- the list with this name, which goes last where it is new
abbrev pub with_name : List (List ℕ) → List ℕ → List (List ℕ)
with_name names name = if has_name names name then names else names ++ name ∷ []

-- the names of a list, each once, in the order of their first places
abbrev pub distinct : List (List ℕ) → List (List ℕ)
distinct names = fold with_name [] names

-- the names that stand among those seen, or after one of the same text
abbrev pub repeats : List (List ℕ) → List Name → List Name
repeats seen [] = []
repeats seen (n ∷ ns) = if has_name seen n.text then n ∷ repeats seen ns else repeats (seen ++ n.text ∷ []) ns
