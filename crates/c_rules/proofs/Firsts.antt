-- The first fault of several lists.
use Rattle.std.proofs.Common.{◌≡◌, ℕ, ◌+◌, ◌<◌, List, [], ◌∷◌, ◌++◌, Option, length, get_or, take, refl, ap, ◌∙◌}
use Rattle.std.specs.List.{flat_map}
use Rattle.std.proofs.lemmas.List.{take_more, append-nil}
use Rattle.std.proofs.lemmas.List.Concat.{flat_map-append}
use Rattle.c_rules.specs.declared.first.Fault.{Fault}
use Rattle.c_rules.specs.First.{sooner, first_of}

-- the faults of two lists, one after the other
pub first_of_append : (best : Option Fault) (xs ys : List Fault) → first_of best (xs ++ ys) ≡ first_of (first_of best xs) ys
first_of_append best [] ys = refl
first_of_append best (x ∷ xs) ys = first_of_append (sooner best x) xs ys

-- the faults of one more thing
pub first_of_more : {X : Type 0} (g : X → List Fault) (best : Option Fault) (xs : List X) (i : ℕ) (d : X) → i < length xs → first_of best (flat_map g (take (i + 1) xs)) ≡ first_of (first_of best (flat_map g (take i xs))) (g (get_or xs i d))
first_of_more g best xs i d within =
    ap (λ ys. first_of best (flat_map g ys)) (take_more xs i d within)
    ∙ (ap (first_of best) (flat_map-append g (take i xs) (get_or xs i d ∷ []) ∙ ap (λ ys. flat_map g (take i xs) ++ ys) (append-nil (g (get_or xs i d))))
    ∙ first_of_append best (flat_map g (take i xs)) (g (get_or xs i d)))
