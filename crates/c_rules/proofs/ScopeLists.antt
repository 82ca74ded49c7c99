-- Locals that can be seen, without where their names lie.
use Rattle.std.proofs.Common.{◌≡◌, ℕ, ◌-◌, min, length, ◌||◌, List, [], ◌∷◌, map, fold, drop, take, Option, refl, sym, ap, ◌∙◌}
use Rattle.std.specs.List.{list_any}
use Rattle.std.proofs.lemmas.List.{take-map, drop-map, drop_min, length-drop}
use Rattle.std.proofs.Math.Seq.{take-length}
use Rattle.c_rules.specs.declared.scope.Visible.{Visible}
use Rattle.c_rules.specs.declared.meaning.LocalMeaning.{LocalMeaning}
use Rattle.c_rules.specs.Scopes.{is_named, nearer}
use Rattle.c_rules.specs.PlainScopes.{plain_visible}

any_plain : (name : List ℕ) (xs : List Visible) → list_any (is_named name) (map plain_visible xs) ≡ list_any (λ v. is_named name (plain_visible v)) xs
any_plain name [] = refl
any_plain name (v ∷ vs) = ap (λ b. is_named name (plain_visible v) || b) (any_plain name vs)

-- the rest of a list from a place on, as a slice
rest : {X : Type 0} (n : ℕ) (xs : List X) → take (length xs - n) (drop n xs) ≡ drop n xs
rest n xs = ap (λ k. take k (drop n xs)) (sym (length-drop n xs)) ∙ take-length (drop n xs)

any_after : (name : List ℕ) (n : ℕ) (xs : List Visible) → list_any (λ v. is_named name (plain_visible v)) (drop (min n (length xs)) xs) ≡ list_any (is_named name) (drop n (map plain_visible xs))
any_after name n xs =
    ap (list_any (λ v. is_named name (plain_visible v))) (drop_min n xs)
    ∙ (sym (any_plain name (drop n xs)) ∙ ap (list_any (is_named name)) (sym (drop-map plain_visible n xs)))

-- a name among those of the innermost scope, which are a slice
pub own : (name : List ℕ) (n s l : ℕ) (xs ys : List Visible) → ys ≡ xs → s ≡ min n l → l ≡ length xs → list_any (λ v. is_named name (plain_visible v)) (take (length ys - s) (drop s ys)) ≡ list_any (is_named name) (drop n (map plain_visible xs))
own name n s l xs ys same start count =
    ap (list_any (λ v. is_named name (plain_visible v))) (rest s ys ∙ (ap (λ zs. drop s zs) same ∙ ap (λ k. drop k xs) (start ∙ ap (min n) count)))
    ∙ any_after name n xs

-- the last local of a name
pub nearest : (name : List ℕ) (found : Option LocalMeaning) (xs : List Visible) → fold (nearer name) found (map plain_visible xs) ≡ fold (λ f v. nearer name f (plain_visible v)) found xs
nearest name found [] = refl
nearest name found (v ∷ vs) = nearest name (nearer name found (plain_visible v)) vs

-- the first ones
pub front : (n : ℕ) (xs : List Visible) → take n (map plain_visible xs) ≡ map plain_visible (take n xs)
front n xs = take-map plain_visible n xs
