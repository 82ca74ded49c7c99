-- What lists are after one more step.
use Rattle.std.proofs.Common.{◌≡◌, ℕ, suc, ◌+◌, ◌<◌, List, [], ◌∷◌, ◌++◌, length, take, get_or, map, refl, ap, sym, ◌∙◌, arith, ◌≤◌, Bool, true, false, not, cond, nat_lt, position, Some, None}
use Rattle.std.specs.List.{flat_map, position_or_len}
use Rattle.std.proofs.lemmas.Bool.Decides.{nat_tests}
use Rattle.oil_tree.specs.declared.tree.Item.{Item}
use Rattle.std.proofs.lemmas.List.{take_more, append-nil, append_assoc, map-append}
use Rattle.std.proofs.lemmas.List.Concat.{flat_map-append}
use Rattle.application.specs.declared.app.Resource.{Resource}
use Rattle.application.specs.declared.app.Routine.{Routine}
use Rattle.application.specs.declared.app.Task.{Task}
use Rattle.application.specs.Levels.{ceiling_among}
use Rattle.app_model.specs.Application.{ceiled, resource_in}
use Rattle.application.specs.RunLevels.{with_run_levels}

-- one more thing's list
pub flat_map_step : {X Y : Type 0} (g : X → List Y) (xs : List X) (i : ℕ) (d : X) → i < length xs → flat_map g (take (i + 1) xs) ≡ flat_map g (take i xs) ++ g (get_or xs i d)
flat_map_step g xs i d within =
    ap (flat_map g) (take_more xs i d within)
    ∙ (flat_map-append g (take i xs) (get_or xs i d ∷ []) ∙ ap (λ ys. flat_map g (take i xs) ++ ys) (append-nil (g (get_or xs i d))))

-- the same behind what was there
pub flat_map_behind : {X Y : Type 0} (g : X → List Y) (ys : List Y) (xs : List X) (i : ℕ) (d : X) → i < length xs → ys ++ flat_map g (take (i + 1) xs) ≡ (ys ++ flat_map g (take i xs)) ++ g (get_or xs i d)
flat_map_behind g ys xs i d within =
    ap (λ zs. ys ++ zs) (flat_map_step g xs i d within) ∙ sym (append_assoc ys (flat_map g (take i xs)) (g (get_or xs i d)))

-- one more image
pub map_step : {X Y : Type 0} (f : X → Y) (xs : List X) (i : ℕ) (d : X) → i < length xs → map f (take (i + 1) xs) ≡ map f (take i xs) ++ f (get_or xs i d) ∷ []
map_step f xs i d within = ap (map f) (take_more xs i d within) ∙ map-append f (take i xs) (get_or xs i d ∷ [])

pub length-ceiled : (tasks : List Task) (routines : List Routine) (n : ℕ) (rs : List Resource) → length (ceiled tasks routines n rs) ≡ length rs
length-ceiled tasks routines n [] = refl
length-ceiled tasks routines n (r ∷ rs) = ap (λ k. suc k) (length-ceiled tasks routines (n + 1) rs)

-- resources in two parts
pub ceiled_append : (tasks : List Task) (routines : List Routine) (n : ℕ) (xs ys : List Resource) → ceiled tasks routines n (xs ++ ys) ≡ ceiled tasks routines n xs ++ ceiled tasks routines (n + length xs) ys
ceiled_append tasks routines n [] ys = ap (λ k. ceiled tasks routines k ys) (omega arith)
ceiled_append tasks routines n (x ∷ xs) ys =
    ap (λ zs. record x { ceiling = ceiling_among tasks routines n } ∷ zs)
    (ceiled_append tasks routines (n + 1) xs ys ∙ ap (λ k. ceiled tasks routines (n + 1) xs ++ ceiled tasks routines k ys) (omega arith))

-- run levels of all tasks
pub with_all_run_levels : (f : Task → ℕ) (ts : List Task) → with_run_levels (map f ts) ts ≡ map (λ (t : Task). record t { run_level = f t }) ts
with_all_run_levels f [] = refl
with_all_run_levels f (t ∷ ts) = ap (λ us. record t { run_level = f t } ∷ us) (with_all_run_levels f ts)

-- resources when one more item has come
pub resources_step : (tasks : List Task) (routines : List Routine) (xs : List Item) (i : ℕ) (d : Item) (old new : List Resource) → i < length xs → old ≡ ceiled tasks routines 0 (flat_map resource_in (take i xs)) → new ≡ old ++ ceiled tasks routines (length old) (resource_in d) → d ≡ get_or xs i d → new ≡ ceiled tasks routines 0 (flat_map resource_in (take (i + 1) xs))
resources_step tasks routines xs i d old new within old_is new_is d_is =
    let before = flat_map resource_in (take i xs) in
    let count : length old ≡ 0 + length before = ap length old_is ∙ (length-ceiled tasks routines 0 before ∙ omega arith) in
    new_is
    ∙ (ap (λ rs. rs ++ ceiled tasks routines (length old) (resource_in d)) old_is
    ∙ (ap (λ k. ceiled tasks routines 0 before ++ ceiled tasks routines k (resource_in d)) count
    ∙ (ap (λ x. ceiled tasks routines 0 before ++ ceiled tasks routines (0 + length before) (resource_in x)) d_is
    ∙ (sym (ceiled_append tasks routines 0 before (resource_in (get_or xs i d)))
    ∙ ap (ceiled tasks routines 0) (sym (flat_map_step resource_in xs i d within))))))

-- a place is at most the length
pub position_low : {X : Type 0} (p : X → Bool) (xs : List X) → position_or_len p xs ≤ length xs
position_low p [] = omega arith
position_low p (x ∷ xs) = by (p x) (position_low p xs)
  where
    by : (b : Bool) → position_or_len p xs ≤ length xs → cond (not b) (1 + position_or_len p xs) 0 ≤ suc (length xs)
    by true rest = omega arith
    by false rest = omega arith

-- where there is no place, the length stands for it
pub no_position : {X : Type 0} (p : X → Bool) (xs : List X) → position p xs ≡ None → length xs ≡ position_or_len p xs
no_position p xs none = by (nat_lt (position_or_len p xs) (length xs)) refl
  where
    by : (b : Bool) → nat_lt (position_or_len p xs) (length xs) ≡ b → length xs ≡ position_or_len p xs
    by true e =
        let some : Some (position_or_len p xs) ≡ None = sym (ap (λ b. cond b (Some (position_or_len p xs)) None) e) ∙ none in
        absurd (cc)
    by false e =
        let low = position_low p xs in
        let high : length xs ≤ position_or_len p xs = grind (arith, nat_tests) in
        omega arith
