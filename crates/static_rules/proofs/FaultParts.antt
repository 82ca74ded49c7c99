-- The first fault of lists, part by part.
use Rattle.std.proofs.Common.{◌≡◌, ℕ, ◌+◌, ◌<◌, Bool, true, false, if◌then◌else◌, List, [], ◌∷◌, ◌++◌, Option, Some, None, cond, is_some, length, get_or, take, map, refl, sym, ap, ◌∙◌}
use Rattle.std.specs.List.{flat_map}
use Rattle.std.proofs.lemmas.Bool.{true≢false}
use Rattle.std.proofs.lemmas.List.{append-nil, take_more, map-append}
use Rattle.std.proofs.lemmas.List.Concat.{flat_map-append}
use Rattle.c_rules.specs.declared.first.Fault.{Fault}
use Rattle.c_rules.specs.First.{is_before, first_of}
use Rattle.c_rules.proofs.Firsts.{first_of_append}
use Rattle.std.specs.Option.{option_map}
use Rattle.std.specs.List.{slice_get}
use Rattle.std.proofs.lemmas.Option.{slice_get-map}
use Rattle.typed_unit.specs.declared.typed.GlobalVar.{GlobalVar}
use Rattle.typed_unit.specs.declared.typed.TypedEntity.{TypedEntity}
use Rattle.typed_unit.specs.declared.typed.TypedFunction.{TypedFunction}
use Rattle.typed_unit.specs.declared.typed.TypedUnit.{TypedUnit}
use Rattle.typed_unit.specs.Views.{function_of, entity_of, unit_of}
use Rattle.static_rules.specs.declared.site.Site.{Site}
use Rattle.static_rules.specs.Chains.{body, all_below, reaches, sites_of_those, reached_sites}
use Rattle.static_rules.specs.Found.{IsTable}
use Rattle.static_rules.specs.Rules.{unless_any, variable_faults, function_faults, function_local_faults, entity_local_faults, size_faults}
use Rattle.static_rules.proofs.Bounds.{all_more, all_same}

-- the faults for one more number
pub below_more : (best : Option Fault) (f : ℕ → List Fault) (n : ℕ) → first_of best (all_below f (n + 1)) ≡ first_of (first_of best (all_below f n)) (f n)
below_more best f n = ap (first_of best) (all_more f n) ∙ first_of_append best (all_below f n) (f n)

-- the same for what is in lists
pub below_in_more : {X : Type 0} (best : Option Fault) (g : X → List Fault) (f : ℕ → List X) (n : ℕ) → first_of best (flat_map g (all_below f (n + 1))) ≡ first_of (first_of best (flat_map g (all_below f n))) (flat_map g (f n))
below_in_more best g f n =
    ap (λ xs. first_of best (flat_map g xs)) (all_more f n)
    ∙ (ap (first_of best) (flat_map-append g (all_below f n) (f n)) ∙ first_of_append best (flat_map g (all_below f n)) (flat_map g (f n)))

-- the faults of one more thing that is seen as another
pub mapped_more : {X Y : Type 0} (best : Option Fault) (g : Y → List Fault) (v : X → Y) (xs : List X) (i : ℕ) (d : X) → i < length xs
    → first_of best (flat_map g (map v (take (i + 1) xs))) ≡ first_of (first_of best (flat_map g (map v (take i xs)))) (g (v (get_or xs i d)))
mapped_more best g v xs i d within =
    ap (λ ys. first_of best (flat_map g (map v ys))) (take_more xs i d within)
    ∙ (ap (λ ys. first_of best (flat_map g ys)) (map-append v (take i xs) (get_or xs i d ∷ []))
    ∙ (ap (first_of best) (flat_map-append g (map v (take i xs)) (v (get_or xs i d) ∷ []) ∙ ap (λ ys. flat_map g (map v (take i xs)) ++ ys) (append-nil (g (v (get_or xs i d)))))
    ∙ first_of_append best (flat_map g (map v (take i xs))) (g (v (get_or xs i d)))))

pub mapped_step : {X Y : Type 0} (best now after : Option Fault) (g : Y → List Fault) (v : X → Y) (xs : List X) (i : ℕ) (x : X) → i < length xs → x ≡ get_or xs i x
    → now ≡ first_of best (flat_map g (map v (take i xs))) → after ≡ first_of now (g (v x)) → after ≡ first_of best (flat_map g (map v (take (i + 1) xs)))
mapped_step best now after g v xs i x within read so_far one =
    one
    ∙ (ap (λ b. first_of b (g (v x))) so_far
    ∙ (ap (λ y. first_of (first_of best (flat_map g (map v (take i xs)))) (g (v y))) read
    ∙ sym (mapped_more best g v xs i x within)))

-- the faults of the functions that are reached
pub reached_seen : (bodies : List (List Site)) (start : List Site) (flags : List Bool) (best : Option Fault) (g : Site → List Fault) → IsTable flags (length bodies) (reaches bodies start)
    → first_of (first_of best (flat_map g start)) (flat_map g (sites_of_those bodies (λ f. get_or flags f false))) ≡ first_of best (flat_map g (reached_sites bodies start))
reached_seen bodies start flags best g table =
    ap (λ ss. first_of (first_of best (flat_map g start)) (flat_map g ss))
    (all_same (λ f. if get_or flags f false then body bodies f else []) (λ f. if reaches bodies start f then body bodies f else []) (length bodies)
    (λ f below. ap (λ b. if b then body bodies f else []) (table.flagged f below)))
    ∙ sym (ap (first_of best) (flat_map-append g start (sites_of_those bodies (reaches bodies start)))
    ∙ first_of_append best (flat_map g start) (flat_map g (sites_of_those bodies (reaches bodies start))))

-- the faults of sizes
pub sizes_seen : (u : TypedUnit) (best one two three four : Option Fault) (variable : Option GlobalVar) (function : Option TypedFunction) (fs : List TypedFunction) (es : List TypedEntity)
    → variable ≡ slice_get u.globals 256 → one ≡ first_of best (variable_faults variable)
    → function ≡ slice_get u.functions 64 → two ≡ first_of one (function_faults (option_map function_of function))
    → fs ≡ u.functions → three ≡ first_of two (flat_map function_local_faults (map function_of fs))
    → es ≡ u.entities → four ≡ first_of three (flat_map entity_local_faults (map entity_of es))
    → four ≡ first_of best (size_faults (unit_of u))
unfolding size_faults
sizes_seen u best one two three four variable function fs es is1 e1 is2 e2 is3 e3 is4 e4 =
    let a = variable_faults (slice_get u.globals 256) in
    let b = function_faults (slice_get (map function_of u.functions) 64) in
    let c = flat_map function_local_faults (map function_of u.functions) in
    let d = flat_map entity_local_faults (map entity_of u.entities) in
    let s1 : one ≡ first_of best a = e1 ∙ ap (λ v. first_of best (variable_faults v)) is1 in
    let s2 : two ≡ first_of one b = e2 ∙ (ap (λ f. first_of one (function_faults (option_map function_of f))) is2 ∙ ap (λ f. first_of one (function_faults f)) (sym (slice_get-map function_of u.functions 64))) in
    let s3 : three ≡ first_of two c = e3 ∙ ap (λ xs. first_of two (flat_map function_local_faults (map function_of xs))) is3 in
    let s4 : four ≡ first_of three d = e4 ∙ ap (λ xs. first_of three (flat_map entity_local_faults (map entity_of xs))) is4 in
    s4
    ∙ (ap (λ x. first_of x d) (s3 ∙ ap (λ x. first_of x c) (s2 ∙ ap (λ x. first_of x b) s1))
    ∙ sym (first_of_append best a (b ++ (c ++ d)) ∙ (first_of_append (first_of best a) b (c ++ d) ∙ first_of_append (first_of (first_of best a) b) c d)))

-- some fault is the first where there is one
some_first : (f : Fault) (fs : List Fault) → is_some (first_of (Some f) fs) ≡ true
some_first f [] = refl
some_first f (g ∷ fs) = by (is_before g f) (some_first g fs) (some_first f fs)
  where
    by : (b : Bool) → is_some (first_of (Some g) fs) ≡ true → is_some (first_of (Some f) fs) ≡ true → is_some (first_of (cond b (Some g) (Some f)) fs) ≡ true
    by true one other = one
    by false one other = other

-- faults that count only where there are none of the others
pub some_broken : (fs gs : List Fault) → is_some (first_of None fs) ≡ true → first_of None (fs ++ unless_any fs gs) ≡ first_of None fs
some_broken [] gs is = absurd (true≢false (sym is))
some_broken (f ∷ fs) gs is = ap (first_of None) (append-nil (f ∷ fs))

pub none_broken : (fs gs : List Fault) → is_some (first_of None fs) ≡ false → first_of None (fs ++ unless_any fs gs) ≡ first_of (first_of None fs) gs
none_broken [] gs is = refl
none_broken (f ∷ fs) gs is = absurd (true≢false (sym (some_first f fs) ∙ is))
