-- The cells of a unit, part by part.
use Rattle.std.proofs.Common.{◌≡◌, ℕ, zero, suc, ◌+◌, ◌-◌, ◌<◌, false, List, [], ◌∷◌, ◌++◌, Option, Some, None, option_map, Result, Ok, Err, OnOk, slice_get, length, get_or, drop, map, add-one, refl, sym, ap, ◌∙◌, append_assoc, arith}
use Rattle.std.proofs.lemmas.List.{append-nil, drop_more}
use Rattle.std.proofs.lemmas.Option.{slice_get-map}
use Rattle.chk_base.specs.declared.word.Width.TheVariants.{W32}
use Rattle.step_ir.specs.declared.code.CellName.{CellName}
use Rattle.typed_unit.specs.declared.typed.GlobalVar.{GlobalVar}
use Rattle.typed_unit.specs.declared.typed.Local.{Local}
use Rattle.typed_unit.specs.declared.typed.TypedFunction.{TypedFunction}
use Rattle.typed_unit.specs.declared.typed.TypedUnit.{TypedUnit}
use Rattle.typed_unit.specs.Views.{block_of, function_of, unit_of}
use Rattle.lower_law.specs.Counts.{Thing, things_in}
use Rattle.lower_law.specs.Layout.{or_none, element_names, variable_names, global_names, local_names, called_names, call_names, value_names, if_some, function_names}
use Rattle.unit_counts.specs.declared.tally.BodySize.{BodySize}
use Rattle.unit_counts.specs.declared.things.ThingSize.{ThingSize}
use Rattle.unit_counts.specs.Cells.{locals_or_none, things_or_none, names_in}
use Rattle.unit_counts.specs.Sizes.{sizes_of}
use Rattle.unit_counts.specs.Tallies.{function_size}

-- one more element
pub element_more : (before : List CellName) (g : GlobalVar) (at len : ℕ) → at < len
    → before ++ element_names g at (len - at)
    ≡ (before ++ record { text = g.name.text; element = Some at; width = g.ctype.width; signed = g.ctype.signed; start = or_none (slice_get g.start at) } ∷ []) ++ element_names g (at + 1) (len - (at + 1))
element_more before g at len within =
    let one : CellName = record { text = g.name.text; element = Some at; width = g.ctype.width; signed = g.ctype.signed; start = or_none (slice_get g.start at) } in
    let e : len - at ≡ suc (len - (at + 1)) = omega arith in
    ap (λ n. before ++ element_names g at n) e ∙ sym (append_assoc before (one ∷ []) (element_names g (at + 1) (len - (at + 1))))

-- no element is left
pub no_element : (before : List CellName) (g : GlobalVar) (at len : ℕ) → at ≡ len → before ++ element_names g at (len - at) ≡ before
no_element before g at len e =
    let z : len - at ≡ 0 = omega arith in
    ap (λ n. before ++ element_names g at n) z ∙ append-nil before

-- one more variable
pub variable_more : (before : List CellName) (gs : List GlobalVar) (i : ℕ) (d : GlobalVar) → i < length gs
    → before ++ global_names (drop i gs) ≡ (before ++ variable_names (get_or gs i d) (get_or gs i d).len) ++ global_names (drop (i + 1) gs)
variable_more before gs i d within =
    let x = get_or gs i d in
    ap (λ xs. before ++ global_names xs) (drop_more gs i d within)
    ∙ sym (append_assoc before (variable_names x x.len) (global_names (drop (i + 1) gs)))

-- one more local
pub local_more : (before : List CellName) (ls : List Local) (i : ℕ) (d : Local) → i < length ls
    → before ++ local_names (drop i ls)
    ≡ (before ++ record { text = (get_or ls i d).name.text; element = None; width = (get_or ls i d).ctype.width; signed = (get_or ls i d).ctype.signed; start = 0 } ∷ []) ++ local_names (drop (i + 1) ls)
local_more before ls i d within =
    let x = get_or ls i d in
    ap (λ xs. before ++ local_names xs) (drop_more ls i d within)
    ∙ sym (append_assoc before (local_names (x ∷ [])) (local_names (drop (i + 1) ls)))

-- one more value
pub value_more : (before : List CellName) (n : ℕ) → (before ++ value_names n) ++ value_names 1 ≡ before ++ value_names (n + 1)
value_more before n =
    append_assoc before (value_names n) (value_names 1) ∙ ap (λ xs. before ++ xs) (turned n ∙ ap value_names (sym (add-one n)))
  where
    turned : (n : ℕ) → value_names n ++ value_names 1 ≡ value_names (suc n)
    turned zero = refl
    turned (suc n) = ap (λ xs. record { text = []; element = None; width = W32; signed = false; start = 0 } ∷ xs) (turned n)

-- one more thing
pub call_more : (before : List CellName) (names : ℕ → List CellName) (xs : List ThingSize) (i : ℕ) (d : ThingSize) → i < length xs
    → before ++ names_in names (drop i xs) ≡ (before ++ called_names names (get_or xs i d).calls) ++ names_in names (drop (i + 1) xs)
call_more before names xs i d within =
    let x = get_or xs i d in
    ap (λ ys. before ++ names_in names ys) (drop_more xs i d within)
    ∙ sym (append_assoc before (called_names names x.calls) (names_in names (drop (i + 1) xs)))

-- the calls in things are those of their sizes
pub sized_names : (names : ℕ → List CellName) (xs : List Thing) → names_in names (sizes_of xs) ≡ call_names names xs
sized_names names [] = refl
sized_names names (x ∷ xs) = ap (λ ys. called_names names x.calls ++ ys) (sized_names names xs)

-- the cells of a function that there is, or of none
pub function_cells : (before : List CellName) (unit : TypedUnit) (sizes : List BodySize) (d e f : ℕ) → sizes ≡ map function_size unit.functions → d ≡ suc e
    → (before ++ local_names (locals_or_none (slice_get unit.functions f))) ++ names_in (function_names (unit_of unit) e) (things_or_none (slice_get sizes f))
    ≡ before ++ function_names (unit_of unit) d f
function_cells before unit sizes d e f same deep =
    append_assoc before (local_names (locals_or_none (slice_get unit.functions f))) (names_in (function_names (unit_of unit) e) (things_or_none (slice_get sizes f)))
    ∙ ap (λ xs. before ++ xs)
    (ap (λ o. local_names (locals_or_none (slice_get unit.functions f)) ++ names_in (function_names (unit_of unit) e) (things_or_none o)) (ap (λ xs. slice_get xs f) same ∙ slice_get-map function_size unit.functions f)
    ∙ (there (slice_get unit.functions f)
    ∙ (ap (if_some (λ x. local_names x.locals ++ call_names (function_names (unit_of unit) e) (things_in x.body))) (sym (slice_get-map function_of unit.functions f))
    ∙ ap (λ n. function_names (unit_of unit) n f) (sym deep))))
  where
    there : (o : Option TypedFunction)
        → local_names (locals_or_none o) ++ names_in (function_names (unit_of unit) e) (things_or_none (option_map function_size o))
        ≡ if_some (λ x. local_names x.locals ++ call_names (function_names (unit_of unit) e) (things_in x.body)) (option_map function_of o)
    there None = refl
    there (Some x) = ap (λ xs. local_names x.locals ++ xs) (sized_names (function_names (unit_of unit) e) (things_in (block_of x.body)))

-- what follows from what holds where a call succeeds
pub on_ok : {T E : Type 0} (r : Result T E) (P Q : Type 0) → (P → Q) → OnOk r P → OnOk r Q
on_ok (Ok x) P Q f h = f h
on_ok (Err e) P Q f h = h
