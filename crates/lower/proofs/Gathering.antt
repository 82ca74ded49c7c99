-- Functions, names and entities one after another.
use Rattle.std.proofs.Common.{◌≡◌, ℕ, zero, suc, ◌+◌, ◌-◌, ◌<◌, ◌≤◌, add-one, List, [], ◌∷◌, ◌++◌, get_or, length, map, take, Option, None, Some, sym, ap, ◌∙◌, subst, arith, append_assoc, append-nil, length-append}
use Rattle.std.specs.Prelude.{slice_get, remove}
use Rattle.std.proofs.lemmas.List.{map-append, take_all, take_more}
use Rattle.step_ir.specs.declared.code.EntityCode.{EntityCode}
use Rattle.typed_unit.specs.declared.typed.GlobalVar.{GlobalVar}
use Rattle.typed_unit.specs.declared.typed.TypedFunction.{TypedFunction}
use Rattle.typed_unit.specs.Plain.{PlainFunction, PlainUnit}
use Rattle.typed_unit.specs.Views as typed
use Rattle.lower_law.specs.Translated.{function}
use Rattle.lower_pieces.specs.declared.tree.FunctionTree.{FunctionTree}
use Rattle.lower_pieces.specs.Trees.{function_of}
use Rattle.unit_counts.specs.declared.cells.EntityCells.{EntityCells}
use Rattle.unit_counts.specs.Cells.{cells_of_entity, entity_cells}
use Rattle.lower.specs.EntityCodes.{AreEntityCodes, IsEntityCode}
use Rattle.lower.specs.Ready.{AreSmall, IsSmall, cells_from}
use Rattle.lower.proofs.Exchanging.{IsAmong, before, last, among, some_is}

-- one more item of a list that is changed item by item
mapped_more : {A B : Type 0} (v : A → B) (xs : List A) (i : ℕ) (x d : A) → i < length xs → x ≡ get_or xs i d → map v (take (i + 1) xs) ≡ map v (take i xs) ++ v x ∷ []
mapped_more v xs i x d h e =
    ap (map v) (take_more xs i d h) ∙ (map-append v (take i xs) (get_or xs i d ∷ []) ∙ ap (λ y. map v (take i xs) ++ v y ∷ []) (sym e))

-- the numbers in each function are small
pub small_at : (gs : List GlobalVar) (fs : List TypedFunction) (i : ℕ) (f d : TypedFunction) → AreSmall gs (map typed.function_of fs) → i < length fs → f ≡ get_or fs i d → IsSmall gs (typed.function_of f)
small_at gs [] i f d s h e = absurd (omega arith)
small_at gs (x ∷ xs) zero f d s h e = subst (λ (y : TypedFunction). IsSmall gs (typed.function_of y)) (sym e) s.0
small_at gs (x ∷ xs) (suc i) f d s h e = small_at gs xs i f d s.1 (omega arith) e

-- one more function
pub functions_more : (gs : List GlobalVar) (fs : List TypedFunction) (i : ℕ) (f d : TypedFunction) (ts ts' : List FunctionTree) (t : FunctionTree) → i < length fs → f ≡ get_or fs i d
    → function_of t ≡ function gs (typed.function_of f) → ts' ≡ ts ++ t ∷ [] → map function_of ts ≡ map (function gs) (map typed.function_of (take i fs))
    → map function_of ts' ≡ map (function gs) (map typed.function_of (take (i + 1) fs))
functions_more gs fs i f d ts ts' t h e is push so =
    ap (map function_of) push
    ∙ (map-append function_of ts (t ∷ [])
    ∙ (ap (λ xs. xs ++ function_of t ∷ []) so
    ∙ (ap (λ y. map (function gs) (map typed.function_of (take i fs)) ++ y ∷ []) is
    ∙ (sym (map-append (function gs) (map typed.function_of (take i fs)) (typed.function_of f ∷ []))
    ∙ ap (map (function gs)) (sym (mapped_more typed.function_of fs i f d h e))))))

-- no function is left
pub functions_end : (gs : List GlobalVar) (fs : List TypedFunction) (i : ℕ) (ts : List FunctionTree) → length fs ≤ i → map function_of ts ≡ map (function gs) (map typed.function_of (take i fs))
    → map function_of ts ≡ map (function gs) (map typed.function_of fs)
functions_end gs fs i ts h so = so ∙ ap (λ xs. map (function gs) (map typed.function_of xs)) (take_all i fs h)

-- the name of a function
abbrev pub name_of : PlainFunction → List ℕ
name_of f = f.name.text

-- one more name
pub names_more : (fs : List TypedFunction) (i : ℕ) (f d : TypedFunction) (ns ns' : List (List ℕ)) (n : List ℕ) → i < length fs → f ≡ get_or fs i d
    → n ≡ f.name.text → ns' ≡ ns ++ n ∷ [] → ns ≡ map name_of (map typed.function_of (take i fs))
    → ns' ≡ map name_of (map typed.function_of (take (i + 1) fs))
names_more fs i f d ns ns' n h e is push so =
    push
    ∙ (ap (λ xs. xs ++ n ∷ []) so
    ∙ (ap (λ y. map name_of (map typed.function_of (take i fs)) ++ y ∷ []) is
    ∙ (sym (map-append name_of (map typed.function_of (take i fs)) (typed.function_of f ∷ []))
    ∙ ap (map name_of) (sym (mapped_more typed.function_of fs i f d h e)))))

-- no name is left
pub names_end : (fs : List TypedFunction) (i : ℕ) (ns : List (List ℕ)) → length fs ≤ i → ns ≡ map name_of (map typed.function_of (take i fs)) → ns ≡ map name_of (map typed.function_of fs)
names_end fs i ns h so = so ∙ ap (λ xs. map name_of (map typed.function_of xs)) (take_all i fs h)

-- ---- the cells of entities
-- those of the first entities stand before those of the others
cells_split : (u : PlainUnit) (e n : ℕ) → entity_cells u (e + n) ≡ entity_cells u e ++ cells_from u e n
cells_split u e zero = let z : e + 0 ≡ e = omega arith in ap (entity_cells u) z ∙ sym (append-nil (entity_cells u e))
cells_split u e (suc n) =
    let z : e + suc n ≡ suc e + n = omega arith in
    ap (entity_cells u) z ∙ (cells_split u (suc e) n ∙ append_assoc (entity_cells u e) (cells_of_entity u e ∷ []) (cells_from u (suc e) n))

-- at first all entities are left
pub all_cells : (u : PlainUnit) (n : ℕ) (cells : List EntityCells) → cells ≡ entity_cells u n → cells ≡ cells_from u 0 (n - 0)
all_cells u n cells is =
    let z : 0 + n ≡ n = omega arith in
    let y : n ≡ n - 0 = omega arith in
    is ∙ (ap (entity_cells u) (sym z) ∙ (cells_split u 0 n ∙ ap (cells_from u 0) y))

-- where entities are left, the first of them is the next
from_next : (u : PlainUnit) (e n : ℕ) → e < n → cells_from u e (n - e) ≡ cells_of_entity u e ∷ cells_from u (suc e) (n - suc e)
from_next u e n h = let z : n - e ≡ suc (n - suc e) = omega arith in ap (cells_from u e) z

pub some_left : (u : PlainUnit) (e n : ℕ) (cells : List EntityCells) → e < n → cells ≡ cells_from u e (n - e) → 0 < length cells
some_left u e n cells h is = let l = ap length (is ∙ from_next u e n h) in omega (arith, l)

pub first_left : (u : PlainUnit) (e n : ℕ) (cells : List EntityCells) (one : EntityCells) → e < n → cells ≡ cells_from u e (n - e) → slice_get cells 0 ≡ Some one → one ≡ cells_of_entity u e
first_left u e n cells one h is get =
    some_is one one (cells_of_entity u e) (sym get ∙ ap (λ xs. slice_get xs 0) (is ∙ from_next u e n h))

-- and then one fewer is left
pub rest_left : (u : PlainUnit) (e n : ℕ) (cells rest : List EntityCells) → e < n → cells ≡ cells_from u e (n - e) → rest ≡ remove cells 0 → rest ≡ cells_from u (e + 1) (n - (e + 1))
rest_left u e n cells rest h is gone =
    gone ∙ (ap (λ xs. remove xs 0) (is ∙ from_next u e n h) ∙ ap (λ k. cells_from u k (n - k)) (sym (add-one e)))

-- ---- the codes of entities
-- no entity has its code at first
pub codes_none : (u : PlainUnit) (n : ℕ) (codes : List EntityCode) → codes ≡ [] → AreEntityCodes u n codes
codes_none u n codes is = subst (λ (xs : List EntityCode). AreEntityCodes u n xs) (sym is) (λ e c h. absurd (cc))

-- one more has
pub codes_more : (u : PlainUnit) (n e : ℕ) (codes codes' : List EntityCode) (c : EntityCode) → length codes ≡ e → AreEntityCodes u n codes → IsEntityCode u n e c → codes' ≡ codes ++ c ∷ [] → AreEntityCodes u n codes'
codes_more u n e codes codes' c long all one push =
    subst (λ (xs : List EntityCode). AreEntityCodes u n xs) (sym push) (λ k x h. by k x (among codes c k x h))
  where
    by : (k : ℕ) (x : EntityCode) → IsAmong codes c k x → IsEntityCode u n k x
    by k x (before h) = all k x h
    by k x (last h is) = subst (λ (y : EntityCode). IsEntityCode u n k y) is (subst (λ (i : ℕ). IsEntityCode u n i c) (sym (h ∙ long)) one)

pub codes_long : (e : ℕ) (codes codes' : List EntityCode) (c : EntityCode) → length codes ≡ e → codes' ≡ codes ++ c ∷ [] → length codes' ≡ e + 1
codes_long e codes codes' c long push = let l = length-append codes (c ∷ []) in ap length push ∙ omega (arith, l, long)
