-- Tables, function by function and level by level.
use Rattle.std.proofs.Common.{◌≡◌, ℕ, ◌+◌, ◌<◌, ◌≤◌, ◌⊎◌, inl, inr, true, false, leb, List, [], ◌∷◌, ◌++◌, length, drop, get_or, Option, Some, None, zero, suc, refl, sym, ap, ◌∙◌, arith, append_assoc}
use Rattle.std.specs.Prelude.{map, slice_get}
use Rattle.std.proofs.lemmas.Bool.Decides.{leb_tells}
use Rattle.std.proofs.lemmas.List.{drop_more, length-append}
use Rattle.lower_pieces.specs.declared.tree.FunctionTree.{FunctionTree}
use Rattle.lower_code.specs.declared.tables.Table.{Table}
use Rattle.lower_code.specs.Tables.{table_to, tables_to}

-- what is made of one more item
pub mapped_more : {A B : Type 0} → (g : A → B) (whole before new : List B) (xs : List A) (i : ℕ) (x : A) (y : B) → i < length xs → x ≡ get_or xs i x → y ≡ g x
    → new ≡ before ++ y ∷ [] → whole ≡ before ++ map g (drop i xs) → whole ≡ new ++ map g (drop (i + 1) xs)
mapped_more g whole before new xs i x y h e v n w =
    w ∙ (ap (λ ys. before ++ map g ys) (drop_more xs i x h)
    ∙ (ap (λ z. before ++ g z ∷ map g (drop (i + 1) xs)) (sym e)
    ∙ (ap (λ z. before ++ z ∷ map g (drop (i + 1) xs)) (sym v)
    ∙ (sym (append_assoc before (y ∷ []) (map g (drop (i + 1) xs)))
    ∙ ap (λ ys. ys ++ map g (drop (i + 1) xs)) (sym n)))))

-- there are so many
pub count_tables : (functions : List FunctionTree) (n : ℕ) → length (tables_to functions n) ≡ n
count_tables functions zero = refl
count_tables functions (suc n) =
    let e = count_tables functions n in
    length-append (tables_to functions n) (table_to functions n ∷ []) ∙ (ap (λ k. k + 1) e ∙ omega arith)

get_before : {A : Type 0} → (xs ys : List A) (k : ℕ) → k < length xs → slice_get (xs ++ ys) k ≡ slice_get xs k
get_before [] ys k h = absurd (omega arith)
get_before (x ∷ xs) ys zero h = refl
get_before (x ∷ xs) ys (suc k) h = get_before xs ys k (omega arith)

get_behind : {A : Type 0} → (xs : List A) (y : A) (k : ℕ) → k ≡ length xs → slice_get (xs ++ y ∷ []) k ≡ Some y
get_behind [] y k h = ap (λ i. slice_get (y ∷ []) i) h
get_behind (x ∷ xs) y zero h = absurd (omega (arith, h))
get_behind (x ∷ xs) y (suc k) h = get_behind xs y k (omega (arith, h))

-- the table of each level
table_in : (functions : List FunctionTree) (n d : ℕ) → d < n → slice_get (tables_to functions n) d ≡ Some (table_to functions d)
table_in functions zero d h = absurd (omega arith)
table_in functions (suc n) d h = by (leb_tells n d) (table_in functions n d) where
  e : length (tables_to functions n) ≡ n
  e = count_tables functions n

  by : ((leb n d ≡ true) × (n ≤ d)) ⊎ ((leb n d ≡ false) × (d < n)) → (d < n → slice_get (tables_to functions n) d ≡ Some (table_to functions d))
      → slice_get (tables_to functions n ++ table_to functions n ∷ []) d ≡ Some (table_to functions d)
  by (inl k) below =
      let same : d ≡ n = omega (arith, h, k.1) in
      get_behind (tables_to functions n) (table_to functions n) d (same ∙ sym e) ∙ ap (λ i. Some (table_to functions i)) (sym same)
  by (inr k) below = get_before (tables_to functions n) (table_to functions n ∷ []) d (omega (arith, e, k.1)) ∙ below k.1

level_at : (functions : List FunctionTree) (tables : List Table) (d : ℕ) → tables ≡ tables_to functions (length tables) → d < length tables → slice_get tables d ≡ Some (table_to functions d)
level_at functions tables d e h = ap (λ ts. slice_get ts d) e ∙ table_in functions (length tables) d h

abbrev or_table : Table → Option Table → Table
or_table t None = t
or_table t (Some x) = x

-- what stands among the tables is the table for that depth
pub level_is : (functions : List FunctionTree) (tables : List Table) (d : ℕ) (t : Table) → tables ≡ tables_to functions (length tables) → d < length tables → slice_get tables d ≡ Some t → t ≡ table_to functions d
level_is functions tables d t e h found = ap (or_table t) (sym found ∙ level_at functions tables d e h)
