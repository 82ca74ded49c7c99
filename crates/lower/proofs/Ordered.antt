-- The points of a tree, and the first that runs.
use Rattle.std.proofs.Common.{◌≡◌, ℕ, zero, suc, ◌+◌, ◌<◌, ◌≤◌, ◌^◌, List, [], ◌∷◌, length, map, refl, sym, ap, ◌∙◌, subst, arith, length-append, add-one}
use Rattle.std.proofs.lemmas.List.{length-map}
use Rattle.chk_base.specs.declared.expr.Expr.{Expr}
use Rattle.step_ir.specs.declared.code.Point.{Point}
use Rattle.step_ir.specs.Points.{PlainPoint, item_of, plain_of}
use Rattle.step_ir.specs.PointStep.{first, or_zero}
use Rattle.lower_law.specs.Exact.{exchanged}
use Rattle.lower_law.specs.Lowered.{Nexts, outer}
use Rattle.fit_law.specs.Codes.{IsExchanged}
use Rattle.lower_pieces.specs.declared.tree.FunctionTree.{FunctionTree}
use Rattle.lower_code.specs.declared.tables.Table.{Table}
use Rattle.lower_code.specs.Bodies.{entry_at}
use Rattle.lower_code.specs.Plans.{FitsAt, points_at}
use Rattle.lower_code.specs.Tables.{table_to, tables_to}
use Rattle.lower.specs.Ready.{IsPlaced, tree_first, tree_points}
use Rattle.lower.specs.Zeros.{at_zero}
use Rattle.lower.proofs.Exchanging.{unmoved}

-- the first point that runs, where each position has its own number
pub first_is : (t : FunctionTree) (base temp temp' z start' : ℕ) (entry items : List (Expr × ℕ)) → start' ≡ 0 → temp' ≡ temp
    → map item_of entry ≡ entry_at (exchanged start') temp' t (outer base) 0 → items ≡ entry → z ≡ or_zero (first at_zero (map item_of items)) → z ≡ tree_first temp base t
first_is t base temp temp' z start' entry items e f at same is =
    is
    ∙ (ap (λ xs. or_zero (first at_zero (map item_of xs))) same
    ∙ ap (λ (ns : Nexts). or_zero (first at_zero ns))
    (at
    ∙ (ap (λ i. entry_at (exchanged i) temp' t (outer base) 0) e
    ∙ (ap (λ (number : ℕ → ℕ). entry_at number temp' t (outer base) 0) unmoved ∙ ap (λ k. entry_at (λ i. i) k t (outer base) 0) f))))

-- there is a table for each level
count_tables : (functions : List FunctionTree) (n : ℕ) → length (tables_to functions n) ≡ n
count_tables functions zero = refl
count_tables functions (suc n) =
    let e = count_tables functions n in
    length-append (tables_to functions n) (table_to functions n ∷ []) ∙ (ap (λ k. k + 1) e ∙ add-one n)

-- so they are under other names
pub same_tables : (functions functions' : List FunctionTree) (tables tables' : List Table) → functions' ≡ functions → tables' ≡ tables → tables ≡ tables_to functions 17 → tables' ≡ tables_to functions' (length tables')
same_tables functions functions' tables tables' f t is =
    let all : tables' ≡ tables_to functions' 17 = t ∙ (is ∙ ap (λ fs. tables_to fs 17) (sym f)) in
    all ∙ ap (tables_to functions') (sym (ap length all ∙ count_tables functions' 17))

-- the same of a body that fits
pub same_fits : (functions functions' : List FunctionTree) (temp temp' base : ℕ) (t : FunctionTree) → functions' ≡ functions → temp' ≡ temp → FitsAt functions temp 16 base 0 t → FitsAt functions' temp' 16 base 0 t
same_fits functions functions' temp temp' base t f e fits =
    subst (λ fs. FitsAt fs temp' 16 base 0 t) (sym f) (subst (λ k. FitsAt functions k 16 base 0 t) (sym e) fits)

-- the points of a tree
pub points_made : (functions functions' : List FunctionTree) (temp temp' base z z' : ℕ) (t : FunctionTree) (ps : List PlainPoint) → functions' ≡ functions → temp' ≡ temp → z' ≡ z → z ≡ tree_first temp base t
    → ps ≡ points_at (exchanged z') temp' functions' 16 t (outer base) 0 → ps ≡ tree_points temp functions base t
points_made functions functions' temp temp' base z z' t ps f e g h is =
    is
    ∙ (ap (λ i. points_at (exchanged i) temp' functions' 16 t (outer base) 0) (g ∙ h)
    ∙ (ap (λ k. points_at (exchanged (tree_first temp base t)) k functions' 16 t (outer base) 0) e
    ∙ ap (λ fs. points_at (exchanged (tree_first temp base t)) temp fs 16 t (outer base) 0) f))

-- the first that runs is one of them
pub first_within : (functions : List FunctionTree) (temp base z : ℕ) (t : FunctionTree) (ps : List Point) → IsPlaced temp functions base t → z ≡ tree_first temp base t → map plain_of ps ≡ tree_points temp functions base t → z < length ps
first_within functions temp base z t ps placed first made =
    let l = length-map ps plain_of in
    let m = ap length made in
    let h = placed.within in
    omega (arith, l, m, h, first)

-- they are few
pub points_few : (functions : List FunctionTree) (temp base : ℕ) (t : FunctionTree) (ps : List Point) → IsPlaced temp functions base t → map plain_of ps ≡ tree_points temp functions base t → length ps ≤ 2 ^ 16
points_few functions temp base t ps placed made =
    let l = length-map ps plain_of in
    let m = ap length made in
    let h = placed.few in
    omega (arith, l, m, h)

-- under their numbers
pub ordered_are : (functions : List FunctionTree) (temp base z : ℕ) (t : FunctionTree) (ps : List Point) (qs : List PlainPoint) → z ≡ tree_first temp base t → map plain_of ps ≡ tree_points temp functions base t
    → IsExchanged z (map plain_of ps) qs → IsExchanged (tree_first temp base t) (tree_points temp functions base t) qs
ordered_are functions temp base z t ps qs first made x =
    subst (λ (xs : List PlainPoint). IsExchanged (tree_first temp base t) xs qs) made (subst (λ (i : ℕ). IsExchanged i (map plain_of ps) qs) first x)
