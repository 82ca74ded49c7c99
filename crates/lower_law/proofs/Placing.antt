-- A typed unit whose names are right fits its cells.
use Rattle.std.proofs.Common.{◌≡◌, ℕ, zero, suc, ◌+◌, ◌<◌, max, Bool, List, [], ◌∷◌, ◌++◌, length, take, Option, Some, None, refl, sym, ap, ◌∙◌, subst, arith, add-zero, add_assoc, append_assoc, length-append}
use Rattle.std.specs.Prelude.{map, option_map, slice_get}
use Rattle.chk_base.specs.declared.word.Width.{Width}
use Rattle.chk_base.specs.declared.word.Width.TheVariants.{W32}
use Rattle.step_ir.specs.declared.code.CellName.{CellName}
use Rattle.c_unit.specs.declared.expression.BinaryOperator.{BinaryOperator}
use Rattle.c_unit.specs.declared.expression.BinaryOperator.TheVariants.{LogicalAnd, LogicalOr}
use Rattle.typed_unit.specs.declared.typed.GlobalVar.{GlobalVar}
use Rattle.typed_unit.specs.declared.typed.Local.{Local}
use Rattle.typed_unit.specs.Plain.{PlainExpr, PlainStatement, PlainBlock, NoStatement, StatementThen, PlainFunction, PlainEntity, PlainUnit}
use Rattle.typed_unit.specs.Plain as p
use Rattle.lower_law.specs.Counts.{Thing, most_reads}
use Rattle.lower_law.specs.FitsBody.{FitsEx, FitsAll, HaveWidths}
use Rattle.lower_law.specs.Layout.{called_names, call_names, local_names, global_names, variable_names, element_names}
use Rattle.lower_law.specs.Named.{IsLength}
use Rattle.lower_law.specs.Scoped.{IsScalar, IsScoped, AreScoped, IfScoped}
use Rattle.lower_law.specs.Statements.{asked, asked_if}
use Rattle.lower_law.specs.Translated.{elements, cell_count, or_word, global_type, local_type, binary, global_cell, expr, condition}
use Rattle.lower_law.specs.Typed.{CellExpr}

-- the width of a cell among these
abbrev pub width_among : List CellName → ℕ → Width
width_among [] i = W32
width_among (x ∷ xs) zero = x.width
width_among (x ∷ xs) (suc i) = width_among xs i

front_width : (xs ys : List CellName) (i : ℕ) → i < length xs → width_among (xs ++ ys) i ≡ width_among xs i
front_width [] ys i h = absurd (omega arith)
front_width (x ∷ xs) ys zero h = refl
front_width (x ∷ xs) ys (suc i) h = front_width xs ys i (omega arith)

back_width : (xs ys : List CellName) (i : ℕ) → width_among (xs ++ ys) (length xs + i) ≡ width_among ys i
back_width [] ys i = ap (width_among ys) (omega arith)
back_width (x ∷ xs) ys i =
    let e : length (x ∷ xs) + i ≡ suc (length xs + i) = omega arith in
    ap (width_among (x ∷ xs ++ ys)) e ∙ back_width xs ys i

module _ (width : ℕ → Width) where
  -- the cells from this one on have the widths of these
  pub record HasNames (cell : ℕ) (xs : List CellName) : Type 0 where
    pub at : (i : ℕ) → i < length xs → width (cell + i) ≡ width_among xs i

  pub front_names : (cell : ℕ) (xs ys : List CellName) → HasNames cell (xs ++ ys) → HasNames cell xs
  front_names cell xs ys h = record { at = λ i q. let l = length-append xs ys in h.at i (omega arith) ∙ front_width xs ys i q }

  pub back_names : (cell : ℕ) (xs ys : List CellName) → HasNames cell (xs ++ ys) → HasNames (cell + length xs) ys
  back_names cell xs ys h = record {
    at = λ i q.
        let l = length-append xs ys in
        ap width (add_assoc cell (length xs) i) ∙ h.at (length xs + i) (omega arith) ∙ back_width xs ys i;
  }

  -- ---- locals
  local_width : (ls : List Local) (l : ℕ) → l < length ls → width_among (local_names ls) l ≡ (local_type ls l).width
  local_width [] l h = absurd (omega arith)
  local_width (x ∷ xs) zero h = refl
  local_width (x ∷ xs) (suc l) h = local_width xs l (omega arith)

  pub length_names : (ls : List Local) → length (local_names ls) ≡ length ls
  length_names [] = refl
  length_names (l ∷ ls) = ap (λ n. suc n) (length_names ls)

  pub local_fits : (cell : ℕ) (ls : List Local) (l : ℕ) → HasNames cell (local_names ls) → l < length ls → width (cell + l) ≡ (local_type ls l).width
  local_fits cell ls l h q = h.at l (let e = length_names ls in omega arith) ∙ local_width ls l q

  pub params_fit : (cell n : ℕ) (ls : List Local) → HasNames cell (local_names ls) → HaveWidths width cell (map (λ v. v.ctype) (take n ls))
  params_fit cell zero ls h = tt
  params_fit cell (suc n) [] h = tt
  params_fit cell (suc n) (l ∷ ls) h = (
    ap width (sym (add-zero cell)) ∙ h.at 0 (omega arith),
    params_fit (cell + 1) n ls (record { at = λ i q. let e : cell + 1 + i ≡ cell + suc i = omega arith in ap width e ∙ h.at (suc i) (omega arith) }),
  )

  -- ---- variables
  length_elements : (g : GlobalVar) (at n : ℕ) → length (element_names g at n) ≡ n
  length_elements g at zero = refl
  length_elements g at (suc n) = ap (λ k. suc k) (length_elements g (at + 1) n)

  length_variable : (g : GlobalVar) (o : Option ℕ) → length (variable_names g o) ≡ elements o
  length_variable g None = refl
  length_variable g (Some n) = length_elements g 0 n

  element_width : (g : GlobalVar) (at n k : ℕ) → k < n → width_among (element_names g at n) k ≡ g.ctype.width
  element_width g at zero k h = absurd (omega arith)
  element_width g at (suc n) zero h = refl
  element_width g at (suc n) (suc k) h = element_width g (at + 1) n k (omega arith)

  variable_width : (g : GlobalVar) (o : Option ℕ) (k : ℕ) → k < elements o → width_among (variable_names g o) k ≡ g.ctype.width
  variable_width g None zero h = refl
  variable_width g None (suc k) h = absurd (omega arith)
  variable_width g (Some n) k h = element_width g 0 n k h

  -- a cell of a variable is one of the variables' cells
  pub global_fits : (gs : List GlobalVar) (g cell k : ℕ) (v : GlobalVar) → slice_get gs g ≡ Some v → k < elements v.len → HasNames cell (global_names gs) → (width (cell + (cell_count (take g gs) + k)) ≡ v.ctype.width) × (cell_count (take g gs) + k < length (global_names gs))
  global_fits [] g cell k v e h n = absurd (cc)
  global_fits (x ∷ xs) zero cell k v e h n =
      let l = length-append (variable_names x x.len) (global_names xs) in
      let lx = length_variable x x.len in
      let ex : k < elements x.len = subst (λ (o : Option GlobalVar). k < elements (or_len o)) (sym e) h in
      let f = front_names cell (variable_names x x.len) (global_names xs) n in
      let z : cell + (0 + k) ≡ cell + k = omega arith in
      (ap width z ∙ f.at k (omega arith) ∙ variable_width x x.len k ex ∙ ap or_width e, omega arith)
    where
      or_len : Option GlobalVar → Option ℕ
      or_len None = None
      or_len (Some g) = g.len

      or_width : Option GlobalVar → Width
      or_width None = W32
      or_width (Some g) = g.ctype.width
  global_fits (x ∷ xs) (suc g) cell k v e h n =
      let l = length-append (variable_names x x.len) (global_names xs) in
      let lx = length_variable x x.len in
      let b = back_names cell (variable_names x x.len) (global_names xs) n in
      let ih = global_fits xs g (cell + length (variable_names x x.len)) k v e h b in
      let q : cell + (elements x.len + cell_count (take g xs) + k) ≡ cell + length (variable_names x x.len) + (cell_count (take g xs) + k) = omega arith in
      (ap width q ∙ ih.0, let r = ih.1 in omega arith)

-- ---- expressions
module _ (width : ℕ → Width) (globals : List GlobalVar) (named : HasNames width 0 (global_names globals)) where
  abbrev count : ℕ
  count = length (global_names globals)

  type_is : (g : ℕ) (v : GlobalVar) → slice_get globals g ≡ Some v → v.ctype.width ≡ (global_type globals g).width
  type_is g v e = ap (λ o. (or_word (option_map (λ (v : GlobalVar). v.ctype) o)).width) (sym e)

  pub array_fits : (g len : ℕ) → IsLength (slice_get globals g) len → (k : ℕ) → k < len → (width (global_cell globals g + k) ≡ (global_type globals g).width) × (global_cell globals g + k < count)
  array_fits g len h k q = go (slice_get globals g) refl h where
    go : (o : Option GlobalVar) → slice_get globals g ≡ o → IsLength o len → (width (global_cell globals g + k) ≡ (global_type globals g).width) × (global_cell globals g + k < count)
    go None e i = absurd i
    go (Some v) e i =
        let f = global_fits width globals g 0 k v e (subst (λ o. k < elements o) (sym i) q) named in
        let z : global_cell globals g + k ≡ 0 + (global_cell globals g + k) = omega arith in
        (ap width z ∙ f.0 ∙ type_is g v e, f.1)

  pub scalar_fits : (g : ℕ) → IsScalar (slice_get globals g) → (width (global_cell globals g) ≡ (global_type globals g).width) × (global_cell globals g < count)
  scalar_fits g h = go (slice_get globals g) refl h where
    go : (o : Option GlobalVar) → slice_get globals g ≡ o → IsScalar o → (width (global_cell globals g) ≡ (global_type globals g).width) × (global_cell globals g < count)
    go None e i = absurd i
    go (Some v) e i =
        let one : 0 < elements v.len = subst (λ o. 0 < elements o) (sym i) (omega arith) in
        let f = global_fits width globals g 0 0 v e one named in
        let z : global_cell globals g ≡ 0 + (global_cell globals g + 0) = omega arith in
        let r = f.1 in
        (ap width z ∙ f.0 ∙ type_is g v e, omega arith)

  module _ (known : ℕ → Bool) where
    binary_fits : (op : BinaryOperator) (s : Bool) (a b : CellExpr) → FitsEx width count known a → FitsEx width count known b → FitsEx width count known (binary op s a b)
    binary_fits LogicalAnd s a b x y = (x, y)
    binary_fits LogicalOr s a b x y = (x, y)
    binary_fits _ s a b x y = (x, y)

    pub expr_fits : (e : PlainExpr) → IsScoped globals known e → FitsEx width count known (expr globals e)
    expr_fits (p.Number place t n) h = tt
    expr_fits (p.Truth place t b) h = tt
    expr_fits (p.Local' place t l) h = h
    expr_fits (p.Global place t g) h = scalar_fits g h
    expr_fits (p.Element place t g len i) h = (array_fits g len h.0, expr_fits i h.1)
    expr_fits (p.Parenthesis place t a) h = expr_fits a h
    expr_fits (p.Unary place t o a) h = expr_fits a h
    expr_fits (p.Cast place t a) h = expr_fits a h
    expr_fits (p.Binary place t o a b) h = binary_fits o (p.type_of a).signed (expr globals a) (expr globals b) (expr_fits a h.0) (expr_fits b h.1)
    expr_fits (p.Conditional place t q a b) h = (expr_fits q h.0, expr_fits a h.1, expr_fits b h.2)
    expr_fits (p.Conversion place t a) h = expr_fits a h

    pub all_fit : (es : List PlainExpr) → AreScoped globals known es → FitsAll width count known (asked (map (expr globals) es))
    all_fit [] h = tt
    all_fit (e ∷ es) h = (expr_fits e h.0, all_fit es h.1)

    pub if_fits : (v : Option PlainExpr) → IfScoped globals known v → FitsAll width count known (asked_if (option_map (expr globals) v))
    if_fits None h = tt
    if_fits (Some e) h = (expr_fits e h, tt)

    pub condition_fits : (v : Option PlainExpr) → IfScoped globals known v → FitsEx width count known (condition globals v)
    condition_fits None h = tt
    condition_fits (Some e) h = expr_fits e h

-- ---- lists of things
pub names_joined : (c : ℕ → List CellName) (xs ys : List Thing) → call_names c (xs ++ ys) ≡ call_names c xs ++ call_names c ys
names_joined c [] ys = refl
names_joined c (x ∷ xs) ys = ap (λ l. called_names c x.calls ++ l) (names_joined c xs ys) ∙ sym (append_assoc (called_names c x.calls) (call_names c xs) (call_names c ys))

pub most_joined : (c : ℕ → ℕ) (xs ys : List Thing) → most_reads c (xs ++ ys) ≡ max (most_reads c xs) (most_reads c ys)
most_joined c [] ys = omega arith
most_joined c (x ∷ xs) ys = let h = most_joined c xs ys in omega arith
