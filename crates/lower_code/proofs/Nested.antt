-- Where calls nest less deep than plans go, the plans of trees are those of the law.
use Rattle.std.proofs.Common.{◌≡◌, ℕ, zero, suc, ◌+◌, Bool, nat_lt, List, [], ◌++◌, length, Option, refl, ap, ◌∙◌}
use Rattle.chk_base.specs.declared.word.Width.{Width}
use Rattle.chk_base.specs.Term.{Term}
use Rattle.lower_law.specs.FitsBody.{known_after, FitsSt, FitsBl, FitsFun, FitsTo}
use Rattle.lower_law.specs.Items.{terms_all}
use Rattle.lower_law.specs.Lowered.{Nexts, Context, Plan, first_term, all_guarded, callee, entry, thing, own, own_items, size, size_all, entry_one, entry_all, action_of, nexts_of, own_points, points_one, points_all, plan_of, plan_to, close_entry, closing, closing_size}
use Rattle.lower_law.specs.Statements.{CellStatement, Set, Write, WriteAt, If, Loop, Assert, Input, Call, Return, Serve, Block, CellBlock, Nil, Cons, CellFunction, questions, place_of, room, room_all, rooms_to}
use Rattle.lower_law.specs.Typed.{CType, CellExpr}
use Rattle.lower_pieces.specs.declared.tree.FunctionTree.{FunctionTree}
use Rattle.lower_code.specs.Plans.{function_at, unit_with, tree_unit, plans_to}

module _ (calls other : ℕ → Plan) where
  -- the calls have the same plans
  abbrev mutual
    SameIn : CellStatement → Type 0
    SameIn (If p c a b) = SameAll a × SameAll b
    SameIn (Loop p c x b) = SameAll x × SameAll b
    SameIn (Block b) = SameAll b
    SameIn (Call p f args into) = calls f ≡ other f
    SameIn s = Unit {0}

    SameAll : CellBlock → Type 0
    SameAll Nil = Unit {0}
    SameAll (Cons s b) = SameIn s × SameAll b

  module _ (number : ℕ → ℕ) (temp : ℕ) (fun : ℕ → CellFunction) (rooms : ℕ → ℕ) where
    mutual
      size_same : (s : CellStatement) → SameIn s → size number temp fun rooms calls s ≡ size number temp fun rooms other s
      size_same (Block b) h = size_all_same b h
      size_same (If p c a b) h =
          ap (λ n. own number temp fun rooms calls (If p c a b) + n + size_all number temp fun rooms calls b) (size_all_same a h.0)
          ∙ ap (λ n. own number temp fun rooms calls (If p c a b) + size_all number temp fun rooms other a + n) (size_all_same b h.1)
      size_same (Loop p c a b) h =
          ap (λ n. own number temp fun rooms calls (Loop p c a b) + n + size_all number temp fun rooms calls b) (size_all_same a h.0)
          ∙ ap (λ n. own number temp fun rooms calls (Loop p c a b) + size_all number temp fun rooms other a + n) (size_all_same b h.1)
      size_same (Call p f args into) h = ap (λ x. own number temp fun rooms calls (Call p f args into) + x.size) h
      size_same (Set p l t v) h = refl
      size_same (Write p c t v) h = refl
      size_same (WriteAt p c len t i v) h = refl
      size_same (Assert p v) h = refl
      size_same (Input p l t) h = refl
      size_same (Return p v) h = refl
      size_same (Serve p v) h = refl

      size_all_same : (b : CellBlock) → SameAll b → size_all number temp fun rooms calls b ≡ size_all number temp fun rooms other b
      size_all_same Nil h = refl
      size_all_same (Cons s b) h =
          ap (λ n. n + size_all number temp fun rooms calls b) (size_same s h.0) ∙ ap (λ n. size number temp fun rooms other s + n) (size_all_same b h.1)

    mutual
      entry_same : (s : CellStatement) (base at : ℕ) (after : Nexts) → SameIn s → entry_one number temp fun rooms calls base at s after ≡ entry_one number temp fun rooms other base at s after
      entry_same (Block b) base at after h = entry_all_same b base at after h
      entry_same (If p c a b) base at after h = refl
      entry_same (Loop p c a b) base at after h = refl
      entry_same (Call p f args into) base at after h = refl
      entry_same (Set p l t v) base at after h = refl
      entry_same (Write p c t v) base at after h = refl
      entry_same (WriteAt p c len t i v) base at after h = refl
      entry_same (Assert p v) base at after h = refl
      entry_same (Input p l t) base at after h = refl
      entry_same (Return p v) base at after h = refl
      entry_same (Serve p v) base at after h = refl

      entry_all_same : (b : CellBlock) (base at : ℕ) (after : Nexts) → SameAll b → entry_all number temp fun rooms calls base at b after ≡ entry_all number temp fun rooms other base at b after
      entry_all_same Nil base at after h = refl
      entry_all_same (Cons s b) base at after h =
          ap (λ n. entry_one number temp fun rooms calls base at s (entry_all number temp fun rooms calls base (at + n) b after)) (size_same s h.0)
          ∙ (ap (λ e. entry_one number temp fun rooms calls base at s e) (entry_all_same b base (at + size number temp fun rooms other s) after h.1)
          ∙ entry_same s base at (entry_all number temp fun rooms other base (at + size number temp fun rooms other s) b after) h.0)

    -- the own points of a thing, where it goes on in the same way
    nexts_same : (s : CellStatement) (ctx : Context) (at cell : ℕ) (ts : List Term) (after : Nexts) → SameIn s → nexts_of number temp fun rooms calls ctx at cell s ts after ≡ nexts_of number temp fun rooms other ctx at cell s ts after
    nexts_same (If p c a b) ctx at cell ts after h =
        let n = at + own number temp fun rooms calls (If p c a b) in
        let t = first_term ts in
        ap (λ k. all_guarded t (entry_all number temp fun rooms calls ctx.base n a after) (entry_all number temp fun rooms calls ctx.base (n + k) b after)) (size_all_same a h.0)
        ∙ (ap (λ e. all_guarded t e (entry_all number temp fun rooms calls ctx.base (n + size_all number temp fun rooms other a) b after)) (entry_all_same a ctx.base n after h.0)
        ∙ ap (λ e. all_guarded t (entry_all number temp fun rooms other ctx.base n a after) e) (entry_all_same b ctx.base (n + size_all number temp fun rooms other a) after h.1))
    nexts_same (Loop p c x b) ctx at cell ts after h =
        let n = at + own number temp fun rooms calls (Loop p c x b) in
        let t = first_term ts in
        let again = entry number at (own_items number temp fun rooms calls ctx.base (Loop p c x b)) in
        ap (λ k. all_guarded t (entry_all number temp fun rooms calls ctx.base (n + k) b (entry_all number temp fun rooms calls ctx.base n x again)) after) (size_all_same x h.0)
        ∙ (ap (λ e. all_guarded t (entry_all number temp fun rooms calls ctx.base (n + size_all number temp fun rooms other x) b e) after) (entry_all_same x ctx.base n again h.0)
        ∙ ap (λ e. all_guarded t e after) (entry_all_same b ctx.base (n + size_all number temp fun rooms other x) (entry_all number temp fun rooms other ctx.base n x again) h.1))
    nexts_same (Call p f args into) ctx at cell ts after h = ap (λ x. x.entry (callee ctx cell into after) (at + own number temp fun rooms calls (Call p f args into))) h
    nexts_same (Block b) ctx at cell ts after h = refl
    nexts_same (Set p l t v) ctx at cell ts after h = refl
    nexts_same (Write p c t v) ctx at cell ts after h = refl
    nexts_same (WriteAt p c len t i v) ctx at cell ts after h = refl
    nexts_same (Assert p v) ctx at cell ts after h = refl
    nexts_same (Input p l t) ctx at cell ts after h = refl
    nexts_same (Return p v) ctx at cell ts after h = refl
    nexts_same (Serve p v) ctx at cell ts after h = refl

    action_same : (s : CellStatement) (ctx : Context) (cell : ℕ) (ts : List Term) → action_of number temp fun rooms calls ctx cell s ts ≡ action_of number temp fun rooms other ctx cell s ts
    action_same (If p c a b) ctx cell ts = refl
    action_same (Loop p c x b) ctx cell ts = refl
    action_same (Call p f args into) ctx cell ts = refl
    action_same (Block b) ctx cell ts = refl
    action_same (Set p l t v) ctx cell ts = refl
    action_same (Write p c t v) ctx cell ts = refl
    action_same (WriteAt p c len t i v) ctx cell ts = refl
    action_same (Assert p v) ctx cell ts = refl
    action_same (Input p l t) ctx cell ts = refl
    action_same (Return p v) ctx cell ts = refl
    action_same (Serve p v) ctx cell ts = refl

    own_same : (s : CellStatement) (ctx : Context) (at cell : ℕ) (after : Nexts) → SameIn s → own_points number temp fun rooms calls ctx at cell s after ≡ own_points number temp fun rooms other ctx at cell s after
    own_same s ctx at cell after h =
        let ts = terms_all ctx.base temp (questions s) in
        let is = own_items number temp fun rooms calls ctx.base s in
        ap (λ a. thing number (place_of s) a (nexts_of number temp fun rooms calls ctx at cell s ts after) [] at is) (action_same s ctx cell ts)
        ∙ ap (λ n. thing number (place_of s) (action_of number temp fun rooms other ctx cell s ts) n [] at is) (nexts_same s ctx at cell ts after h)

    mutual
      points_same : (s : CellStatement) (ctx : Context) (at cell : ℕ) (after : Nexts) → SameIn s → points_one number temp fun rooms calls ctx at cell s after ≡ points_one number temp fun rooms other ctx at cell s after
      points_same (Block b) ctx at cell after h = points_all_same b ctx at cell after h
      points_same (If p c a b) ctx at cell after h =
          let n = at + own number temp fun rooms calls (If p c a b) in
          let m = cell + room_all rooms a in
          ap (λ o. o ++ (points_all number temp fun rooms calls ctx n cell a after ++ points_all number temp fun rooms calls ctx (n + size_all number temp fun rooms calls a) m b after)) (own_same (If p c a b) ctx at cell after h)
          ∙ ap (λ o. own_points number temp fun rooms other ctx at cell (If p c a b) after ++ o)
          (ap (λ o. o ++ points_all number temp fun rooms calls ctx (n + size_all number temp fun rooms calls a) m b after) (points_all_same a ctx n cell after h.0)
          ∙ ap (λ o. points_all number temp fun rooms other ctx n cell a after ++ o)
          (ap (λ k. points_all number temp fun rooms calls ctx (n + k) m b after) (size_all_same a h.0) ∙ points_all_same b ctx (n + size_all number temp fun rooms other a) m after h.1))
      points_same (Loop p c x b) ctx at cell after h =
          let n = at + own number temp fun rooms calls (Loop p c x b) in
          let m = cell + room_all rooms x in
          let again = entry number at (own_items number temp fun rooms calls ctx.base (Loop p c x b)) in
          let step = entry_all number temp fun rooms calls ctx.base n x again in
          let step' = entry_all number temp fun rooms other ctx.base n x again in
          ap (λ o. o ++ (points_all number temp fun rooms calls ctx n cell x again ++ points_all number temp fun rooms calls ctx (n + size_all number temp fun rooms calls x) m b step)) (own_same (Loop p c x b) ctx at cell after h)
          ∙ ap (λ o. own_points number temp fun rooms other ctx at cell (Loop p c x b) after ++ o)
          (ap (λ o. o ++ points_all number temp fun rooms calls ctx (n + size_all number temp fun rooms calls x) m b step) (points_all_same x ctx n cell again h.0)
          ∙ ap (λ o. points_all number temp fun rooms other ctx n cell x again ++ o)
          (ap (λ k. points_all number temp fun rooms calls ctx (n + k) m b step) (size_all_same x h.0)
          ∙ (ap (λ e. points_all number temp fun rooms calls ctx (n + size_all number temp fun rooms other x) m b e) (entry_all_same x ctx.base n again h.0)
          ∙ points_all_same b ctx (n + size_all number temp fun rooms other x) m step' h.1)))
      points_same (Call p f args into) ctx at cell after h =
          let n = at + own number temp fun rooms calls (Call p f args into) in
          ap (λ o. o ++ (calls f).points (callee ctx cell into after) n) (own_same (Call p f args into) ctx at cell after h)
          ∙ ap (λ x. own_points number temp fun rooms other ctx at cell (Call p f args into) after ++ x.points (callee ctx cell into after) n) h
      points_same (Set p l t v) ctx at cell after h = refl
      points_same (Write p c t v) ctx at cell after h = refl
      points_same (WriteAt p c len t i v) ctx at cell after h = refl
      points_same (Assert p v) ctx at cell after h = refl
      points_same (Input p l t) ctx at cell after h = refl
      points_same (Return p v) ctx at cell after h = refl
      points_same (Serve p v) ctx at cell after h = refl

      points_all_same : (b : CellBlock) (ctx : Context) (at cell : ℕ) (after : Nexts) → SameAll b → points_all number temp fun rooms calls ctx at cell b after ≡ points_all number temp fun rooms other ctx at cell b after
      points_all_same Nil ctx at cell after h = refl
      points_all_same (Cons s b) ctx at cell after h =
          let n = size number temp fun rooms calls s in
          let n' = size number temp fun rooms other s in
          let m = cell + room rooms s in
          ap (λ o. o ++ points_all number temp fun rooms calls ctx (at + n) m b after)
          (ap (λ k. points_one number temp fun rooms calls ctx at cell s (entry_all number temp fun rooms calls ctx.base (at + k) b after)) (size_same s h.0)
          ∙ (ap (λ e. points_one number temp fun rooms calls ctx at cell s e) (entry_all_same b ctx.base (at + n') after h.1)
          ∙ points_same s ctx at cell (entry_all number temp fun rooms other ctx.base (at + n') b after) h.0))
          ∙ ap (λ o. points_one number temp fun rooms other ctx at cell s (entry_all number temp fun rooms other ctx.base (at + n') b after) ++ o)
          (ap (λ k. points_all number temp fun rooms calls ctx (at + k) m b after) (size_same s h.0) ∙ points_all_same b ctx (at + n') m after h.1)

    -- so the whole plans are the same
    plan_same : (f : CellFunction) → SameAll f.body → plan_of number temp fun rooms calls f ≡ plan_of number temp fun rooms other f
    plan_same f h =
        let e = size_all_same f.body h in
        λ i. record {
          size = e i + closing_size f.gives;
          entry = λ ctx at.
              (ap (λ k. entry_all number temp fun rooms calls ctx.base at f.body (close_entry number f.gives ctx (at + k))) e
              ∙ entry_all_same f.body ctx.base at (close_entry number f.gives ctx (at + size_all number temp fun rooms other f.body)) h) i;
          points = λ ctx at.
              (ap (λ k. points_all number temp fun rooms calls ctx at (ctx.base + f.locals) f.body (close_entry number f.gives ctx (at + k)) ++ closing f.gives f.close ctx) e
              ∙ ap (λ ps. ps ++ closing f.gives f.close ctx) (points_all_same f.body ctx at (ctx.base + f.locals) (close_entry number f.gives ctx (at + size_all number temp fun rooms other f.body)) h)) i;
        }

  module _ (width : ℕ → Width) (globals temp top : ℕ) (rooms : ℕ → ℕ) (FitsCall : ℕ → ℕ → List CellExpr → Option (ℕ × CType) → Type 0) (base locals : ℕ) (gives : Bool)
      (same : (f cell : ℕ) (args : List CellExpr) (into : Option (ℕ × CType)) → FitsCall f cell args into → calls f ≡ other f) where
    mutual
      same_in : (s : CellStatement) (known : ℕ → Bool) (cell : ℕ) → FitsSt width globals temp top rooms FitsCall base locals gives known cell s → SameIn s
      same_in (Block b) known cell h = same_all b known cell h
      same_in (If p c a b) known cell h = (same_all a known cell h.1, same_all b known (cell + room_all rooms a) h.2)
      same_in (Loop p c a b) known cell h = (same_all a known cell h.1, same_all b known (cell + room_all rooms a) h.2)
      same_in (Call p f args into) known cell h = same f cell args into h.1
      same_in (Set p l t v) known cell h = tt
      same_in (Write p c t v) known cell h = tt
      same_in (WriteAt p c len t i v) known cell h = tt
      same_in (Assert p v) known cell h = tt
      same_in (Input p l t) known cell h = tt
      same_in (Return p v) known cell h = tt
      same_in (Serve p v) known cell h = tt

      same_all : (b : CellBlock) (known : ℕ → Bool) (cell : ℕ) → FitsBl width globals temp top rooms FitsCall base locals gives known cell b → SameAll b
      same_all Nil known cell h = tt
      same_all (Cons s b) known cell h = (same_in s known cell h.0, same_all b (known_after known s) (cell + room rooms s) h.3)

-- the rooms do not depend on the entities
pub rooms_same : (functions : List FunctionTree) (entity : ℕ → CellFunction) (d : ℕ) → rooms_to (unit_with functions entity) d ≡ rooms_to (tree_unit functions) d
rooms_same functions entity zero = refl
rooms_same functions entity (suc d) =
    ap (λ r. λ (f : ℕ). (function_at functions f).locals + room_all r (function_at functions f).body) (rooms_same functions entity d)

module _ (functions : List FunctionTree) (entity : ℕ → CellFunction) (width : ℕ → Width) (globals temp top : ℕ) (number : ℕ → ℕ) where
  -- a body that fits has the same plan
  body_same : (d : ℕ) → ((f cell : ℕ) (args : List CellExpr) (into : Option (ℕ × CType)) → FitsTo width globals temp top (unit_with functions entity) d f cell args into → plan_to number temp (unit_with functions entity) d f ≡ plans_to number temp functions d f)
      → (f : CellFunction) (base : ℕ) → FitsFun width globals temp top (rooms_to (unit_with functions entity) d) (FitsTo width globals temp top (unit_with functions entity) d) f base
      → plan_of number temp (function_at functions) (rooms_to (unit_with functions entity) d) (plan_to number temp (unit_with functions entity) d) f
      ≡ plan_of number temp (function_at functions) (rooms_to (tree_unit functions) d) (plans_to number temp functions d) f
  body_same d calls f base p =
      ap (λ r. plan_of number temp (function_at functions) r (plan_to number temp (unit_with functions entity) d) f) (rooms_same functions entity d)
      ∙ plan_same (plan_to number temp (unit_with functions entity) d) (plans_to number temp functions d) number temp (function_at functions) (rooms_to (tree_unit functions) d) f
      (same_all (plan_to number temp (unit_with functions entity) d) (plans_to number temp functions d) width globals temp top (rooms_to (unit_with functions entity) d) (FitsTo width globals temp top (unit_with functions entity) d) base f.locals f.gives calls
      f.body (λ i. nat_lt i (length f.params)) (base + f.locals) p.body)

  call_same : (d f cell : ℕ) (args : List CellExpr) (into : Option (ℕ × CType)) → FitsTo width globals temp top (unit_with functions entity) d f cell args into → plan_to number temp (unit_with functions entity) d f ≡ plans_to number temp functions d f
  call_same zero f cell args into h = absurd h
  call_same (suc d) f cell args into h = body_same d (call_same d) (function_at functions f) cell h.0

  -- the points of an entity's body
  pub plans_same : (d : ℕ) (f : CellFunction) (base : ℕ) → FitsFun width globals temp top (rooms_to (unit_with functions entity) d) (FitsTo width globals temp top (unit_with functions entity) d) f base
      → plan_of number temp (function_at functions) (rooms_to (unit_with functions entity) d) (plan_to number temp (unit_with functions entity) d) f
      ≡ plan_of number temp (function_at functions) (rooms_to (tree_unit functions) d) (plans_to number temp functions d) f
  plans_same d = body_same d (call_same d)
