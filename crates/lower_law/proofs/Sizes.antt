-- The counts are the lengths.
use Rattle.std.proofs.Common.{◌≡◌, ℕ, zero, suc, ◌+◌, Bool, true, false, List, [], ◌∷◌, ◌++◌, length, Option, Some, None, refl, ap, ◌∙◌, arith, length-append}
use Rattle.chk_base.specs.declared.place.Place.{Place}
use Rattle.chk_base.specs.Term.{Term}
use Rattle.chk_base.specs.declared.expr.UnOp.TheVariants as un
use Rattle.chk_base.specs.Term.{Un}
use Rattle.step_ir.specs.Points.{PlainAction}
use Rattle.lower_law.specs.Typed.{BinaryOperator, Multiply, Divide, Remainder, Add, Subtract, ShiftLeft, ShiftRight, UnaryOperator, Minus, CellExpr, Number, Local, Global, Element, Binary, Unary, Conjunction, Disjunction, Conditional, Converted}
use Rattle.lower_law.specs.Items.{Item, Site, Check, guarded, sites, division_checks, binary_checks, unary_checks, term, items, sites_all, terms_all, items_all, checks_of}
use Rattle.lower_law.specs.Statements.{CellStatement, Set, Write, WriteAt, If, Loop, Assert, Input, Call, Return, Serve, Block, CellBlock, Nil, Cons, CellFunction, CellUnit, questions, place_of, room, room_all, rooms_to}
use Rattle.lower_law.specs.Lowered.{Nexts, Context, Plan, behind, entry, thing, own, size, size_all, entry_all, own_points, own_items, action_of, nexts_of, callee, points_one, points_all, close_entry, closing, closing_size, plan_of, plan_to}

abbrev pub count : List Item → ℕ
count [] = 0
count (Check g t f ∷ is) = count is
count (Site g t into ∷ is) = count is + 1

count-append : (is js : List Item) → count (is ++ js) ≡ count is + count js
count-append [] js = omega arith
count-append (Check g t f ∷ is) js = count-append is js
count-append (Site g t into ∷ is) js = let h = count-append is js in omega arith

count_division : (g : List Term) (s : Bool) (a b : Term) → count (division_checks g s a b) ≡ 0
count_division g true a b = refl
count_division g false a b = refl

count_binary : (g : List Term) (op : BinaryOperator) (s : Bool) (a b : Term) → count (binary_checks g op s a b) ≡ 0
count_binary g Multiply true a b = refl
count_binary g Divide s a b = count_division g s a b
count_binary g Remainder s a b = count_division g s a b
count_binary g Add true a b = refl
count_binary g Subtract true a b = refl
count_binary g ShiftLeft s a b = refl
count_binary g ShiftRight s a b = refl
count_binary g Multiply false a b = refl
count_binary g Add false a b = refl
count_binary g Subtract false a b = refl
count_binary g _ s a b = refl

count_unary : (g : List Term) (op : UnaryOperator) (s : Bool) (a : Term) → count (unary_checks g op s a) ≡ 0
count_unary g Minus true a = refl
count_unary g Minus false a = refl
count_unary g _ s a = refl

module _ (base : ℕ) where
  count_items : (e : CellExpr) (g : List Term) (n : ℕ) → count (items base g n e) ≡ sites e
  count_items (Number k) g n = refl
  count_items (Local at t) g n = refl
  count_items (Global cell t) g n = refl
  count_items (Element cell len t i) g n = count-append (items base g n i) _ ∙ ap (λ k. k + 1) (count_items i g n)
  count_items (Binary op s a b) g n =
      let p = count-append (items base g n a) (items base g (n + sites a) b ++ binary_checks g op s (term base n a) (term base (n + sites a) b)) in
      let q = count-append (items base g (n + sites a) b) (binary_checks g op s (term base n a) (term base (n + sites a) b)) in
      let ca = count_items a g n in
      let cb = count_items b g (n + sites a) in
      let cc' = count_binary g op s (term base n a) (term base (n + sites a) b) in
      omega arith
  count_items (Unary op s a) g n =
      let p = count-append (items base g n a) (unary_checks g op s (term base n a)) in
      let ca = count_items a g n in
      let cc' = count_unary g op s (term base n a) in
      omega arith
  count_items (Conjunction a b) g n =
      let p = count-append (items base g n a) (items base (term base n a ∷ g) (n + sites a) b) in
      let ca = count_items a g n in
      let cb = count_items b (term base n a ∷ g) (n + sites a) in
      omega arith
  count_items (Disjunction a b) g n =
      let p = count-append (items base g n a) (items base (Un un.Not (term base n a) ∷ g) (n + sites a) b) in
      let ca = count_items a g n in
      let cb = count_items b (Un un.Not (term base n a) ∷ g) (n + sites a) in
      omega arith
  count_items (Conditional c a b) g n =
      let isa = items base (term base n c ∷ g) (n + sites c) a in
      let isb = items base (Un un.Not (term base n c) ∷ g) (n + sites c + sites a) b in
      let p = count-append (items base g n c) (isa ++ isb) in
      let q = count-append isa isb in
      let cc' = count_items c g n in
      let ca = count_items a (term base n c ∷ g) (n + sites c) in
      let cb = count_items b (Un un.Not (term base n c) ∷ g) (n + sites c + sites a) in
      omega arith
  count_items (Converted t a) g n = count_items a g n

  count_checks : (o : Option ℕ) (t : Term) → count (checks_of o t) ≡ 0
  count_checks None t = refl
  count_checks (Some len) t = refl

  count_all : (qs : List (Option ℕ × CellExpr)) (n : ℕ) → count (items_all base n qs) ≡ sites_all qs
  count_all [] n = refl
  count_all (q ∷ qs) n =
      let t = term base n q.1 in
      let more = items_all base (n + sites q.1) qs in
      let p = count-append (items base [] n q.1) (checks_of q.0 t ++ more) in
      let r = count-append (checks_of q.0 t) more in
      let c1 = count_items q.1 [] n in
      let c2 = count_checks q.0 t in
      let c3 = count_all qs (n + sites q.1) in
      omega arith

length_thing : (number : ℕ → ℕ) (place : Place) (action : PlainAction) (nexts : Nexts) (traps : List (Term × ℕ)) (at : ℕ) (is : List Item) → length (thing number place action nexts traps at is) ≡ count is + 1
length_thing number place action nexts traps at [] = refl
length_thing number place action nexts traps at (Check g t f ∷ is) = length_thing number place action nexts (traps ++ (guarded g t, f) ∷ []) at is
length_thing number place action nexts traps at (Site g t into ∷ is) =
    let h = length_thing number place action nexts (behind g traps) (at + 1) is in omega arith

-- every plan has as many points as it says
pub record AreSized (calls : ℕ → Plan) : Type 0 where
  pub is : (f : ℕ) (ctx : Context) (at : ℕ) → length ((calls f).points ctx at) ≡ (calls f).size

module _ (number : ℕ → ℕ) (temp : ℕ) (fun : ℕ → CellFunction) (rooms : ℕ → ℕ) (calls : ℕ → Plan) (sized : AreSized calls) where
  pub length_own : (ctx : Context) (at cell : ℕ) (s : CellStatement) (after : Nexts) → length (own_points number temp fun rooms calls ctx at cell s after) ≡ sites_all (questions s) + 1
  length_own ctx at cell s after =
      let ts = terms_all ctx.base temp (questions s) in
      length_thing number (place_of s) (action_of number temp fun rooms calls ctx cell s ts) (nexts_of number temp fun rooms calls ctx at cell s ts after) [] at (items_all ctx.base temp (questions s)) ∙ ap (λ k. k + 1) (count_all ctx.base (questions s) temp)

  mutual
    pub length_one : (s : CellStatement) (ctx : Context) (at cell : ℕ) (after : Nexts) → length (points_one number temp fun rooms calls ctx at cell s after) ≡ size number temp fun rooms calls s
    length_one (Block b) ctx at cell after = length_all b ctx at cell after
    length_one (If p c a b) ctx at cell after =
        let n = own number temp fun rooms calls (If p c a b) in
        let sa = size_all number temp fun rooms calls a in
        let xs = own_points number temp fun rooms calls ctx at cell (If p c a b) after in
        let ys = points_all number temp fun rooms calls ctx (at + n) cell a after in
        let zs = points_all number temp fun rooms calls ctx (at + n + sa) (cell + room_all rooms a) b after in
        let lp = length-append xs (ys ++ zs) in
        let lq = length-append ys zs in
        let l1 = length_own ctx at cell (If p c a b) after in
        let l2 = length_all a ctx (at + n) cell after in
        let l3 = length_all b ctx (at + n + sa) (cell + room_all rooms a) after in
        omega arith
    length_one (Loop p c y b) ctx at cell after =
        let n = own number temp fun rooms calls (Loop p c y b) in
        let sy = size_all number temp fun rooms calls y in
        let e = entry number at (own_items number temp fun rooms calls ctx.base (Loop p c y b)) in
        let e2 = entry_all number temp fun rooms calls ctx.base (at + n) y e in
        let xs = own_points number temp fun rooms calls ctx at cell (Loop p c y b) after in
        let ys = points_all number temp fun rooms calls ctx (at + n) cell y e in
        let zs = points_all number temp fun rooms calls ctx (at + n + sy) (cell + room_all rooms y) b e2 in
        let lp = length-append xs (ys ++ zs) in
        let lq = length-append ys zs in
        let l1 = length_own ctx at cell (Loop p c y b) after in
        let l2 = length_all y ctx (at + n) cell e in
        let l3 = length_all b ctx (at + n + sy) (cell + room_all rooms y) e2 in
        omega arith
    length_one (Call p f args into) ctx at cell after =
        let n = own number temp fun rooms calls (Call p f args into) in
        let xs = own_points number temp fun rooms calls ctx at cell (Call p f args into) after in
        let ys = (calls f).points (callee ctx cell into after) (at + n) in
        let lp = length-append xs ys in
        let l1 = length_own ctx at cell (Call p f args into) after in
        let l2 = sized.is f (callee ctx cell into after) (at + n) in
        omega arith
    length_one (Set p at' t e) ctx at cell after = length_own ctx at cell (Set p at' t e) after
    length_one (Write p c t e) ctx at cell after = length_own ctx at cell (Write p c t e) after
    length_one (WriteAt p c len t i e) ctx at cell after = length_own ctx at cell (WriteAt p c len t i e) after
    length_one (Assert p e) ctx at cell after = length_own ctx at cell (Assert p e) after
    length_one (Input p at' t) ctx at cell after = length_own ctx at cell (Input p at' t) after
    length_one (Return p e) ctx at cell after = length_own ctx at cell (Return p e) after
    length_one (Serve p s) ctx at cell after = length_own ctx at cell (Serve p s) after

    pub length_all : (b : CellBlock) (ctx : Context) (at cell : ℕ) (after : Nexts) → length (points_all number temp fun rooms calls ctx at cell b after) ≡ size_all number temp fun rooms calls b
    length_all Nil ctx at cell after = refl
    length_all (Cons s b) ctx at cell after =
        let e = entry_all number temp fun rooms calls ctx.base (at + size number temp fun rooms calls s) b after in
        let xs = points_one number temp fun rooms calls ctx at cell s e in
        let ys = points_all number temp fun rooms calls ctx (at + size number temp fun rooms calls s) (cell + room rooms s) b after in
        let lp = length-append xs ys in
        let l1 = length_one s ctx at cell e in
        let l2 = length_all b ctx (at + size number temp fun rooms calls s) (cell + room rooms s) after in
        omega arith

  length_closing : (gives : Bool) (place : Place) (ctx : Context) → length (closing gives place ctx) ≡ closing_size gives
  length_closing true place ctx = refl
  length_closing false place ctx = refl

  pub length_plan : (f : CellFunction) (ctx : Context) (at : ℕ) → length ((plan_of number temp fun rooms calls f).points ctx at) ≡ (plan_of number temp fun rooms calls f).size
  length_plan f ctx at =
      let e = close_entry number f.gives ctx (at + size_all number temp fun rooms calls f.body) in
      length-append (points_all number temp fun rooms calls ctx at (ctx.base + f.locals) f.body e) (closing f.gives f.close ctx)
      ∙ ap (λ k. k + length (closing f.gives f.close ctx)) (length_all f.body ctx at (ctx.base + f.locals) e)
      ∙ ap (λ k. size_all number temp fun rooms calls f.body + k) (length_closing f.gives f.close ctx)

pub sized_to : (number : ℕ → ℕ) (temp : ℕ) (unit : CellUnit) (d : ℕ) → AreSized (plan_to number temp unit d)
sized_to number temp unit zero = record { is = λ f ctx at. refl }
sized_to number temp unit (suc d) =
    record { is = λ f ctx at. length_plan number temp unit.fun (rooms_to unit d) (plan_to number temp unit d) (sized_to number temp unit d) (unit.fun f) ctx at }
