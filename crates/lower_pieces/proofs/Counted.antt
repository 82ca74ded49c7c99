-- The reads among the items of a thing are its read sites.
use Rattle.std.proofs.Common.{◌≡◌, ℕ, ◌+◌, Bool, true, false, List, [], ◌∷◌, ◌++◌, Option, Some, None, refl, ap, ◌∙◌, arith}
use Rattle.std.specs.Prelude.{map}
use Rattle.chk_base.specs.Term.{Term, Un}
use Rattle.chk_base.specs.declared.expr.UnOp.TheVariants as un
use Rattle.lower_law.specs.Typed.{BinaryOperator, Multiply, Divide, Remainder, Add, Subtract, ShiftLeft, ShiftRight, UnaryOperator, Minus, CellExpr, Number, Local, Global, Element, Binary, Unary, Conjunction, Disjunction, Conditional, Converted}
use Rattle.lower_law.specs.Items.{Item, Site, Check, sites, division_checks, binary_checks, unary_checks, term, items, sites_all, items_all, checks_of}
use Rattle.lower_pieces.specs.Joined.{joined}
use Rattle.lower_pieces.specs.Steps.{reads_in}

abbrev pub count_of : List Item → ℕ
count_of [] = 0
count_of (Check g t f ∷ is) = count_of is
count_of (Site g t into ∷ is) = count_of is + 1

reads_joined : (is : List Item) → reads_in (map joined is) ≡ count_of is
reads_joined [] = refl
reads_joined (Check g t f ∷ is) = reads_joined is
reads_joined (Site g t into ∷ is) = let h = reads_joined is in omega arith

reads-append : (is js : List Item) → count_of (is ++ js) ≡ count_of is + count_of js
reads-append [] js = omega arith
reads-append (Check g t f ∷ is) js = reads-append is js
reads-append (Site g t into ∷ is) js = let h = reads-append is js in omega arith

reads_division : (g : List Term) (s : Bool) (a b : Term) → count_of (division_checks g s a b) ≡ 0
reads_division g true a b = refl
reads_division g false a b = refl

reads_binary : (g : List Term) (op : BinaryOperator) (s : Bool) (a b : Term) → count_of (binary_checks g op s a b) ≡ 0
reads_binary g Multiply true a b = refl
reads_binary g Divide s a b = reads_division g s a b
reads_binary g Remainder s a b = reads_division g s a b
reads_binary g Add true a b = refl
reads_binary g Subtract true a b = refl
reads_binary g ShiftLeft s a b = refl
reads_binary g ShiftRight s a b = refl
reads_binary g Multiply false a b = refl
reads_binary g Add false a b = refl
reads_binary g Subtract false a b = refl
reads_binary g _ s a b = refl

reads_unary : (g : List Term) (op : UnaryOperator) (s : Bool) (a : Term) → count_of (unary_checks g op s a) ≡ 0
reads_unary g Minus true a = refl
reads_unary g Minus false a = refl
reads_unary g _ s a = refl

module _ (base : ℕ) where
  reads_items : (e : CellExpr) (g : List Term) (n : ℕ) → count_of (items base g n e) ≡ sites e
  reads_items (Number k) g n = refl
  reads_items (Local at t) g n = refl
  reads_items (Global cell t) g n = refl
  reads_items (Element cell len t i) g n = reads-append (items base g n i) _ ∙ ap (λ k. k + 1) (reads_items i g n)
  reads_items (Binary op s a b) g n =
      let p = reads-append (items base g n a) (items base g (n + sites a) b ++ binary_checks g op s (term base n a) (term base (n + sites a) b)) in
      let q = reads-append (items base g (n + sites a) b) (binary_checks g op s (term base n a) (term base (n + sites a) b)) in
      let ca = reads_items a g n in
      let cb = reads_items b g (n + sites a) in
      let cc' = reads_binary g op s (term base n a) (term base (n + sites a) b) in
      omega arith
  reads_items (Unary op s a) g n =
      let p = reads-append (items base g n a) (unary_checks g op s (term base n a)) in
      let ca = reads_items a g n in
      let cc' = reads_unary g op s (term base n a) in
      omega arith
  reads_items (Conjunction a b) g n =
      let p = reads-append (items base g n a) (items base (term base n a ∷ g) (n + sites a) b) in
      let ca = reads_items a g n in
      let cb = reads_items b (term base n a ∷ g) (n + sites a) in
      omega arith
  reads_items (Disjunction a b) g n =
      let p = reads-append (items base g n a) (items base (Un un.Not (term base n a) ∷ g) (n + sites a) b) in
      let ca = reads_items a g n in
      let cb = reads_items b (Un un.Not (term base n a) ∷ g) (n + sites a) in
      omega arith
  reads_items (Conditional c a b) g n =
      let isa = items base (term base n c ∷ g) (n + sites c) a in
      let isb = items base (Un un.Not (term base n c) ∷ g) (n + sites c + sites a) b in
      let p = reads-append (items base g n c) (isa ++ isb) in
      let q = reads-append isa isb in
      let cc' = reads_items c g n in
      let ca = reads_items a (term base n c ∷ g) (n + sites c) in
      let cb = reads_items b (Un un.Not (term base n c) ∷ g) (n + sites c + sites a) in
      omega arith
  reads_items (Converted t a) g n = reads_items a g n

  reads_checks : (o : Option ℕ) (t : Term) → count_of (checks_of o t) ≡ 0
  reads_checks None t = refl
  reads_checks (Some len) t = refl

  reads_each : (qs : List (Option ℕ × CellExpr)) (n : ℕ) → count_of (items_all base n qs) ≡ sites_all qs
  reads_each [] n = refl
  reads_each (q ∷ qs) n =
      let t = term base n q.1 in
      let more = items_all base (n + sites q.1) qs in
      let p = reads-append (items base [] n q.1) (checks_of q.0 t ++ more) in
      let r = reads-append (checks_of q.0 t) more in
      let c1 = reads_items q.1 [] n in
      let c2 = reads_checks q.0 t in
      let c3 = reads_each qs (n + sites q.1) in
      omega arith

pub reads_all : (base : ℕ) (qs : List (Option ℕ × CellExpr)) (n : ℕ) → reads_in (map joined (items_all base n qs)) ≡ sites_all qs
reads_all base qs n = reads_joined (items_all base n qs) ∙ reads_each base qs n
