-- The expressions of one thing, and the order of their items.
use Rattle.std.proofs.Common.{◌≡◌, ℕ, ◌+◌, ◌-◌, ◌^◌, ◌<◌, ◌≤◌, Bool, true, false, if◌then◌else◌, nat_lt, nat_le, List, [], ◌∷◌, ◌++◌, Option, Some, None, IsTrue, refl, sym, ap, ◌∙◌, subst, arith, append_assoc, add-zero, add_assoc}
use Rattle.std.proofs.lemmas.Bool.Decides.{nat_tests}
use Rattle.chk_base.specs.declared.word.Width.{Width}
use Rattle.chk_base.specs.declared.expr.UnOp.TheVariants as un
use Rattle.chk_base.specs.declared.expr.BinOp.TheVariants as bin
use Rattle.chk_base.specs.Operators.{one_if, truth}
use Rattle.chk_base.specs.Term.{Term, Const, Un, Bin}
use Rattle.step_ir.specs.PointStep.{Bits, val}
use Rattle.lower_law.specs.Typed.{BinaryOperator, Multiply, Divide, Remainder, Add, Subtract, ShiftLeft, ShiftRight, UnaryOperator, Minus, CellExpr, Number, Local, Global, Element, Binary, Unary, Conjunction, Disjunction, Conditional, Converted}
use Rattle.lower_law.specs.Ask.{Answer, Wants, Traps, Value, then_ask, ask, within, ask_all}
use Rattle.lower_law.specs.Items.{Item, Site, Check, guarded, sites, division_checks, binary_checks, unary_checks, index_check, term, items, sites_all, terms_all, items_all, checks_of}
use Rattle.lower_law.proofs.Walk.{Seen, Reads, Stops, walk}
use Rattle.lower_law.specs.FitsBody.{FitsEx, FitsAll}
use Rattle.lower_law.proofs.Terms.{IsIn, SameBelow, same_here, same_on, within_more, AllWithin, all_more, guarded_within, value_same}
use Rattle.lower_law.proofs.Operators.{Means, guard_on}
use Rattle.lower_law.proofs.Expressions.{three, term_within, Ready, ready_on, exact}

-- the own cells begin at lo
module _ (lo : ℕ) where
  abbrev pub vals : (Term → ℕ) → List Term → List ℕ
  vals v [] = []
  vals v (t ∷ ts) = v t ∷ vals v ts

  module _ (width : ℕ → Width) (globals : ℕ) where
    pub record PassesAll (rest : List Item) (bits : Bits) (n : ℕ) (ts : List Term) (xs : List ℕ) (got : List ℕ) (seen : Seen) : Type 0 where
      pub bits' : Bits
      pub below : SameBelow lo n bits bits'
      pub is : vals (val width bits') ts ≡ xs
      pub on : seen ≡ walk width rest bits' got

    abbrev pub MeansAll : List Item → Bits → ℕ → List Term → Answer (List ℕ) → Seen → Type 0
    MeansAll rest bits n ts (Wants cell w) seen = (seen ≡ Reads cell w true) × (cell < globals)
    MeansAll rest bits n ts (Traps f) seen = seen ≡ Stops f
    MeansAll rest bits n ts (Value xs got) seen = PassesAll rest bits n ts xs got seen

    all_back : (rest : List Item) (n m : ℕ) (bits bits1 : Bits) (ts : List Term) (ans : Answer (List ℕ)) (seen seen1 : Seen) → n ≤ m → SameBelow lo n bits bits1 → seen ≡ seen1 → MeansAll rest bits1 m ts ans seen1 → MeansAll rest bits n ts ans seen
    all_back rest n m bits bits1 ts (Wants c w) seen seen1 le s e p = (e ∙ p.0, p.1)
    all_back rest n m bits bits1 ts (Traps f) seen seen1 le s e p = e ∙ p
    all_back rest n m bits bits1 ts (Value x got) seen seen1 le s e p =
        record { bits' = p.bits'; below = same_on lo le s p.below; is = p.is; on = e ∙ p.on }

    all_then : (rest1 rest : List Item) (n m : ℕ) (bits : Bits) (t1 : Term) (ts : List Term) (ans : Answer ℕ) (k : ℕ → List ℕ → Answer (List ℕ)) (seen : Seen) → n ≤ m → Means lo width globals rest1 bits n t1 ans seen → ((x : ℕ) (got : List ℕ) (bits1 : Bits) → SameBelow lo n bits bits1 → val width bits1 t1 ≡ x → MeansAll rest bits1 m ts (k x got) (walk width rest1 bits1 got)) → MeansAll rest bits n ts (then_ask ans k) seen
    all_then rest1 rest n m bits t1 ts (Wants c w) k seen le p f = p
    all_then rest1 rest n m bits t1 ts (Traps g) k seen le p f = p
    all_then rest1 rest n m bits t1 ts (Value x got) k seen le p f =
        all_back rest n m bits p.bits' ts (k x got) seen (walk width rest1 p.bits' got) le p.below p.on (f x got p.bits' p.below p.is)

    all_cons : (rest : List Item) (n : ℕ) (bits : Bits) (t : Term) (ts : List Term) (x : ℕ) (ans : Answer (List ℕ)) (seen : Seen) → IsIn lo n t → val width bits t ≡ x → MeansAll rest bits n ts ans seen → MeansAll rest bits n (t ∷ ts) (then_ask ans (λ xs got. Value (x ∷ xs) got)) seen
    all_cons rest n bits t ts x (Wants c w) seen wt e p = p
    all_cons rest n bits t ts x (Traps f) seen wt e p = p
    all_cons rest n bits t ts x (Value xs got) seen wt e p =
        let e1 = value_same lo width t n bits p.bits' wt p.below ∙ e in
        record { bits' = p.bits'; below = p.below; is = ap (λ y. y ∷ vals (val width p.bits') ts) e1 ∙ ap (λ ys. x ∷ ys) p.is; on = p.on }

    within_means : (o : Option ℕ) (rest : List Item) (n : ℕ) (bits : Bits) (t : Term) (x : ℕ) (got : List ℕ) → val width bits t ≡ x → Means lo width globals rest bits n t (within o x got) (walk width (checks_of o t ++ rest) bits got)
    within_means None rest n bits t x got e = record { bits' = bits; below = same_here lo n bits; is = e; on = refl }
    within_means (Some len) rest n bits t x got e = go (nat_lt x len) refl where
      go : (b : Bool) → nat_lt x len ≡ b → Means lo width globals rest bits n t (if b then Value x got else Traps 6) (walk width (index_check [] len t ∷ rest) bits got)
      go true lt =
          let c : nat_le len (val width bits t) ≡ false = grind (arith, nat_tests) in
          let off = guard_on lo width globals [] (Bin bin.LeU (Const len) t) bits false refl (ap (λ b. truth (one_if b)) c) in
          record { bits' = bits; below = same_here lo n bits; is = e; on = ap (λ b. if b then Stops 6 else walk width rest bits got) off }
      go false lt =
          let c : nat_le len (val width bits t) ≡ true = grind (arith, nat_tests) in
          let off = guard_on lo width globals [] (Bin bin.LeU (Const len) t) bits true refl (ap (λ b. truth (one_if b)) c) in
          ap (λ b. if b then Stops 6 else walk width rest bits got) off

    all_items : (rest is is' : List Item) (n : ℕ) (bits : Bits) (ts : List Term) (ans : Answer (List ℕ)) (got : List ℕ) → is ≡ is' → MeansAll rest bits n ts ans (walk width is' bits got) → MeansAll rest bits n ts ans (walk width is bits got)
    all_items rest is is' n bits ts ans got e p = subst (λ l. MeansAll rest bits n ts ans (walk width l bits got)) (sym e) p

  module _ (width : ℕ → Width) (globals base limit : ℕ) (known : ℕ → Bool) (under : (i : ℕ) → IsTrue (known i) → base + i < limit) (above : (lo ≤ base) × (lo ≤ limit)) (env : ℕ → ℕ) where
    pub exact_all : (qs : List (Option ℕ × CellExpr)) (n : ℕ) (bits : Bits) (got : List ℕ) (rest : List Item) → FitsAll width globals known qs → Ready lo width globals base limit known under above env [] n bits → MeansAll width globals rest bits n (terms_all base n qs) (ask_all qs env got) (walk width (items_all base n qs ++ rest) bits got)
    exact_all [] n bits got rest f r = record { bits' = bits; below = same_here lo n bits; is = refl; on = refl }
    exact_all (q ∷ qs) n bits got rest f r =
        let t = term base n q.1 in
        let m = n + sites q.1 in
        let more = items_all base m qs in
        let tests = checks_of q.0 t in
        let wt = term_within lo width globals base limit known under above q.1 n r.le f.0 in
        all_items width globals rest _ (items base [] n q.1 ++ (tests ++ (more ++ rest))) n bits _ _ got (three lo width base (items base [] n q.1) tests more rest)
        (all_then width globals (tests ++ (more ++ rest)) rest n m bits t _ (ask q.1 env got) _ _ (omega arith) (exact lo width globals base limit known under above env q.1 [] n bits got (tests ++ (more ++ rest)) f.0 r)
        (λ x got1 bits1 s1 e1.
        all_then width globals (more ++ rest) rest m m bits1 t _ (within q.0 x got1) _ _ (omega arith) (within_means width globals q.0 (more ++ rest) m bits1 t x got1 e1)
        (λ y got2 bits2 s2 e2.
        let r2 = ready_on lo width globals base limit known under above env [] n m bits bits2 (omega arith) r (same_on lo (omega arith) s1 s2) in
        all_cons width globals rest m bits2 t (terms_all base m qs) y (ask_all qs env got2) _ wt e2 (exact_all qs m bits2 got2 rest f.1 r2))))

  abbrev pub TargetIn : ℕ → Option Term → Type 0
  TargetIn m None = Unit {0}
  TargetIn m (Some t) = IsIn lo m t

  -- the cells for values read come in order and below the top, and tests look at earlier ones
  module _ (top : ℕ) where
    abbrev pub Ordered : ℕ → List Item → Type 0
    Ordered m [] = Unit {0}
    Ordered m (Check g t f ∷ is) = IsIn lo m (guarded g t) × Ordered m is
    Ordered m (Site g t into ∷ is) = (m ≤ into) × (into < top) × AllWithin lo m g × TargetIn m t.index × Ordered (into + 1) is

    division_ordered : (s : Bool) (g : List Term) (a b : Term) (m : ℕ) (rest : List Item) → AllWithin lo m g → IsIn lo m a → IsIn lo m b → Ordered m rest → Ordered m (division_checks g s a b ++ rest)
    division_ordered true g a b m rest w p q o =
        (guarded_within lo m g (Bin bin.Eq b (Const 0)) w (q, tt), (guarded_within lo m (Bin bin.Eq a (Const (2 ^ 31)) ∷ g) (Bin bin.Eq b (Const (2 ^ 32 - 1))) ((p, tt), w) (q, tt), o))
    division_ordered false g a b m rest w p q o = (guarded_within lo m g (Bin bin.Eq b (Const 0)) w (q, tt), o)

    binary_ordered : (op : BinaryOperator) (s : Bool) (g : List Term) (a b : Term) (m : ℕ) (rest : List Item) → AllWithin lo m g → IsIn lo m a → IsIn lo m b → Ordered m rest → Ordered m (binary_checks g op s a b ++ rest)
    binary_ordered Multiply true g a b m rest w p q o = (guarded_within lo m g (Bin bin.MulOver a b) w (p, q), o)
    binary_ordered Divide s g a b m rest w p q o = division_ordered s g a b m rest w p q o
    binary_ordered Remainder s g a b m rest w p q o = division_ordered s g a b m rest w p q o
    binary_ordered Add true g a b m rest w p q o = (guarded_within lo m g (Bin bin.AddOver a b) w (p, q), o)
    binary_ordered Subtract true g a b m rest w p q o = (guarded_within lo m g (Bin bin.SubOver a b) w (p, q), o)
    binary_ordered ShiftLeft s g a b m rest w p q o = (guarded_within lo m g (Bin bin.LeU (Const 32) b) w (tt, q), o)
    binary_ordered ShiftRight s g a b m rest w p q o = (guarded_within lo m g (Bin bin.LeU (Const 32) b) w (tt, q), o)
    binary_ordered Multiply false g a b m rest w p q o = o
    binary_ordered Add false g a b m rest w p q o = o
    binary_ordered Subtract false g a b m rest w p q o = o
    binary_ordered _ s g a b m rest w p q o = o

    unary_ordered : (op : UnaryOperator) (s : Bool) (g : List Term) (a : Term) (m : ℕ) (rest : List Item) → AllWithin lo m g → IsIn lo m a → Ordered m rest → Ordered m (unary_checks g op s a ++ rest)
    unary_ordered Minus true g a m rest w p o = (guarded_within lo m g (Bin bin.SubOver (Const 0) a) w (tt, p), o)
    unary_ordered Minus false g a m rest w p o = o
    unary_ordered _ s g a m rest w p o = o

  module _ (width : ℕ → Width) (globals base limit : ℕ) (known : ℕ → Bool) (under : (i : ℕ) → IsTrue (known i) → base + i < limit) (above : (lo ≤ base) × (lo ≤ limit)) (top : ℕ) where
    pub ordered : (e : CellExpr) (g : List Term) (n : ℕ) (rest : List Item) → limit ≤ n → n + sites e ≤ top → FitsEx width globals known e → AllWithin lo n g → Ordered top (n + sites e) rest → Ordered top n (items base g n e ++ rest)
    ordered (Number k) g n rest le lt f w o = subst (λ m. Ordered top m rest) (add-zero n) o
    ordered (Local at t) g n rest le lt f w o = subst (λ m. Ordered top m rest) (add-zero n) o
    ordered (Global cell t) g n rest le lt f w o = (omega arith, omega arith, w, tt, o)
    ordered (Element cell len t i) g n rest le lt f w o =
        let ti = term base n i in
        let tail = index_check g len ti ∷ Site g (record { base = cell; len = len; index = Some ti }) (n + sites i) ∷ rest in
        let wi = term_within lo width globals base limit known under above i n le f.1 in
        subst (Ordered top n) (sym (append_assoc (items base g n i) _ rest))
        (ordered i g n tail le (omega arith) f.1 w
        (guarded_within lo (n + sites i) g (Bin bin.LeU (Const len) ti) (all_more lo n (n + sites i) g (omega arith) w) (tt, wi), (omega arith, omega arith, all_more lo n (n + sites i) g (omega arith) w, wi, subst (λ m. Ordered top m rest) (sym (add_assoc n (sites i) 1)) o)))
    ordered (Binary op s a b) g n rest le lt f w o =
        let m = n + sites a in
        let ta = term base n a in
        let tb = term base m b in
        let wa = term_within lo width globals base limit known under above a n le f.0 in
        let wb = term_within lo width globals base limit known under above b m (omega arith) f.1 in
        let o' = subst (λ k. Ordered top k rest) (sym (add_assoc n (sites a) (sites b))) o in
        subst (Ordered top n) (sym (three lo width base (items base g n a) (items base g m b) (binary_checks g op s ta tb) rest))
        (ordered a g n _ le (omega arith) f.0 w
        (ordered b g m _ (omega arith) (omega arith) f.1 (all_more lo n m g (omega arith) w)
        (binary_ordered top op s g ta tb (m + sites b) rest (all_more lo n (m + sites b) g (omega arith) w) (within_more lo m (m + sites b) ta (omega arith) wa) wb o')))
    ordered (Unary op s a) g n rest le lt f w o =
        let ta = term base n a in
        let wa = term_within lo width globals base limit known under above a n le f in
        subst (Ordered top n) (sym (append_assoc (items base g n a) _ rest))
        (ordered a g n _ le lt f w (unary_ordered top op s g ta (n + sites a) rest (all_more lo n (n + sites a) g (omega arith) w) wa o))
    ordered (Conjunction a b) g n rest le lt f w o =
        let m = n + sites a in
        let wa = term_within lo width globals base limit known under above a n le f.0 in
        let o' = subst (λ k. Ordered top k rest) (sym (add_assoc n (sites a) (sites b))) o in
        subst (Ordered top n) (sym (append_assoc (items base g n a) _ rest))
        (ordered a g n _ le (omega arith) f.0 w
        (ordered b (term base n a ∷ g) m rest (omega arith) (omega arith) f.1 (wa, all_more lo n m g (omega arith) w) o'))
    ordered (Disjunction a b) g n rest le lt f w o =
        let m = n + sites a in
        let wa = term_within lo width globals base limit known under above a n le f.0 in
        let o' = subst (λ k. Ordered top k rest) (sym (add_assoc n (sites a) (sites b))) o in
        subst (Ordered top n) (sym (append_assoc (items base g n a) _ rest))
        (ordered a g n _ le (omega arith) f.0 w
        (ordered b (Un un.Not (term base n a) ∷ g) m rest (omega arith) (omega arith) f.1 (wa, all_more lo n m g (omega arith) w) o'))
    ordered (Conditional c a b) g n rest le lt f w o =
        let m = n + sites c in
        let tc = term base n c in
        let wc = term_within lo width globals base limit known under above c n le f.0 in
        let wc' = within_more lo m (m + sites a) tc (omega arith) wc in
        let e : n + (sites c + sites a + sites b) ≡ m + sites a + sites b = omega arith in
        let o' = subst (λ k. Ordered top k rest) e o in
        subst (Ordered top n) (sym (three lo width base (items base g n c) (items base (tc ∷ g) m a) (items base (Un un.Not tc ∷ g) (m + sites a) b) rest))
        (ordered c g n _ le (omega arith) f.0 w
        (ordered a (tc ∷ g) m _ (omega arith) (omega arith) f.1 (wc, all_more lo n m g (omega arith) w)
        (ordered b (Un un.Not tc ∷ g) (m + sites a) rest (omega arith) (omega arith) f.2 (wc', all_more lo n (m + sites a) g (omega arith) w) o')))
    ordered (Converted t a) g n rest le lt f w o = ordered a g n rest le lt f w o

    pub ordered_all : (qs : List (Option ℕ × CellExpr)) (n : ℕ) → limit ≤ n → n + sites_all qs ≤ top → FitsAll width globals known qs → Ordered top n (items_all base n qs)
    ordered_all [] n le lt f = tt
    ordered_all (q ∷ qs) n le lt f =
        let m = n + sites q.1 in
        let t = term base n q.1 in
        let wt = term_within lo width globals base limit known under above q.1 n le f.0 in
        let o = ordered_all qs m (omega arith) (omega arith) f.1 in
        ordered q.1 [] n _ le (omega arith) f.0 tt (tests q.0 t m (items_all base m qs) wt o)
      where
        tests : (p : Option ℕ) (t : Term) (m : ℕ) (is : List Item) → IsIn lo m t → Ordered top m is → Ordered top m (checks_of p t ++ is)
        tests None t m is w o = o
        tests (Some len) t m is w o = ((tt, w), o)
