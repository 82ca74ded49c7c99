-- Expression lowering is exact: the items of an expression come to what asking it answers.
use Rattle.std.proofs.Common.{◌≡◌, ℕ, ◌+◌, ◌-◌, ◌^◌, ◌<◌, ◌≤◌, Bool, true, false, not, ◌&&◌, if◌then◌else◌, ◌==◌, nat_lt, nat_le, List, [], ◌∷◌, ◌++◌, Some, None, IsTrue, refl, sym, ap, ◌∙◌, arith, append_assoc, add-zero}
use Rattle.std.proofs.lemmas.Bool.Decides.{nat_tests}
use Rattle.chk_base.specs.declared.word.Width.{Width}
use Rattle.chk_base.specs.declared.word.Width.TheVariants.{W1, W8, W16, W32}
use Rattle.chk_base.specs.declared.expr.UnOp.TheVariants as un
use Rattle.chk_base.specs.declared.expr.BinOp.TheVariants as bin
use Rattle.lower_law.specs.Ask.{Answer, Wants, Traps, Value, then_ask, read_by, take_value, converted, checked, ask}
use Rattle.chk_base.specs.Operators.{one_if, truth}
use Rattle.chk_base.specs.Term.{Term, Const, Cell, Un, Bin, Choose}
use Rattle.step_ir.specs.Points.{PlainTarget}
use Rattle.step_ir.specs.PointStep.{Bits, val, cell_of, cell_at, inside}
use Rattle.step_ir.specs.Numbers.{put}
use Rattle.lower_law.specs.Typed.{CType, BinaryOperator, Multiply, Divide, Remainder, Add, Subtract, ShiftLeft, ShiftRight, Less, LessEqual, Greater, GreaterEqual, Equal, NotEqual, And, Xor, Or, LogicalAnd, LogicalOr, UnaryOperator, Minus, Plus, Not, Complement, CellExpr, Number, Local, Global, Element, Binary, Unary, Conjunction, Disjunction, Conditional, Converted}
use Rattle.lower_law.specs.Items.{Item, Site, Check, sites, extend_term, convert_term, binary_term, unary_term, division_checks, binary_checks, unary_checks, index_check, term, items}
use Rattle.lower_law.proofs.Walk.{Seen, Reads, Stops, holds, walk}
use Rattle.lower_law.specs.FitsBody.{FitsEx}
use Rattle.lower_law.proofs.Terms.{IsIn, SameBelow, same_here, same_put, within_more, AllWithin, all_more, value_same, holds_same, guarded_truth}
use Rattle.lower_law.proofs.Operators.{Means, means_back, means_then, means_items, guard_on, binary_means, unary_means, extend_value, convert_value}

-- the terms name cells below the next free one

-- the own cells begin at lo
module _ (lo : ℕ) where
  binary_within : (op : BinaryOperator) (s : Bool) (a b : Term) (n : ℕ) → IsIn lo n a → IsIn lo n b → IsIn lo n (binary_term op s a b)
  binary_within Multiply s a b n p q = (p, q)
  binary_within Divide true a b n p q = (p, q)
  binary_within Divide false a b n p q = (p, q)
  binary_within Remainder true a b n p q = (p, q)
  binary_within Remainder false a b n p q = (p, q)
  binary_within Add s a b n p q = (p, q)
  binary_within Subtract s a b n p q = (p, q)
  binary_within ShiftLeft s a b n p q = (p, q)
  binary_within ShiftRight true a b n p q = (p, q)
  binary_within ShiftRight false a b n p q = (p, q)
  binary_within Less true a b n p q = (p, q)
  binary_within Less false a b n p q = (p, q)
  binary_within LessEqual true a b n p q = (p, q)
  binary_within LessEqual false a b n p q = (p, q)
  binary_within Greater true a b n p q = (q, p)
  binary_within Greater false a b n p q = (q, p)
  binary_within GreaterEqual true a b n p q = (q, p)
  binary_within GreaterEqual false a b n p q = (q, p)
  binary_within Equal s a b n p q = (p, q)
  binary_within NotEqual s a b n p q = (p, q)
  binary_within And s a b n p q = (p, q)
  binary_within Xor s a b n p q = (p, q)
  binary_within Or s a b n p q = (p, q)
  binary_within LogicalAnd s a b n p q = tt
  binary_within LogicalOr s a b n p q = tt

  unary_within : (op : UnaryOperator) (a : Term) (n : ℕ) → IsIn lo n a → IsIn lo n (unary_term op a)
  unary_within Minus a n p = p
  unary_within Plus a n p = p
  unary_within Not a n p = p
  unary_within Complement a n p = p

  extend_within : (t : CType) (a : Term) (n : ℕ) → IsIn lo n a → IsIn lo n (extend_term t a)
  extend_within t a n p = go t.width t.signed where
    go : (w : Width) (s : Bool) → IsIn lo n (extend_term (record { width = w; signed = s }) a)
    go W1 s = p
    go W8 true = p
    go W8 false = p
    go W16 true = p
    go W16 false = p
    go W32 s = p

  convert_within : (t : CType) (a : Term) (n : ℕ) → IsIn lo n a → IsIn lo n (convert_term t a)
  convert_within t a n p = go t.width t.signed where
    go : (w : Width) (s : Bool) → IsIn lo n (convert_term (record { width = w; signed = s }) a)
    go W1 s = p
    go W8 true = p
    go W8 false = p
    go W16 true = p
    go W16 false = p
    go W32 s = p

  module _ (width : ℕ → Width) (globals base limit : ℕ) (known : ℕ → Bool) (under : (i : ℕ) → IsTrue (known i) → base + i < limit) (above : (lo ≤ base) × (lo ≤ limit)) where
    pub term_within : (e : CellExpr) (n : ℕ) → limit ≤ n → FitsEx width globals known e → IsIn lo (n + sites e) (term base n e)
    term_within (Number k) n le f = tt
    term_within (Local at t) n le f = let h = under at f in extend_within t (Cell (base + at) false) (n + 0) (omega (arith, above.0), omega arith)
    term_within (Global cell t) n le f = extend_within t (Cell n false) (n + 1) (omega (arith, above.1), omega arith)
    term_within (Element cell len t i) n le f = extend_within t (Cell (n + sites i) false) (n + (sites i + 1)) (omega (arith, above.1), omega arith)
    term_within (Binary op s a b) n le f =
        binary_within op s (term base n a) (term base (n + sites a) b) (n + (sites a + sites b)) (within_more lo (n + sites a) (n + (sites a + sites b)) (term base n a) (omega arith) (term_within a n le f.0)) (within_more lo (n + sites a + sites b) (n + (sites a + sites b)) (term base (n + sites a) b) (omega arith) (term_within b (n + sites a) (omega arith) f.1))
    term_within (Unary op s a) n le f = unary_within op (term base n a) (n + sites a) (term_within a n le f)
    term_within (Conjunction a b) n le f = (
      within_more lo (n + sites a) (n + (sites a + sites b)) (term base n a) (omega arith) (term_within a n le f.0),
      within_more lo (n + sites a + sites b) (n + (sites a + sites b)) (term base (n + sites a) b) (omega arith) (term_within b (n + sites a) (omega arith) f.1),
      tt,
    )
    term_within (Disjunction a b) n le f = (
      within_more lo (n + sites a) (n + (sites a + sites b)) (term base n a) (omega arith) (term_within a n le f.0),
      tt,
      within_more lo (n + sites a + sites b) (n + (sites a + sites b)) (term base (n + sites a) b) (omega arith) (term_within b (n + sites a) (omega arith) f.1),
    )
    term_within (Conditional c a b) n le f = (
      within_more lo (n + sites c) (n + (sites c + sites a + sites b)) (term base n c) (omega arith) (term_within c n le f.0),
      within_more lo (n + sites c + sites a) (n + (sites c + sites a + sites b)) (term base (n + sites c) a) (omega arith) (term_within a (n + sites c) (omega arith) f.1),
      within_more lo (n + sites c + sites a + sites b) (n + (sites c + sites a + sites b)) (term base (n + sites c + sites a) b) (omega arith) (term_within b (n + sites c + sites a) (omega arith) f.2),
    )
    term_within (Converted t a) n le f = convert_within t (term base n a) (n + sites a) (term_within a n le f)

  -- where the guard doesn't hold, the items are passed over
  module _ (width : ℕ → Width) (base : ℕ) where
    skip_site : (g : List Term) (t : PlainTarget) (into : ℕ) (is : List Item) (bits : Bits) (got : List ℕ) → holds (val width bits) g ≡ false → walk width (Site g t into ∷ is) bits got ≡ walk width is bits got
    skip_site g t into is bits [] h = ap (λ b. if b then Reads (cell_of (val width bits) t) (width (cell_of (val width bits) t)) (inside (val width bits) t) else walk width is bits []) h
    skip_site g t into is bits (n ∷ got) h = ap (λ b. if b then walk width is (put bits into n) got else walk width is bits (n ∷ got)) h

    skip_check : (g : List Term) (t : Term) (f : ℕ) (is : List Item) (bits : Bits) (got : List ℕ) → holds (val width bits) g ≡ false → walk width (Check g t f ∷ is) bits got ≡ walk width is bits got
    skip_check g t f is bits got h =
        ap (λ b. if b then Stops f else walk width is bits got) (guarded_truth lo width g t bits ∙ ap (λ b. b && truth (val width bits t)) h)

    pub and_off : (b : Bool) {c : Bool} → c ≡ false → (b && c) ≡ false
    and_off true e = e
    and_off false e = refl

    skip_division : (s : Bool) (g : List Term) (a b : Term) (rest : List Item) (bits : Bits) (got : List ℕ) → holds (val width bits) g ≡ false → walk width (division_checks g s a b ++ rest) bits got ≡ walk width rest bits got
    skip_division true g a b rest bits got h =
        let least = Bin bin.Eq a (Const (2 ^ 31)) in
        let minus = Bin bin.Eq b (Const (2 ^ 32 - 1)) in
        skip_check g (Bin bin.Eq b (Const 0)) 4 (Check (least ∷ g) minus 3 ∷ rest) bits got h ∙ skip_check (least ∷ g) minus 3 rest bits got (and_off _ h)
    skip_division false g a b rest bits got h = skip_check g _ 4 rest bits got h

    skip_binary : (op : BinaryOperator) (s : Bool) (g : List Term) (a b : Term) (rest : List Item) (bits : Bits) (got : List ℕ) → holds (val width bits) g ≡ false → walk width (binary_checks g op s a b ++ rest) bits got ≡ walk width rest bits got
    skip_binary Multiply true g a b rest bits got h = skip_check g _ 3 rest bits got h
    skip_binary Divide s g a b rest bits got h = skip_division s g a b rest bits got h
    skip_binary Remainder s g a b rest bits got h = skip_division s g a b rest bits got h
    skip_binary Add true g a b rest bits got h = skip_check g _ 3 rest bits got h
    skip_binary Subtract true g a b rest bits got h = skip_check g _ 3 rest bits got h
    skip_binary ShiftLeft s g a b rest bits got h = skip_check g _ 5 rest bits got h
    skip_binary ShiftRight s g a b rest bits got h = skip_check g _ 5 rest bits got h
    skip_binary Multiply false g a b rest bits got h = refl
    skip_binary Add false g a b rest bits got h = refl
    skip_binary Subtract false g a b rest bits got h = refl
    skip_binary _ s g a b rest bits got h = refl

    skip_unary : (op : UnaryOperator) (s : Bool) (g : List Term) (a : Term) (rest : List Item) (bits : Bits) (got : List ℕ) → holds (val width bits) g ≡ false → walk width (unary_checks g op s a ++ rest) bits got ≡ walk width rest bits got
    skip_unary Minus true g a rest bits got h = skip_check g _ 3 rest bits got h
    skip_unary Minus false g a rest bits got h = refl
    skip_unary _ s g a rest bits got h = refl

    pub three : (xs ys zs ws : List Item) → (xs ++ (ys ++ zs)) ++ ws ≡ xs ++ (ys ++ (zs ++ ws))
    three xs ys zs ws = append_assoc xs (ys ++ zs) ws ∙ ap (λ l. xs ++ l) (append_assoc ys zs ws)

    pub skip : (e : CellExpr) (g : List Term) (n : ℕ) (rest : List Item) (bits : Bits) (got : List ℕ) → holds (val width bits) g ≡ false → walk width (items base g n e ++ rest) bits got ≡ walk width rest bits got
    skip (Number k) g n rest bits got h = refl
    skip (Local at t) g n rest bits got h = refl
    skip (Global cell t) g n rest bits got h = skip_site g (record { base = cell; len = 1; index = None }) n rest bits got h
    skip (Element cell len t i) g n rest bits got h =
        ap (λ l. walk width l bits got) (append_assoc (items base g n i) _ rest)
        ∙ skip i g n _ bits got h
        ∙ skip_check g (Bin bin.LeU (Const len) (term base n i)) 6 (Site g (record { base = cell; len = len; index = Some (term base n i) }) (n + sites i) ∷ rest) bits got h
        ∙ skip_site g (record { base = cell; len = len; index = Some (term base n i) }) (n + sites i) rest bits got h
    skip (Binary op s a b) g n rest bits got h =
        ap (λ l. walk width l bits got) (three (items base g n a) (items base g (n + sites a) b) (binary_checks g op s (term base n a) (term base (n + sites a) b)) rest)
        ∙ skip a g n _ bits got h ∙ skip b g (n + sites a) _ bits got h ∙ skip_binary op s g _ _ rest bits got h
    skip (Unary op s a) g n rest bits got h =
        ap (λ l. walk width l bits got) (append_assoc (items base g n a) _ rest) ∙ skip a g n _ bits got h ∙ skip_unary op s g _ rest bits got h
    skip (Conjunction a b) g n rest bits got h =
        ap (λ l. walk width l bits got) (append_assoc (items base g n a) _ rest)
        ∙ skip a g n _ bits got h ∙ skip b (term base n a ∷ g) (n + sites a) rest bits got (and_off _ h)
    skip (Disjunction a b) g n rest bits got h =
        ap (λ l. walk width l bits got) (append_assoc (items base g n a) _ rest)
        ∙ skip a g n _ bits got h ∙ skip b (Un un.Not (term base n a) ∷ g) (n + sites a) rest bits got (and_off _ h)
    skip (Conditional c a b) g n rest bits got h =
        ap (λ l. walk width l bits got) (three (items base g n c) (items base (term base n c ∷ g) (n + sites c) a) (items base (Un un.Not (term base n c) ∷ g) (n + sites c + sites a) b) rest)
        ∙ skip c g n _ bits got h ∙ skip a (term base n c ∷ g) (n + sites c) _ bits got (and_off _ h)
        ∙ skip b (Un un.Not (term base n c) ∷ g) (n + sites c + sites a) rest bits got (and_off _ h)
    skip (Converted t a) g n rest bits got h = skip a g n rest bits got h

  module _ (width : ℕ → Width) (globals : ℕ) where
    means_value : (rest1 rest : List Item) (n : ℕ) (bits : Bits) (t1 t : Term) (ans : Answer ℕ) (seen : Seen) → Means lo width globals rest1 bits n t1 ans seen → ((x : ℕ) (got : List ℕ) (bits1 : Bits) → SameBelow lo n bits bits1 → val width bits1 t1 ≡ x → (val width bits1 t ≡ x) × (walk width rest1 bits1 got ≡ walk width rest bits1 got)) → Means lo width globals rest bits n t ans seen
    means_value rest1 rest n bits t1 t (Wants c w) seen p f = p
    means_value rest1 rest n bits t1 t (Traps g) seen p f = p
    means_value rest1 rest n bits t1 t (Value x got) seen p f =
        let q = f x got p.bits' p.below p.is in
        record { bits' = p.bits'; below = p.below; is = q.0; on = p.on ∙ q.1 }

    -- a read
    read_means : (g : List Term) (target : PlainTarget) (into n cell : ℕ) (t : CType) (rest : List Item) (bits : Bits) (got : List ℕ) → n ≤ into → holds (val width bits) g ≡ true → cell_of (val width bits) target ≡ cell → inside (val width bits) target ≡ true → width cell ≡ t.width → cell < globals → Means lo width globals rest bits n (extend_term t (Cell into false)) (take_value cell t got) (walk width (Site g target into ∷ rest) bits got)
    read_means g target into n cell t rest bits [] le h ec ei ew lt = (
      ap (λ b. if b then Reads (cell_of (val width bits) target) (width (cell_of (val width bits) target)) (inside (val width bits) target) else walk width rest bits []) h
          ∙ ap (λ c. Reads c (width c) (inside (val width bits) target)) ec ∙ ap (λ w. Reads cell w (inside (val width bits) target)) ew ∙ ap (Reads cell t.width) ei,
      lt,
    )
    read_means g target into n cell t rest bits (k ∷ got) le h ec ei ew lt =
        let here : put bits into k into ≡ k = grind (arith, nat_tests) in
        record {
          bits' = put bits into k;
          below = same_put lo n into k bits le;
          is = extend_value lo width globals t (Cell into false) (put bits into k) ∙ ap (read_by t) here;
          on = ap (λ b. if b then walk width rest (put bits into k) got else walk width rest bits (k ∷ got)) h;
        }

    pub truth_not : (k : ℕ) (b : Bool) → truth k ≡ b → truth (one_if (k == 0)) ≡ not b
    truth_not k b e = go (k == 0) b e where
      go : (c b : Bool) → not c ≡ b → truth (one_if c) ≡ not b
      go true b e = ap not e
      go false b e = ap not e

    pub chosen_yes : (c a b : Term) (bits : Bits) (v : ℕ) → truth (val width bits c) ≡ true → val width bits a ≡ v → val width bits (Choose c a b) ≡ v
    chosen_yes c a b bits v h e = ap (λ d. if d then val width bits a else val width bits b) h ∙ e

    pub chosen_no : (c a b : Term) (bits : Bits) (v : ℕ) → truth (val width bits c) ≡ false → val width bits b ≡ v → val width bits (Choose c a b) ≡ v
    chosen_no c a b bits v h e = ap (λ d. if d then val width bits a else val width bits b) h ∙ e

  module _ (width : ℕ → Width) (globals base limit : ℕ) (known : ℕ → Bool) (under : (i : ℕ) → IsTrue (known i) → base + i < limit) (above : (lo ≤ base) × (lo ≤ limit)) (env : ℕ → ℕ) where
    -- the locals that are known are in their cells, and the guard holds
    pub record Ready (g : List Term) (n : ℕ) (bits : Bits) : Type 0 where
      pub le : limit ≤ n
      pub agrees : (i : ℕ) → IsTrue (known i) → env i ≡ bits (base + i)
      pub on : holds (val width bits) g ≡ true
      pub within : AllWithin lo n g

    pub ready_on : (g : List Term) (n m : ℕ) (bits bits1 : Bits) → n ≤ m → Ready g n bits → SameBelow lo n bits bits1 → Ready g m bits1
    ready_on g n m bits bits1 le r s =
        record {
          le = let h = r.le in omega arith;
          agrees = λ i k. r.agrees i k ∙ sym (s.at (base + i) (omega (arith, above.0)) (let h = under i k in let l = r.le in omega arith));
          on = holds_same lo width g n bits bits1 r.within s ∙ r.on;
          within = all_more lo n m g le r.within;
        }

    ready_guard : (g : List Term) (t : Term) (n : ℕ) (bits : Bits) → Ready g n bits → IsIn lo n t → truth (val width bits t) ≡ true → Ready (t ∷ g) n bits
    ready_guard g t n bits r w h =
        record { le = r.le; agrees = r.agrees; on = ap (λ b. b && holds (val width bits) g) h ∙ r.on; within = (w, r.within) }

    element_means : (cell len : ℕ) (t : CType) (g : List Term) (ti : Term) (into n x : ℕ) (rest : List Item) (bits : Bits) (got : List ℕ) → n ≤ into → holds (val width bits) g ≡ true → ((k : ℕ) → k < len → (width (cell + k) ≡ t.width) × (cell + k < globals)) → val width bits ti ≡ x → Means lo width globals rest bits n (extend_term t (Cell into false)) (then_ask (checked len x got) (λ at got. take_value (cell + at) t got)) (walk width (index_check g len ti ∷ Site g (record { base = cell; len = len; index = Some ti }) into ∷ rest) bits got)
    element_means cell len t g ti into n x rest bits got le h f e = go (nat_lt x len) refl where
      target : PlainTarget
      target = record { base = cell; len = len; index = Some ti }

      test : Term
      test = Bin bin.LeU (Const len) ti

      go : (b : Bool) → nat_lt x len ≡ b → Means lo width globals rest bits n (extend_term t (Cell into false)) (then_ask (if b then Value x got else Traps 6) (λ at got. take_value (cell + at) t got)) (walk width (index_check g len ti ∷ Site g (record { base = cell; len = len; index = Some ti }) into ∷ rest) bits got)
      go true lt =
          let c : nat_le len (val width bits ti) ≡ false = grind (arith, nat_tests) in
          let off = guard_on lo width globals g (Bin bin.LeU (Const len) ti) bits false h (ap (λ b. truth (one_if b)) c) in
          let ec : cell_of (val width bits) (record { base = cell; len = len; index = Some ti }) ≡ cell + x = ap (cell_at cell len) e ∙ ap (λ b. if b then cell + x else cell) lt in
          let ei : inside (val width bits) (record { base = cell; len = len; index = Some ti }) ≡ true = ap (λ i. nat_lt i len) e ∙ lt in
          let lt' : x < len = grind (arith, nat_tests) in
          means_back lo width globals rest n n bits bits (extend_term t (Cell into false)) (take_value (cell + x) t got) _ _ (omega arith) (same_here lo n bits) (ap (λ b. if b then Stops 6 else walk width (Site g (record { base = cell; len = len; index = Some ti }) into ∷ rest) bits got) off) (read_means width globals g (record { base = cell; len = len; index = Some ti }) into n (cell + x) t rest bits got le h ec ei (f x lt').0 (f x lt').1)
      go false lt =
          let c : nat_le len (val width bits ti) ≡ true = grind (arith, nat_tests) in
          let off = guard_on lo width globals g (Bin bin.LeU (Const len) ti) bits true h (ap (λ b. truth (one_if b)) c) in
          ap (λ b. if b then Stops 6 else walk width (Site g (record { base = cell; len = len; index = Some ti }) into ∷ rest) bits got) off

    pub exact : (e : CellExpr) (g : List Term) (n : ℕ) (bits : Bits) (got : List ℕ) (rest : List Item) → FitsEx width globals known e → Ready g n bits → Means lo width globals rest bits n (term base n e) (ask e env got) (walk width (items base g n e ++ rest) bits got)
    exact (Number k) g n bits got rest f r = record { bits' = bits; below = same_here lo n bits; is = refl; on = refl }
    exact (Local at t) g n bits got rest f r =
        record {
          bits' = bits;
          below = same_here lo n bits;
          is = extend_value lo width globals t (Cell (base + at) false) bits ∙ ap (read_by t) (sym (r.agrees at f));
          on = refl;
        }
    exact (Global cell t) g n bits got rest f r =
        let ec : cell_of (val width bits) (record { base = cell; len = 1; index = None }) ≡ cell = add-zero cell in
        read_means width globals g (record { base = cell; len = 1; index = None }) n n cell t rest bits got (omega arith) r.on ec refl f.0 f.1
    exact (Element cell len t i) g n bits got rest f r =
        let ti = term base n i in
        let tail = index_check g len ti ∷ Site g (record { base = cell; len = len; index = Some ti }) (n + sites i) ∷ rest in
        means_items lo width globals rest _ (items base g n i ++ tail) n bits _ _ got (append_assoc (items base g n i) _ rest)
        (means_then lo width globals tail rest n (n + sites i) bits ti _ (ask i env got) _ _ (omega arith) (exact i g n bits got tail f.1 r)
        (λ x got1 bits1 s1 e1. element_means cell len t g ti (n + sites i) (n + sites i) x rest bits1 got1 (omega arith) (ready_on g n (n + sites i) bits bits1 (omega arith) r s1).on f.0 e1))
    exact (Binary op s a b) g n bits got rest f r =
        let ta = term base n a in
        let m = n + sites a in
        let tb = term base m b in
        let checks = binary_checks g op s ta tb in
        means_items lo width globals rest _ (items base g n a ++ (items base g m b ++ (checks ++ rest))) n bits _ _ got (three width base (items base g n a) (items base g m b) checks rest)
        (means_then lo width globals (items base g m b ++ (checks ++ rest)) rest n m bits ta _ (ask a env got) _ _ (omega arith) (exact a g n bits got (items base g m b ++ (checks ++ rest)) f.0 r)
        (λ x got1 bits1 s1 e1.
        let r1 = ready_on g n m bits bits1 (omega arith) r s1 in
        means_then lo width globals (checks ++ rest) rest m m bits1 tb _ (ask b env got1) _ _ (omega arith) (exact b g m bits1 got1 (checks ++ rest) f.1 r1)
        (λ y got2 bits2 s2 e2.
        binary_means lo width globals op s g ta tb rest m bits2 x y got2 (ready_on g m m bits1 bits2 (omega arith) r1 s2).on (value_same lo width ta m bits1 bits2 (term_within width globals base limit known under above a n r.le f.0) s2 ∙ e1) e2)))
    exact (Unary op s a) g n bits got rest f r =
        let ta = term base n a in
        let checks = unary_checks g op s ta in
        means_items lo width globals rest _ (items base g n a ++ (checks ++ rest)) n bits _ _ got (append_assoc (items base g n a) checks rest)
        (means_then lo width globals (checks ++ rest) rest n n bits ta _ (ask a env got) _ _ (omega arith) (exact a g n bits got (checks ++ rest) f r)
        (λ x got1 bits1 s1 e1. unary_means lo width globals op s g ta rest n bits1 x got1 (ready_on g n n bits bits1 (omega arith) r s1).on e1))
    exact (Conjunction a b) g n bits got rest f r =
        let ta = term base n a in
        let m = n + sites a in
        let tb = term base m b in
        let t = Choose ta (Un un.Bool tb) (Const 0) in
        let isb = items base (ta ∷ g) m b in
        let wa = term_within width globals base limit known under above a n r.le f.0 in
        means_items lo width globals rest _ (items base g n a ++ (isb ++ rest)) n bits _ _ got (append_assoc (items base g n a) isb rest)
        (means_then lo width globals (isb ++ rest) rest n m bits ta t (ask a env got) _ _ (omega arith) (exact a g n bits got (isb ++ rest) f.0 r)
        (λ x got1 bits1 s1 e1.
        let r1 = ready_on g n m bits bits1 (omega arith) r s1 in
        let go : (c : Bool) → truth x ≡ c → Means lo width globals rest bits1 m t (if c then then_ask (ask b env got1) (λ y got. Value (one_if (truth y)) got) else Value 0 got1) (walk width (isb ++ rest) bits1 got1)
        = λ c. elim c as (λ c. truth x ≡ c → Means lo width globals rest bits1 m t (if c then then_ask (ask b env got1) (λ y got. Value (one_if (truth y)) got) else Value 0 got1) (walk width (isb ++ rest) bits1 got1)) [
          | true ↦ λ tx.
              let yes = ap truth e1 ∙ tx in
              means_then lo width globals rest rest m m bits1 tb t (ask b env got1) _ _ (omega arith) (exact b (ta ∷ g) m bits1 got1 rest f.1 (ready_guard g ta m bits1 r1 wa yes))
              (λ y got2 bits2 s2 e2. record { bits' = bits2; below = same_here lo m bits2; is = chosen_yes width globals ta (Un un.Bool tb) (Const 0) bits2 _ (ap truth (value_same lo width ta m bits1 bits2 wa s2) ∙ yes) (ap (λ v. one_if (truth v)) e2); on = refl })
          | false ↦ λ tx.
              let no = ap truth e1 ∙ tx in
              record { bits' = bits1; below = same_here lo m bits1; is = chosen_no width globals ta (Un un.Bool tb) (Const 0) bits1 0 no refl; on = skip width base b (ta ∷ g) m rest bits1 got1 (ap (λ d. d && holds (val width bits1) g) no) }
        ] in
        go (truth x) refl))
    exact (Disjunction a b) g n bits got rest f r =
        let ta = term base n a in
        let m = n + sites a in
        let tb = term base m b in
        let t = Choose ta (Const 1) (Un un.Bool tb) in
        let isb = items base (Un un.Not ta ∷ g) m b in
        let wa = term_within width globals base limit known under above a n r.le f.0 in
        means_items lo width globals rest _ (items base g n a ++ (isb ++ rest)) n bits _ _ got (append_assoc (items base g n a) isb rest)
        (means_then lo width globals (isb ++ rest) rest n m bits ta t (ask a env got) _ _ (omega arith) (exact a g n bits got (isb ++ rest) f.0 r)
        (λ x got1 bits1 s1 e1.
        let r1 = ready_on g n m bits bits1 (omega arith) r s1 in
        let go : (c : Bool) → truth x ≡ c → Means lo width globals rest bits1 m t (if c then Value 1 got1 else then_ask (ask b env got1) (λ y got. Value (one_if (truth y)) got)) (walk width (isb ++ rest) bits1 got1)
        = λ c. elim c as (λ c. truth x ≡ c → Means lo width globals rest bits1 m t (if c then Value 1 got1 else then_ask (ask b env got1) (λ y got. Value (one_if (truth y)) got)) (walk width (isb ++ rest) bits1 got1)) [
          | false ↦ λ tx.
              let no = ap truth e1 ∙ tx in
              means_then lo width globals rest rest m m bits1 tb t (ask b env got1) _ _ (omega arith) (exact b (Un un.Not ta ∷ g) m bits1 got1 rest f.1 (ready_guard g (Un un.Not ta) m bits1 r1 wa (truth_not width globals (val width bits1 ta) false no)))
              (λ y got2 bits2 s2 e2. record { bits' = bits2; below = same_here lo m bits2; is = chosen_no width globals ta (Const 1) (Un un.Bool tb) bits2 _ (ap truth (value_same lo width ta m bits1 bits2 wa s2) ∙ no) (ap (λ v. one_if (truth v)) e2); on = refl })
          | true ↦ λ tx.
              let yes = ap truth e1 ∙ tx in
              record { bits' = bits1; below = same_here lo m bits1; is = chosen_yes width globals ta (Const 1) (Un un.Bool tb) bits1 1 yes refl; on = skip width base b (Un un.Not ta ∷ g) m rest bits1 got1 (ap (λ d. d && holds (val width bits1) g) (truth_not width globals (val width bits1 ta) true yes)) }
        ] in
        go (truth x) refl))
    exact (Conditional c a b) g n bits got rest f r =
        let tc = term base n c in
        let m = n + sites c in
        let ta = term base m a in
        let tb = term base (m + sites a) b in
        let t = Choose tc ta tb in
        let isa = items base (tc ∷ g) m a in
        let isb = items base (Un un.Not tc ∷ g) (m + sites a) b in
        let wc = term_within width globals base limit known under above c n r.le f.0 in
        means_items lo width globals rest _ (items base g n c ++ (isa ++ (isb ++ rest))) n bits _ _ got (three width base (items base g n c) isa isb rest)
        (means_then lo width globals (isa ++ (isb ++ rest)) rest n m bits tc t (ask c env got) _ _ (omega arith) (exact c g n bits got (isa ++ (isb ++ rest)) f.0 r)
        (λ x got1 bits1 s1 e1.
        let r1 = ready_on g n m bits bits1 (omega arith) r s1 in
        let go : (d : Bool) → truth x ≡ d → Means lo width globals rest bits1 m t (if d then ask a env got1 else ask b env got1) (walk width (isa ++ (isb ++ rest)) bits1 got1)
        = λ d. elim d as (λ d. truth x ≡ d → Means lo width globals rest bits1 m t (if d then ask a env got1 else ask b env got1) (walk width (isa ++ (isb ++ rest)) bits1 got1)) [
          | true ↦ λ tx.
              let yes = ap truth e1 ∙ tx in
              means_value width globals (isb ++ rest) rest m bits1 ta t (ask a env got1) _ (exact a (tc ∷ g) m bits1 got1 (isb ++ rest) f.1 (ready_guard g tc m bits1 r1 wc yes))
              (λ y got2 bits2 s2 e2.
              let yes2 = ap truth (value_same lo width tc m bits1 bits2 wc s2) ∙ yes in
              (chosen_yes width globals tc ta tb bits2 y yes2 e2, skip width base b (Un un.Not tc ∷ g) (m + sites a) rest bits2 got2 (ap (λ d. d && holds (val width bits2) g) (truth_not width globals (val width bits2 tc) true yes2))))
          | false ↦ λ tx.
              let no = ap truth e1 ∙ tx in
              let r2 = ready_guard g (Un un.Not tc) m bits1 r1 wc (truth_not width globals (val width bits1 tc) false no) in
              let past = skip width base a (tc ∷ g) m (isb ++ rest) bits1 got1 (ap (λ d. d && holds (val width bits1) g) no) in
              means_value width globals rest rest m bits1 tb t (ask b env got1) _ (means_back lo width globals rest m (m + sites a) bits1 bits1 tb (ask b env got1) _ _ (omega arith) (same_here lo m bits1) past (exact b (Un un.Not tc ∷ g) (m + sites a) bits1 got1 rest f.2 (ready_on (Un un.Not tc ∷ g) m (m + sites a) bits1 bits1 (omega arith) r2 (same_here lo m bits1))))
              (λ y got2 bits2 s2 e2. (chosen_no width globals tc ta tb bits2 y (ap truth (value_same lo width tc m bits1 bits2 wc s2) ∙ no) e2, refl))
        ] in
        go (truth x) refl))
    exact (Converted t a) g n bits got rest f r =
        let ta = term base n a in
        means_then lo width globals rest rest n n bits ta (convert_term t ta) (ask a env got) _ _ (omega arith) (exact a g n bits got rest f r)
        (λ x got1 bits1 s1 e1. record { bits' = bits1; below = same_here lo n bits1; is = convert_value lo width globals t ta bits1 ∙ ap (converted t) e1; on = refl })
