-- What the expressions of an entity read: cells of its own, and globals.
use Rattle.std.proofs.Common.{◌≡◌, ℕ, ◌+◌, ◌-◌, ◌^◌, ◌<◌, ◌≤◌, Bool, true, false, List, [], ◌∷◌, ◌++◌, length, Option, Some, None, IsTrue, arith}
use Rattle.chk_base.specs.declared.word.Width.{Width}
use Rattle.chk_base.specs.declared.word.Width.TheVariants.{W1, W8, W16, W32}
use Rattle.chk_base.specs.declared.expr.UnOp.TheVariants as un
use Rattle.chk_base.specs.declared.expr.BinOp.TheVariants as bin
use Rattle.chk_base.specs.Term.{Term, Const, Cell, Un, Bin}
use Rattle.step_ir.specs.declared.code.Code.{Code}
use Rattle.step_ir.specs.Fits.{ReadsBetween, IsOwn, ReadsOwn, IsTargetFit}
use Rattle.step_ir.specs.Points.{first_cell, width_in}
use Rattle.lower_law.specs.Typed.{CType, BinaryOperator, Multiply, Divide, Remainder, Add, Subtract, ShiftLeft, ShiftRight, Less, LessEqual, Greater, GreaterEqual, Equal, NotEqual, And, Xor, Or, LogicalAnd, LogicalOr, UnaryOperator, Minus, Plus, Not, Complement, CellExpr, Number, Local, Global, Element, Binary, Unary, Conjunction, Disjunction, Conditional, Converted}
use Rattle.lower_law.specs.Items.{Item, Site, Check, guarded, sites, extend_term, convert_term, binary_term, unary_term, division_checks, binary_checks, unary_checks, index_check, checks_of, sites_all, term, items, terms_all, items_all}
use Rattle.lower_law.specs.FitsBody.{FitsEx, FitsAll}
use Rattle.lower_law.specs.Lowered.{first_term, second_term}

-- every array that an expression reads has an element
abbrev pub HasElements : CellExpr → Type 0
HasElements (Number n) = Unit {0}
HasElements (Local at t) = Unit {0}
HasElements (Global cell t) = Unit {0}
HasElements (Element cell len t i) = (1 ≤ len) × HasElements i
HasElements (Binary op s a b) = HasElements a × HasElements b
HasElements (Unary op s a) = HasElements a
HasElements (Conjunction a b) = HasElements a × HasElements b
HasElements (Disjunction a b) = HasElements a × HasElements b
HasElements (Conditional c a b) = HasElements c × HasElements a × HasElements b
HasElements (Converted t a) = HasElements a

-- so it is for the expressions of one thing
abbrev pub AllHaveElements : List (Option ℕ × CellExpr) → Type 0
AllHaveElements [] = Unit {0}
AllHaveElements (q ∷ qs) = HasElements q.1 × AllHaveElements qs

-- ---- the value of an operator reads what its operands read
module _ (low high : ℕ) where
  -- of one with two operands
  reads_binary : (op : BinaryOperator) (s : Bool) (a b : Term) → ReadsBetween low high a → ReadsBetween low high b → ReadsBetween low high (binary_term op s a b)
  reads_binary Multiply s a b p q = (p, q)
  reads_binary Divide true a b p q = (p, q)
  reads_binary Divide false a b p q = (p, q)
  reads_binary Remainder true a b p q = (p, q)
  reads_binary Remainder false a b p q = (p, q)
  reads_binary Add s a b p q = (p, q)
  reads_binary Subtract s a b p q = (p, q)
  reads_binary ShiftLeft s a b p q = (p, q)
  reads_binary ShiftRight true a b p q = (p, q)
  reads_binary ShiftRight false a b p q = (p, q)
  reads_binary Less true a b p q = (p, q)
  reads_binary Less false a b p q = (p, q)
  reads_binary LessEqual true a b p q = (p, q)
  reads_binary LessEqual false a b p q = (p, q)
  reads_binary Greater true a b p q = (q, p)
  reads_binary Greater false a b p q = (q, p)
  reads_binary GreaterEqual true a b p q = (q, p)
  reads_binary GreaterEqual false a b p q = (q, p)
  reads_binary Equal s a b p q = (p, q)
  reads_binary NotEqual s a b p q = (p, q)
  reads_binary And s a b p q = (p, q)
  reads_binary Xor s a b p q = (p, q)
  reads_binary Or s a b p q = (p, q)
  reads_binary LogicalAnd s a b p q = tt
  reads_binary LogicalOr s a b p q = tt

  -- of one with one operand
  reads_unary : (op : UnaryOperator) (a : Term) → ReadsBetween low high a → ReadsBetween low high (unary_term op a)
  reads_unary Minus a p = p
  reads_unary Plus a p = p
  reads_unary Not a p = p
  reads_unary Complement a p = p

  -- so does a value that is extended
  reads_extend : (t : CType) (a : Term) → ReadsBetween low high a → ReadsBetween low high (extend_term t a)
  reads_extend t a p = go t.width t.signed where
    go : (w : Width) (s : Bool) → ReadsBetween low high (extend_term (record { width = w; signed = s }) a)
    go W1 s = p
    go W8 true = p
    go W8 false = p
    go W16 true = p
    go W16 false = p
    go W32 s = p

  -- or converted
  pub reads_convert : (t : CType) (a : Term) → ReadsBetween low high a → ReadsBetween low high (convert_term t a)
  reads_convert t a p = go t.width t.signed where
    go : (w : Width) (s : Bool) → ReadsBetween low high (convert_term (record { width = w; signed = s }) a)
    go W1 s = p
    go W8 true = p
    go W8 false = p
    go W16 true = p
    go W16 false = p
    go W32 s = p

  module _ (width : ℕ → Width) (globals base : ℕ) (known : ℕ → Bool) (below : (i : ℕ) → IsTrue (known i) → base + i < high) (above : low ≤ base) where
    -- an expression reads the cells of the locals that are known, and those for its values read
    reads_term : (e : CellExpr) (n : ℕ) → low ≤ n → n + sites e ≤ high → FitsEx width globals known e → ReadsBetween low high (term base n e)
    reads_term (Number k) n le lt f = tt
    reads_term (Local at t) n le lt f = let h = below at f in reads_extend t (Cell (base + at) false) (omega arith, h)
    reads_term (Global cell t) n le lt f = reads_extend t (Cell n false) (le, omega arith)
    reads_term (Element cell len t i) n le lt f = reads_extend t (Cell (n + sites i) false) (omega arith, omega arith)
    reads_term (Binary op s a b) n le lt f =
        reads_binary op s (term base n a) (term base (n + sites a) b) (reads_term a n le (omega arith) f.0) (reads_term b (n + sites a) (omega arith) (omega arith) f.1)
    reads_term (Unary op s a) n le lt f = reads_unary op (term base n a) (reads_term a n le lt f)
    reads_term (Conjunction a b) n le lt f = (
      reads_term a n le (omega arith) f.0,
      reads_term b (n + sites a) (omega arith) (omega arith) f.1,
      tt,
    )
    reads_term (Disjunction a b) n le lt f = (
      reads_term a n le (omega arith) f.0,
      tt,
      reads_term b (n + sites a) (omega arith) (omega arith) f.1,
    )
    reads_term (Conditional c a b) n le lt f = (
      reads_term c n le (omega arith) f.0,
      reads_term a (n + sites c) (omega arith) (omega arith) f.1,
      reads_term b (n + sites c + sites a) (omega arith) (omega arith) f.2,
    )
    reads_term (Converted t a) n le lt f = reads_convert t (term base n a) (reads_term a n le lt f)

-- ---- items
module _ (code : Code) (e : ℕ) where
  -- what is known of the cells of the entity: those for values read have 32 bits
  pub record Space (globals temp top : ℕ) : Type 0 where
    pub few : globals ≤ length code.globals
    pub low : first_cell code e ≤ temp
    pub middle : temp ≤ top
    pub high : top ≤ first_cell code (e + 1)
    pub wide : (c : ℕ) → temp ≤ c → c < top → width_in code c ≡ W32

  -- these expressions read cells of the entity
  abbrev pub AreRead : List Term → Type 0
  AreRead [] = Unit {0}
  AreRead (t ∷ ts) = ReadsOwn code e t × AreRead ts

  -- reads and tests name cells and globals that there are
  abbrev pub AreItemsFit : List Item → Type 0
  AreItemsFit [] = Unit {0}
  AreItemsFit (Check g t f ∷ is) = ReadsOwn code e (guarded g t) × (3 ≤ f) × (f ≤ 6) × AreItemsFit is
  AreItemsFit (Site g t into ∷ is) = AreRead g × IsTargetFit code e t × IsOwn code e into × (width_in code into ≡ W32) × AreItemsFit is

  -- so do items before others
  items_append : (is js : List Item) → AreItemsFit is → AreItemsFit js → AreItemsFit (is ++ js)
  items_append [] js f h = h
  items_append (Check g t k ∷ is) js f h = (f.0, f.1, f.2, items_append is js f.3 h)
  items_append (Site g t into ∷ is) js f h = (f.0, f.1, f.2, f.3, items_append is js f.4 h)

  -- a guarded test reads such cells, too
  pub guarded_read : (g : List Term) (t : Term) → AreRead g → ReadsOwn code e t → ReadsOwn code e (guarded g t)
  guarded_read [] t w r = r
  guarded_read (x ∷ g) t w r = (w.0, guarded_read g t w.1 r, tt)

  -- so do the first and the second value
  pub first_read : (ts : List Term) → AreRead ts → ReadsOwn code e (first_term ts)
  first_read [] w = tt
  first_read (t ∷ ts) w = w.0

  pub second_read : (ts : List Term) → AreRead ts → ReadsOwn code e (second_term ts)
  second_read [] w = tt
  second_read (t ∷ ts) w = first_read ts w.1

  -- the tests of a division
  division_fit : (g : List Term) (s : Bool) (a b : Term) → AreRead g → ReadsOwn code e a → ReadsOwn code e b → AreItemsFit (division_checks g s a b)
  division_fit g true a b w p q =
      (guarded_read g (Bin bin.Eq b (Const 0)) w (q, tt), omega arith, omega arith, (guarded_read (Bin bin.Eq a (Const (2 ^ 31)) ∷ g) (Bin bin.Eq b (Const (2 ^ 32 - 1))) ((p, tt), w) (q, tt), omega arith, omega arith, tt))
  division_fit g false a b w p q = (guarded_read g (Bin bin.Eq b (Const 0)) w (q, tt), omega arith, omega arith, tt)

  -- of an operator
  binary_fit : (op : BinaryOperator) (g : List Term) (s : Bool) (a b : Term) → AreRead g → ReadsOwn code e a → ReadsOwn code e b → AreItemsFit (binary_checks g op s a b)
  binary_fit Multiply g true a b w p q = (guarded_read g (Bin bin.MulOver a b) w (p, q), omega arith, omega arith, tt)
  binary_fit Divide g s a b w p q = division_fit g s a b w p q
  binary_fit Remainder g s a b w p q = division_fit g s a b w p q
  binary_fit Add g true a b w p q = (guarded_read g (Bin bin.AddOver a b) w (p, q), omega arith, omega arith, tt)
  binary_fit Subtract g true a b w p q = (guarded_read g (Bin bin.SubOver a b) w (p, q), omega arith, omega arith, tt)
  binary_fit ShiftLeft g s a b w p q = (guarded_read g (Bin bin.LeU (Const 32) b) w (tt, q), omega arith, omega arith, tt)
  binary_fit ShiftRight g s a b w p q = (guarded_read g (Bin bin.LeU (Const 32) b) w (tt, q), omega arith, omega arith, tt)
  binary_fit Multiply g false a b w p q = tt
  binary_fit Add g false a b w p q = tt
  binary_fit Subtract g false a b w p q = tt
  binary_fit _ g s a b w p q = tt

  -- of one with one operand
  unary_fit : (op : UnaryOperator) (g : List Term) (s : Bool) (a : Term) → AreRead g → ReadsOwn code e a → AreItemsFit (unary_checks g op s a)
  unary_fit Minus g true a w p = (guarded_read g (Bin bin.SubOver (Const 0) a) w (tt, p), omega arith, omega arith, tt)
  unary_fit Minus g false a w p = tt
  unary_fit _ g s a w p = tt

  -- a scalar, and an array that has an element, are targets
  pub scalar_target : (globals temp top : ℕ) (space : Space globals temp top) (cell : ℕ) → cell < globals → IsTargetFit code e (record { base = cell; len = 1; index = None })
  scalar_target globals temp top space cell lt = record { some = omega arith; globals = let f = space.few in omega arith; index = tt }

  pub array_target : (globals temp top : ℕ) (space : Space globals temp top) (cell len : ℕ) (t : Term) → 1 ≤ len → ((k : ℕ) → k < len → cell + k < globals) → ReadsOwn code e t → IsTargetFit code e (record { base = cell; len = len; index = Some t })
  array_target globals temp top space cell len t some within r =
      let last = within (len - 1) (omega arith) in
      let f = space.few in
      record { some = some; globals = omega arith; index = r }

  module _ (globals temp top : ℕ) (space : Space globals temp top) (width : ℕ → Width) (base : ℕ) (known : ℕ → Bool) (below : (i : ℕ) → IsTrue (known i) → base + i < temp) (above : first_cell code e ≤ base) where
    -- the value of an expression reads cells of the entity
    term_own : (ex : CellExpr) (n : ℕ) → temp ≤ n → n + sites ex ≤ top → FitsEx width globals known ex → ReadsOwn code e (term base n ex)
    term_own ex n le lt f =
        let l = space.low in
        let m = space.middle in
        let h = space.high in
        reads_term (first_cell code e) (first_cell code (e + 1)) width globals base known (λ i k. let b = below i k in omega arith) above ex n (omega arith) (omega arith) f

    -- a cell for a value read
    site_own : (n : ℕ) → temp ≤ n → n < top → IsOwn code e n
    site_own n le lt = let l = space.low in let h = space.high in record { from = omega arith; below = omega arith }

    -- what an expression reads and tests is there
    items_fit : (ex : CellExpr) (g : List Term) (n : ℕ) → temp ≤ n → n + sites ex ≤ top → FitsEx width globals known ex → HasElements ex → AreRead g → AreItemsFit (items base g n ex)
    items_fit (Number k) g n le lt f h w = tt
    items_fit (Local at t) g n le lt f h w = tt
    items_fit (Global cell t) g n le lt f h w =
        (w, scalar_target globals temp top space cell f.1, site_own n le (omega arith), space.wide n le (omega arith), tt)
    items_fit (Element cell len t i) g n le lt f h w =
        let m = n + sites i in
        let ti = term base n i in
        let ri = term_own i n le (omega arith) f.1 in
        items_append (items base g n i) (index_check g len ti ∷ Site g (record { base = cell; len = len; index = Some ti }) m ∷ []) (items_fit i g n le (omega arith) f.1 h.1 w)
        (guarded_read g (Bin bin.LeU (Const len) ti) w (tt, ri), omega arith, omega arith, (w, array_target globals temp top space cell len ti h.0 (λ k q. (f.0 k q).1) ri, site_own m (omega arith) (omega arith), space.wide m (omega arith) (omega arith), tt))
    items_fit (Binary op s a b) g n le lt f h w =
        let m = n + sites a in
        let ta = term base n a in
        let tb = term base m b in
        items_append (items base g n a) (items base g m b ++ binary_checks g op s ta tb) (items_fit a g n le (omega arith) f.0 h.0 w)
        (items_append (items base g m b) (binary_checks g op s ta tb) (items_fit b g m (omega arith) (omega arith) f.1 h.1 w)
        (binary_fit op g s ta tb w (term_own a n le (omega arith) f.0) (term_own b m (omega arith) (omega arith) f.1)))
    items_fit (Unary op s a) g n le lt f h w =
        let ta = term base n a in
        items_append (items base g n a) (unary_checks g op s ta) (items_fit a g n le lt f h w) (unary_fit op g s ta w (term_own a n le lt f))
    items_fit (Conjunction a b) g n le lt f h w =
        let m = n + sites a in
        let ra = term_own a n le (omega arith) f.0 in
        items_append (items base g n a) (items base (term base n a ∷ g) m b) (items_fit a g n le (omega arith) f.0 h.0 w) (items_fit b (term base n a ∷ g) m (omega arith) (omega arith) f.1 h.1 (ra, w))
    items_fit (Disjunction a b) g n le lt f h w =
        let m = n + sites a in
        let ra = term_own a n le (omega arith) f.0 in
        items_append (items base g n a) (items base (Un un.Not (term base n a) ∷ g) m b) (items_fit a g n le (omega arith) f.0 h.0 w) (items_fit b (Un un.Not (term base n a) ∷ g) m (omega arith) (omega arith) f.1 h.1 (ra, w))
    items_fit (Conditional c a b) g n le lt f h w =
        let m = n + sites c in
        let k = m + sites a in
        let tc = term base n c in
        let rc = term_own c n le (omega arith) f.0 in
        items_append (items base g n c) (items base (tc ∷ g) m a ++ items base (Un un.Not tc ∷ g) k b) (items_fit c g n le (omega arith) f.0 h.0 w)
        (items_append (items base (tc ∷ g) m a) (items base (Un un.Not tc ∷ g) k b) (items_fit a (tc ∷ g) m (omega arith) (omega arith) f.1 h.1 (rc, w)) (items_fit b (Un un.Not tc ∷ g) k (omega arith) (omega arith) f.2 h.2 (rc, w)))
    items_fit (Converted t a) g n le lt f h w = items_fit a g n le lt f h w

    -- the same for the expressions of one thing
    pub all_terms_own : (qs : List (Option ℕ × CellExpr)) (n : ℕ) → temp ≤ n → n + sites_all qs ≤ top → FitsAll width globals known qs → AreRead (terms_all base n qs)
    all_terms_own [] n le lt f = tt
    all_terms_own (q ∷ qs) n le lt f = (term_own q.1 n le (omega arith) f.0, all_terms_own qs (n + sites q.1) (omega arith) (omega arith) f.1)

    pub all_items_fit : (qs : List (Option ℕ × CellExpr)) (n : ℕ) → temp ≤ n → n + sites_all qs ≤ top → FitsAll width globals known qs → AllHaveElements qs → AreItemsFit (items_all base n qs)
    all_items_fit [] n le lt f h = tt
    all_items_fit (q ∷ qs) n le lt f h =
        let m = n + sites q.1 in
        let t = term base n q.1 in
        let more = items_all base m qs in
        items_append (items base [] n q.1) (checks_of q.0 t ++ more) (items_fit q.1 [] n le (omega arith) f.0 h.0 tt)
        (items_append (checks_of q.0 t) more (tests q.0 t (term_own q.1 n le (omega arith) f.0)) (all_items_fit qs m (omega arith) (omega arith) f.1 h.1))
      where
        tests : (p : Option ℕ) (t : Term) → ReadsOwn code e t → AreItemsFit (checks_of p t)
        tests None t r = tt
        tests (Some len) t r = ((tt, r), omega arith, omega arith, tt)
