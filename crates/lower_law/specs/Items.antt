-- An expression as what is read and looked at in order, and a term for its value.
use Rattle.std.specs.Prelude.{ℕ, ◌+◌, ◌-◌, ◌^◌, Bool, true, false, List, [], ◌∷◌, ◌++◌, Option, Some, None}
use Rattle.chk_base.specs.declared.word.Width.{Width}
use Rattle.chk_base.specs.declared.word.Width.TheVariants.{W1, W8, W16, W32}
use Rattle.chk_base.specs.declared.expr.UnOp.TheVariants as un
use Rattle.chk_base.specs.declared.expr.BinOp.TheVariants as bin
use Rattle.chk_base.specs.Term.{Term, Const, Cell, Un, Bin, Choose}
use Rattle.step_ir.specs.Points.{PlainTarget}
use Rattle.lower_law.specs.Typed.{CType, BinaryOperator, Multiply, Divide, Remainder, Add, Subtract, ShiftLeft, ShiftRight, Less, LessEqual, Greater, GreaterEqual, Equal, NotEqual, And, Xor, Or, UnaryOperator, Minus, Plus, Not, Complement, CellExpr, Number, Local, Global, Element, Binary, Unary, Conjunction, Disjunction, Conditional, Converted}

-- a read, which comes where all of the guard isn't 0, or a test, whose failure comes where all of the guard and the test aren't 0
pub data Item : Type 0 where
  Site : (guard : List Term) (target : PlainTarget) (into : ℕ) → Item
  Check : (guard : List Term) (test : Term) (failure : ℕ) → Item

-- the test where all of the guard isn't 0, and else 0
abbrev pub guarded : List Term → Term → Term
guarded [] t = t
guarded (g ∷ gs) t = Choose g (guarded gs t) (Const 0)

-- how many globals and elements an expression reads
abbrev pub sites : CellExpr → ℕ
sites (Number n) = 0
sites (Local at t) = 0
sites (Global cell t) = 1
sites (Element cell len t i) = sites i + 1
sites (Binary op s a b) = sites a + sites b
sites (Unary op s a) = sites a
sites (Conjunction a b) = sites a + sites b
sites (Disjunction a b) = sites a + sites b
sites (Conditional c a b) = sites c + sites a + sites b
sites (Converted t a) = sites a

-- the bits of a cell with zeros above them, as a value of the type
abbrev pub extend_term : CType → Term → Term
extend_term t a = by t.width t.signed a where
  by : Width → Bool → Term → Term
  by W8 true a = Un un.Sign8 a
  by W16 true a = Un un.Sign16 a
  by _ _ a = a

-- a value converted to the type
abbrev pub convert_term : CType → Term → Term
convert_term t a = by t.width t.signed a where
  by : Width → Bool → Term → Term
  by W1 s a = Un un.Bool a
  by W8 true a = Un un.Sign8 a
  by W8 false a = Un un.Low8 a
  by W16 true a = Un un.Sign16 a
  by W16 false a = Un un.Low16 a
  by W32 s a = a

-- the value of an operator
abbrev pub binary_term : BinaryOperator → Bool → Term → Term → Term
binary_term Multiply s a b = Bin bin.Mul a b
binary_term Divide true a b = Bin bin.DivS a b
binary_term Divide false a b = Bin bin.DivU a b
binary_term Remainder true a b = Bin bin.RemS a b
binary_term Remainder false a b = Bin bin.RemU a b
binary_term Add s a b = Bin bin.Add a b
binary_term Subtract s a b = Bin bin.Sub a b
binary_term ShiftLeft s a b = Bin bin.Shl a b
binary_term ShiftRight true a b = Bin bin.ShrS a b
binary_term ShiftRight false a b = Bin bin.ShrU a b
binary_term Less true a b = Bin bin.LtS a b
binary_term Less false a b = Bin bin.LtU a b
binary_term LessEqual true a b = Bin bin.LeS a b
binary_term LessEqual false a b = Bin bin.LeU a b
binary_term Greater true a b = Bin bin.LtS b a
binary_term Greater false a b = Bin bin.LtU b a
binary_term GreaterEqual true a b = Bin bin.LeS b a
binary_term GreaterEqual false a b = Bin bin.LeU b a
binary_term Equal s a b = Bin bin.Eq a b
binary_term NotEqual s a b = Un un.Not (Bin bin.Eq a b)
binary_term And s a b = Bin bin.And a b
binary_term Xor s a b = Bin bin.Xor a b
binary_term Or s a b = Bin bin.Or a b
binary_term _ s a b = Const 0

-- the value of an operator with one operand
abbrev pub unary_term : UnaryOperator → Term → Term
unary_term Minus a = Un un.Neg a
unary_term Plus a = a
unary_term Not a = Un un.Not a
unary_term Complement a = Un un.Inv a

-- the tests of a division or a remainder
abbrev pub division_checks : List Term → Bool → Term → Term → List Item
division_checks g true a b =
    Check g (Bin bin.Eq b (Const 0)) 4 ∷ Check (Bin bin.Eq a (Const (2 ^ 31)) ∷ g) (Bin bin.Eq b (Const (2 ^ 32 - 1))) 3 ∷ []
division_checks g false a b = Check g (Bin bin.Eq b (Const 0)) 4 ∷ []

-- the tests of an operator
abbrev pub binary_checks : List Term → BinaryOperator → Bool → Term → Term → List Item
binary_checks g Multiply true a b = Check g (Bin bin.MulOver a b) 3 ∷ []
binary_checks g Divide s a b = division_checks g s a b
binary_checks g Remainder s a b = division_checks g s a b
binary_checks g Add true a b = Check g (Bin bin.AddOver a b) 3 ∷ []
binary_checks g Subtract true a b = Check g (Bin bin.SubOver a b) 3 ∷ []
binary_checks g ShiftLeft s a b = Check g (Bin bin.LeU (Const 32) b) 5 ∷ []
binary_checks g ShiftRight s a b = Check g (Bin bin.LeU (Const 32) b) 5 ∷ []
binary_checks g _ s a b = []

-- the test of an operator with one operand, if there is one
abbrev pub unary_checks : List Term → UnaryOperator → Bool → Term → List Item
unary_checks g Minus true a = Check g (Bin bin.SubOver (Const 0) a) 3 ∷ []
unary_checks g _ s a = []

-- the test of an index
abbrev pub index_check : List Term → ℕ → Term → Item
index_check g len i = Check g (Bin bin.LeU (Const len) i) 6

-- the test of an index of a target
abbrev pub checks_of : Option ℕ → Term → List Item
checks_of None t = []
checks_of (Some len) t = index_check [] len t ∷ []

-- how many globals and elements the expressions of one thing read
abbrev pub sites_all : List (Option ℕ × CellExpr) → ℕ
sites_all [] = 0
sites_all (q ∷ qs) = sites q.1 + sites_all qs

-- the base is the first cell of the locals, and n the cell for the first value read
module _ (base : ℕ) where
  -- the value of an expression
  abbrev pub term : ℕ → CellExpr → Term
  term n (Number k) = Const k
  term n (Local at t) = extend_term t (Cell (base + at) false)
  term n (Global cell t) = extend_term t (Cell n false)
  term n (Element cell len t i) = extend_term t (Cell (n + sites i) false)
  term n (Binary op s a b) = binary_term op s (term n a) (term (n + sites a) b)
  term n (Unary op s a) = unary_term op (term n a)
  term n (Conjunction a b) = Choose (term n a) (Un un.Bool (term (n + sites a) b)) (Const 0)
  term n (Disjunction a b) = Choose (term n a) (Const 1) (Un un.Bool (term (n + sites a) b))
  term n (Conditional c a b) = Choose (term n c) (term (n + sites c) a) (term (n + sites c + sites a) b)
  term n (Converted t a) = convert_term t (term n a)

  -- what an expression reads and tests where the guard holds, in the order of evaluation
  abbrev pub items : List Term → ℕ → CellExpr → List Item
  items g n (Number k) = []
  items g n (Local at t) = []
  items g n (Global cell t) = Site g (record { base = cell; len = 1; index = None }) n ∷ []
  items g n (Element cell len t i) =
      items g n i ++ (index_check g len (term n i) ∷ Site g (record { base = cell; len = len; index = Some (term n i) }) (n + sites i) ∷ [])
  items g n (Binary op s a b) =
      items g n a ++ (items g (n + sites a) b ++ binary_checks g op s (term n a) (term (n + sites a) b))
  items g n (Unary op s a) = items g n a ++ unary_checks g op s (term n a)
  items g n (Conjunction a b) = items g n a ++ items (term n a ∷ g) (n + sites a) b
  items g n (Disjunction a b) = items g n a ++ items (Un un.Not (term n a) ∷ g) (n + sites a) b
  items g n (Conditional c a b) =
      items g n c ++ (items (term n c ∷ g) (n + sites c) a ++ items (Un un.Not (term n c) ∷ g) (n + sites c + sites a) b)
  items g n (Converted t a) = items g n a

  -- the same for the expressions of one thing, one after another
  abbrev pub terms_all : ℕ → List (Option ℕ × CellExpr) → List Term
  terms_all n [] = []
  terms_all n (q ∷ qs) = term n q.1 ∷ terms_all (n + sites q.1) qs

  abbrev pub items_all : ℕ → List (Option ℕ × CellExpr) → List Item
  items_all n [] = []
  items_all n (q ∷ qs) = items [] n q.1 ++ (checks_of q.0 (term n q.1) ++ items_all (n + sites q.1) qs)
