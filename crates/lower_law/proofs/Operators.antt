-- What an expression's items come to; operators.
use Rattle.std.proofs.Common.{◌≡◌, ℕ, ◌<◌, ◌≤◌, ◌-◌, ◌^◌, Bool, true, false, not, ◌&&◌, if◌then◌else◌, ◌==◌, nat_le, List, ◌∷◌, ◌++◌, Option, Some, None, refl, sym, ap, ◌∙◌, subst}
use Rattle.chk_base.specs.declared.word.Width.{Width}
use Rattle.chk_base.specs.declared.word.Width.TheVariants.{W1, W8, W16, W32}
use Rattle.chk_base.specs.declared.expr.BinOp.TheVariants as bin
use Rattle.lower_law.specs.Ask.{extended, Answer, Wants, Traps, Value, then_ask, read_by, converted, fault_where, division_fault, binary_fault, binary_result, unary_fault, unary_result, answered}
use Rattle.chk_base.specs.Operators.{one_if, truth}
use Rattle.chk_base.specs.Term.{Term, Const, Bin}
use Rattle.step_ir.specs.PointStep.{Bits, val}
use Rattle.lower_law.specs.Typed.{CType, BinaryOperator, Multiply, Divide, Remainder, Add, Subtract, ShiftLeft, ShiftRight, Less, LessEqual, Greater, GreaterEqual, Equal, NotEqual, And, Xor, Or, LogicalAnd, LogicalOr, UnaryOperator, Minus, Plus, Not, Complement}
use Rattle.lower_law.specs.Items.{Item, Check, guarded, extend_term, convert_term, binary_term, unary_term, division_checks, binary_checks, unary_checks}
use Rattle.lower_law.proofs.Walk.{Seen, Reads, Stops, holds, walk}
use Rattle.lower_law.proofs.Terms.{SameBelow, same_here, same_on, guarded_truth}

-- the own cells begin at lo
module _ (lo : ℕ) where
  module _ (width : ℕ → Width) (globals : ℕ) where
    -- the items before the rest are done: the term has this value over cells that are the same below n
    pub record Passes (rest : List Item) (bits : Bits) (n : ℕ) (t : Term) (x : ℕ) (got : List ℕ) (seen : Seen) : Type 0 where
      pub bits' : Bits
      pub below : SameBelow lo n bits bits'
      pub is : val width bits' t ≡ x
      pub on : seen ≡ walk width rest bits' got

    -- what is seen means the answer
    abbrev pub Means : List Item → Bits → ℕ → Term → Answer ℕ → Seen → Type 0
    Means rest bits n t (Wants cell w) seen = (seen ≡ Reads cell w true) × (cell < globals)
    Means rest bits n t (Traps f) seen = seen ≡ Stops f
    Means rest bits n t (Value x got) seen = Passes rest bits n t x got seen

    pub means_back : (rest : List Item) (n m : ℕ) (bits bits1 : Bits) (t : Term) (ans : Answer ℕ) (seen seen1 : Seen) → n ≤ m → SameBelow lo n bits bits1 → seen ≡ seen1 → Means rest bits1 m t ans seen1 → Means rest bits n t ans seen
    means_back rest n m bits bits1 t (Wants c w) seen seen1 le s e p = (e ∙ p.0, p.1)
    means_back rest n m bits bits1 t (Traps f) seen seen1 le s e p = e ∙ p
    means_back rest n m bits bits1 t (Value x got) seen seen1 le s e p =
        record { bits' = p.bits'; below = same_on lo le s p.below; is = p.is; on = e ∙ p.on }

    pub means_then : (rest1 rest : List Item) (n m : ℕ) (bits : Bits) (t1 t : Term) (ans : Answer ℕ) (k : ℕ → List ℕ → Answer ℕ) (seen : Seen) → n ≤ m → Means rest1 bits n t1 ans seen → ((x : ℕ) (got : List ℕ) (bits1 : Bits) → SameBelow lo n bits bits1 → val width bits1 t1 ≡ x → Means rest bits1 m t (k x got) (walk width rest1 bits1 got)) → Means rest bits n t (then_ask ans k) seen
    means_then rest1 rest n m bits t1 t (Wants c w) k seen le p f = p
    means_then rest1 rest n m bits t1 t (Traps g) k seen le p f = p
    means_then rest1 rest n m bits t1 t (Value x got) k seen le p f =
        means_back rest n m bits p.bits' t (k x got) seen (walk width rest1 p.bits' got) le p.below p.on (f x got p.bits' p.below p.is)

    pub means_items : (rest is is' : List Item) (n : ℕ) (bits : Bits) (t : Term) (ans : Answer ℕ) (got : List ℕ) → is ≡ is' → Means rest bits n t ans (walk width is' bits got) → Means rest bits n t ans (walk width is bits got)
    means_items rest is is' n bits t ans got e p = subst (λ l. Means rest bits n t ans (walk width l bits got)) (sym e) p

    -- some tests, and the rest
    abbrev pub Checked : List Item → Bits → List ℕ → Option ℕ → Seen → Type 0
    Checked rest bits got None seen = seen ≡ walk width rest bits got
    Checked rest bits got (Some f) seen = seen ≡ Stops f

    pub means_unless : (rest : List Item) (n : ℕ) (bits : Bits) (t : Term) (o : Option ℕ) (x : ℕ) (got : List ℕ) (seen : Seen) → val width bits t ≡ x → Checked rest bits got o seen → Means rest bits n t (answered o x got) seen
    means_unless rest n bits t None x got seen e p = record { bits' = bits; below = same_here lo n bits; is = e; on = p }
    means_unless rest n bits t (Some f) x got seen e p = p

    pub check_if : (rest is : List Item) (bits : Bits) (got : List ℕ) (g : List Term) (t : Term) (f : ℕ) (b : Bool) (o : Option ℕ) → truth (val width bits (guarded g t)) ≡ b → Checked rest bits got o (walk width is bits got) → Checked rest bits got (fault_where b f o) (walk width (Check g t f ∷ is) bits got)
    check_if rest is bits got g t f true o e p = ap (λ b. if b then Stops f else walk width is bits got) e
    check_if rest is bits got g t f false o e p = checked_on o (ap (λ b. if b then Stops f else walk width is bits got) e) p where
      checked_on : (o : Option ℕ) {seen seen1 : Seen} → seen ≡ seen1 → Checked rest bits got o seen1 → Checked rest bits got o seen
      checked_on None e p = e ∙ p
      checked_on (Some f) e p = e ∙ p

    truth_one_if : (b : Bool) → truth (one_if b) ≡ b
    truth_one_if true = refl
    truth_one_if false = refl

    -- where the guard holds, only the test counts
    pub guard_on : (g : List Term) (t : Term) (bits : Bits) (b : Bool) → holds (val width bits) g ≡ true → truth (val width bits t) ≡ b → truth (val width bits (guarded g t)) ≡ b
    guard_on g t bits b h e =
        guarded_truth lo width g t bits ∙ ap (λ c. c && truth (val width bits t)) h ∙ e

    and_true : (b c : Bool) → (b && true) && c ≡ (b && c)
    and_true true c = refl
    and_true false c = refl

    division_checked : (s : Bool) (g : List Term) (a b : Term) (rest : List Item) (bits : Bits) (got : List ℕ) → holds (val width bits) g ≡ true → Checked rest bits got (division_fault s (val width bits a) (val width bits b)) (walk width (division_checks g s a b ++ rest) bits got)
    division_checked true g a b rest bits got h =
        let least = Bin bin.Eq a (Const (2 ^ 31)) in
        let minus = Bin bin.Eq b (Const (2 ^ 32 - 1)) in
        let e = guarded_truth lo width (least ∷ g) minus bits
        ∙ ap (λ c. (truth (one_if (val width bits a == 2 ^ 31)) && c) && truth (one_if (val width bits b == 2 ^ 32 - 1))) h
        ∙ ap (λ c. (c && true) && truth (one_if (val width bits b == 2 ^ 32 - 1))) (truth_one_if (val width bits a == 2 ^ 31))
        ∙ ap (λ c. ((val width bits a == 2 ^ 31) && true) && c) (truth_one_if (val width bits b == 2 ^ 32 - 1))
        ∙ and_true (val width bits a == 2 ^ 31) (val width bits b == 2 ^ 32 - 1) in
        check_if rest (Check (least ∷ g) minus 3 ∷ rest) bits got g (Bin bin.Eq b (Const 0)) 4 _ _ (guard_on g (Bin bin.Eq b (Const 0)) bits _ h (truth_one_if _)) (check_if rest rest bits got (least ∷ g) minus 3 _ None e refl)
    division_checked false g a b rest bits got h =
        check_if rest rest bits got g _ 4 _ None (guard_on g (Bin bin.Eq b (Const 0)) bits _ h (truth_one_if _)) refl

    shift_checked : (g : List Term) (b : Term) (rest : List Item) (bits : Bits) (got : List ℕ) → holds (val width bits) g ≡ true → Checked rest bits got (fault_where (nat_le 32 (val width bits b)) 5 None) (walk width (Check g (Bin bin.LeU (Const 32) b) 5 ∷ rest) bits got)
    shift_checked g b rest bits got h =
        check_if rest rest bits got g _ 5 _ None (guard_on g (Bin bin.LeU (Const 32) b) bits _ h (truth_one_if _)) refl

    pub binary_checked : (op : BinaryOperator) (s : Bool) (g : List Term) (a b : Term) (rest : List Item) (bits : Bits) (got : List ℕ) → holds (val width bits) g ≡ true → Checked rest bits got (binary_fault op s (val width bits a) (val width bits b)) (walk width (binary_checks g op s a b ++ rest) bits got)
    binary_checked Multiply true g a b rest bits got h = check_if rest rest bits got g _ 3 _ None (guard_on g (Bin bin.MulOver a b) bits _ h refl) refl
    binary_checked Divide s g a b rest bits got h = division_checked s g a b rest bits got h
    binary_checked Remainder s g a b rest bits got h = division_checked s g a b rest bits got h
    binary_checked Add true g a b rest bits got h = check_if rest rest bits got g _ 3 _ None (guard_on g (Bin bin.AddOver a b) bits _ h refl) refl
    binary_checked Subtract true g a b rest bits got h = check_if rest rest bits got g _ 3 _ None (guard_on g (Bin bin.SubOver a b) bits _ h refl) refl
    binary_checked ShiftLeft s g a b rest bits got h = shift_checked g b rest bits got h
    binary_checked ShiftRight s g a b rest bits got h = shift_checked g b rest bits got h
    binary_checked Multiply false g a b rest bits got h = refl
    binary_checked Add false g a b rest bits got h = refl
    binary_checked Subtract false g a b rest bits got h = refl
    binary_checked Less s g a b rest bits got h = refl
    binary_checked LessEqual s g a b rest bits got h = refl
    binary_checked Greater s g a b rest bits got h = refl
    binary_checked GreaterEqual s g a b rest bits got h = refl
    binary_checked Equal s g a b rest bits got h = refl
    binary_checked NotEqual s g a b rest bits got h = refl
    binary_checked And s g a b rest bits got h = refl
    binary_checked Xor s g a b rest bits got h = refl
    binary_checked Or s g a b rest bits got h = refl
    binary_checked LogicalAnd s g a b rest bits got h = refl
    binary_checked LogicalOr s g a b rest bits got h = refl

    not_one_if : (b : Bool) → one_if (one_if b == 0) ≡ one_if (not b)
    not_one_if true = refl
    not_one_if false = refl

    pub binary_value_same : (op : BinaryOperator) (s : Bool) (a b : Term) (bits : Bits) → val width bits (binary_term op s a b) ≡ binary_result op s (val width bits a) (val width bits b)
    binary_value_same Multiply s a b bits = refl
    binary_value_same Divide true a b bits = refl
    binary_value_same Divide false a b bits = refl
    binary_value_same Remainder true a b bits = refl
    binary_value_same Remainder false a b bits = refl
    binary_value_same Add s a b bits = refl
    binary_value_same Subtract s a b bits = refl
    binary_value_same ShiftLeft s a b bits = refl
    binary_value_same ShiftRight true a b bits = refl
    binary_value_same ShiftRight false a b bits = refl
    binary_value_same Less true a b bits = refl
    binary_value_same Less false a b bits = refl
    binary_value_same LessEqual true a b bits = refl
    binary_value_same LessEqual false a b bits = refl
    binary_value_same Greater true a b bits = refl
    binary_value_same Greater false a b bits = refl
    binary_value_same GreaterEqual true a b bits = refl
    binary_value_same GreaterEqual false a b bits = refl
    binary_value_same Equal s a b bits = refl
    binary_value_same NotEqual s a b bits = not_one_if (val width bits a == val width bits b)
    binary_value_same And s a b bits = refl
    binary_value_same Xor s a b bits = refl
    binary_value_same Or s a b bits = refl
    binary_value_same LogicalAnd s a b bits = refl
    binary_value_same LogicalOr s a b bits = refl

    pub binary_means : (op : BinaryOperator) (s : Bool) (g : List Term) (a b : Term) (rest : List Item) (n : ℕ) (bits : Bits) (x y : ℕ) (got : List ℕ) → holds (val width bits) g ≡ true → val width bits a ≡ x → val width bits b ≡ y → Means rest bits n (binary_term op s a b) (answered (binary_fault op s x y) (binary_result op s x y) got) (walk width (binary_checks g op s a b ++ rest) bits got)
    binary_means op s g a b rest n bits x y got h ex ey =
        let t = binary_term op s a b in
        let seen = walk width (binary_checks g op s a b ++ rest) bits got in
        let p = means_unless rest n bits t _ _ got seen (binary_value_same op s a b bits) (binary_checked op s g a b rest bits got h) in
        let q = subst (λ u. Means rest bits n t (answered (binary_fault op s u (val width bits b)) (binary_result op s u (val width bits b)) got) seen) ex p in
        subst (λ u. Means rest bits n t (answered (binary_fault op s x u) (binary_result op s x u) got) seen) ey q

    pub unary_checked : (op : UnaryOperator) (s : Bool) (g : List Term) (a : Term) (rest : List Item) (bits : Bits) (got : List ℕ) → holds (val width bits) g ≡ true → Checked rest bits got (unary_fault op s (val width bits a)) (walk width (unary_checks g op s a ++ rest) bits got)
    unary_checked Minus true g a rest bits got h = check_if rest rest bits got g _ 3 _ None (guard_on g (Bin bin.SubOver (Const 0) a) bits _ h refl) refl
    unary_checked Minus false g a rest bits got h = refl
    unary_checked Plus s g a rest bits got h = refl
    unary_checked Not s g a rest bits got h = refl
    unary_checked Complement s g a rest bits got h = refl

    pub unary_value_same : (op : UnaryOperator) (a : Term) (bits : Bits) → val width bits (unary_term op a) ≡ unary_result op (val width bits a)
    unary_value_same Minus a bits = refl
    unary_value_same Plus a bits = refl
    unary_value_same Not a bits = refl
    unary_value_same Complement a bits = refl

    pub unary_means : (op : UnaryOperator) (s : Bool) (g : List Term) (a : Term) (rest : List Item) (n : ℕ) (bits : Bits) (x : ℕ) (got : List ℕ) → holds (val width bits) g ≡ true → val width bits a ≡ x → Means rest bits n (unary_term op a) (answered (unary_fault op s x) (unary_result op x) got) (walk width (unary_checks g op s a ++ rest) bits got)
    unary_means op s g a rest n bits x got h ex =
        let t = unary_term op a in
        let seen = walk width (unary_checks g op s a ++ rest) bits got in
        let p = means_unless rest n bits t _ _ got seen (unary_value_same op a bits) (unary_checked op s g a rest bits got h) in
        subst (λ u. Means rest bits n t (answered (unary_fault op s u) (unary_result op u) got) seen) ex p

    -- types
    pub extend_value : (t : CType) (a : Term) (bits : Bits) → val width bits (extend_term t a) ≡ read_by t (val width bits a)
    extend_value t a bits = go t.width t.signed refl refl where
      go : (w : Width) (s : Bool) → t.width ≡ w → t.signed ≡ s → val width bits (extend_term (record { width = w; signed = s }) a) ≡ extended w s (val width bits a)
      go W1 s e f = refl
      go W8 true e f = refl
      go W8 false e f = refl
      go W16 true e f = refl
      go W16 false e f = refl
      go W32 s e f = refl

    pub convert_value : (t : CType) (a : Term) (bits : Bits) → val width bits (convert_term t a) ≡ converted t (val width bits a)
    convert_value t a bits = go t.width t.signed where
      go : (w : Width) (s : Bool) → val width bits (convert_term (record { width = w; signed = s }) a) ≡ converted (record { width = w; signed = s }) (val width bits a)
      go W1 s = refl
      go W8 true = refl
      go W8 false = refl
      go W16 true = refl
      go W16 false = refl
      go W32 s = refl
