-- Where no local is known, the first point that runs doesn't depend on the cells.
use Rattle.std.proofs.Common.{◌≡◌, ℕ, ◌+◌, Bool, true, false, ◌&&◌, if◌then◌else◌, List, [], ◌∷◌, ◌++◌, Option, Some, None, IsTrue, refl, sym, ap, ◌∙◌, subst, arith, append_assoc, append-nil, add-zero, add_assoc}
use Rattle.chk_base.specs.declared.word.Width.{Width}
use Rattle.chk_base.specs.declared.expr.UnOp.TheVariants as un
use Rattle.chk_base.specs.Operators.{one_if, truth}
use Rattle.chk_base.specs.Term.{Term, Const, Un, Choose}
use Rattle.step_ir.specs.Points.{PlainPoint, PlainTarget}
use Rattle.step_ir.specs.PointStep.{Bits, val, first}
use Rattle.lower_law.specs.Typed.{BinaryOperator, Multiply, Divide, Remainder, Add, Subtract, ShiftLeft, ShiftRight, UnaryOperator, Minus, CellExpr, Number, Local, Global, Element, Binary, Unary, Conjunction, Disjunction, Conditional, Converted}
use Rattle.lower_law.specs.Ask.{converted, binary_result, unary_result}
use Rattle.lower_law.specs.Items.{Item, Site, sites, division_checks, binary_checks, unary_checks, binary_term, unary_term, index_check, term, items, sites_all, items_all, checks_of}
use Rattle.lower_law.proofs.Walk.{holds}
use Rattle.lower_law.specs.FitsBody.{FitsEx, FitsAll}
use Rattle.lower_law.specs.Statements.{Block, CellBlock, Nil, Cons, CellUnit, questions, room, rooms_to}
use Rattle.lower_law.specs.Lowered.{Nexts, entry, always}
use Rattle.lower_law.proofs.Operators.{binary_value_same, unary_value_same, convert_value}
use Rattle.lower_law.proofs.Expressions.{truth_not, chosen_yes, chosen_no, and_off}
use Rattle.lower_law.proofs.Things.{next_at, entry_first}
use Rattle.lower_law.proofs.Bodies.{Body, FitsBlock, entry_block, size_here}
use Rattle.lower_law.proofs.Frames.{fits_questions}

module _ (lo : ℕ) (width : ℕ → Width) (base : ℕ) where
  abbrev next : Bits → ℕ → List Item → ℕ
  next bits at is = next_at lo (val width bits) at is

  next_division : (s : Bool) (g : List Term) (a b : Term) (at : ℕ) (rest : List Item) (bits : Bits) → next bits at (division_checks g s a b ++ rest) ≡ next bits at rest
  next_division true g a b at rest bits = refl
  next_division false g a b at rest bits = refl

  next_binary : (op : BinaryOperator) (s : Bool) (g : List Term) (a b : Term) (at : ℕ) (rest : List Item) (bits : Bits) → next bits at (binary_checks g op s a b ++ rest) ≡ next bits at rest
  next_binary Multiply true g a b at rest bits = refl
  next_binary Divide s g a b at rest bits = next_division s g a b at rest bits
  next_binary Remainder s g a b at rest bits = next_division s g a b at rest bits
  next_binary Add true g a b at rest bits = refl
  next_binary Subtract true g a b at rest bits = refl
  next_binary ShiftLeft s g a b at rest bits = refl
  next_binary ShiftRight s g a b at rest bits = refl
  next_binary Multiply false g a b at rest bits = refl
  next_binary Add false g a b at rest bits = refl
  next_binary Subtract false g a b at rest bits = refl
  next_binary _ s g a b at rest bits = refl

  next_unary : (op : UnaryOperator) (s : Bool) (g : List Term) (a : Term) (at : ℕ) (rest : List Item) (bits : Bits) → next bits at (unary_checks g op s a ++ rest) ≡ next bits at rest
  next_unary Minus true g a at rest bits = refl
  next_unary Minus false g a at rest bits = refl
  next_unary _ s g a at rest bits = refl

  joined_next : (xs ys rest : List Item) (at k l : ℕ) (bits : Bits) → next bits at (xs ++ (ys ++ rest)) ≡ next bits (at + k) (ys ++ rest) → next bits (at + k) (ys ++ rest) ≡ next bits (at + k + l) rest → next bits at ((xs ++ ys) ++ rest) ≡ next bits (at + (k + l)) rest
  joined_next xs ys rest at k l bits p q = ap (next bits at) (append_assoc xs ys rest) ∙ p ∙ q ∙ ap (λ m. next bits m rest) (add_assoc at k l)

  -- where the guard doesn't hold, all reads are passed over
  skip_next : (e : CellExpr) (g : List Term) (n at : ℕ) (rest : List Item) (bits : Bits) → holds (val width bits) g ≡ false → next bits at (items base g n e ++ rest) ≡ next bits (at + sites e) rest
  skip_next (Number k) g n at rest bits h = ap (λ m. next bits m rest) (sym (add-zero at))
  skip_next (Local i t) g n at rest bits h = ap (λ m. next bits m rest) (sym (add-zero at))
  skip_next (Global cell t) g n at rest bits h = ap (λ b. if b then at else next bits (at + 1) rest) h
  skip_next (Element cell len t i) g n at rest bits h =
      joined_next (items base g n i) (index_check g len (term base n i) ∷ Site g (record { base = cell; len = len; index = Some (term base n i) }) (n + sites i) ∷ []) rest at (sites i) 1 bits (skip_next i g n at _ bits h) (ap (λ b. if b then at + sites i else next bits (at + sites i + 1) rest) h)
  skip_next (Binary op s a b) g n at rest bits h =
      let m = n + sites a in
      let cs = binary_checks g op s (term base n a) (term base m b) in
      joined_next (items base g n a) (items base g m b ++ cs) rest at (sites a) (sites b) bits (skip_next a g n at _ bits h)
      (ap (next bits (at + sites a)) (append_assoc (items base g m b) cs rest) ∙ skip_next b g m (at + sites a) (cs ++ rest) bits h ∙ next_binary op s g (term base n a) (term base m b) (at + sites a + sites b) rest bits)
  skip_next (Unary op s a) g n at rest bits h =
      ap (next bits at) (append_assoc (items base g n a) (unary_checks g op s (term base n a)) rest) ∙ skip_next a g n at _ bits h ∙ next_unary op s g (term base n a) (at + sites a) rest bits
  skip_next (Conjunction a b) g n at rest bits h =
      joined_next (items base g n a) (items base (term base n a ∷ g) (n + sites a) b) rest at (sites a) (sites b) bits (skip_next a g n at _ bits h) (skip_next b (term base n a ∷ g) (n + sites a) (at + sites a) rest bits (and_off lo width base _ h))
  skip_next (Disjunction a b) g n at rest bits h =
      joined_next (items base g n a) (items base (Un un.Not (term base n a) ∷ g) (n + sites a) b) rest at (sites a) (sites b) bits (skip_next a g n at _ bits h) (skip_next b (Un un.Not (term base n a) ∷ g) (n + sites a) (at + sites a) rest bits (and_off lo width base _ h))
  skip_next (Conditional c a b) g n at rest bits h =
      let m = n + sites c in
      let tc = term base n c in
      let isa = items base (tc ∷ g) m a in
      let isb = items base (Un un.Not tc ∷ g) (m + sites a) b in
      joined_next (items base g n c) (isa ++ isb) rest at (sites c) (sites a + sites b) bits (skip_next c g n at _ bits h)
      (joined_next isa isb rest (at + sites c) (sites a) (sites b) bits (skip_next a (tc ∷ g) m (at + sites c) _ bits (and_off lo width base _ h)) (skip_next b (Un un.Not tc ∷ g) (m + sites a) (at + sites c + sites a) rest bits (and_off lo width base _ h)))
      ∙ ap (λ k. next bits (at + k) rest) (sym (add_assoc (sites c) (sites a) (sites b)))
  skip_next (Converted t a) g n at rest bits h = skip_next a g n at rest bits h

  module _ (b1 b2 : Bits) where
    -- the same read comes first over both, or none does and the term has the same value
    pub data Early (is : List Item) (k : ℕ) (t : Term) : Type 0 where
      stops : ((at : ℕ) (rest : List Item) → next b1 at (is ++ rest) ≡ next b2 at (is ++ rest)) → Early is k t
      passes : ((at : ℕ) (rest : List Item) → next b1 at (is ++ rest) ≡ next b1 (at + k) rest) → ((at : ℕ) (rest : List Item) → next b2 at (is ++ rest) ≡ next b2 (at + k) rest) → val width b1 t ≡ val width b2 t → Early is k t

    count_is : {is : List Item} {k l : ℕ} {t : Term} → k ≡ l → Early is k t → Early is l t
    count_is {is} {k} {l} {t} e x = subst (λ k. Early is k t) e x

    same_term : {is : List Item} {k : ℕ} {t u : Term} → (val width b1 t ≡ val width b2 t → val width b1 u ≡ val width b2 u) → Early is k t → Early is k u
    same_term f (stops s) = stops s
    same_term f (passes p q e) = passes p q (f e)

    then_early : (xs ys : List Item) (k l : ℕ) (t u : Term) → Early xs k t → (val width b1 t ≡ val width b2 t → Early ys l u) → Early (xs ++ ys) (k + l) u
    then_early xs ys k l t u (stops s) f = stops (λ at rest. ap (next b1 at) (append_assoc xs ys rest) ∙ s at (ys ++ rest) ∙ sym (ap (next b2 at) (append_assoc xs ys rest)))
    then_early xs ys k l t u (passes p q e) f = go (f e) where
      go : Early ys l u → Early (xs ++ ys) (k + l) u
      go (stops s) = stops (λ at rest. ap (next b1 at) (append_assoc xs ys rest) ∙ p at (ys ++ rest) ∙ s (at + k) rest ∙ sym (q at (ys ++ rest)) ∙ sym (ap (next b2 at) (append_assoc xs ys rest)))
      go (passes p2 q2 e2) = passes (λ at rest. joined_next xs ys rest at k l b1 (p at (ys ++ rest)) (p2 (at + k) rest)) (λ at rest. joined_next xs ys rest at k l b2 (q at (ys ++ rest)) (q2 (at + k) rest)) e2

    skipped : (e : CellExpr) (g : List Term) (n : ℕ) (u : Term) → holds (val width b1) g ≡ false → holds (val width b2) g ≡ false → val width b1 u ≡ val width b2 u → Early (items base g n e) (sites e) u
    skipped e g n u h1 h2 s = passes (λ at rest. skip_next e g n at rest b1 h1) (λ at rest. skip_next e g n at rest b2 h2) s

    read_first : (g : List Term) (target : PlainTarget) (into : ℕ) (u : Term) → holds (val width b1) g ≡ true → holds (val width b2) g ≡ true → Early (Site g target into ∷ []) 1 u
    read_first g target into u h1 h2 = stops (λ at rest. ap (λ b. if b then at else next b1 (at + 1) rest) h1 ∙ sym (ap (λ b. if b then at else next b2 (at + 1) rest) h2))

    module _ (globals : ℕ) (known : ℕ → Bool) (none : (i : ℕ) → IsTrue (known i) → ⊥) where
      pub early : (e : CellExpr) (g : List Term) (n : ℕ) → FitsEx width globals known e → holds (val width b1) g ≡ true → holds (val width b2) g ≡ true → Early (items base g n e) (sites e) (term base n e)
      early (Number k) g n f h1 h2 = passes (λ at rest. ap (λ m. next b1 m rest) (sym (add-zero at))) (λ at rest. ap (λ m. next b2 m rest) (sym (add-zero at))) refl
      early (Local i t) g n f h1 h2 = absurd (none i f)
      early (Global cell t) g n f h1 h2 = read_first g (record { base = cell; len = 1; index = None }) n (term base n (Global cell t)) h1 h2
      early (Element cell len t i) g n f h1 h2 =
          let ti = term base n i in
          let u = term base n (Element cell len t i) in
          let target : PlainTarget = record { base = cell; len = len; index = Some ti } in
          let later : Early (index_check g len ti ∷ Site g target (n + sites i) ∷ []) 1 u = stops (λ at rest. ap (λ b. if b then at else next b1 (at + 1) rest) h1 ∙ sym (ap (λ b. if b then at else next b2 (at + 1) rest) h2)) in
          then_early (items base g n i) _ (sites i) 1 ti u (early i g n f.1 h1 h2) (λ s. later)
      early (Binary op s a b) g n f h1 h2 =
          let m = n + sites a in
          let ta = term base n a in
          let tb = term base m b in
          let cs = binary_checks g op s ta tb in
          let u = binary_term op s ta tb in
          then_early (items base g n a) (items base g m b ++ cs) (sites a) (sites b) ta u (early a g n f.0 h1 h2)
          (λ sa. count_is (add-zero (sites b)) (then_early (items base g m b) cs (sites b) 0 tb u (early b g m f.1 h1 h2)
          (λ sb. passes (λ at rest. next_binary op s g ta tb at rest b1 ∙ ap (λ k. next b1 k rest) (sym (add-zero at))) (λ at rest. next_binary op s g ta tb at rest b2 ∙ ap (λ k. next b2 k rest) (sym (add-zero at)))
          (binary_value_same lo width globals op s ta tb b1 ∙ ap (λ x. binary_result op s x (val width b1 tb)) sa ∙ ap (binary_result op s (val width b2 ta)) sb ∙ sym (binary_value_same lo width globals op s ta tb b2)))))
      early (Unary op s a) g n f h1 h2 =
          let ta = term base n a in
          let cs = unary_checks g op s ta in
          count_is (add-zero (sites a)) (then_early (items base g n a) cs (sites a) 0 ta (unary_term op ta) (early a g n f h1 h2)
          (λ sa. passes (λ at rest. next_unary op s g ta at rest b1 ∙ ap (λ k. next b1 k rest) (sym (add-zero at))) (λ at rest. next_unary op s g ta at rest b2 ∙ ap (λ k. next b2 k rest) (sym (add-zero at)))
          (unary_value_same lo width globals op ta b1 ∙ ap (unary_result op) sa ∙ sym (unary_value_same lo width globals op ta b2))))
      early (Conjunction a b) g n f h1 h2 =
          let m = n + sites a in
          let ta = term base n a in
          let tb = term base m b in
          let u = Choose ta (Un un.Bool tb) (Const 0) in
          let isb = items base (ta ∷ g) m b in
          then_early (items base g n a) isb (sites a) (sites b) ta u (early a g n f.0 h1 h2)
          (λ sa. (let go : (d : Bool) → truth (val width b1 ta) ≡ d → Early isb (sites b) u = λ d. elim d as (λ d. truth (val width b1 ta) ≡ d → Early isb (sites b) u) [
            | true ↦ λ t1. let t2 = ap truth (sym sa) ∙ t1 in
                same_term (λ sb. chosen_yes lo width globals ta (Un un.Bool tb) (Const 0) b1 _ t1 (ap (λ v. one_if (truth v)) sb) ∙ sym (chosen_yes lo width globals ta (Un un.Bool tb) (Const 0) b2 _ t2 refl))
                (early b (ta ∷ g) m f.1 (ap (λ c. c && holds (val width b1) g) t1 ∙ h1) (ap (λ c. c && holds (val width b2) g) t2 ∙ h2))
            | false ↦ λ t1. let t2 = ap truth (sym sa) ∙ t1 in
                skipped b (ta ∷ g) m u (ap (λ c. c && holds (val width b1) g) t1) (ap (λ c. c && holds (val width b2) g) t2)
                (chosen_no lo width globals ta (Un un.Bool tb) (Const 0) b1 0 t1 refl ∙ sym (chosen_no lo width globals ta (Un un.Bool tb) (Const 0) b2 0 t2 refl))
          ] in go (truth (val width b1 ta)) refl))
      early (Disjunction a b) g n f h1 h2 =
          let m = n + sites a in
          let ta = term base n a in
          let tb = term base m b in
          let tn = Un un.Not ta in
          let u = Choose ta (Const 1) (Un un.Bool tb) in
          let isb = items base (tn ∷ g) m b in
          then_early (items base g n a) isb (sites a) (sites b) ta u (early a g n f.0 h1 h2)
          (λ sa. (let go : (d : Bool) → truth (val width b1 ta) ≡ d → Early isb (sites b) u = λ d. elim d as (λ d. truth (val width b1 ta) ≡ d → Early isb (sites b) u) [
            | false ↦ λ t1. let t2 = ap truth (sym sa) ∙ t1 in
                same_term (λ sb. chosen_no lo width globals ta (Const 1) (Un un.Bool tb) b1 _ t1 (ap (λ v. one_if (truth v)) sb) ∙ sym (chosen_no lo width globals ta (Const 1) (Un un.Bool tb) b2 _ t2 refl))
                (early b (tn ∷ g) m f.1 (ap (λ c. c && holds (val width b1) g) (truth_not lo width globals (val width b1 ta) false t1) ∙ h1) (ap (λ c. c && holds (val width b2) g) (truth_not lo width globals (val width b2 ta) false t2) ∙ h2))
            | true ↦ λ t1. let t2 = ap truth (sym sa) ∙ t1 in
                skipped b (tn ∷ g) m u (ap (λ c. c && holds (val width b1) g) (truth_not lo width globals (val width b1 ta) true t1)) (ap (λ c. c && holds (val width b2) g) (truth_not lo width globals (val width b2 ta) true t2))
                (chosen_yes lo width globals ta (Const 1) (Un un.Bool tb) b1 1 t1 refl ∙ sym (chosen_yes lo width globals ta (Const 1) (Un un.Bool tb) b2 1 t2 refl))
          ] in go (truth (val width b1 ta)) refl))
      early (Conditional c a b) g n f h1 h2 =
          let m = n + sites c in
          let tc = term base n c in
          let ta = term base m a in
          let tb = term base (m + sites a) b in
          let tn = Un un.Not tc in
          let u = Choose tc ta tb in
          let isa = items base (tc ∷ g) m a in
          let isb = items base (tn ∷ g) (m + sites a) b in
          count_is (sym (add_assoc (sites c) (sites a) (sites b))) (then_early (items base g n c) (isa ++ isb) (sites c) (sites a + sites b) tc u (early c g n f.0 h1 h2)
          (λ sc. (let go : (d : Bool) → truth (val width b1 tc) ≡ d → Early (isa ++ isb) (sites a + sites b) u = λ d. elim d as (λ d. truth (val width b1 tc) ≡ d → Early (isa ++ isb) (sites a + sites b) u) [
            | true ↦ λ t1. let t2 = ap truth (sym sc) ∙ t1 in
                then_early isa isb (sites a) (sites b) ta u (early a (tc ∷ g) m f.1 (ap (λ c. c && holds (val width b1) g) t1 ∙ h1) (ap (λ c. c && holds (val width b2) g) t2 ∙ h2))
                (λ sa. skipped b (tn ∷ g) (m + sites a) u (ap (λ c. c && holds (val width b1) g) (truth_not lo width globals (val width b1 tc) true t1)) (ap (λ c. c && holds (val width b2) g) (truth_not lo width globals (val width b2 tc) true t2))
                (chosen_yes lo width globals tc ta tb b1 _ t1 sa ∙ sym (chosen_yes lo width globals tc ta tb b2 _ t2 refl)))
            | false ↦ λ t1. let t2 = ap truth (sym sc) ∙ t1 in
                then_early isa isb (sites a) (sites b) (Const 0) u (skipped a (tc ∷ g) m (Const 0) (ap (λ c. c && holds (val width b1) g) t1) (ap (λ c. c && holds (val width b2) g) t2) refl)
                (λ s0. same_term (λ sb. chosen_no lo width globals tc ta tb b1 _ t1 sb ∙ sym (chosen_no lo width globals tc ta tb b2 _ t2 refl))
                (early b (tn ∷ g) (m + sites a) f.2 (ap (λ c. c && holds (val width b1) g) (truth_not lo width globals (val width b1 tc) false t1) ∙ h1) (ap (λ c. c && holds (val width b2) g) (truth_not lo width globals (val width b2 tc) false t2) ∙ h2)))
          ] in go (truth (val width b1 tc)) refl)))
      early (Converted t a) g n f h1 h2 =
          same_term (λ sa. convert_value lo width globals t (term base n a) b1 ∙ ap (converted t) sa ∙ sym (convert_value lo width globals t (term base n a) b2)) (early a g n f h1 h2)

      early_all : (qs : List (Option ℕ × CellExpr)) (n : ℕ) → FitsAll width globals known qs → Early (items_all base n qs) (sites_all qs) (Const 0)
      early_all [] n f = passes (λ at rest. ap (λ m. next b1 m rest) (sym (add-zero at))) (λ at rest. ap (λ m. next b2 m rest) (sym (add-zero at))) refl
      early_all (q ∷ qs) n f =
          let m = n + sites q.1 in
          let t = term base n q.1 in
          let more = items_all base m qs in
          let z : 0 + sites_all qs ≡ sites_all qs = omega arith in
          then_early (items base [] n q.1) (checks_of q.0 t ++ more) (sites q.1) (sites_all qs) t (Const 0) (early q.1 [] n f.0 refl refl)
          (λ s. count_is z (then_early (checks_of q.0 t) more 0 (sites_all qs) (Const 0) (Const 0) (tests q.0 t) (λ y. early_all qs m f.1)))
        where
          tests : (o : Option ℕ) (t : Term) → Early (checks_of o t) 0 (Const 0)
          tests None t = passes (λ at rest. ap (λ m. next b1 m rest) (sym (add-zero at))) (λ at rest. ap (λ m. next b2 m rest) (sym (add-zero at))) refl
          tests (Some len) t = passes (λ at rest. ap (λ m. next b1 m rest) (sym (add-zero at))) (λ at rest. ap (λ m. next b2 m rest) (sym (add-zero at))) refl

      next_same_all : (qs : List (Option ℕ × CellExpr)) (n at : ℕ) → FitsAll width globals known qs → next b1 at (items_all base n qs) ≡ next b2 at (items_all base n qs)
      next_same_all qs n at f = go (early_all qs n f) where
        is : List Item
        is = items_all base n qs

        go : Early (items_all base n qs) (sites_all qs) (Const 0) → next b1 at (items_all base n qs) ≡ next b2 at (items_all base n qs)
        go (stops s) = sym (ap (next b1 at) (append-nil (items_all base n qs))) ∙ s at [] ∙ ap (next b2 at) (append-nil (items_all base n qs))
        go (passes p q e) = sym (ap (next b1 at) (append-nil (items_all base n qs))) ∙ p at [] ∙ sym (q at []) ∙ ap (next b2 at) (append-nil (items_all base n qs))

      pub entry_same : (number : ℕ → ℕ) (qs : List (Option ℕ × CellExpr)) (n at : ℕ) → FitsAll width globals known qs → first (val width b1) (entry number at (items_all base n qs)) ≡ first (val width b2) (entry number at (items_all base n qs))
      entry_same number qs n at f =
          entry_first lo width number (items_all base n qs) at b1 ∙ ap (λ k. Some (number k)) (next_same_all qs n at f) ∙ sym (entry_first lo width number (items_all base n qs) at b2)

-- where no local is known, a body begins at the same point whatever the cells hold
module _ (lo : ℕ) (width : ℕ → Width) (globals : ℕ) (number : ℕ → ℕ) (code : ℕ → Option PlainPoint) (temp top : ℕ) (unit : CellUnit) (b1 b2 : Bits) (b : Body) where
  block_same : (bl : CellBlock) (known : ℕ → Bool) (none : (i : ℕ) → IsTrue (known i) → ⊥) (at cell : ℕ) (after : Nexts) → FitsBlock lo width globals number code temp top unit b known cell bl → first (val width b1) after ≡ first (val width b2) after → first (val width b1) (entry_block lo width globals number code temp top unit b at bl after) ≡ first (val width b2) (entry_block lo width globals number code temp top unit b at bl after)
  block_same Nil known none at cell after f e = e
  block_same (Cons (Block x) rest) known none at cell after f e =
      block_same x known none at cell _ f.0 (block_same rest known none (at + size_here lo width globals number code temp top unit b (Block x)) (cell + room (rooms_to unit b.depth) (Block x)) after f.3 e)
  block_same (Cons s rest) known none at cell after f e = entry_same lo width b.ctx.base b1 b2 globals known none number (questions s) temp at (fits_questions lo width globals number code temp top unit b known cell s f.0)

  -- .. and where it has no result, its close is a point of its own
  pub body_same : (bl : CellBlock) (known : ℕ → Bool) (none : (i : ℕ) → IsTrue (known i) → ⊥) (at cell m : ℕ) → FitsBlock lo width globals number code temp top unit b known cell bl → first (val width b1) (entry_block lo width globals number code temp top unit b at bl (always number m)) ≡ first (val width b2) (entry_block lo width globals number code temp top unit b at bl (always number m))
  body_same bl known none at cell m f = block_same bl known none at cell (always number m) f refl
