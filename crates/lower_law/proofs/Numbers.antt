-- The code of a unit starts at its point 0.
use Rattle.std.proofs.Common.{◌≡◌, ℕ, zero, suc, ◌+◌, Bool, true, false, length, List, [], ◌∷◌, ◌++◌, Option, Some, None, refl, sym, ap, ◌∙◌, subst, arith, append_assoc, length-append}
use Rattle.std.specs.Prelude.{slice_get}
use Rattle.std.proofs.lemmas.Bool.Decides.{nat_tests}
use Rattle.chk_base.specs.declared.word.Width.{Width}
use Rattle.step_ir.specs.Points.{PlainPoint}
use Rattle.step_ir.specs.PointStep.{Bits, val, first, or_zero}
use Rattle.lower_law.specs.Items.{items_all}
use Rattle.lower_law.specs.Statements.{CellStatement, Set, Write, WriteAt, If, Loop, Assert, Input, Call, Return, Serve, Block, CellBlock, Nil, Cons, CellFunction, CellUnit, questions, rooms_to}
use Rattle.lower_law.specs.Lowered.{Nexts, Plan, entry_all, entry_of_entity, size, size_all, close_entry, closing_size, outer, plan_to, points_of_entity}
use Rattle.lower_law.specs.Exact.{Layout, StandsAs, IsExact, FitsEntity, first_position, exchanged, lowered}
use Rattle.lower_law.proofs.Things.{entry_first}
use Rattle.lower_law.proofs.Lowering.{exact}

twice : (z i : ℕ) → exchanged z (exchanged z i) ≡ i
twice z i = grind (arith, nat_tests)

get_seam : (pre : List PlainPoint) (p : PlainPoint) (ps : List PlainPoint) → slice_get (pre ++ p ∷ ps) (length pre) ≡ Some p
get_seam [] p ps = refl
get_seam (x ∷ pre) p ps = get_seam pre p ps

stands_list : (z : ℕ) (ps pre : List PlainPoint) → StandsAs (exchanged z) (λ k. slice_get (pre ++ ps) (exchanged z k)) (length pre) ps
stands_list z [] pre = tt
stands_list z (p ∷ ps) pre =
    let e : length (pre ++ p ∷ []) ≡ length pre + 1 = omega (arith, length-append pre (p ∷ [])) in
    let rest = stands_list z ps (pre ++ p ∷ []) in
    let rest' = subst (λ l. StandsAs (exchanged z) (λ k. slice_get l (exchanged z k)) (length (pre ++ p ∷ [])) ps) (append_assoc pre (p ∷ []) ps) rest in (
      ap (slice_get (pre ++ p ∷ ps)) (twice z (length pre)) ∙ get_seam pre p ps,
      subst (λ n. StandsAs (exchanged z) (λ k. slice_get (pre ++ p ∷ ps) (exchanged z k)) n ps) e rest',
    )

-- ---- which point comes first doesn't depend on the numbers
abbrev map_some : (ℕ → ℕ) → Option ℕ → Option ℕ
map_some f None = None
map_some f (Some n) = Some (f n)

module _ (width : ℕ → Width) (bits : Bits) (number : ℕ → ℕ) (temp base : ℕ) (fun : ℕ → CellFunction) (rooms : ℕ → ℕ) (calls calls' : ℕ → Plan) (same : (b : CellBlock) → size_all number temp fun rooms calls b ≡ size_all (λ i. i) temp fun rooms calls' b) (same_one : (s : CellStatement) → size number temp fun rooms calls s ≡ size (λ i. i) temp fun rooms calls' s) where
  entry_number : (b : CellBlock) (at : ℕ) (after after' : Nexts) → first (val width bits) after ≡ map_some number (first (val width bits) after') → first (val width bits) (entry_all number temp fun rooms calls base at b after) ≡ map_some number (first (val width bits) (entry_all (λ i. i) temp fun rooms calls' base at b after'))
  entry_number Nil at after after' e = e
  entry_number (Cons (Block x) rest) at after after' e =
      entry_number x at _ _ (entry_number rest (at + size number temp fun rooms calls (Block x)) after after' e
      ∙ ap (λ m. map_some number (first (val width bits) (entry_all (λ i. i) temp fun rooms calls' base (at + m) rest after'))) (same_one (Block x)))
  entry_number (Cons s rest) at after after' e =
      entry_first 0 width number (items_all base temp (questions s)) at bits ∙ ap (map_some number) (sym (entry_first 0 width (λ i. i) (items_all base temp (questions s)) at bits))

record SameSizes (calls calls' : ℕ → Plan) : Type 0 where
  is : (f : ℕ) → (calls f).size ≡ (calls' f).size

module _ (number : ℕ → ℕ) (temp : ℕ) (fun : ℕ → CellFunction) (rooms : ℕ → ℕ) (calls calls' : ℕ → Plan) (sizes : SameSizes calls calls') where
  mutual
    size_same : (s : CellStatement) → size number temp fun rooms calls s ≡ size (λ i. i) temp fun rooms calls' s
    size_same (If p c a b) = let x = all_same a in let y = all_same b in omega arith
    size_same (Loop p c a b) = let x = all_same a in let y = all_same b in omega arith
    size_same (Block b) = all_same b
    size_same (Call p f args into) = let x = sizes.is f in omega arith
    size_same (Set p at t e) = refl
    size_same (Write p c t e) = refl
    size_same (WriteAt p c len t i e) = refl
    size_same (Assert p e) = refl
    size_same (Input p at t) = refl
    size_same (Return p e) = refl
    size_same (Serve p s) = refl

    all_same : (b : CellBlock) → size_all number temp fun rooms calls b ≡ size_all (λ i. i) temp fun rooms calls' b
    all_same Nil = refl
    all_same (Cons s b) = let x = size_same s in let y = all_same b in omega arith

plans_same : (number : ℕ → ℕ) (temp : ℕ) (unit : CellUnit) (d : ℕ) → SameSizes (plan_to number temp unit d) (plan_to (λ i. i) temp unit d)
plans_same number temp unit zero = record { is = λ f. refl }
plans_same number temp unit (suc d) =
    record { is = λ f. ap (λ n. n + closing_size (unit.fun f).gives) (all_same number temp unit.fun (rooms_to unit d) (plan_to number temp unit d) (plan_to (λ i. i) temp unit d) (plans_same number temp unit d) (unit.fun f).body) }

module _ (unit : CellUnit) (depth : ℕ) (lay : Layout) (width : ℕ → Width) (e : ℕ) where
  starts_at : (number : ℕ → ℕ) (gives : Bool) → gives ≡ false → first (val width (λ i. 0)) (entry_all number (lay.temp e) unit.fun (rooms_to unit depth) (plan_to number (lay.temp e) unit depth) (lay.first e) 0 (unit.entity e).body (close_entry number gives (outer (lay.first e)) (0 + size_all number (lay.temp e) unit.fun (rooms_to unit depth) (plan_to number (lay.temp e) unit depth) (unit.entity e).body))) ≡ map_some number (first (val width (λ i. 0)) (entry_all (λ i. i) (lay.temp e) unit.fun (rooms_to unit depth) (plan_to (λ i. i) (lay.temp e) unit depth) (lay.first e) 0 (unit.entity e).body (close_entry (λ i. i) gives (outer (lay.first e)) (0 + size_all (λ i. i) (lay.temp e) unit.fun (rooms_to unit depth) (plan_to (λ i. i) (lay.temp e) unit depth) (unit.entity e).body))))
  starts_at number true v = absurd (cc)
  starts_at number false v =
      let ps = plan_to number (lay.temp e) unit depth in
      let qs = plan_to (λ (i : ℕ). i) (lay.temp e) unit depth in
      let rs = rooms_to unit depth in
      let sz = plans_same number (lay.temp e) unit depth in
      let b = (unit.entity e).body in
      entry_number width (λ i. 0) number (lay.temp e) (lay.first e) unit.fun rs ps qs (all_same number (lay.temp e) unit.fun rs ps qs sz) (size_same number (lay.temp e) unit.fun rs ps qs sz) b 0 _ _
      (ap (λ m. Some (number (0 + m))) (all_same number (lay.temp e) unit.fun rs ps qs sz b))

  some_first : (o : Option ℕ) (z : ℕ) → or_zero o ≡ z → or_zero (map_some (exchanged z) o) ≡ 0
  some_first None z h = refl
  some_first (Some n) z h = ap (exchanged z) h ∙ here z where
    here : (z : ℕ) → exchanged z z ≡ 0
    here z = grind (arith, nat_tests)

  -- the first point that runs has the number 0
  pub starts_first : (unit.entity e).gives ≡ false
      → or_zero (first (val width (λ i. 0)) (entry_of_entity (exchanged (first_position unit depth lay width e)) (lay.temp e) unit depth (lay.first e) (unit.entity e))) ≡ 0
  starts_first void = let z = first_position unit depth lay width e in ap or_zero (starts_at (exchanged z) (unit.entity e).gives void) ∙ some_first _ z refl

  -- lowering is exact for every unit that fits
  pub exact_lowered : FitsEntity unit depth lay width e → IsExact unit depth lay (lowered unit depth lay width) e
  exact_lowered fe =
      let z = first_position unit depth lay width e in
      let number = exchanged z in
      exact unit depth lay (lowered unit depth lay width) number e (record {
        fits = fe.fits;
        plain = fe.plain;
        room = fe.room;
        void = fe.void;
        points = stands_list z (points_of_entity number (lay.temp e) unit depth (lay.first e) (unit.entity e)) [];
        starts = starts_first fe.void;
      })
