-- A body begins at one of its points.
use Rattle.std.proofs.Common.{◌≡◌, ℕ, suc, ◌+◌, ◌<◌, ◌≤◌, Bool, true, false, if◌then◌else◌, List, [], ◌∷◌, ◌++◌, length, Some, None, sym, ap, subst, arith}
use Rattle.chk_base.specs.declared.place.Place.{Place}
use Rattle.chk_base.specs.declared.word.Width.{Width}
use Rattle.chk_base.specs.Operators.{truth}
use Rattle.chk_base.specs.Term.{Term, Const}
use Rattle.step_ir.specs.Points.{PlainAction}
use Rattle.step_ir.specs.PointStep.{Bits, val, first, or_zero}
use Rattle.lower_law.specs.Items.{Item, Site, Check, guarded, sites_all, terms_all, items_all}
use Rattle.lower_law.specs.Lowered.{Nexts, Plan, action_of, always, behind, close_entry, entry, entry_all, entry_of_entity, nexts_of, outer, own_points, plan_to, size, size_all, thing}
use Rattle.lower_law.specs.Statements.{CellStatement, Set, Write, WriteAt, If, Loop, Assert, Input, Call, Return, Serve, Block, CellBlock, Nil, Cons, CellFunction, CellUnit, questions, place_of, rooms_to}
use Rattle.lower_law.proofs.Sizes.{AreSized, length_own, sized_to}
use Rattle.lower_law.proofs.Things.{entry_first, next_at}
use Rattle.lower_law.proofs.Walk.{holds}

-- the next read is one of a thing's points, or else the completing one comes
next_low : (v : Term → ℕ) (number : ℕ → ℕ) (place : Place) (action : PlainAction) (nexts : Nexts) (is : List Item) (traps : List (Term × ℕ)) (at : ℕ)
    → next_at 0 v at is < at + length (thing number place action nexts traps at is)
next_low v number place action nexts [] traps at = omega arith
next_low v number place action nexts (Check g t f ∷ is) traps at = next_low v number place action nexts is (traps ++ (guarded g t, f) ∷ []) at
next_low v number place action nexts (Site g t into ∷ is) traps at =
    let ih = next_low v number place action nexts is (behind g traps) (at + 1) in
    by (holds v g) (next_at 0 v (at + 1) is) (length (thing number place action nexts (behind g traps) (at + 1) is)) ih
  where
    by : (b : Bool) (next long : ℕ) → next < at + 1 + long → (if b then at else next) < at + suc long
    by true next long h = omega arith
    by false next long h = omega (arith, h)

-- the end of a body is where it is
always_low : (v : Term → ℕ) (m : ℕ) → or_zero (first v (always (λ i. i) m)) ≤ m
always_low v m = by (truth (v (Const 1))) where
  by : (b : Bool) → or_zero (if b then Some m else None) ≤ m
  by true = omega arith
  by false = omega arith

-- a thing has its own points
abbrev IsThing : CellStatement → Type 0
IsThing (Block b) = ⊥
IsThing s = Unit {0}

module _ (width : ℕ → Width) (bits : Bits) (base temp : ℕ) (fun : ℕ → CellFunction) (rooms : ℕ → ℕ) (calls : ℕ → Plan) (sized : AreSized calls) where
  -- the position where an entity goes on
  abbrev first_at : Nexts → ℕ
  first_at xs = or_zero (first (val width bits) xs)

  -- as many points as it reads values, and one more
  own_low : (s : CellStatement) → IsThing s → sites_all (questions s) + 1 ≤ size (λ i. i) temp fun rooms calls s
  own_low (Block b) h = absurd h
  own_low (If p c a b) h = omega arith
  own_low (Loop p c a b) h = omega arith
  own_low (Call p f args into) h = omega arith
  own_low (Set p at t e) h = omega arith
  own_low (Write p c t e) h = omega arith
  own_low (WriteAt p c len t i e) h = omega arith
  own_low (Assert p e) h = omega arith
  own_low (Input p at t) h = omega arith
  own_low (Return p e) h = omega arith
  own_low (Serve p s) h = omega arith

  -- it begins at one of them
  thing_low : (s : CellStatement) (at : ℕ) → first_at (entry (λ i. i) at (items_all base temp (questions s))) < at + (sites_all (questions s) + 1)
  thing_low s at =
      let ctx = outer base in
      let is = items_all base temp (questions s) in
      let ts = terms_all base temp (questions s) in
      let action = action_of (λ i. i) temp fun rooms calls ctx 0 s ts in
      let nexts = nexts_of (λ i. i) temp fun rooms calls ctx at 0 s ts [] in
      let e : first_at (entry (λ i. i) at is) ≡ next_at 0 (val width bits) at is = ap or_zero (entry_first 0 width (λ i. i) is at bits) in
      let l : next_at 0 (val width bits) at is < at + length (own_points (λ i. i) temp fun rooms calls ctx at 0 s []) = next_low (val width bits) (λ i. i) (place_of s) action nexts is [] at in
      let k = length_own (λ i. i) temp fun rooms calls sized ctx at 0 s [] in
      subst (λ (n : ℕ). n < at + (sites_all (questions s) + 1)) (sym e) (subst (λ (n : ℕ). next_at 0 (val width bits) at is < at + n) k l)

  -- a block begins at one of its points, or where it goes on behind it
  block_low : (b : CellBlock) (at m : ℕ) (after : Nexts) → first_at after < m → at + size_all (λ i. i) temp fun rooms calls b ≤ m → first_at (entry_all (λ i. i) temp fun rooms calls base at b after) < m
  block_low Nil at m after h le = h
  block_low (Cons (Block x) rest) at m after h le =
      block_low x at m (entry_all (λ i. i) temp fun rooms calls base (at + size (λ i. i) temp fun rooms calls (Block x)) rest after)
      (block_low rest (at + size (λ i. i) temp fun rooms calls (Block x)) m after h (omega (arith, le))) (omega (arith, le))
  block_low (Cons (If p c a b) rest) at m after h le = let l = thing_low (If p c a b) at in let k = own_low (If p c a b) tt in omega (arith, le, l, k)
  block_low (Cons (Loop p c a b) rest) at m after h le = let l = thing_low (Loop p c a b) at in let k = own_low (Loop p c a b) tt in omega (arith, le, l, k)
  block_low (Cons (Call p f args into) rest) at m after h le = let l = thing_low (Call p f args into) at in let k = own_low (Call p f args into) tt in omega (arith, le, l, k)
  block_low (Cons (Set p i t e) rest) at m after h le = let l = thing_low (Set p i t e) at in let k = own_low (Set p i t e) tt in omega (arith, le, l, k)
  block_low (Cons (Write p c t e) rest) at m after h le = let l = thing_low (Write p c t e) at in let k = own_low (Write p c t e) tt in omega (arith, le, l, k)
  block_low (Cons (WriteAt p c len t i e) rest) at m after h le = let l = thing_low (WriteAt p c len t i e) at in let k = own_low (WriteAt p c len t i e) tt in omega (arith, le, l, k)
  block_low (Cons (Assert p e) rest) at m after h le = let l = thing_low (Assert p e) at in let k = own_low (Assert p e) tt in omega (arith, le, l, k)
  block_low (Cons (Input p i t) rest) at m after h le = let l = thing_low (Input p i t) at in let k = own_low (Input p i t) tt in omega (arith, le, l, k)
  block_low (Cons (Return p e) rest) at m after h le = let l = thing_low (Return p e) at in let k = own_low (Return p e) tt in omega (arith, le, l, k)
  block_low (Cons (Serve p s) rest) at m after h le = let l = thing_low (Serve p s) at in let k = own_low (Serve p s) tt in omega (arith, le, l, k)

-- the body of an entity has no result, so that its end is a point of its own
pub begins_low : (width : ℕ → Width) (bits : Bits) (temp : ℕ) (unit : CellUnit) (d base : ℕ) (f : CellFunction) → f.gives ≡ false
    → or_zero (first (val width bits) (entry_of_entity (λ i. i) temp unit d base f)) < size_all (λ i. i) temp unit.fun (rooms_to unit d) (plan_to (λ i. i) temp unit d) f.body + 1
begins_low width bits temp unit d base f void = by f.gives void where
  by : (gives : Bool) → gives ≡ false
      → or_zero (first (val width bits) (entry_all (λ i. i) temp unit.fun (rooms_to unit d) (plan_to (λ i. i) temp unit d) base 0 f.body (close_entry (λ i. i) gives (outer base) (0 + size_all (λ i. i) temp unit.fun (rooms_to unit d) (plan_to (λ i. i) temp unit d) f.body))))
      < size_all (λ i. i) temp unit.fun (rooms_to unit d) (plan_to (λ i. i) temp unit d) f.body + 1
  by true v = absurd (cc)
  by false v =
      let total = size_all (λ i. i) temp unit.fun (rooms_to unit d) (plan_to (λ i. i) temp unit d) f.body in
      let low = always_low (val width bits) (0 + total) in
      block_low width bits base temp unit.fun (rooms_to unit d) (plan_to (λ i. i) temp unit d) (sized_to (λ i. i) temp unit d) f.body 0 (total + 1) (always (λ i. i) (0 + total)) (omega (arith, low)) (omega arith)
