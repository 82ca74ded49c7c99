-- A body that fits begins below the bound.
use Rattle.std.proofs.Common.{◌≡◌, ℕ, ◌+◌, ◌^◌, List, Option, Some, None, refl, subst, arith}
use Rattle.lower_law.specs.Statements.{CellStatement, Set, Write, WriteAt, If, Loop, Assert, Input, Call, Return, Serve, Block, CellBlock, Nil, Cons}
use Rattle.lower_pieces.specs.declared.tree.FunctionTree.{FunctionTree}
use Rattle.lower_pieces.specs.Firsts.{or_else, first_in, first_thing}
use Rattle.lower_pieces.specs.Fitting.{OwnFits, Fits, AllFit}
use Rattle.lower_pieces.specs.Sized.{sized, sized_all}
use Rattle.lower_pieces.specs.Within.{IfBelow}
use Rattle.lower_pieces.proofs.Expansion.{IsNone}

module _ (sizes : ℕ → ℕ) where
  -- a block without a thing has no point
  mutual
    sized_none : (s : CellStatement) → IsNone (first_in s) → sized sizes s ≡ 0
    sized_none (Block b) e = sized_none_all b e
    sized_none (Set p at t v) e = absurd e
    sized_none (Write p c t v) e = absurd e
    sized_none (WriteAt p c len t i v) e = absurd e
    sized_none (If p c a b) e = absurd e
    sized_none (Loop p c a b) e = absurd e
    sized_none (Assert p v) e = absurd e
    sized_none (Input p at t) e = absurd e
    sized_none (Call p f args into) e = absurd e
    sized_none (Return p v) e = absurd e
    sized_none (Serve p v) e = absurd e

    sized_none_all : (b : CellBlock) → IsNone (first_thing b) → sized_all sizes b ≡ 0
    sized_none_all Nil e = refl
    sized_none_all (Cons s b) e = by (first_in s) (sized_none s) (sized_none_all b) e where
      by : (o : Option CellStatement) → (IsNone o → sized sizes s ≡ 0) → (IsNone (first_thing b) → sized_all sizes b ≡ 0) → IsNone (or_else o (first_thing b)) → sized sizes s + sized_all sizes b ≡ 0
      by None p q e = let h = p tt in let k = q e in omega arith
      by (Some x) p q e = absurd e

  module _ (functions : List FunctionTree) (rooms : ℕ → ℕ) (temp base : ℕ) where
    -- the own numbers of a thing are those that are asked for where it begins
    own_begins : (s : CellStatement) (at cell : ℕ) → OwnFits (2 ^ 16) functions sizes rooms temp base at cell s → IfBelow (2 ^ 16) base temp at (Some s)
    own_begins s at cell h = let p = h.points in (h.locals, h.values, omega (arith, p))

    mutual
      one_begins : (s : CellStatement) (at cell : ℕ) → Fits (2 ^ 16) functions sizes rooms temp base at cell s → IfBelow (2 ^ 16) base temp at (first_in s)
      one_begins (Block b) at cell h = all_begin b at cell h
      one_begins (Set p l t v) at cell h = own_begins (Set p l t v) at cell h
      one_begins (Write p c t v) at cell h = own_begins (Write p c t v) at cell h
      one_begins (WriteAt p c len t i v) at cell h = own_begins (WriteAt p c len t i v) at cell h
      one_begins (If p c a b) at cell h = own_begins (If p c a b) at cell h.0
      one_begins (Loop p c a b) at cell h = own_begins (Loop p c a b) at cell h.0
      one_begins (Assert p v) at cell h = own_begins (Assert p v) at cell h
      one_begins (Input p l t) at cell h = own_begins (Input p l t) at cell h
      one_begins (Call p f args into) at cell h = own_begins (Call p f args into) at cell h
      one_begins (Return p v) at cell h = own_begins (Return p v) at cell h
      one_begins (Serve p v) at cell h = own_begins (Serve p v) at cell h

      pub all_begin : (b : CellBlock) (at cell : ℕ) → AllFit (2 ^ 16) functions sizes rooms temp base at cell b → IfBelow (2 ^ 16) base temp at (first_thing b)
      all_begin Nil at cell h = tt
      all_begin (Cons s b) at cell h = by (first_in s) (sized_none s) (one_begins s at cell h.0) h.1 where
        by : (o : Option CellStatement) → (IsNone o → sized sizes s ≡ 0) → IfBelow (2 ^ 16) base temp at o → IfBelow (2 ^ 16) base temp (at + sized sizes s) (first_thing b)
            → IfBelow (2 ^ 16) base temp at (or_else o (first_thing b))
        by None p x y = let e = p tt in subst (λ (k : ℕ). IfBelow (2 ^ 16) base temp k (first_thing b)) (omega (arith, e)) y
        by (Some t) p x y = x
