-- One more of a list that is gone through.
use Rattle.std.proofs.Common.{◌≡◌, ℕ, ◌+◌, ◌<◌, List, ◌∷◌, ◌++◌, length, drop, get_or, min, Option, append_assoc, refl, ap, ap₂, sym, subst, ◌∙◌, ◌≤◌, arith, [], zero, suc}
use Rattle.std.specs.Prelude.{map, remove, slice_index_or}
use Rattle.std.proofs.lemmas.List.{drop_more}
use Rattle.chk_base.specs.declared.expr.Expr.{Expr}
use Rattle.chk_base.specs.declared.place.Place.{Place}
use Rattle.step_ir.specs.Points.{PlainAction, PlainPoint, PlainTarget, Read}
use Rattle.step_ir.specs.Points as code
use Rattle.chk_base.specs.Term.{Term, term_of}
use Rattle.lower_law.specs.Lowered.{sets}
use Rattle.lower_law.specs.Typed.{CType}
use Rattle.lower_law.specs.Statements.{Cons, block}
use Rattle.lower_pieces.specs.declared.evaluation.Item.{Item}
use Rattle.lower_pieces.specs.declared.tree.ExpressionTree.{ExpressionTree}
use Rattle.lower_pieces.specs.declared.tree.StatementTree.{StatementTree}
use Rattle.lower_pieces.specs.Joined.{JoinedItem, Reads, item_of, items_of}
use Rattle.lower_pieces.specs.Steps.{behind_joined, entry_joined, thing_joined}
use Rattle.lower_pieces.specs.Trees.{tree_of, statement_of}

pub block_more : (ss : List StatementTree) (i : ℕ) (d : StatementTree) → i < length ss → block (map statement_of (drop i ss)) ≡ Cons (statement_of (get_or ss i d)) (block (map statement_of (drop (i + 1) ss)))
block_more ss i d h = ap (λ xs. block (map statement_of xs)) (drop_more ss i d h)

pub trees_more : (es : List ExpressionTree) (i : ℕ) (d : ExpressionTree) → i < length es → map tree_of (drop i es) ≡ tree_of (get_or es i d) ∷ map tree_of (drop (i + 1) es)
trees_more es i d h = ap (λ xs. map tree_of xs) (drop_more es i d h)

pub items_more : (is : List Item) (i : ℕ) (d : Item) → i < length is → items_of (drop i is) ≡ item_of (get_or is i d) ∷ items_of (drop (i + 1) is)
items_more is i d h = ap (λ xs. items_of xs) (drop_more is i d h)

pub pairs_more : (xs : List (Expr × ℕ)) (i : ℕ) (d : Expr × ℕ) → i < length xs → map code.item_of (drop i xs) ≡ code.item_of (get_or xs i d) ∷ map code.item_of (drop (i + 1) xs)
pairs_more xs i d h = ap (λ ys. map code.item_of ys) (drop_more xs i d h)

pub terms_more : (ts : List Expr) (i : ℕ) (d : Expr) → i < length ts → map term_of (drop i ts) ≡ term_of (get_or ts i d) ∷ map term_of (drop (i + 1) ts)
terms_more ts i d h = ap (λ ys. map term_of ys) (drop_more ts i d h)

-- a parameter that has a term is set
pub sets_more : (cell : ℕ) (params : List CType) (ts : List Expr) (i : ℕ) (d : Expr) → i < length ts → i < length params
    → sets cell (drop i params) (map term_of (drop i ts)) ≡ (cell, term_of (get_or ts i d)) ∷ sets (cell + 1) (drop (i + 1) params) (map term_of (drop (i + 1) ts))
sets_more cell [] ts i d h k = absurd (omega arith)
sets_more cell (p ∷ ps) [] i d h k = absurd (omega arith)
sets_more cell (p ∷ ps) (t ∷ ts) zero d h k = refl
sets_more cell (p ∷ ps) (t ∷ ts) (suc i) d h k =
    let e : suc (i + 1) ≡ suc i + 1 = omega arith in
    subst (λ j. sets cell (drop i ps) (map term_of (drop i ts)) ≡ (cell, term_of (get_or ts i d)) ∷ sets (cell + 1) (drop j (p ∷ ps)) (map term_of (drop j (t ∷ ts)))) e (sets_more cell ps ts i d (omega arith) (omega arith))

sets_none : (cell : ℕ) (params : List CType) → sets cell params [] ≡ []
sets_none cell [] = refl
sets_none cell (p ∷ ps) = refl

-- no parameter or no term is left
pub sets_end : (cell : ℕ) (params : List CType) (ts : List Expr) (i : ℕ) → min (length params) (length ts) ≤ i → sets cell (drop i params) (map term_of (drop i ts)) ≡ []
sets_end cell [] ts zero h = refl
sets_end cell [] ts (suc i) h = refl
sets_end cell (p ∷ ps) [] zero h = refl
sets_end cell (p ∷ ps) [] (suc i) h = sets_none cell (drop i ps)
sets_end cell (p ∷ ps) (t ∷ ts) zero h = absurd (omega arith)
sets_end cell (p ∷ ps) (t ∷ ts) (suc i) h = sets_end cell ps ts i (omega arith)

-- one more item that is a read, whose point is there
pub thing_read : (number : ℕ → ℕ) (place : Place) (action : PlainAction) (nexts traps left : List (Term × ℕ)) (at : ℕ) (g : Option Term) (t : PlainTarget) (n : ℕ) (is : List JoinedItem) (points whole new : List PlainPoint)
    → whole ≡ points ++ thing_joined number place action nexts traps at (Reads g t n ∷ is)
    → new ≡ points ++ (record { place = place; action = Read t n; traps = traps; nexts = entry_joined number (at + 1) is } ∷ [])
    → left ≡ behind_joined g traps
    → whole ≡ new ++ thing_joined number place action nexts left (at + 1) is
thing_read number place action nexts traps left at g t n is points whole new e f h =
    e
    ∙ sym (append_assoc points (record { place = place; action = Read t n; traps = traps; nexts = entry_joined number (at + 1) is } ∷ []) (thing_joined number place action nexts (behind_joined g traps) (at + 1) is))
    ∙ ap₂ (λ ps xs. ps ++ thing_joined number place action nexts xs (at + 1) is) (sym f) (sym h)

-- the first of a list, and what is left
pub first_left : (is : List Item) (x : Item) → 0 < length is → x ≡ slice_index_or is 0 x → items_of is ≡ item_of x ∷ items_of (remove is 0)
first_left [] x some e = absurd (omega arith)
first_left (i ∷ is) x some e = ap (λ j. item_of j ∷ items_of is) (sym e)

pub fewer_left : (is : List Item) → 0 < length is → length (remove is 0) < length is
fewer_left [] some = absurd (omega arith)
fewer_left (i ∷ is) some = omega arith
