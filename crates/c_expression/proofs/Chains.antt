-- The further operands of a level, one after another.
use Rattle.std.proofs.Common.{◌≡◌, ℕ, zero, suc, ◌<◌, true, false, List, Result, Ok, Err, refl, sym, ap, subst, ◌∙◌, arith}
use Rattle.std.specs.Prelude.{IfOk}
use Rattle.std.specs.List.{fold}
use Rattle.grammar.specs.Grammar.{Expression as Expr, Rule, Many, Tree, Nil, Leaf, Pair, Left, Right, Node, items, ◌▸◌}
use Rattle.grammar.specs.Lookahead.{next_decides}
use Rattle.grammar.specs.Reading.{Got, Stuck, begins, and_then}
use Rattle.chk_base.specs.declared.place.Place.{Place}
use Rattle.c_lex.specs.declared.token.Token.{Token}
use Rattle.c_grammar.specs.Next.{lookahead, classes}
use Rattle.c_grammar.specs.Factored.{Part, TheLevel, joined}
use Rattle.c_grammar.specs.Trees.{written_tree}
use Rattle.c_grammar.specs.Written.{one_of, operators}
use Rattle.c_unit.specs.declared.expression.Expression.{Expression}
use Rattle.c_unit.specs.declared.expression.Expression.TheVariants as e
use Rattle.c_unit.specs.declared.expression.BinaryOperator.{BinaryOperator}
use Rattle.c_expression.specs.declared.stop.Stop.{Stop}
use Rattle.c_expression.specs.declared.stop.Stop.TheVariants as stops
use Rattle.c_expression.specs.Expressions.{level_of, chain_of, linked, joined_of}
use Rattle.c_expression.specs.Lexemes.{binary_of, place_at}
use Rattle.c_expression.specs.Reads.{class_at, reads, tree_at, written_at, Stops, Gives}
use Rattle.c_expression.proofs.Lists

-- an operator and its right operand
abbrev pub more : ℕ → Expr Part
more k = one_of (operators k) ▸ Rule (TheLevel k)

low : (k : ℕ) → k < 10 → next_decides lookahead (Many (more k)) ≡ true
unfolding lookahead
low zero h = refl
low (suc zero) h = refl
low (suc (suc zero)) h = refl
low (suc (suc (suc zero))) h = refl
low (suc (suc (suc (suc zero)))) h = refl
low (suc (suc (suc (suc (suc zero))))) h = refl
low (suc (suc (suc (suc (suc (suc zero)))))) h = refl
low (suc (suc (suc (suc (suc (suc (suc zero))))))) h = refl
low (suc (suc (suc (suc (suc (suc (suc (suc zero)))))))) h = refl
low (suc (suc (suc (suc (suc (suc (suc (suc (suc zero))))))))) h = refl
low (suc (suc (suc (suc (suc (suc (suc (suc (suc (suc k)))))))))) h = absurd (omega (arith, h))

abbrev pub link : ℕ → Expression → Tree Token → Expression
link k left x = linked k left (written_tree (more k) x)

abbrev pub SoFar : ℕ → Expression → List Token → Expression → List Token → Type 0
SoFar k empty start value rest = Lists.SoFar (more k) (link k) empty start value rest

pub starts : (k : ℕ) → k < 10 → (empty : Expression) (start : List Token) → SoFar k empty start empty start
starts k lt empty start = Lists.starts (more k) (low k lt) (link k) empty start

got_more : (k : ℕ) (ts r r2 : List Token) (o t : Tree Token) → reads (one_of (operators k)) ts ≡ Got o r → reads (Rule (TheLevel k)) r ≡ Got t r2 → reads (more k) ts ≡ Got (Pair o t) r2
got_more k ts r r2 o t h g = ap (λ a. and_then a (λ x s. and_then (reads (Rule (TheLevel k)) s) (λ y u. Got (Pair x y) u))) h ∙ ap (λ a. and_then a (λ y u. Got (Pair o y) u)) g

goes_on : (k : ℕ) → k < 10 → (empty : Expression) (start ts : List Token) (left : Expression) (place : Place) (op : BinaryOperator) (r : List Token) (right : Expression) (r2 : List Token) → begins class_at (classes (operators k)) ts ≡ true → reads (one_of (operators k)) ts ≡ Got (tree_at (one_of (operators k)) ts) r → place_at (written_at (one_of (operators k)) ts) ≡ place → binary_of (written_at (one_of (operators k)) ts) ≡ op → reads (Rule (TheLevel k)) r ≡ Got (tree_at (Rule (TheLevel k)) r) r2 → level_of k (written_at (Rule (TheLevel k)) r) ≡ right → SoFar k empty start left ts → SoFar k empty start (e.Binary place op left right) r2
goes_on k lt empty start ts left place op r right r2 b h q m g n p =
    let both = got_more k ts r r2 (tree_at (one_of (operators k)) ts) (tree_at (Rule (TheLevel k)) r) h g in
    let at = Lists.got_at (more k) ts (Pair (tree_at (one_of (operators k)) ts) (tree_at (Rule (TheLevel k)) r)) r2 both in
    let next : link k left (tree_at (more k) ts) ≡ e.Binary place op left right = ap (link k left) at ∙ rw (q, m, n) refl in
    Lists.goes_on (more k) (low k lt) (link k) empty start ts left (e.Binary place op left right) r2 b (both ∙ ap (λ x. Got x r2) (sym at)) next p

-- the same with the value that was made of both
pub goes_on_linked : (k : ℕ) → k < 10 → (empty : Expression) (start ts : List Token) (left : Expression) (place : Place) (op : BinaryOperator) (r : List Token) (right : Expression) (r2 : List Token) (value : Expression) → value ≡ e.Binary place op left right
    → begins class_at (classes (operators k)) ts ≡ true → reads (one_of (operators k)) ts ≡ Got (tree_at (one_of (operators k)) ts) r → place_at (written_at (one_of (operators k)) ts) ≡ place → binary_of (written_at (one_of (operators k)) ts) ≡ op
    → reads (Rule (TheLevel k)) r ≡ Got (tree_at (Rule (TheLevel k)) r) r2 → level_of k (written_at (Rule (TheLevel k)) r) ≡ right → SoFar k empty start left ts → SoFar k empty start value r2
goes_on_linked k lt empty start ts left place op r right r2 value d b h q m g n p =
    subst (λ (v : Expression). SoFar k empty start v r2) (sym d) (goes_on k lt empty start ts left place op r right r2 b h q m g n p)

stuck_more : (k : ℕ) (ts r r2 : List Token) (o : Tree Token) → reads (one_of (operators k)) ts ≡ Got o r → reads (Rule (TheLevel k)) r ≡ Stuck r2 → reads (more k) ts ≡ Stuck r2
stuck_more k ts r r2 o h g = ap (λ a. and_then a (λ x s. and_then (reads (Rule (TheLevel k)) s) (λ y u. Got (Pair x y) u))) h ∙ ap (λ a. and_then a (λ y u. Got (Pair o y) u)) g

stops_more : (k : ℕ) (ts r : List Token) (o : Tree Token) (stop : Stop) → reads (one_of (operators k)) ts ≡ Got o r → Stops stop (reads (Rule (TheLevel k)) r) → Stops stop (reads (more k) ts)
stops_more k ts r o stops.Memory h g = tt
stops_more k ts r o (stops.At rest) h g = stuck_more k ts r rest.now o h g

pub breaks : (k : ℕ) → k < 10 → (empty : Expression) (start ts : List Token) (left : Expression) (r : List Token) (stop : Stop) → begins class_at (classes (operators k)) ts ≡ true → reads (one_of (operators k)) ts ≡ Got (tree_at (one_of (operators k)) ts) r → Stops stop (reads (Rule (TheLevel k)) r) → SoFar k empty start left ts → Stops stop (reads (Many (more k)) start)
breaks k lt empty start ts left r stop b h g p = Lists.breaks (more k) (low k lt) (link k) empty start ts left stop b (stops_more k ts r (tree_at (one_of (operators k)) ts) stop h g) p

pub done_gives : (k : ℕ) → k < 10 → (empty : Expression) (start ts : List Token) (value : Expression) → begins class_at (classes (operators k)) ts ≡ false → SoFar k empty start value ts → reads (Many (more k)) start ≡ Got (tree_at (Many (more k)) start) ts
done_gives k lt empty start ts value b p = Lists.done_gives (more k) (low k lt) (link k) empty start ts value b p

chained : (k : ℕ) (left : Expression) (m : Tree Token) → chain_of k left (written_tree (Many (more k)) m) ≡ fold (link k) left (items m)
chained k left (Pair x y) = chained k (link k left x) y
chained k left Nil = refl
chained k left (Leaf t) = refl
chained k left (Left x) = refl
chained k left (Right x) = refl
chained k left (Node x) = refl

pub done_means : (k : ℕ) → k < 10 → (empty : Expression) (start ts : List Token) (value : Expression) → begins class_at (classes (operators k)) ts ≡ false → SoFar k empty start value ts → chain_of k empty (written_at (Many (more k)) start) ≡ value
done_means k lt empty start ts value b p = chained k empty (tree_at (Many (more k)) start) ∙ Lists.done_means (more k) (low k lt) (link k) empty start ts value b p

-- ---- the levels below k and then those of level k

pair_read : (k : ℕ) (ts r s : List Token) (x m : Tree Token) → reads (joined k) ts ≡ Got x r → reads (Many (more k)) r ≡ Got m s → reads (joined (suc k)) ts ≡ Got (Pair x m) s
pair_read k ts r s x m h g = ap (λ a. and_then a (λ y u. and_then (reads (Many (more k)) u) (λ z v. Got (Pair y z) v))) h ∙ ap (λ a. and_then a (λ z v. Got (Pair x z) v)) g

pair_stuck : (k : ℕ) (ts r s : List Token) (x : Tree Token) → reads (joined k) ts ≡ Got x r → reads (Many (more k)) r ≡ Stuck s → reads (joined (suc k)) ts ≡ Stuck s
pair_stuck k ts r s x h g = ap (λ a. and_then a (λ y u. and_then (reads (Many (more k)) u) (λ z v. Got (Pair y z) v))) h ∙ ap (λ a. and_then a (λ z v. Got (Pair x z) v)) g

module _ {X : Type 0} (left : X → List Token) (value : X → Expression) where
  next_gives : (k : ℕ) (result : Result X Stop) (ts r : List Token) → reads (joined k) ts ≡ Got (tree_at (joined k) ts) r → Gives left result (Many (more k)) r → Gives left result (joined (suc k)) ts
  next_gives k (Ok x) ts r h g =
      let both = pair_read k ts r (left x) (tree_at (joined k) ts) (tree_at (Many (more k)) r) h g in
      both ∙ ap (λ t. Got t (left x)) (sym (Lists.got_at (joined (suc k)) ts (Pair (tree_at (joined k) ts) (tree_at (Many (more k)) r)) (left x) both))
  next_gives k (Err stops.Memory) ts r h g = tt
  next_gives k (Err (stops.At s)) ts r h g = pair_stuck k ts r s.now (tree_at (joined k) ts) h g

  next_means : (k : ℕ) (result : Result X Stop) (first before : Expression) (ts r : List Token) → reads (joined k) ts ≡ Got (tree_at (joined k) ts) r → joined_of k first (written_at (joined k) ts) ≡ before → Gives left result (Many (more k)) r → IfOk result (λ x. chain_of k before (written_at (Many (more k)) r) ≡ value x) → IfOk result (λ x. joined_of (suc k) first (written_at (joined (suc k)) ts) ≡ value x)
  next_means k (Ok x) first before ts r h m g n =
      let both = pair_read k ts r (left x) (tree_at (joined k) ts) (tree_at (Many (more k)) r) h g in
      let at = Lists.got_at (joined (suc k)) ts (Pair (tree_at (joined k) ts) (tree_at (Many (more k)) r)) (left x) both in
      ap (λ t. joined_of (suc k) first (written_tree (joined (suc k)) t)) at ∙ ap (λ v. chain_of k v (written_at (Many (more k)) r)) m ∙ n
  next_means k (Err e) first before ts r h m g n = tt

  pub joined_gives : (k below : ℕ) → k ≡ suc below → (result : Result X Stop) (ts r : List Token) → reads (joined below) ts ≡ Got (tree_at (joined below) ts) r → Gives left result (Many (more below)) r → Gives left result (joined k) ts
  joined_gives k below e result ts r h g = subst (λ (n : ℕ). Gives left result (joined n) ts) (sym e) (next_gives below result ts r h g)

  pub joined_means : (k below : ℕ) → k ≡ suc below → (result : Result X Stop) (first before : Expression) (ts r : List Token) → reads (joined below) ts ≡ Got (tree_at (joined below) ts) r → joined_of below first (written_at (joined below) ts) ≡ before → Gives left result (Many (more below)) r → IfOk result (λ x. chain_of below before (written_at (Many (more below)) r) ≡ value x) → IfOk result (λ x. joined_of k first (written_at (joined k) ts) ≡ value x)
  joined_means k below e result first before ts r h m g n = subst (λ (n : ℕ). IfOk result (λ x. joined_of n first (written_at (joined n) ts) ≡ value x)) (sym e) (next_means below result first before ts r h m g n)
