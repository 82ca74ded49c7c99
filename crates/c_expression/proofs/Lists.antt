-- Reading many by a loop, item by item.
use Rattle.std.proofs.Common.{◌≡◌, true, false, List, [], ◌∷◌, map, refl, sym, ap, ◌∙◌}
use Rattle.std.specs.List.{fold}
use Rattle.grammar.specs.Grammar.{Expression, Many, Tree, Nil, Leaf, Pair, Left, Right, Node, items}
use Rattle.grammar.specs.Lookahead.{first, next_decides}
use Rattle.grammar.specs.Loop.{IsReadSoFar, IsReadMany, push}
use Rattle.grammar.specs.Reading.{Got, begins, the_tree}
use Rattle.grammar.proofs.Loops
use Rattle.grammar.proofs.Turns.{one_turn}
use Rattle.c_lex.specs.declared.token.Token.{Token}
use Rattle.c_grammar.specs.Next.{lookahead, part_firsts}
use Rattle.c_grammar.specs.Factored.{Part}
use Rattle.c_grammar.specs.Trees.{written_tree}
use Rattle.c_grammar.proofs.Decides.{decides}
use Rattle.c_expression.specs.declared.stop.Stop.{Stop}
use Rattle.c_expression.specs.declared.stop.Stop.TheVariants as stops
use Rattle.c_expression.specs.Reads.{class_at, reads, tree_at, Stops}

pub got_at : (e : Expression Part) (ts : List Token) (x : Tree Token) (r : List Token) → reads e ts ≡ Got x r → tree_at e ts ≡ x
unfolding tree_at
got_at e ts x r h = ap the_tree h

-- The loop began at start, has put the items that it has read together into the value, and has the rest to read.
abbrev pub SoFar : {V : Type 0} → Expression Part → (V → Tree Token → V) → V → List Token → V → List Token → Type 0
SoFar e add empty start value rest = IsReadSoFar lookahead e add empty start value rest

module _ {V : Type 0} (e : Expression Part) (low : next_decides lookahead (Many e) ≡ true) (add : V → Tree Token → V) (empty : V) where
  pub starts : (start : List Token) → SoFar e add empty start empty start
  starts start = Loops.starts lookahead e add empty start

  pub goes_on : (start ts : List Token) (value next : V) (r : List Token) → begins class_at (first part_firsts e) ts ≡ true → reads e ts ≡ Got (tree_at e ts) r → add value (tree_at e ts) ≡ next → SoFar e add empty start value ts → SoFar e add empty start next r
  unfolding lookahead
  goes_on start ts value next r b h m p = Loops.goes_on lookahead decides e low add empty start ts value next (tree_at e ts) r b h m p

  pub breaks : (start ts : List Token) (value : V) (stop : Stop) → begins class_at (first part_firsts e) ts ≡ true → Stops stop (reads e ts) → SoFar e add empty start value ts → Stops stop (reads (Many e) start)
  unfolding lookahead
  breaks start ts value stops.Memory b h p = tt
  breaks start ts value (stops.At r) b h p = sym (one_turn lookahead decides (Many e) low start) ∙ Loops.breaks lookahead decides e low add empty start ts value r.now b h p

  all_read : (start ts : List Token) (value : V) → begins class_at (first part_firsts e) ts ≡ false → SoFar e add empty start value ts → IsReadMany lookahead e add empty start value ts
  unfolding lookahead
  all_read start ts value b p = Loops.is_done lookahead decides e low add empty start ts value b p

  read_so : (start ts : List Token) (value : V) → IsReadMany lookahead e add empty start value ts → (tree : Tree Token) × (reads (Many e) start ≡ Got tree ts) × (fold add empty (items tree) ≡ value)
  unfolding lookahead
  read_so start ts value m = (m.tree, sym (one_turn lookahead decides (Many e) low start) ∙ m.answers, m.means)

  pub done_gives : (start ts : List Token) (value : V) → begins class_at (first part_firsts e) ts ≡ false → SoFar e add empty start value ts → reads (Many e) start ≡ Got (tree_at (Many e) start) ts
  done_gives start ts value b p =
      let m = read_so start ts value (all_read start ts value b p) in
      m.1 ∙ ap (λ x. Got x ts) (sym (got_at (Many e) start m.0 ts m.1))

  pub done_means : (start ts : List Token) (value : V) → begins class_at (first part_firsts e) ts ≡ false → SoFar e add empty start value ts → fold add empty (items (tree_at (Many e) start)) ≡ value
  done_means start ts value b p =
      let m = read_so start ts value (all_read start ts value b p) in
      ap (λ x. fold add empty (items x)) (got_at (Many e) start m.0 ts m.1) ∙ m.2

-- ---- lists of what the items mean

-- the written trees of many are the trees of the items, written
pub items_written : (e : Expression Part) (x : Tree Token) → items (written_tree (Many e) x) ≡ map (written_tree e) (items x)
items_written e (Pair x y) = ap (λ xs. written_tree e x ∷ xs) (items_written e y)
items_written e Nil = refl
items_written e (Leaf t) = refl
items_written e (Left x) = refl
items_written e (Right x) = refl
items_written e (Node x) = refl

map_map : {A B C : Type 0} (f : B → C) (g : A → B) (xs : List A) → map f (map g xs) ≡ map (λ x. f (g x)) xs
map_map f g [] = refl
map_map f g (x ∷ xs) = ap (λ ys. f (g x) ∷ ys) (map_map f g xs)

-- the list of the meanings of written items, one more at its end with each
abbrev pub written_push : {V : Type 0} → Expression Part → (Tree Token → V) → List V → Tree Token → List V
written_push e meaning values x = push (λ y. meaning (written_tree e y)) values x

pub mapped : {V : Type 0} (e : Expression Part) (meaning : Tree Token → V) (x : Tree Token) → map meaning (items (written_tree (Many e) x)) ≡ map (λ y. meaning (written_tree e y)) (items x)
mapped e meaning x = ap (map meaning) (items_written e x) ∙ map_map meaning (written_tree e) (items x)
