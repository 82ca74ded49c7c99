-- Further constants, read by a loop.
use Rattle.std.proofs.Common.{◌≡◌, true, false, List, [], ◌∷◌, ◌++◌, map, refl, sym, ap, ◌∙◌, append_assoc}
use Rattle.std.proofs.lemmas.List.{append-nil}
use Rattle.grammar.specs.Grammar.{Expression, Rule, Tree, Nil, Pair, Left, Right, Node, optional, items}
use Rattle.grammar.specs.Lookahead.{first}
use Rattle.grammar.specs.Reading.{Answer, Got, Stuck, OutOfTurns, and_then, map_got, begins}
use Rattle.c_lex.specs.declared.token.Token.{Token}
use Rattle.c_grammar.specs.declared.symbol.Symbol.TheVariants.{Comma}
use Rattle.c_grammar.specs.Symbols.{class_of_symbol}
use Rattle.c_grammar.specs.Next.{part_firsts}
use Rattle.c_grammar.specs.Factored.{Part, TheTail, factored_rule}
use Rattle.c_grammar.specs.Trees.{written_tree, written_else}
use Rattle.c_grammar.specs.Written.{spelled, constant}
use Rattle.c_expression.specs.declared.stop.Stop.{Stop}
use Rattle.c_expression.specs.declared.stop.Stop.TheVariants as stops
use Rattle.c_unit.specs.declared.unit.Constant.{Constant}
use Rattle.c_parse.specs.Units.{constant_of, further_constant, more_of}
use Rattle.c_expression.specs.Reads.{class_at, reads, tree_at, written_at, Stops}
use Rattle.c_expression.proofs.Lists.{got_at}
use Rattle.c_expression.proofs.Opened.{opened}

-- the part, which may be left out
abbrev pub part : Expression Part
part = optional (Rule TheTail)

abbrev pub item : Expression Part
item = constant

-- a first token and an item, which are read
pub record Read : Type 0 where
  pub token : Tree Token
  pub tree : Tree Token

abbrev pub in_front : List Read → Tree Token → Tree Token
in_front [] y = y
in_front (x ∷ xs) y = Left (Node (Pair x.token (Left (Pair x.tree (in_front xs y)))))

abbrev pub meaning : Read → Constant
meaning x = constant_of (written_tree item x.tree)

-- the loop began at start, has read some items and put what they mean after what there was
pub record SoFar (before : List Constant) (start : List Token) (values : List Constant) (rest : List Token) : Type 0 where
  pub read : List Read
  pub means : values ≡ before ++ map meaning read
  pub answers : reads part start ≡ map_got (in_front read) (reads part rest)

-- ---- the start

same_answer : (A : Answer (Tree Token) Token) → A ≡ map_got (in_front []) A
same_answer (Got x r) = refl
same_answer (Stuck r) = refl
same_answer OutOfTurns = refl

pub starts : (before : List Constant) (start : List Token) → SoFar before start before start
starts before start = record { read = []; means = sym (append-nil before); answers = same_answer (reads part start) }

-- ---- one item more

-- what is read where the first token comes
begun : (ts : List Token) → begins class_at (class_of_symbol Comma ∷ []) ts ≡ true → reads part ts ≡ map_got Left (map_got Node (reads (factored_rule TheTail) ts))
begun ts b = rw (b, opened TheTail ts) refl

one_more : (read : List Read) (t x : Tree Token) (A : Answer (Tree Token) Token) → map_got (in_front read) (map_got (λ y. Left (Node (Pair t (Left (Pair x y))))) A) ≡ map_got (in_front (read ++ record { token = t; tree = x } ∷ [])) A
one_more read t x (Got y r) = ap (λ w. Got w r) (one_tree read y)
  where
    one_tree : (zs : List Read) (y : Tree Token) → in_front zs (Left (Node (Pair t (Left (Pair x y))))) ≡ in_front (zs ++ record { token = t; tree = x } ∷ []) y
    one_tree [] y = refl
    one_tree (z ∷ zs) y = ap (λ w. Left (Node (Pair z.token (Left (Pair z.tree w))))) (one_tree zs y)
one_more read t x (Stuck r) = refl
one_more read t x OutOfTurns = refl

nested : (t x : Tree Token) (A : Answer (Tree Token) Token) → map_got Left (map_got Node (and_then (map_got Left (and_then A (λ y s. Got (Pair x y) s))) (λ y s. Got (Pair t y) s))) ≡ map_got (λ y. Left (Node (Pair t (Left (Pair x y))))) A
nested t x (Got y r) = refl
nested t x (Stuck r) = refl
nested t x OutOfTurns = refl

read_more : (ts r r2 : List Token) (t x : Tree Token) → begins class_at (class_of_symbol Comma ∷ []) ts ≡ true → reads (spelled Comma) ts ≡ Got t r → begins class_at (first part_firsts item) r ≡ true → reads item r ≡ Got x r2 → reads part ts ≡ map_got (λ y. Left (Node (Pair t (Left (Pair x y))))) (reads part r2)
read_more ts r r2 t x b h c g = begun ts b ∙ rw (h, c, g) (nested t x (reads part r2))

pub goes_on : (before : List Constant) (start ts : List Token) (values : List Constant) (r r2 : List Token) (value : Constant) (more : List Constant) → begins class_at (class_of_symbol Comma ∷ []) ts ≡ true → reads (spelled Comma) ts ≡ Got (tree_at (spelled Comma) ts) r → begins class_at (first part_firsts item) r ≡ true → reads item r ≡ Got (tree_at item r) r2 → constant_of (written_at item r) ≡ value → more ≡ values ++ value ∷ [] → SoFar before start values ts → SoFar before start more r2
goes_on before start ts values r r2 value more b h c g m n p =
    let next : Read = record { token = tree_at (spelled Comma) ts; tree = tree_at item r } in
    record {
      read = p.read ++ next ∷ [];
      means = n ∙ ap (λ vs. vs ++ value ∷ []) p.means ∙ ap (λ v. (before ++ map meaning p.read) ++ v ∷ []) (sym m) ∙ pushed p.read next;
      answers = p.answers ∙ ap (map_got (in_front p.read)) (read_more ts r r2 (tree_at (spelled Comma) ts) (tree_at item r) b h c g) ∙ one_more p.read (tree_at (spelled Comma) ts) (tree_at item r) (reads part r2);
    }
  where
    mapped : (xs : List Read) (y : Read) → map meaning (xs ++ y ∷ []) ≡ map meaning xs ++ meaning y ∷ []
    mapped [] y = refl
    mapped (x ∷ xs) y = ap (λ vs. meaning x ∷ vs) (mapped xs y)

    pushed : (xs : List Read) (y : Read) → (before ++ map meaning xs) ++ meaning y ∷ [] ≡ before ++ map meaning (xs ++ y ∷ [])
    pushed xs y = append_assoc before (map meaning xs) (meaning y ∷ []) ∙ ap (λ vs. before ++ vs) (sym (mapped xs y))

-- ---- a stop

stuck_there : (before : List Constant) (start ts : List Token) (values : List Constant) (r : List Token) → reads part ts ≡ Stuck r → SoFar before start values ts → reads part start ≡ Stuck r
stuck_there before start ts values r e p = p.answers ∙ rw e refl

pub stops_there : (before : List Constant) (start ts : List Token) (values : List Constant) (stop : Stop) → Stops stop (reads part ts) → SoFar before start values ts → Stops stop (reads part start)
stops_there before start ts values stops.Memory e p = tt
stops_there before start ts values (stops.At r) e p = stuck_there before start ts values r.now e p

pub stops_first : (ts : List Token) (stop : Stop) → begins class_at (class_of_symbol Comma ∷ []) ts ≡ true → Stops stop (reads (spelled Comma) ts) → Stops stop (reads part ts)
stops_first ts stops.Memory b h = tt
stops_first ts (stops.At r) b h = begun ts b ∙ rw h refl

pub stops_item : (ts r : List Token) (t : Tree Token) (stop : Stop) → begins class_at (class_of_symbol Comma ∷ []) ts ≡ true → reads (spelled Comma) ts ≡ Got t r → begins class_at (first part_firsts item) r ≡ true → Stops stop (reads item r) → Stops stop (reads part ts)
stops_item ts r t stops.Memory b h c g = tt
stops_item ts r t (stops.At r2) b h c g = begun ts b ∙ rw (h, c, g) refl

-- ---- the end

-- the written items, and what stands after them
abbrev pub in_order : List Read → Tree Token
in_order [] = Nil
in_order (x ∷ xs) = Pair (Pair (written_tree (spelled Comma) x.token) (written_tree item x.tree)) (in_order xs)

written_so : (xs : List Read) (y f : Tree Token) → written_else (written_tree part y) ≡ Pair Nil f → written_else (written_tree part (in_front xs y)) ≡ Pair (in_order xs) f
written_so [] y f e = e
written_so (x ∷ xs) y f e = rw (written_so xs y f e) refl

got_all : (before : List Constant) (start ts : List Token) (values : List Constant) (y : Tree Token) (r : List Token) → reads part ts ≡ Got y r → (p : SoFar before start values ts) → reads part start ≡ Got (in_front p.read y) r
got_all before start ts values y r e p = p.answers ∙ rw e refl

pub ends_gives : (before : List Constant) (start ts : List Token) (values : List Constant) (y : Tree Token) (r : List Token) → reads part ts ≡ Got y r → SoFar before start values ts → reads part start ≡ Got (tree_at part start) r
ends_gives before start ts values y r e p =
    let g = got_all before start ts values y r e p in
    g ∙ ap (λ x. Got x r) (sym (got_at part start (in_front p.read y) r g))

pub ends_written : (before : List Constant) (start ts : List Token) (values : List Constant) (y f : Tree Token) (r : List Token) → reads part ts ≡ Got y r → written_else (written_tree part y) ≡ Pair Nil f → (p : SoFar before start values ts) → written_else (written_at part start) ≡ Pair (in_order p.read) f
ends_written before start ts values y f r e w p =
    let g = got_all before start ts values y r e p in
    ap (λ x. written_else (written_tree part x)) (got_at part start (in_front p.read y) r g) ∙ written_so p.read y f w

pub left_out : (ts : List Token) → begins class_at (class_of_symbol Comma ∷ []) ts ≡ false → reads part ts ≡ Got (Right Nil) ts
left_out ts b = rw b refl

constants_in_order : (xs : List Read) → map further_constant (items (in_order xs)) ≡ map meaning xs
constants_in_order [] = refl
constants_in_order (x ∷ xs) = ap (λ vs. meaning x ∷ vs) (constants_in_order xs)

pub ends_constants : (before : List Constant) (start ts : List Token) (values : List Constant) (y f : Tree Token) (r : List Token) → reads part ts ≡ Got y r → written_else (written_tree part y) ≡ Pair Nil f → SoFar before start values ts → values ≡ before ++ more_of (written_else (written_at part start))
ends_constants before start ts values y f r e w p =
    let g = ends_written before start ts values y f r e w p in
    p.means ∙ ap (λ vs. before ++ vs) (sym (constants_in_order p.read) ∙ ap more_of (sym g))

-- a comma after the last constant
pub last_comma : (ts r : List Token) (t : Tree Token) → begins class_at (class_of_symbol Comma ∷ []) ts ≡ true → reads (spelled Comma) ts ≡ Got t r → begins class_at (first part_firsts constant) r ≡ false → reads part ts ≡ Got (Left (Node (Pair t (Right Nil)))) r
last_comma ts r t e h c = begun ts e ∙ rw (h, c) refl

pub last_comma_written : (t : Tree Token) → written_else (written_tree part (Left (Node (Pair t (Right Nil))))) ≡ Pair Nil (Left (written_tree (spelled Comma) t))
last_comma_written t = refl
