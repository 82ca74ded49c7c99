-- Further branches of an if, read by a loop.
use Rattle.std.proofs.Common.{◌≡◌, true, false, List, [], ◌∷◌, ◌++◌, map, refl, sym, ap, ◌∙◌, append_assoc}
use Rattle.std.proofs.lemmas.List.{append-nil}
use Rattle.grammar.specs.Grammar.{Expression, Rule, Tree, Nil, Pair, Left, Right, Node, optional}
use Rattle.grammar.specs.Lookahead.{first}
use Rattle.grammar.specs.Reading.{Answer, Got, Stuck, OutOfTurns, and_then, map_got, begins}
use Rattle.c_lex.specs.declared.token.Token.{Token}
use Rattle.c_grammar.specs.declared.symbol.Symbol.TheVariants.{Else, If}
use Rattle.c_grammar.specs.Symbols.{class_of_symbol}
use Rattle.c_grammar.specs.Next.{part_firsts}
use Rattle.c_grammar.specs.Factored.{Part, TheElse, TheBranch, TheBlock, factored_rule}
use Rattle.c_grammar.specs.Trees.{written_tree, written_else}
use Rattle.c_grammar.specs.Written.{spelled}
use Rattle.c_expression.specs.declared.stop.Stop.{Stop}
use Rattle.c_expression.specs.declared.stop.Stop.TheVariants as stops
use Rattle.c_unit.specs.declared.statement.Branch.{Branch}
use Rattle.c_parse.specs.Statements.{branch_of, branches_of, elses_of, last_of}
use Rattle.c_expression.specs.Reads.{class_at, reads, tree_at, written_at, Stops}
use Rattle.c_expression.proofs.Lists.{got_at}
use Rattle.c_expression.proofs.Opened.{opened}

-- the part, which may be left out
abbrev pub part : Expression Part
part = optional (Rule TheElse)

abbrev pub item : Expression Part
item = Rule TheBranch

-- a first token and an item, which are read
pub record Read : Type 0 where
  pub token : Tree Token
  pub tree : Tree Token

abbrev pub in_front : List Read → Tree Token → Tree Token
in_front [] y = y
in_front (x ∷ xs) y = Left (Node (Pair x.token (Left (Pair x.tree (in_front xs y)))))

abbrev pub meaning : Read → Branch
meaning x = branch_of (written_tree item x.tree)

-- the loop began at start, has read some items and put what they mean after what there was
pub record SoFar (before : List Branch) (start : List Token) (values : List Branch) (rest : List Token) : Type 0 where
  pub read : List Read
  pub means : values ≡ before ++ map meaning read
  pub answers : reads part start ≡ map_got (in_front read) (reads part rest)

-- ---- the start

same_answer : (A : Answer (Tree Token) Token) → A ≡ map_got (in_front []) A
same_answer (Got x r) = refl
same_answer (Stuck r) = refl
same_answer OutOfTurns = refl

pub starts : (before : List Branch) (start : List Token) → SoFar before start before start
starts before start = record { read = []; means = sym (append-nil before); answers = same_answer (reads part start) }

-- ---- one item more

-- what is read where the first token comes
begun : (ts : List Token) → begins class_at (class_of_symbol Else ∷ []) ts ≡ true → reads part ts ≡ map_got Left (map_got Node (reads (factored_rule TheElse) ts))
begun ts b = rw (b, opened TheElse ts) refl

one_more : (read : List Read) (t x : Tree Token) (A : Answer (Tree Token) Token) → map_got (in_front read) (map_got (λ y. Left (Node (Pair t (Left (Pair x y))))) A) ≡ map_got (in_front (read ++ record { token = t; tree = x } ∷ [])) A
one_more read t x (Got y r) = ap (λ w. Got w r) (one_tree read y)
  where
    one_tree : (zs : List Read) (y : Tree Token) → in_front zs (Left (Node (Pair t (Left (Pair x y))))) ≡ in_front (zs ++ record { token = t; tree = x } ∷ []) y
    one_tree [] y = refl
    one_tree (z ∷ zs) y = ap (λ w. Left (Node (Pair z.token (Left (Pair z.tree w))))) (one_tree zs y)
one_more read t x (Stuck r) = refl
one_more read t x OutOfTurns = refl

nested : (t x : Tree Token) (A : Answer (Tree Token) Token) → map_got Left (map_got Node (and_then (map_got Left (and_then A (λ y s. Got (Pair x y) s))) (λ y s. Got (Pair t y) s))) ≡ map_got (λ y. Left (Node (Pair t (Left (Pair x y))))) A
nested t x (Got y r) = refl
nested t x (Stuck r) = refl
nested t x OutOfTurns = refl

read_more : (ts r r2 : List Token) (t x : Tree Token) → begins class_at (class_of_symbol Else ∷ []) ts ≡ true → reads (spelled Else) ts ≡ Got t r → begins class_at (first part_firsts item) r ≡ true → reads item r ≡ Got x r2 → reads part ts ≡ map_got (λ y. Left (Node (Pair t (Left (Pair x y))))) (reads part r2)
read_more ts r r2 t x b h c g = begun ts b ∙ rw (h, c, g) (nested t x (reads part r2))

pub goes_on : (before : List Branch) (start ts : List Token) (values : List Branch) (r r2 : List Token) (value : Branch) (more : List Branch) → begins class_at (class_of_symbol Else ∷ []) ts ≡ true → reads (spelled Else) ts ≡ Got (tree_at (spelled Else) ts) r → begins class_at (first part_firsts item) r ≡ true → reads item r ≡ Got (tree_at item r) r2 → branch_of (written_at item r) ≡ value → more ≡ values ++ value ∷ [] → SoFar before start values ts → SoFar before start more r2
goes_on before start ts values r r2 value more b h c g m n p =
    let next : Read = record { token = tree_at (spelled Else) ts; tree = tree_at item r } in
    record {
      read = p.read ++ next ∷ [];
      means = n ∙ ap (λ vs. vs ++ value ∷ []) p.means ∙ ap (λ v. (before ++ map meaning p.read) ++ v ∷ []) (sym m) ∙ pushed p.read next;
      answers = p.answers ∙ ap (map_got (in_front p.read)) (read_more ts r r2 (tree_at (spelled Else) ts) (tree_at item r) b h c g) ∙ one_more p.read (tree_at (spelled Else) ts) (tree_at item r) (reads part r2);
    }
  where
    mapped : (xs : List Read) (y : Read) → map meaning (xs ++ y ∷ []) ≡ map meaning xs ++ meaning y ∷ []
    mapped [] y = refl
    mapped (x ∷ xs) y = ap (λ vs. meaning x ∷ vs) (mapped xs y)

    pushed : (xs : List Read) (y : Read) → (before ++ map meaning xs) ++ meaning y ∷ [] ≡ before ++ map meaning (xs ++ y ∷ [])
    pushed xs y = append_assoc before (map meaning xs) (meaning y ∷ []) ∙ ap (λ vs. before ++ vs) (sym (mapped xs y))

-- ---- a stop

stuck_there : (before : List Branch) (start ts : List Token) (values : List Branch) (r : List Token) → reads part ts ≡ Stuck r → SoFar before start values ts → reads part start ≡ Stuck r
stuck_there before start ts values r e p = p.answers ∙ rw e refl

pub stops_there : (before : List Branch) (start ts : List Token) (values : List Branch) (stop : Stop) → Stops stop (reads part ts) → SoFar before start values ts → Stops stop (reads part start)
stops_there before start ts values stops.Memory e p = tt
stops_there before start ts values (stops.At r) e p = stuck_there before start ts values r.now e p

pub stops_first : (ts : List Token) (stop : Stop) → begins class_at (class_of_symbol Else ∷ []) ts ≡ true → Stops stop (reads (spelled Else) ts) → Stops stop (reads part ts)
stops_first ts stops.Memory b h = tt
stops_first ts (stops.At r) b h = begun ts b ∙ rw h refl

pub stops_item : (ts r : List Token) (t : Tree Token) (stop : Stop) → begins class_at (class_of_symbol Else ∷ []) ts ≡ true → reads (spelled Else) ts ≡ Got t r → begins class_at (first part_firsts item) r ≡ true → Stops stop (reads item r) → Stops stop (reads part ts)
stops_item ts r t stops.Memory b h c g = tt
stops_item ts r t (stops.At r2) b h c g = begun ts b ∙ rw (h, c, g) refl

-- ---- the end

-- the written items, and what stands after them
abbrev pub in_order : List Read → Tree Token
in_order [] = Nil
in_order (x ∷ xs) = Pair (Pair (written_tree (spelled Else) x.token) (written_tree item x.tree)) (in_order xs)

written_so : (xs : List Read) (y f : Tree Token) → written_else (written_tree part y) ≡ Pair Nil f → written_else (written_tree part (in_front xs y)) ≡ Pair (in_order xs) f
written_so [] y f e = e
written_so (x ∷ xs) y f e = rw (written_so xs y f e) refl

got_all : (before : List Branch) (start ts : List Token) (values : List Branch) (y : Tree Token) (r : List Token) → reads part ts ≡ Got y r → (p : SoFar before start values ts) → reads part start ≡ Got (in_front p.read y) r
got_all before start ts values y r e p = p.answers ∙ rw e refl

pub ends_gives : (before : List Branch) (start ts : List Token) (values : List Branch) (y : Tree Token) (r : List Token) → reads part ts ≡ Got y r → SoFar before start values ts → reads part start ≡ Got (tree_at part start) r
ends_gives before start ts values y r e p =
    let g = got_all before start ts values y r e p in
    g ∙ ap (λ x. Got x r) (sym (got_at part start (in_front p.read y) r g))

pub ends_written : (before : List Branch) (start ts : List Token) (values : List Branch) (y f : Tree Token) (r : List Token) → reads part ts ≡ Got y r → written_else (written_tree part y) ≡ Pair Nil f → (p : SoFar before start values ts) → written_else (written_at part start) ≡ Pair (in_order p.read) f
ends_written before start ts values y f r e w p =
    let g = got_all before start ts values y r e p in
    ap (λ x. written_else (written_tree part x)) (got_at part start (in_front p.read y) r g) ∙ written_so p.read y f w

pub left_out : (ts : List Token) → begins class_at (class_of_symbol Else ∷ []) ts ≡ false → reads part ts ≡ Got (Right Nil) ts
left_out ts b = rw b refl

-- the branches and the last block, where these follow the items
branches_in_order : (xs : List Read) → elses_of (in_order xs) ≡ map meaning xs
branches_in_order [] = refl
branches_in_order (x ∷ xs) = ap (λ vs. meaning x ∷ vs) (branches_in_order xs)

pub ends_branches : (before : List Branch) (start ts : List Token) (values : List Branch) (y f : Tree Token) (r : List Token) → reads part ts ≡ Got y r → written_else (written_tree part y) ≡ Pair Nil f → SoFar before start values ts → values ≡ before ++ branches_of (written_else (written_at part start))
ends_branches before start ts values y f r e w p =
    let g = ends_written before start ts values y f r e w p in
    p.means ∙ ap (λ vs. before ++ vs) (sym (branches_in_order p.read) ∙ ap branches_of (sym g))

pub ends_last : (before : List Branch) (start ts : List Token) (values : List Branch) (y f : Tree Token) (r : List Token) → reads part ts ≡ Got y r → written_else (written_tree part y) ≡ Pair Nil f → SoFar before start values ts → last_of (written_else (written_at part start)) ≡ last_of (Pair Nil f)
ends_last before start ts values y f r e w p = ap last_of (ends_written before start ts values y f r e w p) ∙ same_last (in_order p.read) f
  where
    same_last : (m f : Tree Token) → last_of (Pair m f) ≡ last_of (Pair Nil f)
    same_last m (Left (Pair l b)) = refl
    same_last m _ = refl

-- a block after the last else
pub last_block : (ts r r2 : List Token) (t b : Tree Token) → begins class_at (class_of_symbol Else ∷ []) ts ≡ true → reads (spelled Else) ts ≡ Got t r → begins class_at (class_of_symbol If ∷ []) r ≡ false → reads (Rule TheBlock) r ≡ Got b r2 → reads part ts ≡ Got (Left (Node (Pair t (Right b)))) r2
last_block ts r r2 t b e h c g = begun ts e ∙ rw (h, c, g) refl

pub stops_block : (ts r : List Token) (t : Tree Token) (stop : Stop) → begins class_at (class_of_symbol Else ∷ []) ts ≡ true → reads (spelled Else) ts ≡ Got t r → begins class_at (class_of_symbol If ∷ []) r ≡ false → Stops stop (reads (Rule TheBlock) r) → Stops stop (reads part ts)
stops_block ts r t stops.Memory e h c g = tt
stops_block ts r t (stops.At r2) e h c g = begun ts e ∙ rw (h, c, g) refl

pub last_block_written : (t b : Tree Token) → written_else (written_tree part (Left (Node (Pair t (Right b))))) ≡ Pair Nil (Left (Pair (written_tree (spelled Else) t) (written_tree (Rule TheBlock) b)))
last_block_written t b = refl
