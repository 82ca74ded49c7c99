-- Qualifiers, read by a loop that keeps whether const is among them.
use Rattle.std.proofs.Common.{◌≡◌, Bool, true, false, ◌||◌, List, [], ◌∷◌, map, refl, sym, ap, ◌∙◌}
use Rattle.std.specs.List.{fold, list_any}
use Rattle.grammar.specs.Grammar.{Expression, Many, Tree, items}
use Rattle.grammar.specs.Lookahead.{first, next_decides}
use Rattle.grammar.specs.Reading.{Got, begins}
use Rattle.c_lex.specs.declared.token.Token.{Token}
use Rattle.c_grammar.specs.Next.{lookahead, part_firsts}
use Rattle.c_grammar.specs.Factored.{Part}
use Rattle.c_grammar.specs.Trees.{written_tree}
use Rattle.c_expression.specs.Lexemes.{is_const, has_const}
use Rattle.c_expression.specs.Reads.{class_at, reads, tree_at, written_at}
use Rattle.c_expression.proofs.Lists

module _ (e : Expression Part) (low : next_decides lookahead (Many e) ≡ true) where
  abbrev adds : Bool → Tree Token → Bool
  adds flag x = flag || is_const (written_tree e x)

  abbrev pub SoFar : List Token → Bool → List Token → Type 0
  SoFar start flag rest = Lists.SoFar e adds false start flag rest

  pub starts : (start : List Token) → SoFar start false start
  starts start = Lists.starts e low adds false start

  pub goes_on : (start ts : List Token) (flag is next : Bool) (r : List Token) → begins class_at (first part_firsts e) ts ≡ true → reads e ts ≡ Got (tree_at e ts) r → is_const (written_at e ts) ≡ is → (flag || is) ≡ next → SoFar start flag ts → SoFar start next r
  goes_on start ts flag is next r b h m n p = Lists.goes_on e low adds false start ts flag next r b h (ap (λ v. flag || v) m ∙ n) p

  pub done_gives : (start ts : List Token) (flag : Bool) → begins class_at (first part_firsts e) ts ≡ false → SoFar start flag ts → reads (Many e) start ≡ Got (tree_at (Many e) start) ts
  done_gives start ts flag b p = Lists.done_gives e low adds false start ts flag b p

  either : (flag : Bool) (xs : List (Tree Token)) → fold adds flag xs ≡ (flag || list_any (λ x. is_const (written_tree e x)) xs)
  either true [] = refl
  either false [] = refl
  either true (x ∷ xs) = either true xs
  either false (x ∷ xs) = either (is_const (written_tree e x)) xs

  mapped : (xs : List (Tree Token)) → list_any is_const (map (written_tree e) xs) ≡ list_any (λ x. is_const (written_tree e x)) xs
  mapped [] = refl
  mapped (x ∷ xs) = ap (λ b. is_const (written_tree e x) || b) (mapped xs)

  pub done_means : (start ts : List Token) (flag : Bool) → begins class_at (first part_firsts e) ts ≡ false → SoFar start flag ts → has_const (written_at (Many e) start) ≡ flag
  done_means start ts flag b p =
      ap (list_any is_const) (Lists.items_written e (tree_at (Many e) start)) ∙ mapped (items (tree_at (Many e) start)) ∙ sym (either false (items (tree_at (Many e) start))) ∙ Lists.done_means e low adds false start ts flag b p
