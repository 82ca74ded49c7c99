-- A loop that puts what the items mean after what there was.
use Rattle.std.proofs.Common.{◌≡◌, true, false, List, [], ◌∷◌, ◌++◌, map, sym, ap, ◌∙◌}
use Rattle.grammar.specs.Grammar.{Expression, Many, Tree, items}
use Rattle.grammar.specs.Lookahead.{first, next_decides}
use Rattle.grammar.specs.Reading.{Got, begins}
use Rattle.grammar.proofs.Loops
use Rattle.c_lex.specs.declared.token.Token.{Token}
use Rattle.c_grammar.specs.Next.{lookahead, part_firsts}
use Rattle.c_grammar.specs.Factored.{Part}
use Rattle.c_grammar.specs.Trees.{written_tree}
use Rattle.c_expression.specs.declared.stop.Stop.{Stop}
use Rattle.c_expression.specs.Reads.{class_at, reads, tree_at, written_at, Stops}
use Rattle.c_expression.proofs.Lists

module _ {V : Type 0} (e : Expression Part) (low : next_decides lookahead (Many e) ≡ true) (meaning : Tree Token → V) (before : List V) where
  abbrev adds : List V → Tree Token → List V
  adds values x = Lists.written_push e meaning values x

  abbrev pub SoFar : List Token → List V → List Token → Type 0
  SoFar start values rest = Lists.SoFar e adds before start values rest

  pub starts : (start : List Token) → SoFar start before start
  starts start = Lists.starts e low adds before start

  pub goes_on : (start ts : List Token) (values : List V) (item : V) (more : List V) (r : List Token) → begins class_at (first part_firsts e) ts ≡ true → reads e ts ≡ Got (tree_at e ts) r → meaning (written_at e ts) ≡ item → more ≡ values ++ item ∷ [] → SoFar start values ts → SoFar start more r
  goes_on start ts values item more r b h m n p = Lists.goes_on e low adds before start ts values more r b h (ap (λ v. values ++ v ∷ []) m ∙ sym n) p

  pub breaks : (start ts : List Token) (values : List V) (stop : Stop) → begins class_at (first part_firsts e) ts ≡ true → Stops stop (reads e ts) → SoFar start values ts → Stops stop (reads (Many e) start)
  breaks start ts values stop b h p = Lists.breaks e low adds before start ts values stop b h p

  pub done_gives : (start ts : List Token) (values : List V) → begins class_at (first part_firsts e) ts ≡ false → SoFar start values ts → reads (Many e) start ≡ Got (tree_at (Many e) start) ts
  done_gives start ts values b p = Lists.done_gives e low adds before start ts values b p

  pub done_means : (start ts : List Token) (values : List V) → begins class_at (first part_firsts e) ts ≡ false → SoFar start values ts → values ≡ before ++ map meaning (items (written_at (Many e) start))
  done_means start ts values b p =
      let folded = Lists.done_means e low adds before start ts values b p in
      sym folded ∙ Loops.fold_push (λ y. meaning (written_tree e y)) before (items (tree_at (Many e) start)) ∙ ap (λ xs. before ++ xs) (sym (Lists.mapped e meaning (tree_at (Many e) start)))
