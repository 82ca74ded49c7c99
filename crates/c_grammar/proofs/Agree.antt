-- What the two regroupings say of derivations and of texts.
use Rattle.std.proofs.Common.{◌≡◌, ℕ, List, [], ◌∷◌, ◌++◌, sym, ap, ◌∙◌}
use Rattle.grammar.specs.Grammar.{Expression, Tree, Derives, IsSentence, IsUnambiguous}
use Rattle.grammar.specs.FirstFault.{IsPrefix, IsFirstFault, IsCutOff, IsReadAs}
use Rattle.c_grammar.specs.Regrouping.{renamed}
use Rattle.c_grammar.specs.Written.{Production, written, written_rule, unit}
use Rattle.c_grammar.specs.Factored.{Part, factored, factored_rule, factored_unit}
use Rattle.c_grammar.specs.Trees.{written_image, written_tree, as_written, factored_image, factored_tree, as_factored}
use Rattle.c_grammar.proofs.Regroup.{kept, returns}
use Rattle.c_grammar.proofs.AsWritten
use Rattle.c_grammar.proofs.AsFactored
use Rattle.c_grammar.proofs.Joins

module _ {T : Type 0} where
  -- languages with the same whole texts have the same prefixes, first faults and cut off texts
  prefix : (A B : List T → Type 0) → ((ts : List T) → A ts → B ts) → (ts : List T) → IsPrefix A ts → IsPrefix B ts
  prefix A B f ts p = record { more = p.more; whole = f (ts ++ p.more) p.whole }

  pub fault : (A B : List T → Type 0) → ((ts : List T) → A ts → B ts) → ((ts : List T) → B ts → A ts) → (ts : List T) (bad : T) (rest : List T) → IsFirstFault A ts bad rest → IsFirstFault B ts bad rest
  fault A B f g ts bad rest p = record {
    before = p.before;
    parts = p.parts;
    goes_on = prefix A B f p.before p.goes_on;
    no_more = λ q. p.no_more (prefix B A g (p.before ++ bad ∷ []) q);
  }

  pub cut_off : (A B : List T → Type 0) → ((ts : List T) → A ts → B ts) → ((ts : List T) → B ts → A ts) → (ts : List T) → IsCutOff A ts → IsCutOff B ts
  cut_off A B f g ts p = record { goes_on = prefix A B f ts p.goes_on; not_whole = λ w. p.not_whole (g ts w) }

module _ {T : Type 0} (class : T → ℕ) where
  pub factors : (e : Expression Production) (tree : Tree T) (text : List T) → Derives (written class) e tree text → Derives (factored class) (renamed factored_image e) (factored_tree e tree) text
  factors e tree text d =
      let k = kept class written_rule factored_rule factored_image as_factored (AsFactored.keeps class) tree e d.follows in
      record { follows = k.follows; spells = k.spells ∙ d.spells }

  pub writes : (e : Expression Part) (tree : Tree T) (text : List T) → Derives (factored class) e tree text → Derives (written class) (renamed written_image e) (written_tree e tree) text
  writes e tree text d =
      let k = kept class factored_rule written_rule written_image as_written (AsWritten.keeps class) tree e d.follows in
      record { follows = k.follows; spells = k.spells ∙ d.spells }

  pub comes_back : (e : Expression Production) (tree : Tree T) (text : List T) → Derives (written class) e tree text → written_tree (renamed factored_image e) (factored_tree e tree) ≡ tree
  comes_back e tree text d = returns class written_rule factored_rule factored_image as_factored (AsFactored.keeps class) as_written (Joins.joins class) tree e d.follows

  pub to_written : (text : List T) → IsSentence (factored class) factored_unit text → IsSentence (written class) unit text
  to_written text s = record { tree = written_tree factored_unit s.tree; derives = writes factored_unit s.tree text s.derives }

  pub to_factored : (text : List T) → IsSentence (written class) unit text → IsSentence (factored class) factored_unit text
  to_factored text s = record { tree = factored_tree unit s.tree; derives = factors unit s.tree text s.derives }

  pub same_tree : IsUnambiguous (factored class) factored_unit → IsUnambiguous (written class) unit
  same_tree u text x y d c =
      let e = u text (factored_tree unit x) (factored_tree unit y) (factors unit x text d) (factors unit y text c) in
      sym (comes_back unit x text d) ∙ ap (written_tree factored_unit) e ∙ comes_back unit y text c

  pub goes_forth : IsUnambiguous (factored class) factored_unit → (tree : Tree T) (text : List T) → Derives (factored class) factored_unit tree text → factored_tree unit (written_tree factored_unit tree) ≡ tree
  goes_forth u tree text d = u text (factored_tree unit (written_tree factored_unit tree)) tree (factors unit (written_tree factored_unit tree) text (writes factored_unit tree text d)) d

  pub means : {V : Type 0} (meaning : Tree T → V) (text : List T) (value : V) → IsReadAs (factored class) factored_unit (λ tree. meaning (written_tree factored_unit tree)) text value → IsReadAs (written class) unit meaning text value
  means meaning text value r = record {
    tree = written_tree factored_unit r.tree;
    derives = writes factored_unit r.tree text r.derives;
    means = r.means;
    only = λ other d. sym (comes_back unit other text d) ∙ ap (written_tree factored_unit) (r.only (factored_tree unit other) (factors unit other text d));
  }
