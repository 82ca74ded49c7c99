-- Loops of the reader: reading many of a part.
use Rattle.std.proofs.Common.{◌≡◌, ◌∙◌, ℕ, true, false, List, [], ◌∷◌, ◌++◌, map, refl, sym, ap}
use Rattle.std.proofs.lemmas.List.{append-nil}
use Rattle.grammar.specs.Grammar.{Expression, Many, Rule, Tree, Nil, Leaf, Pair, Left, Right, Node, items, ◌∣◌}
use Rattle.grammar.specs.Lookahead.{first, next_decides}
use Rattle.grammar.specs.Loop.{push, IsReadSoFar, IsReadMany}
use Rattle.grammar.specs.Reading.{Got, Stuck, begins, reading}
use Rattle.grammar.proofs.Turns.{one_turn}
use Rattle.grammar.proofs.Loops
use Rattle.chk_base.specs.declared.place.Place.{Place}
use Rattle.oil_text.specs.declared.token.Token.{Token}
use Rattle.oil_text.specs.declared.stop.Stop.{Stop}
use Rattle.oil_text.specs.declared.stop.Stop.TheVariants as stops
use Rattle.oil_tree.specs.PlainAttributes.{PlainAttributes, NoAttribute, AttributeThen}
use Rattle.oil_tree.specs.Listed.{listed, plain}
use Rattle.oil_text.specs.OilGrammar.{Part, Object, Attribute as AttributeRule, class_of, include}
use Rattle.oil_text.specs.OilLookahead.{firsts, lookahead}
use Rattle.oil_text.specs.OilMeaning.{attribute_at, attributes_at}
use Rattle.oil_text.specs.OilReading.{reads, tree_at, Stops}
use Rattle.oil_text.proofs.Decides.{decides}

-- the parts that are repeated
pub data Repeated : Type 0 where
  Includes : Repeated
  InCpu : Repeated
  Attributes : ℕ → Repeated

abbrev pub part : Repeated → Expression Part
part Includes = include
part InCpu = include ∣ Rule Object
part (Attributes below) = Rule (AttributeRule below)

low : (r : Repeated) → next_decides lookahead (Many (part r)) ≡ true
unfolding lookahead
low Includes = refl
low InCpu = refl
low (Attributes below) = refl

many_turn : (r : Repeated) (tokens : List Token) → reading lookahead (Many (part r)) tokens ≡ reads (Many (part r)) tokens
unfolding lookahead
many_turn r tokens = one_turn lookahead decides (Many (part r)) (low r) tokens

-- reading began at these tokens, and has read items with this value up to the rest
abbrev pub SoFar : {W : Type 0} → Repeated → (Tree Token → W) → List W → List Token → List W → List Token → Type 0
SoFar r meaning before start values rest = IsReadSoFar lookahead (part r) (push meaning) before start values rest

pub starts : {W : Type 0} (r : Repeated) (meaning : Tree Token → W) (before : List W) (start : List Token) → SoFar r meaning before start before start
starts r meaning before start = Loops.starts lookahead (part r) (push meaning) before start

pub goes_on : {W : Type 0} (r : Repeated) (meaning : Tree Token → W) (before : List W) (start tokens : List Token) (values more : List W) (value : W) (rest : List Token) → begins class_of (first firsts (part r)) tokens ≡ true → reads (part r) tokens ≡ Got (tree_at (part r) tokens) rest → meaning (tree_at (part r) tokens) ≡ value → more ≡ values ++ value ∷ [] → SoFar r meaning before start values tokens → SoFar r meaning before start more rest
unfolding lookahead
goes_on r meaning before start tokens values more value rest b e m so h =
    Loops.goes_on lookahead decides (part r) (low r) (push meaning) before start tokens values more (tree_at (part r) tokens) rest b e (ap (λ v. values ++ v ∷ []) m ∙ sym so) h

breaks : {W : Type 0} (r : Repeated) (meaning : Tree Token → W) (before : List W) (start tokens : List Token) (values : List W) (rest : List Token) → begins class_of (first firsts (part r)) tokens ≡ true → reads (part r) tokens ≡ Stuck rest → SoFar r meaning before start values tokens → reads (Many (part r)) start ≡ Stuck rest
unfolding lookahead
breaks r meaning before start tokens values rest b e h = sym (many_turn r start) ∙ Loops.breaks lookahead decides (part r) (low r) (push meaning) before start tokens values rest b e h

pub stops_so : {W : Type 0} (r : Repeated) (meaning : Tree Token → W) (before : List W) (start tokens : List Token) (values : List W) (stop : Stop) → begins class_of (first firsts (part r)) tokens ≡ true → Stops stop (reads (part r) tokens) → SoFar r meaning before start values tokens → Stops stop (reads (Many (part r)) start)
stops_so r meaning before start tokens values stops.Memory b s h = tt
stops_so r meaning before start tokens values (stops.At rest) b s h = breaks r meaning before start tokens values rest.now b s h

all_read : {W : Type 0} (r : Repeated) (meaning : Tree Token → W) (before : List W) (start tokens : List Token) (values : List W) → begins class_of (first firsts (part r)) tokens ≡ false → SoFar r meaning before start values tokens → IsReadMany lookahead (part r) (push meaning) before start values tokens
unfolding lookahead
all_read r meaning before start tokens values b h = Loops.is_done lookahead decides (part r) (low r) (push meaning) before start tokens values b h

pub done_gives : {W : Type 0} (r : Repeated) (meaning : Tree Token → W) (before : List W) (start tokens : List Token) (values : List W) → begins class_of (first firsts (part r)) tokens ≡ false → SoFar r meaning before start values tokens → reads (Many (part r)) start ≡ Got (tree_at (Many (part r)) start) tokens
unfolding tree_at
done_gives r meaning before start tokens values b h =
    let all = all_read r meaning before start tokens values b h in
    let e : reads (Many (part r)) start ≡ Got all.tree tokens = sym (many_turn r start) ∙ all.answers in
    rw e refl

pub done_means : {W : Type 0} (r : Repeated) (meaning : Tree Token → W) (before : List W) (start tokens : List Token) (values : List W) → begins class_of (first firsts (part r)) tokens ≡ false → SoFar r meaning before start values tokens → before ++ map meaning (items (tree_at (Many (part r)) start)) ≡ values
unfolding tree_at
done_means r meaning before start tokens values b h =
    let all = all_read r meaning before start tokens values b h in
    let e : reads (Many (part r)) start ≡ Got all.tree tokens = sym (many_turn r start) ∙ all.answers in
    rw e (sym (Loops.fold_push meaning before (items all.tree)) ∙ all.means)

-- ---- attributes

plain_listed : (attributes : PlainAttributes) → plain (listed attributes) ≡ attributes
plain_listed NoAttribute = refl
plain_listed (AttributeThen name value nested others) = ap (λ rest. AttributeThen name value nested rest) (plain_listed others)

attributes_are : (tree : Tree Token) → attributes_at tree ≡ plain (map attribute_at (items tree))
attributes_are Nil = refl
attributes_are (Leaf t) = refl
attributes_are (Pair one others) = let a = attribute_at one in ap (λ rest. AttributeThen a.name a.value a.nested rest) (attributes_are others)
attributes_are (Left x) = refl
attributes_are (Right x) = refl
attributes_are (Node x) = refl

pub attributes_mean : (tree : Tree Token) (attributes : PlainAttributes) → [] ++ map attribute_at (items tree) ≡ listed attributes → attributes_at tree ≡ attributes
attributes_mean tree attributes h = attributes_are tree ∙ ap plain h ∙ plain_listed attributes

-- ---- places

pub append_none : (places : List Place) → places ++ [] ≡ places
append_none places = append-nil places
