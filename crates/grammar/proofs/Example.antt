-- A small grammar as an example, with texts that are read, have a first fault and are cut off:
--     list = "[" [ number { "," number } ] "]"
use Rattle.std.proofs.Common.{◌≡◌, ℕ, zero, suc, true, List, [], ◌∷◌, map, refl}
use Rattle.grammar.specs.Grammar.{Expression, Many, Rule, Grammar, ◌▸◌, the, optional, Tree, Nil, Leaf, Pair, Left, Right, Node, items, is_tree, leaves, IsSentence}
use Rattle.grammar.specs.FirstFault.{IsFirstFault, IsCutOff, IsReadAs}
use Rattle.grammar.specs.Lookahead.{Lookahead, first, last, NextDecides}
use Rattle.grammar.specs.Reading.{Got, Stuck, reading}
use Rattle.grammar.specs.Sample.{sample_of}
use Rattle.grammar.proofs.Laws.{read_as, fault, trailing, cut_off}

pub data Token : Type 0 where
  Opening : Token
  Closing : Token
  Comma : Token
  Number : ℕ → Token

-- the names of the rules
pub data Name : Type 0 where
  Numbers : Name

-- ---- the grammar

abbrev class : Token → ℕ
class Opening = 0
class Closing = 1
class Comma = 2
class (Number n) = 3

abbrev rule : Name → Expression Name
rule Numbers = the 0 ▸ optional (the 3 ▸ Many (the 2 ▸ the 3)) ▸ the 1

abbrev pub lists : Grammar Name Token
lists = record { class = class; rule = rule }

-- ---- what decides

abbrev token : ℕ → Token
token zero = Opening
token (suc zero) = Closing
token (suc (suc zero)) = Comma
token (suc (suc (suc c))) = Number 0

abbrev pub lists_lookahead : Lookahead Name Token
lists_lookahead = record {
  grammar = lists;
  firsts = λ n. 0 ∷ [];
  lasts = λ n. [];
  rank = λ n. 0;
  limit = 1;
  token = token;
  sample = sample_of token rule 1;
}

pub decides : NextDecides lists_lookahead
decides Numbers = record { decides = refl; full = refl; begins_so = refl; goes_on_so = refl; falls = refl; sampled = refl }

-- a list begins with "[", and nothing goes on a whole list
list_first : first lists_lookahead.firsts (rule Numbers) ≡ 0 ∷ []
list_first = refl

list_last : last lists_lookahead.firsts lists_lookahead.lasts (rule Numbers) ≡ []
list_last = refl

-- ---- a whole text

-- the numbers of a list, in their order
abbrev number_at : Tree Token → ℕ
number_at (Leaf (Number n)) = n
number_at (Pair comma (Leaf (Number n))) = n
number_at _ = 0

abbrev pub numbers_of : Tree Token → List ℕ
numbers_of (Node (Pair opening (Pair (Left (Pair x more)) closing))) = number_at x ∷ map number_at (items more)
numbers_of _ = []

-- [ 4 , 7 ]
abbrev pub whole_text : List Token
whole_text = Opening ∷ Number 4 ∷ Comma ∷ Number 7 ∷ Closing ∷ []

abbrev pub whole_tree : Tree Token
whole_tree = Node (Pair (Leaf Opening) (Pair (Left (Pair (Leaf (Number 4)) (Pair (Pair (Leaf Comma) (Leaf (Number 7))) Nil))) (Leaf Closing)))

pub tree_follows : is_tree lists whole_tree (Rule Numbers) ≡ true
tree_follows = refl

pub tree_spells : leaves whole_tree ≡ whole_text
tree_spells = refl

pub tree_means : numbers_of whole_tree ≡ 4 ∷ 7 ∷ []
tree_means = refl

pub whole_reads : reading lists_lookahead (Rule Numbers) whole_text ≡ Got whole_tree []
unfolding reading
whole_reads = refl

pub whole_is_read : IsReadAs lists (Rule Numbers) numbers_of whole_text (4 ∷ 7 ∷ [])
whole_is_read = read_as lists_lookahead decides (Rule Numbers) refl numbers_of whole_text whole_tree (4 ∷ 7 ∷ []) whole_reads refl

-- [ ]
pub empty_is_read : IsReadAs lists (Rule Numbers) numbers_of (Opening ∷ Closing ∷ []) []
unfolding reading
empty_is_read = read_as lists_lookahead decides (Rule Numbers) refl numbers_of (Opening ∷ Closing ∷ []) (Node (Pair (Leaf Opening) (Pair (Right Nil) (Leaf Closing)))) [] refl refl

-- ---- a first fault

-- In [ 4 7 ] it is the 7: a text may go on after [ 4, and none with [ 4 7.
abbrev pub faulty_text : List Token
faulty_text = Opening ∷ Number 4 ∷ Number 7 ∷ Closing ∷ []

pub faulty_reads : reading lists_lookahead (Rule Numbers) faulty_text ≡ Stuck (Number 7 ∷ Closing ∷ [])
unfolding reading
faulty_reads = refl

pub faulty_has_fault : IsFirstFault (IsSentence lists (Rule Numbers)) faulty_text (Number 7) (Closing ∷ [])
faulty_has_fault = fault lists_lookahead decides (Rule Numbers) refl faulty_text (Number 7) (Closing ∷ []) faulty_reads

-- In [ ] ] it is the second bracket, after a whole text.
pub trailing_has_fault : IsFirstFault (IsSentence lists (Rule Numbers)) (Opening ∷ Closing ∷ Closing ∷ []) Closing []
unfolding reading
trailing_has_fault = trailing lists_lookahead decides (Rule Numbers) refl (Opening ∷ Closing ∷ Closing ∷ []) (Node (Pair (Leaf Opening) (Pair (Right Nil) (Leaf Closing)))) Closing [] refl

-- ---- a text that is cut off

-- [ 4 ,
abbrev pub short_text : List Token
short_text = Opening ∷ Number 4 ∷ Comma ∷ []

pub short_reads : reading lists_lookahead (Rule Numbers) short_text ≡ Stuck []
unfolding reading
short_reads = refl

pub short_is_cut_off : IsCutOff (IsSentence lists (Rule Numbers)) short_text
short_is_cut_off = cut_off lists_lookahead decides (Rule Numbers) refl short_text short_reads

-- so is the text without tokens
pub nothing_is_cut_off : IsCutOff (IsSentence lists (Rule Numbers)) []
unfolding reading
nothing_is_cut_off = cut_off lists_lookahead decides (Rule Numbers) refl [] refl
