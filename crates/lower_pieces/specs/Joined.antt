-- The items of a thing with each guard as one term.
use Rattle.std.specs.Prelude.{ℕ, Bool, List, [], ◌∷◌, map, Option, option_map, if◌then◌else◌}
use Rattle.chk_base.specs.Term.{Term, term_of}
use Rattle.step_ir.specs.Points.{PlainTarget, target_of}
use Rattle.lower_law.specs.Items.{Site, Check, guarded}
use Rattle.lower_law.specs.Items as plain
use Rattle.lower_pieces.specs.Guards.{guard_term}
use Rattle.lower_pieces.specs.declared.evaluation.Item.{Item}
use Rattle.lower_pieces.specs.declared.evaluation.Item.TheVariants as of

-- a read, which comes where the guard isn't 0, or a test, whose failure comes where it isn't 0
pub data JoinedItem : Type 0 where
  Reads : (guard : Option Term) (target : PlainTarget) (into : ℕ) → JoinedItem
  Tests : (test : Term) (failure : ℕ) → JoinedItem

-- an item with its guard joined
abbrev pub joined : plain.Item → JoinedItem
joined (Site g t n) = Reads (guard_term g) t n
joined (Check g t f) = Tests (guarded g t) f

-- all of these items, or the reads alone
abbrev pub told : Bool → List JoinedItem → List JoinedItem
told b [] = []
told b (Reads g t n ∷ is) = Reads g t n ∷ told b is
told b (Tests t f ∷ is) = if b then Tests t f ∷ told b is else told b is

-- an item as plain data
abbrev pub item_of : Item → JoinedItem
item_of (of.Read g t n) = Reads (option_map term_of g) (target_of t) n
item_of (of.Test t f) = Tests (term_of t) f

-- items as plain data
abbrev pub items_of : List Item → List JoinedItem
items_of is = map item_of is
