-- The first thing of a block, where an entity goes on.
use Rattle.std.specs.Prelude.{ℕ, Option, Some, None}
use Rattle.lower_law.specs.Items.{items_all}
use Rattle.lower_law.specs.Lowered.{Nexts, entry}
use Rattle.lower_law.specs.Statements.{CellStatement, Block, CellBlock, Nil, Cons, questions}

-- the first of two that is there
abbrev pub or_else : Option CellStatement → Option CellStatement → Option CellStatement
or_else None b = b
or_else (Some a) b = Some a

-- the first statement that leaves a thing to do, in blocks or not
abbrev mutual
  pub first_in : CellStatement → Option CellStatement
  first_in (Block b) = first_thing b
  first_in s = Some s

  pub first_thing : CellBlock → Option CellStatement
  first_thing Nil = None
  first_thing (Cons s b) = or_else (first_in s) (first_thing b)

module _ (number : ℕ → ℕ) (temp : ℕ) where
  -- where it begins, and else where it goes on behind
  abbrev pub entry_of : ℕ → ℕ → Option CellStatement → Nexts → Nexts
  entry_of base at None after = after
  entry_of base at (Some s) after = entry number at (items_all base temp (questions s))
