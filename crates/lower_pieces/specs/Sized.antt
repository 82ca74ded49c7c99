-- How many points the statements of a tree have, from how many a call of each function has.
use Rattle.std.specs.Prelude.{ℕ, ◌+◌, List, Option, Some, None, slice_get}
use Rattle.lower_law.specs.Items.{sites_all}
use Rattle.lower_law.specs.Statements.{CellStatement, If, Loop, Call, Block, CellBlock, Nil, Cons, questions}

-- the number at an index, and 0 behind the end
abbrev pub or_zero : Option ℕ → ℕ
or_zero None = 0
or_zero (Some n) = n

abbrev pub number_at : List ℕ → ℕ → ℕ
number_at ns i = or_zero (slice_get ns i)

module _ (calls : ℕ → ℕ) where
  abbrev mutual
    pub sized : CellStatement → ℕ
    sized (If p c a b) = sites_all (questions (If p c a b)) + 1 + sized_all a + sized_all b
    sized (Loop p c x b) = sites_all (questions (Loop p c x b)) + 1 + sized_all x + sized_all b
    sized (Block b) = sized_all b
    sized (Call p f args into) = sites_all (questions (Call p f args into)) + 1 + calls f
    sized s = sites_all (questions s) + 1

    pub sized_all : CellBlock → ℕ
    sized_all Nil = 0
    sized_all (Cons s b) = sized s + sized_all b
