-- The points of a thing from its joined items.
use Rattle.std.specs.Prelude.{ℕ, ◌+◌, List, [], ◌∷◌, ◌++◌, Option, Some, None}
use Rattle.chk_base.specs.declared.place.Place.{Place}
use Rattle.chk_base.specs.Term.{Term}
use Rattle.step_ir.specs.Points.{PlainAction, Read, PlainPoint}
use Rattle.lower_law.specs.Lowered.{Nexts, always}
use Rattle.lower_pieces.specs.Joined.{JoinedItem, Reads, Tests}

-- how many reads there are
abbrev pub reads_in : List JoinedItem → ℕ
reads_in [] = 0
reads_in (Tests t f ∷ is) = reads_in is
reads_in (Reads g t n ∷ is) = 1 + reads_in is

-- the tests that are looked at again behind a read with this guard
abbrev pub behind_joined : Option Term → List (Term × ℕ) → List (Term × ℕ)
behind_joined None traps = []
behind_joined (Some g) traps = traps

module _ (number : ℕ → ℕ) where
  -- at this position where the guard holds; after an unguarded read nothing else is looked at
  abbrev pub cut_joined : Option Term → ℕ → Nexts → Nexts
  cut_joined None at rest = always number at
  cut_joined (Some g) at rest = (g, number at) ∷ rest

  -- where a thing with these items begins
  abbrev pub entry_joined : ℕ → List JoinedItem → Nexts
  entry_joined at [] = always number at
  entry_joined at (Tests t f ∷ is) = entry_joined at is
  entry_joined at (Reads g t n ∷ is) = cut_joined g at (entry_joined (at + 1) is)

  -- a point for each read, and one that completes the thing, each with the tests as traps that come before it and behind the last read without a guard
  abbrev pub thing_joined : Place → PlainAction → Nexts → List (Term × ℕ) → ℕ → List JoinedItem → List PlainPoint
  thing_joined place action nexts traps at [] = record { place = place; action = action; traps = traps; nexts = nexts } ∷ []
  thing_joined place action nexts traps at (Tests t f ∷ is) = thing_joined place action nexts (traps ++ (t, f) ∷ []) at is
  thing_joined place action nexts traps at (Reads g t n ∷ is) =
      record { place = place; action = Read t n; traps = traps; nexts = entry_joined (at + 1) is } ∷ thing_joined place action nexts (behind_joined g traps) (at + 1) is
