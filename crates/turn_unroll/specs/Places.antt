-- The places of labels and of a word's bits that may be true in a turn.
use Rattle.std.specs.Prelude.{◌≡◌, ℕ, suc, ◌-◌, ◌<◌, ◌≤◌, Bool, true, false, List, [], ◌∷◌, length, get_or, ◌==◌}
use Rattle.guard_prog.specs.GuardedRun.{PlainAlternative}
use Rattle.turn_law.specs.Symbol.{no}
use Rattle.turn_unroll.specs.declared.ways.Way.{Way}
use Rattle.turn_unroll.specs.Ways.{choice_of, input_bits}

-- labels are from 1 to this number
abbrev pub labels_below : ℕ → List PlainAlternative → Type 0
labels_below n [] = Unit {0}
labels_below n (a ∷ as') = (0 < a.label) × (a.label ≤ n) × labels_below n as'

-- each alternative that may be open has its label marked; label i + 1 stands at place i
abbrev pub HasMarks : List Bool → List Way → Type 0
HasMarks places [] = Unit {0}
HasMarks places (w ∷ ws) = ((w.taken.0 == 3) ≡ false → get_or places ((choice_of w).label - 1) false ≡ true) × HasMarks places ws

pub record AreMarked (n : ℕ) (ways : List Way) (places : List Bool) : Type 0 where
  pub count : length places ≡ n
  pub marks : HasMarks places ways

-- each alternative that may be open has an input of at most so many bits
abbrev pub bits_below : List Way → ℕ → Type 0
bits_below [] n = Unit {0}
bits_below (w ∷ ws) n = ((w.taken.0 == 3) ≡ false → input_bits (choice_of w).input ≤ n) × bits_below ws n

-- a word of 32 places, of which the lowest are marked, as many as the inputs of alternatives that may be open have bits
pub record IsMarkedWord (ways : List Way) (places : List Bool) : Type 0 where
  pub count : length places ≡ 32
  pub bits : ℕ
  pub most : bits_below ways bits
  pub marks : (i : ℕ) → i < bits → get_or places i false ≡ true
