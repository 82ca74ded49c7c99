-- Runs that are read, as pairs of label and word.
use Rattle.std.specs.Prelude.{◌≡◌, ℕ, List, [], ◌∷◌, Option, Some, None}
use Rattle.chk_base.specs.declared.word.Width.TheVariants.{W32}
use Rattle.turn_unroll.specs.declared.run.Turn.{Turn}

-- a turn as a pair of label and word
abbrev pub pair_of : Turn → ℕ × ℕ
pair_of t = (t.label, t.input.bits)

abbrev pub pairs_of : List Turn → List (ℕ × ℕ)
pairs_of [] = []
pairs_of (t ∷ ts) = pair_of t ∷ pairs_of ts

-- each input has 32 bits
abbrev pub AreWhole : List Turn → Type 0
AreWhole [] = Unit {0}
AreWhole (t ∷ ts) = (t.input.width ≡ W32) × AreWhole ts

-- the same of one turn, if there is one
abbrev pub pair_at : Option Turn → Option (ℕ × ℕ)
pair_at None = None
pair_at (Some t) = Some (pair_of t)

abbrev pub IsWhole : Option Turn → Type 0
IsWhole None = Unit {0}
IsWhole (Some t) = t.input.width ≡ W32
