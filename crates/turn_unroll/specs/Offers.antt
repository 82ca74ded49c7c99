-- The alternatives of a program.
use Rattle.std.specs.Prelude.{ℕ, max, List, [], ◌∷◌}
use Rattle.turn_law.specs.Sight.{Offer}

-- the greatest label, and 0 without an alternative
abbrev pub greatest_of : List Offer → ℕ
greatest_of [] = 0
greatest_of (o ∷ os) = max o.choice.label (greatest_of os)
