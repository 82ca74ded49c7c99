-- What putting a piece at the end of a text does.
use Rattle.std.specs.Prelude.{◌≡◌, ℕ, List, ◌++◌, Result, OnOk}

-- the piece stands behind what was there, unless memory ended
pub record Puts {E : Type 0} (before after piece : List ℕ) (result : Result (Unit {0}) E) : Type 0 where
  pub whole : OnOk result (after ≡ before ++ piece)
