-- Functions that are found one after another.
use Rattle.std.specs.Prelude.{◌≡◌, ℕ, ◌<◌, Bool, false, ◌||◌, List, length, get_or}
use Rattle.application.specs.Levels.{has_number}

-- the flags are those of a test, for each function below a number
pub record IsTable (flags : List Bool) (count : ℕ) (test : ℕ → Bool) : Type 0 where
  pub sized : length flags ≡ count
  pub flagged : (g : ℕ) → g < count → get_or flags g false ≡ test g

-- the flags and the list of those found of late, before and after the functions of a test are found; the list has what the flags have beyond
-- some others
pub record Finds (flags : List Bool) (fresh : List ℕ) (flags' : List Bool) (fresh' : List ℕ) (test : ℕ → Bool) : Type 0 where
  pub sized : length flags' ≡ length flags
  pub flagged : (g : ℕ) → g < length flags → get_or flags' g false ≡ (get_or flags g false || test g)
  pub listed : (others : ℕ → Bool) → ((g : ℕ) → g < length flags → get_or flags g false ≡ (others g || has_number fresh g)) → (g : ℕ) → g < length flags → get_or flags' g false ≡ (others g || has_number fresh' g)
