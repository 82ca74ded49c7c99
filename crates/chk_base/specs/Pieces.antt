-- Pieces of bytes that are handed to a desk or a sink.
use Rattle.std.specs.Prelude.{ℕ, ◌≤◌, min, List, length, Option, Some, None}

-- n bytes of a piece are taken: at most all, and at least one of a piece that isn't empty
pub record TakesSome (piece : List ℕ) (n : ℕ) : Type 0 where
  pub at_most : n ≤ length piece
  pub at_least : min 1 (length piece) ≤ n

-- so many bytes under a bound on what one call takes; all of them where no bound was given
abbrev pub at_most : Option ℕ → ℕ → ℕ
at_most None n = n
at_most (Some most) n = min n most
