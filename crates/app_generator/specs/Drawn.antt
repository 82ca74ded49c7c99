-- The numbers that are drawn, by the linear congruential generator.
use Rattle.std.specs.Prelude.{ℕ, zero, suc, ◌+◌, ◌*◌, ◌/◌, ◌%◌, ◌^◌}

-- the state behind a state
abbrev pub next : ℕ → ℕ
next state = (1664525 * state + 1013904223) % 2 ^ 32

-- the state so many draws later
abbrev pub state_after : ℕ → ℕ → ℕ
state_after state zero = state
state_after state (suc n) = next (state_after state n)

-- what the draw after so many others gives, a number below `range`
abbrev pub draw : ℕ → ℕ → ℕ → ℕ
draw state n range = state_after state (suc n) / 65536 % range
