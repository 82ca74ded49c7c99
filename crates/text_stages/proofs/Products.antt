-- Products of numbers with bounds.
use Rattle.std.proofs.Common.{ℕ, ◌*◌, ◌^◌, ◌<◌, arith}
use Rattle.std.proofs.lemmas.Nat.{mul-le}

-- turns times bits of cells are below 2^64
pub state_fits : (turns cells : ℕ) → turns < 2 ^ 16 → cells < 2 ^ 32 → turns * cells < 2 ^ 64
state_fits turns cells few small = omega (arith, mul-le turns cells (2 ^ 16) (2 ^ 32) (omega arith) (omega arith))
