-- Counts of faults over several calls.
use Rattle.std.proofs.Common.{ℕ, ◌≤◌, arith}
use Rattle.chk_base.specs.Causes.{Rose}

-- a count that rose in a later call rose since an earlier one
pub rose_since : (before between now : ℕ) → before ≤ between → Rose between now → Rose before now
rose_since before between now later rose = omega arith

-- a count that rose before an earlier call's end has risen since
pub rose_until : (before between now : ℕ) → Rose before between → between ≤ now → Rose before now
rose_until before between now rose later = omega arith
