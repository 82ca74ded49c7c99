-- Faults of the outside and their causes: what is handed in counts its own faults, and a call that tells of one has it there.
use Rattle.std.specs.Prelude.{ℕ, ◌+◌, ◌-◌, ◌^◌, ◌≤◌, min, Bool, true, false, IsTrue, Result, Ok, Err}

-- the count of faults rose by at least one, or stands at the last value of 64 bits
abbrev pub Rose : ℕ → ℕ → Type 0
Rose before now = min (before + 1) (2 ^ 64 - 1) ≤ now

-- the count after one more fault: it stands still at the last value of 64 bits
abbrev pub risen : ℕ → ℕ
risen count = min (count + 1) (2 ^ 64 - 1)

-- whether the answer is an error that counts as a fault
abbrev pub is_fault_of : {T E : Type 0} → (E → Bool) → Result T E → Bool
is_fault_of counts (Ok value) = false
is_fault_of counts (Err error) = counts error

-- every error counts as a fault
abbrev pub any_error : {E : Type 0} → E → Bool
any_error error = true

-- the count never falls, and an error that counts as a fault is told only where the count rose
pub record HasCause {T E : Type 0} (counts : E → Bool) (before now : ℕ) (result : Result T E) : Type 0 where
  pub later : before ≤ now
  pub failed : IsTrue (is_fault_of counts result) → Rose before now
