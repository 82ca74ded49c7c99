-- How a desk in memory or over real files counts its faults.
use Rattle.std.specs.Prelude.{◌≡◌, ℕ, ◌+◌, ◌-◌, ◌^◌, min, Option, Some, None, option_map, refl}
use native.Mathlib.Omega.{arith}
use Rattle.chk_base.specs.Desk.{DeskFault, Fetch, Begin, Append}
use Rattle.chk_base.specs.declared.faults.Call.{Call}
use Rattle.chk_base.specs.declared.faults.Call.TheVariants as call

-- the faults so far: none, or how many came before the last one, and the last one
abbrev pub PlainFaults : Type 0
PlainFaults = Option (ℕ × DeskFault)

-- how many faults there were
abbrev pub count_of : PlainFaults → ℕ
count_of None = 0
count_of (Some faults) = faults.0 + 1

-- the last fault
abbrev pub last_of : PlainFaults → Option DeskFault
last_of faults = option_map (λ f. f.1) faults

-- one more fault; the count stands still at the last value of 64 bits
abbrev pub after_fault : PlainFaults → DeskFault → PlainFaults
after_fault faults fault = Some (min (count_of faults) (2 ^ 64 - 2), fault)

-- the fault that a call kept
abbrev pub fault_of : Call → DeskFault
fault_of (call.Fetch name) = Fetch name.value
fault_of (call.Begin name) = Begin name.value
fault_of (call.Append name) = Append (option_map (λ n. n.value) name)

-- where there was no fault there is no last one
pub none_before : (faults : PlainFaults) → count_of faults ≡ 0 → last_of faults ≡ None
none_before None none = refl
none_before (Some faults) none = absurd (omega arith)
