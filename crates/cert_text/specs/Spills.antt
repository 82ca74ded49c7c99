-- A text that is appended to a file bit by bit: what isn't appended yet is held.
use Rattle.std.specs.Prelude.{◌≡◌, ℕ, ◌≤◌, if◌then◌else◌, List, ◌++◌, take, Option, Some, Result, Ok, Err, OnOk, OnErr, option_map}
use Rattle.chk_base.specs.Causes.{is_fault_of, HasCause}
use Rattle.chk_base.specs.Desk.{DeskState, Append, is_put_failed, with_piece_at}
use Rattle.chk_base.specs.declared.desk.PutFault.{PutFault}

-- A piece is put after what was held: its front is appended, and the rest is held; where that fails or finds no memory, a prefix of both was appended.
pub record Spills (before after : DeskState) (held left piece : List ℕ) (result : Result Unit PutFault) : Type 0 where
  pub whole : OnOk result ((done : List ℕ) × ((done ++ left ≡ held ++ piece) × (after.files ≡ option_map (with_piece_at before.current done) before.files)))
  pub cut : OnErr result ((n : ℕ) × (after.files ≡ option_map (with_piece_at before.current (take n (held ++ piece))) before.files))
  pub current : after.current ≡ before.current
  pub cause : HasCause is_put_failed before.faults after.faults result
  pub last_fault : after.last_fault ≡ (if is_fault_of is_put_failed result then Some (Append before.current) else before.last_fault)
