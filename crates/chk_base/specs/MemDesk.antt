-- A desk in memory.
use Rattle.std.specs.Prelude.{◌≡◌, ◌⊎◌, ℕ, List, Option, Some, None, Contains, IfSome, IsSome}
use Rattle.std.specs.FinMap.{get}
use Rattle.chk_base.specs.Causes.{risen}
use Rattle.chk_base.specs.Desk.{DeskState, DeskFault, Files}
use Rattle.chk_base.specs.Faults.{count_of, last_of}

-- what a desk in memory means: its files, the file begun last, the bound on the bytes that an append takes where one was given, how many calls there were, the
-- numbers of the calls that are to fail, and the faults
pub record MemDeskState : Type 0 where
  pub files : Files
  pub current : Option (List ℕ)
  pub most : Option ℕ
  pub calls : ℕ
  pub to_fail : List ℕ
  pub faults : Option (ℕ × DeskFault)

-- the current file is there
abbrev pub HasCurrent : Files → Option (List ℕ) → Type 0
HasCurrent files current = IfSome current (λ name. IsSome (get files name))

-- what it means as a desk
abbrev pub desk_state : MemDeskState → DeskState
desk_state desk = record { files = Some desk.files; current = desk.current; faults = count_of desk.faults; last_fault = last_of desk.faults }

-- the number of the next call was given
abbrev pub IsToFail : MemDeskState → Type 0
IsToFail desk = Contains desk.to_fail (risen desk.calls)

-- the next call fails as a fetch of this file: its number was given, or there is no such file
abbrev pub FetchFails : MemDeskState → List ℕ → Type 0
FetchFails desk name = IsToFail desk ⊎ (get desk.files name ≡ None)

-- the next call fails as an append: its number was given, or no file was begun
abbrev pub AppendFails : MemDeskState → Type 0
AppendFails desk = IsToFail desk ⊎ (desk.current ≡ None)

-- after a call that changed nothing but the counts
pub record CountsCall (before after : MemDeskState) : Type 0 where
  pub calls : after.calls ≡ risen before.calls
  pub to_fail : after.to_fail ≡ before.to_fail
  pub most : after.most ≡ before.most
