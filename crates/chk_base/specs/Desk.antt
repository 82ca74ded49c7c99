-- What a desk means, and what its calls do.
use Rattle.std.specs.Prelude.{◌≡◌, ℕ, ◌<◌, ◌≤◌, Bool, true, false, if◌then◌else◌, List, [], ◌++◌, length, take, Option, Some, None, Result, Ok, Err, OnOk, OnErr, IfOk, IfSome, IsSomeAnd, IsErrOf, option_map}
use Rattle.std.specs.Option.{option_map_or}
use Rattle.std.specs.Ordering.{nat_cmp}
use Rattle.std.specs.Cmp.Lexicographic.{slice_cmp}
use Rattle.std.specs.FinMap.{FinMap, get, insert, code}
use Rattle.std.specs.Coded.{Coded, coded_ℕ, coded_list}
use Rattle.chk_base.specs.declared.desk.FetchFault.{FetchFault}
use Rattle.chk_base.specs.declared.desk.FetchFault.TheVariants as fetch
use Rattle.chk_base.specs.declared.desk.PutFault.{PutFault}
use Rattle.chk_base.specs.declared.desk.PutFault.TheVariants as put
use Rattle.chk_base.specs.Causes.{is_fault_of, HasCause}
use Rattle.chk_base.specs.Pieces.{TakesSome}

-- files: from the bytes of a name to the bytes of the file
abbrev pub Files : Type 0
Files = FinMap (slice_cmp nat_cmp) (List ℕ)

-- files have a code, as their bytes have
abbrev pub files_code : Coded Files
files_code = code (coded_list coded_ℕ) (coded_list coded_ℕ)

-- a call that failed, with the name that it was given; for an append that of the current file, and none where no file was begun
pub data DeskFault : Type 0 where
  Fetch : (name : List ℕ) → DeskFault
  Begin : (name : List ℕ) → DeskFault
  Append : (name : Option (List ℕ)) → DeskFault

-- what a desk means: its files where it tells them, the name of the file that was begun last, how often it has failed, and its last fault
pub record DeskState : Type 0 where
  pub files : Option Files
  pub current : Option (List ℕ)
  pub faults : ℕ
  pub last_fault : Option DeskFault

-- a desk with these files of which no call was made yet
abbrev pub at_first : Option Files → DeskState
at_first files = record { files = files; current = None; faults = 0; last_fault = None }

-- the files with these bytes under this name, in place of any that were there
abbrev pub with_file : List ℕ → List ℕ → Files → Files
with_file name bytes files = insert files name bytes

-- the files with a piece at the end of the file of this name; unchanged where there is none
abbrev pub with_piece : List ℕ → List ℕ → Files → Files
with_piece name piece files = option_map_or (λ bytes. insert files name (bytes ++ piece)) (get files name) files

-- the files with a piece at the end of the current file; unchanged where no file was begun
abbrev pub with_piece_at : Option (List ℕ) → List ℕ → Files → Files
with_piece_at None piece files = files
with_piece_at (Some name) piece files = with_piece name piece files

-- the desk failed
abbrev pub is_fetch_failed : FetchFault → Bool
is_fetch_failed fetch.Failed = true
is_fetch_failed fetch.TooLong = false
is_fetch_failed fetch.Memory = false

-- the desk failed
abbrev pub is_put_failed : PutFault → Bool
is_put_failed put.Failed = true
is_put_failed put.Memory = false

-- what a fetch answers of a file that is told: its bytes, or that they are more than the limit; of a fault and of want of memory nothing
abbrev pub FetchAnswer : Option (List ℕ) → ℕ → Result (List ℕ) FetchFault → Type 0
FetchAnswer file limit (Ok bytes) = (file ≡ Some bytes) × (length bytes ≤ limit)
FetchAnswer file limit (Err fetch.TooLong) = IsSomeAnd file (λ bytes. limit < length bytes)
FetchAnswer file limit (Err fetch.Failed) = Unit {0}
FetchAnswer file limit (Err fetch.Memory) = Unit {0}

-- a fetch of the file of this name
pub record Fetches (before after : DeskState) (name : List ℕ) (limit : ℕ) (result : Result (List ℕ) FetchFault) : Type 0 where
  pub at_most : IfOk result (λ bytes. length bytes ≤ limit)
  pub answer : IfSome before.files (λ files. FetchAnswer (get files name) limit result)
  pub files : after.files ≡ before.files
  pub current : after.current ≡ before.current
  pub cause : HasCause is_fetch_failed before.faults after.faults result
  pub last_fault : after.last_fault ≡ (if is_fault_of is_fetch_failed result then Some (Fetch name) else before.last_fault)

-- a begin of the file of this name
pub record Begins (before after : DeskState) (name : List ℕ) (result : Result Unit PutFault) : Type 0 where
  pub emptied : OnOk result (after.files ≡ option_map (with_file name []) before.files)
  pub began : OnOk result (after.current ≡ Some name)
  pub files_kept : OnErr result (after.files ≡ before.files)
  pub current_kept : OnErr result (after.current ≡ before.current)
  pub cause : HasCause is_put_failed before.faults after.faults result
  pub last_fault : after.last_fault ≡ (if is_fault_of is_put_failed result then Some (Begin name) else before.last_fault)

-- an append of a piece to the current file
pub record Appends (before after : DeskState) (piece : List ℕ) (result : Result ℕ PutFault) : Type 0 where
  pub count : IfOk result (TakesSome piece)
  pub grown : IfOk result (λ n. after.files ≡ option_map (with_piece_at before.current (take n piece)) before.files)
  pub files_kept : OnErr result (after.files ≡ before.files)
  pub current : after.current ≡ before.current
  pub none_begun : before.current ≡ None → IsErrOf result put.Failed
  pub cause : HasCause is_put_failed before.faults after.faults result
  pub last_fault : after.last_fault ≡ (if is_fault_of is_put_failed result then Some (Append before.current) else before.last_fault)

-- an append of a whole piece to the current file; where it fails or finds no memory a prefix of the piece was appended
pub record AppendsAll (before after : DeskState) (piece : List ℕ) (result : Result Unit PutFault) : Type 0 where
  pub whole : OnOk result (after.files ≡ option_map (with_piece_at before.current piece) before.files)
  pub cut : OnErr result ((n : ℕ) × (after.files ≡ option_map (with_piece_at before.current (take n piece)) before.files))
  pub current : after.current ≡ before.current
  pub none_begun : before.current ≡ None → 0 < length piece → IsErrOf result put.Failed
  pub cause : HasCause is_put_failed before.faults after.faults result
  pub last_fault : after.last_fault ≡ (if is_fault_of is_put_failed result then Some (Append before.current) else before.last_fault)
