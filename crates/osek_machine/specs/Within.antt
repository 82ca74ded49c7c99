-- What a point names is among the first n cells.
use Rattle.std.specs.Prelude.{◌≡◌, ℕ, ◌+◌, ◌<◌, ◌≤◌, List, [], ◌∷◌, length, Option, Some, None}
use Rattle.chk_base.specs.declared.word.Width.{Width}
use Rattle.chk_base.specs.declared.word.Width.TheVariants.{W32}
use Rattle.chk_base.specs.Term.{Term}
use Rattle.chk_base.specs.WordValue.{IsWithin}
use Rattle.step_ir.specs.Points.{PlainTarget, PlainAction, PlainPoint, Read, Write, Local, Branch, Input, Call, Return, Invoke, Assert, End}

-- the index of a target, if there is one, reads these cells
abbrev pub IsIndexWithin : ℕ → Option Term → Type 0
IsIndexWithin n None = Unit {0}
IsIndexWithin n (Some t) = IsWithin n t

-- a target is an array of these cells, with an element
pub record IsTargetWithin (n : ℕ) (t : PlainTarget) : Type 0 where
  pub some : 0 < t.len
  pub within : t.base + t.len ≤ n
  pub index : IsIndexWithin n t.index
  pub few : n ≤ 8192

-- sets are of these cells
abbrev pub AreSetsWithin : ℕ → List (ℕ × Term) → Type 0
AreSetsWithin n [] = Unit {0}
AreSetsWithin n (s ∷ ss) = (s.0 < n) × IsWithin n s.1 × AreSetsWithin n ss

-- the expressions of traps or nexts read these cells
abbrev pub AreItemsWithin : ℕ → List (Term × ℕ) → Type 0
AreItemsWithin n [] = Unit {0}
AreItemsWithin n (x ∷ xs) = IsWithin n x.0 × AreItemsWithin n xs

-- the set of a return, if there is one, is of these cells
abbrev pub IsReturnWithin : ℕ → Option (ℕ × Term) → Type 0
IsReturnWithin n None = Unit {0}
IsReturnWithin n (Some s) = (s.0 < n) × IsWithin n s.1

-- an action is over n cells of these widths
abbrev pub IsActionWithin : (ℕ → Width) → ℕ → PlainAction → Type 0
IsActionWithin width n (Read target into) = IsTargetWithin n target × (into < n) × (width into ≡ W32)
IsActionWithin width n (Write target term) = IsTargetWithin n target × IsWithin n term
IsActionWithin width n (Local cell term) = (cell < n) × IsWithin n term
IsActionWithin width n (Branch term) = IsWithin n term
IsActionWithin width n (Input cell) = cell < n
IsActionWithin width n (Call f sets) = (length sets ≤ n) × AreSetsWithin n sets
IsActionWithin width n (Return set) = IsReturnWithin n set
IsActionWithin width n (Invoke s) = Unit {0}
IsActionWithin width n (Assert term) = IsWithin n term
IsActionWithin width n End = Unit {0}

-- a point is over n cells of these widths
pub record IsPointWithin (width : ℕ → Width) (n : ℕ) (p : PlainPoint) : Type 0 where
  pub action : IsActionWithin width n p.action
  pub traps : AreItemsWithin n p.traps
  pub nexts : AreItemsWithin n p.nexts

-- the cell of an input
abbrev pub input_cell : PlainAction → Option ℕ
input_cell (Input cell) = Some cell
input_cell _ = None
