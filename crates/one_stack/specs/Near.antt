-- Points whose numbers and cells have 16 bits, also where a little is added to them.
use Rattle.std.specs.Prelude.{◌≡◌, ℕ, ◌+◌, ◌≤◌, List, [], ◌∷◌, length, Some, slice_get}
use Rattle.chk_base.specs.Term.{Term}
use Rattle.step_ir.specs.Points.{PlainAction, Write, PlainPoint}

-- the points of nexts
abbrev pub AreNear : List (Term × ℕ) → Type 0
AreNear [] = Unit {0}
AreNear (x ∷ xs) = (x.1 ≤ 2048) × AreNear xs

-- the array that an action writes to
abbrev pub IsWriteNear : PlainAction → Type 0
IsWriteNear (Write t v) = t.base + t.len ≤ 8192
IsWriteNear _ = Unit {0}

-- a point, which has few nexts
pub record IsNear (p : PlainPoint) : Type 0 where
  pub nexts : AreNear p.nexts
  pub action : IsWriteNear p.action
  pub few : length p.nexts ≤ 2048

-- each of these points
abbrev pub AreAllNear : List PlainPoint → Type 0
AreAllNear points = (i : ℕ) (p : PlainPoint) → slice_get points i ≡ Some p → IsNear p
