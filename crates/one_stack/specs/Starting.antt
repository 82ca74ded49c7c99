-- The machine at the start: at most one task is on the stack, at its body's beginning.
use Rattle.std.specs.Prelude.{◌≡◌, ℕ, List, [], ◌∷◌, false, if◌then◌else◌, nat_lt, Option, Some, None}
use Rattle.step_ir.specs.OneStackMachine.{Frame, Stacked, without}
use Rattle.step_ir.specs.PointStep.{Bits}
use Rattle.step_ir.specs.Setting.{Setting}

-- the stack with this task alone
abbrev pub stack_of : Option ℕ → List (Frame ℕ)
stack_of None = []
stack_of (Some t) = record { who = t; state = 0; held = []; yielded = false } ∷ []

-- the task, if it is above the idle level
abbrev pub first_task : Setting → Option ℕ → Option ℕ
first_task app None = None
first_task app (Some t) = if nat_lt 0 (app.level t) then Some t else None

-- these requests without the first of this task
abbrev pub without_task : Option ℕ → List ℕ → List ℕ
without_task None ts = ts
without_task (Some t) ts = without t ts

-- the machine has this task on the stack, and these fresh requests
pub record IsStart (m : Stacked ℕ Bits) (top : Option ℕ) (waiting : List ℕ) : Type 0 where
  pub stack : m.stack ≡ stack_of top
  pub fresh : m.fresh ≡ waiting
