-- The start values of the cells, and the stack at the start.
use Rattle.std.proofs.Common.{◌≡◌, ◌∙◌, ℕ, zero, suc, ◌+◌, ◌*◌, ◌≤◌, Bool, true, false, if◌then◌else◌, ◌==◌, nat_lt, List, [], ◌∷◌, length, Option, Some, None, refl, sym, ap, ap₂, subst, arith}
use Rattle.application.specs.declared.app.Task.{Task}
use Rattle.one_stack.specs.Built.{held_of, held_times, kept_at, sum_below}
use Rattle.one_stack.specs.PlainCode.{PlainCode, steps_of}
use Rattle.one_stack.specs.Starting.{IsStart, first_task, stack_of, without_task}
use Rattle.step_ir.specs.OneStackMachine as machine
use Rattle.step_ir.specs.OneStackMachine.{whos}
use Rattle.step_ir.specs.Setting.{Setting, foremost, started_from}

-- nothing is held on the stack at the start
pub held_none : (top : Option ℕ) (r : ℕ) → held_times r (stack_of top) ≡ 0
held_none None r = refl
held_none (Some t) r = refl

pub kept_none : (top : Option ℕ) (e i : ℕ) → kept_at (held_of e (stack_of top)) i ≡ 0
kept_none None e i = refl
kept_none (Some t) e i = go (t == e) where
  go : (b : Bool) → kept_at (if b then [] else []) i ≡ 0
  go true = refl
  go false = refl

pub product_below : (n r : ℕ) → sum_below n (λ x. r) ≡ n * r
product_below zero r = omega arith
product_below (suc n) r = omega (arith, product_below n r)

-- the machine settles on the foremost of the tasks that are started
settled : (app : Setting) (code : PlainCode) (first : Option ℕ)
    → IsStart (machine.settle_with app (steps_of code) first (record { globals = code.start; stack = []; fresh = app.autostart; sections = []; is_stopped = false }))
    (first_task app first) (without_task (first_task app first) app.autostart)
settled app code None = record { stack = refl; fresh = refl }
settled app code (Some t) = go (nat_lt 0 (app.level t)) where
  go : (b : Bool)
      → IsStart (if b
      then record { globals = code.start; stack = machine.begun (steps_of code) t ∷ []; fresh = machine.without t app.autostart; sections = []; is_stopped = false }
      else record { globals = code.start; stack = []; fresh = app.autostart; sections = []; is_stopped = false })
      (if b then Some t else None) (without_task (if b then Some t else None) app.autostart)
  go true = record { stack = refl; fresh = refl }
  go false = record { stack = refl; fresh = refl }

pub begun : (app : Setting) (code : PlainCode) (started fresh : List ℕ) (top : Option ℕ) → started ≡ app.autostart
    → top ≡ first_task app (foremost app started) → fresh ≡ without_task top started
    → IsStart (machine.start app (steps_of code) code.start) top fresh
begun app code started fresh top all first rest =
    let is : top ≡ first_task app (foremost app app.autostart) = first ∙ ap (λ ts. first_task app (foremost app ts)) all in
    let others : fresh ≡ without_task (first_task app (foremost app app.autostart)) app.autostart = rest ∙ ap₂ without_task is all in
    subst (λ t. IsStart (machine.start app (steps_of code) code.start) t fresh) (sym is)
    (subst (λ ts. IsStart (machine.start app (steps_of code) code.start) (first_task app (foremost app app.autostart)) ts) (sym others)
    (settled app code (foremost app app.autostart)))

-- at most all tasks are started
pub few_started : (n : ℕ) (ts : List Task) → length (started_from n ts) ≤ length ts
few_started n [] = omega arith
few_started n (t ∷ ts) = go t.autostart (few_started (n + 1) ts) where
  go : (b : Bool) → length (started_from (n + 1) ts) ≤ length ts → length (if b then n ∷ started_from (n + 1) ts else started_from (n + 1) ts) ≤ suc (length ts)
  go true few = omega (arith, few)
  go false few = omega (arith, few)

fewer : (t : ℕ) (ts : List ℕ) → length (machine.without t ts) ≤ length ts
fewer t [] = omega arith
fewer t (x ∷ xs) = go (x == t) (fewer t xs) where
  go : (b : Bool) → length (machine.without t xs) ≤ length xs → length (if b then xs else x ∷ machine.without t xs) ≤ suc (length xs)
  go true few = omega arith
  go false few = omega (arith, few)

pub few_without : (top : Option ℕ) (ts : List ℕ) → length (without_task top ts) ≤ length ts
few_without None ts = omega arith
few_without (Some t) ts = fewer t ts
