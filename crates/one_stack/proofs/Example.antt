-- Small applications, computed turn by turn.
use Rattle.std.proofs.Common.{◌≡◌, ℕ, Bool, true, false, List, [], ◌∷◌, Option, Some, None, refl, nat_lt, ◌==◌, if◌then◌else◌, ◌+◌, option_map}
use Rattle.chk_base.specs.Term.{Const}
use Rattle.chk_base.specs.declared.word.Width.TheVariants.{W8}
use Rattle.guard_prog.specs.GuardedRun.{Program, State as Standing, start_of, run}
use Rattle.one_stack.specs.Built.{built}
use Rattle.one_stack.specs.PlainCode.{PlainCode}
use Rattle.step_ir.specs.PointStep.{nowhere}
use Rattle.step_ir.specs.Points.{PlainPoint, Invoke}
use Rattle.step_ir.specs.Setting.{Setting}
use Rattle.step_ir.specs.declared.event.Service.{Service}
use Rattle.step_ir.specs.declared.event.Service.TheVariants.{Activate, Terminate, Get, Release}

-- two tasks, of levels 1 and 2, of which the first is started; a resource has the ceiling 2
abbrev two_tasks : Setting
two_tasks =
    record {
      is_task = λ e. nat_lt e 2;
      is_routine = λ e. false;
      level = λ e. if nat_lt e 2 then e + 1 else 0;
      run_level = λ e. if nat_lt e 2 then e + 1 else 0;
      is_preemptive = λ e. nat_lt e 2;
      limit = λ e. if nat_lt e 2 then 1 else 0;
      ceiling = λ r. if r == 0 then 2 else 0;
      entities = 2;
      top = 2;
      autostart = 0 ∷ [];
    }

-- services one after another, the first of which is the point with this number
abbrev calls_from : ℕ → List Service → List PlainPoint
calls_from n [] = []
calls_from n (s ∷ ss) =
    record { place = nowhere; action = Invoke s; traps = []; nexts = (Const 1, n + 1) ∷ [] } ∷ calls_from (n + 1) ss

-- the first task calls these, and the second one ends at once
abbrev code_of : List Service → PlainCode
code_of services =
    record {
      cells = 0;
      width = λ q. W8;
      start = λ q. 0;
      points = λ e. if e == 0 then calls_from 0 services else (if e == 1 then calls_from 0 (Terminate ∷ []) else []);
    }

-- the stack after these labels, and whether a failure has come
abbrev seen : Program → List (ℕ × ℕ) → Option (List ℕ × Bool)
seen program pairs = option_map (λ (s : Standing). (s.stack, s.is_failed)) (run program pairs (start_of program))

-- one task activates the other, which is above it
abbrev activating : Program
activating = built two_tasks (code_of (Activate (record { 0 = 1 }) ∷ Terminate ∷ [])) 1

-- point 0 of the first task is point 1 of the program
starts : seen activating [] ≡ Some (1 ∷ 0 ∷ [], false)
starts = refl

-- the second task is pushed over the first
pushes : seen activating ((3, 0) ∷ []) ≡ Some (3 ∷ 2 ∷ 0 ∷ [], false)
pushes = refl

-- both end
ends : seen activating ((3, 0) ∷ (8, 0) ∷ (5, 0) ∷ []) ≡ Some (0 ∷ [], false)
ends = refl

-- no other label is one of point 1
no_other : seen activating ((1, 0) ∷ []) ≡ None
no_other = refl

-- a request while the ceiling is held waits until the release
abbrev holding : Program
holding = built two_tasks (code_of (Get 0 ∷ Activate (record { 0 = 1 }) ∷ Release 0 ∷ Terminate ∷ [])) 1

-- the resource is taken
takes : seen holding ((3, 0) ∷ []) ≡ Some (2 ∷ 0 ∷ [], false)
takes = refl

-- the request waits
waits : seen holding ((3, 0) ∷ (5, 0) ∷ []) ≡ Some (3 ∷ 0 ∷ [], false)
waits = refl

-- it starts at the release
releases : seen holding ((3, 0) ∷ (5, 0) ∷ (3, 0) ∷ []) ≡ Some (5 ∷ 4 ∷ 0 ∷ [], false)
releases = refl

-- a task that ends with a resource fails, and its point stays
abbrev forgetting : Program
forgetting = built two_tasks (code_of (Get 0 ∷ Terminate ∷ [])) 1

fails : seen forgetting ((3, 0) ∷ (1, 0) ∷ []) ≡ Some (2 ∷ 0 ∷ [], true)
fails = refl
