-- A point has few rules.
use Rattle.std.proofs.Common.{◌≡◌, ◌∙◌, ℕ, zero, suc, ◌+◌, ◌*◌, ◌≤◌, Bool, true, false, ◌&&◌, if◌then◌else◌, nat_le, nat_lt, List, [], ◌∷◌, ◌++◌, length, Option, Some, None, refl, ap, arith}
use Rattle.std.proofs.lemmas.List.{length-append, length_push}
use Rattle.std.proofs.Math.Nat.{mul-le-mul_left}
use Rattle.chk_base.specs.declared.word.Width.{Width}
use Rattle.chk_base.specs.Term.{Term, Const, Pick}
use Rattle.guard_prog.specs.declared.draft.Control.{Control}
use Rattle.guard_prog.specs.declared.draft.Control.TheVariants.{Goto, Push, Pop}
use Rattle.one_stack.specs.Rules.{Plan, Rule, action_rules, activate_rules, added, change_sets, end_change, end_rules, goes_on, got, guarded, index_term, may_follow, may_push, next_rules, none_held, plain, point_rules, push_rules, pushed, release_rules, released, return_sets, service_rules, start_rule, start_rules, write_sets}
use Rattle.one_stack.specs.Tables.{Tables, plan_in, seen, width_in}
use Rattle.step_ir.specs.declared.event.Service.{Service}
use Rattle.step_ir.specs.declared.event.Service.TheVariants.{Activate, Terminate, Chain, Schedule, Get, Release, DisableAll, EnableAll, SuspendAll, ResumeAll, SuspendOs, ResumeOs}
use Rattle.step_ir.specs.Points.{PlainAction, Read, Write, Local, Branch, Input, Call, Return, Invoke, Assert, End, PlainPoint}
use Rattle.step_ir.specs.Setting.{Setting}

module _ (app : Setting) (plan : Plan) (width : ℕ → Width) where
  length-next_rules : (own sets : List (ℕ × Term)) (control : ℕ → Control) (nexts : List (Term × ℕ)) → length (next_rules app plan width own sets control nexts) ≡ length nexts
  length-next_rules own sets control [] = refl
  length-next_rules own sets control (x ∷ xs) = ap suc (length-next_rules own sets control xs)

  length-guarded : (c : Term) (rs : List Rule) → length (guarded c rs) ≡ length rs
  length-guarded c [] = refl
  length-guarded c (r ∷ rs) = ap suc (length-guarded c rs)

  few_starts : (e : ℕ) (x : Option ℕ) (t : ℕ) → length (start_rules app plan e x t) ≤ t
  few_starts e x zero = omega arith
  few_starts e x (suc t) = go (may_follow app plan e x t) (few_starts e x t) where
    go : (b : Bool) → length (start_rules app plan e x t) ≤ t → length (if b then start_rule app plan e x t ∷ start_rules app plan e x t else start_rules app plan e x t) ≤ suc t
    go true few = omega (arith, few)
    go false few = omega (arith, few)

  few_ends : (e : ℕ) (x : Option ℕ) → length (end_rules app plan e x) ≤ plan.tasks + 1
  few_ends e x = omega (arith, few_starts e x plan.tasks, length_push (start_rules app plan e x plan.tasks) (plain (Const 1) (change_sets app plan (end_change e x None)) Pop))

  few_pushes : (e r : ℕ) (nexts : List (Term × ℕ)) (t : ℕ) → length (push_rules app plan width e r nexts t) ≤ t * length nexts
  few_pushes e r nexts zero = omega arith
  few_pushes e r nexts (suc t) = go (nat_lt (app.run_level e) (app.level t) && nat_le (app.level t) (app.ceiling r)) (few_pushes e r nexts t) where
    starts : List Rule
    starts = guarded (may_push app plan r t) (next_rules app plan width [] (change_sets app plan (released e r (Some t))) (λ n. Push (plan.number e n) (plan.number t 0)) nexts)

    count : length starts ≡ length nexts
    count = length-guarded (may_push app plan r t) (next_rules app plan width [] (change_sets app plan (released e r (Some t))) (λ n. Push (plan.number e n) (plan.number t 0)) nexts) ∙ length-next_rules [] (change_sets app plan (released e r (Some t))) (λ n. Push (plan.number e n) (plan.number t 0)) nexts

    go : (b : Bool) → length (push_rules app plan width e r nexts t) ≤ t * length nexts → length (if b then starts ++ push_rules app plan width e r nexts t else push_rules app plan width e r nexts t) ≤ suc t * length nexts
    go true few = omega (arith, length-append starts (push_rules app plan width e r nexts t), count, few)
    go false few = omega (arith, few)

  few_releases : (e r : ℕ) (nexts : List (Term × ℕ)) → length (release_rules app plan width e r nexts) ≤ plan.tasks * length nexts + length nexts
  few_releases e r nexts =
      omega (arith, length-append (push_rules app plan width e r nexts plan.tasks) (next_rules app plan width [] (change_sets app plan (released e r None)) (λ n. Goto (plan.number e n)) nexts), few_pushes e r nexts plan.tasks, length-next_rules [] (change_sets app plan (released e r None)) (λ n. Goto (plan.number e n)) nexts)

  few_activates : (e x : ℕ) (nexts : List (Term × ℕ)) → length (activate_rules app plan width e x nexts) ≤ 2 * length nexts
  few_activates e x nexts = go (nat_lt (app.run_level e) (app.level x)) where
    starts : List Rule
    starts = guarded (none_held app plan (app.level x)) (next_rules app plan width [] (change_sets app plan (pushed x)) (λ n. Push (plan.number e n) (plan.number x 0)) nexts)

    count : length starts ≡ length nexts
    count = length-guarded (none_held app plan (app.level x)) (next_rules app plan width [] (change_sets app plan (pushed x)) (λ n. Push (plan.number e n) (plan.number x 0)) nexts) ∙ length-next_rules [] (change_sets app plan (pushed x)) (λ n. Push (plan.number e n) (plan.number x 0)) nexts

    others : List Rule
    others = next_rules app plan width [] (change_sets app plan (added x)) (λ n. Goto (plan.number e n)) nexts

    rest : length others ≡ length nexts
    rest = length-next_rules [] (change_sets app plan (added x)) (λ n. Goto (plan.number e n)) nexts

    go : (b : Bool) → length (if b then starts ++ others else others) ≤ 2 * length nexts
    go true = omega (arith, length-append starts others, count, rest)
    go false = omega (arith, rest)

  -- at most so many rules
  abbrev most : ℕ → ℕ
  most n = plan.tasks * n + (2 * n + (plan.tasks + 1))

  few_services : (e : ℕ) (service : Service) (nexts : List (Term × ℕ)) → length (service_rules app plan width e service nexts) ≤ most (length nexts)
  few_services e (Activate x) nexts = omega (arith, few_activates e x.0 nexts)
  few_services e Terminate nexts = omega (arith, few_ends e None)
  few_services e (Chain x) nexts = omega (arith, few_ends e (Some x.0))
  few_services e Schedule nexts = omega arith
  few_services e (Get r) nexts = omega (arith, length-next_rules [] (change_sets app plan (got e r)) (λ n. Goto (plan.number e n)) nexts)
  few_services e (Release r) nexts = omega (arith, few_releases e r nexts)
  few_services e DisableAll nexts = omega arith
  few_services e EnableAll nexts = omega arith
  few_services e SuspendAll nexts = omega arith
  few_services e ResumeAll nexts = omega arith
  few_services e SuspendOs nexts = omega arith
  few_services e ResumeOs nexts = omega arith

  few_going : (e : ℕ) (own : List (ℕ × Term)) (nexts : List (Term × ℕ)) → length (goes_on app plan width e own nexts) ≤ most (length nexts)
  few_going e own nexts = omega (arith, length-next_rules own [] (λ n. Goto (plan.number e n)) nexts)

  few_actions : (e : ℕ) (action : PlainAction) (nexts : List (Term × ℕ)) → length (action_rules app plan width e action nexts) ≤ most (length nexts)
  few_actions e (Read t into) nexts = few_going e ((into, Pick t.base t.len false (index_term t.index)) ∷ []) nexts
  few_actions e (Write t v) nexts = few_going e (write_sets t.base (index_term t.index) v t.len) nexts
  few_actions e (Local q v) nexts = few_going e ((q, v) ∷ []) nexts
  few_actions e (Branch v) nexts = few_going e [] nexts
  few_actions e (Input q) nexts = omega arith
  few_actions e (Call f sets) nexts = few_going e sets nexts
  few_actions e (Return s) nexts = few_going e (return_sets s) nexts
  few_actions e (Invoke s) nexts = few_services e s nexts
  few_actions e (Assert v) nexts = few_going e [] nexts
  few_actions e End nexts = omega arith

-- so that their labels are small
pub few_rules : (t : Tables) (e : ℕ) (p : PlainPoint) → t.entities ≤ 16 → length p.nexts ≤ 2048 → length (point_rules (seen t) (plan_in t) (width_in t) e p) ≤ 40000
few_rules t e p entities nexts =
    let product : length p.nexts * t.entities ≤ length p.nexts * 16 = mul-le-mul_left (length p.nexts) entities in
    let few = few_actions (seen t) (plan_in t) (width_in t) e p.action p.nexts in
    omega (arith, product, few)
