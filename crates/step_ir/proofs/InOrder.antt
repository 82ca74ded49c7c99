-- An application in order is sound.
use Rattle.std.proofs.Common.{◌≡◌, ℕ, zero, suc, ◌+◌, ◌-◌, ◌<◌, ◌≤◌, Bool, true, false, List, [], ◌∷◌, length, Option, Some, None, refl, sym, ap, subst, ◌∙◌, arith, slice_get, if◌then◌else◌}
use Rattle.std.proofs.lemmas.Bool.Decides.{nat_tests}
use Rattle.std.proofs.lemmas.Option.{slice_get_within, get_or_from_slice_get}
use Rattle.std.specs.Prelude.{filter}
use Rattle.application.specs.declared.app.App.{App}
use Rattle.application.specs.declared.app.Resource.{Resource}
use Rattle.application.specs.declared.app.Routine.{Routine}
use Rattle.application.specs.declared.app.Task.{Task}
use Rattle.application.specs.InOrder.{IsInOrder, IsTaskInOrder, IsRoutineInOrder, AreCeilings}
use Rattle.application.specs.Levels.{ceiling_of, highest_task_level, internal_level, is_number, levels_of, routine_declares, routine_levels_of, task_declares}
use Rattle.step_ir.proofs.Greatest.{level_in, level_in_all, levels_at_most, routine_levels_at_most, all_levels_at_most, greatest-append}
use Rattle.step_ir.specs.Setting.{highest_level, setting_of, by_kind, resource_ceiling, started_from, IsSound, AreTasks}

module _ (app : App) (ok : IsInOrder app) where
  -- a task of the application is in order
  task_ok : (e : ℕ) (t : Task) → slice_get app.tasks e ≡ Some t → IsTaskInOrder app t
  task_ok e t at =
      subst (IsTaskInOrder app) (get_or_from_slice_get app.tasks e t t at) (ok.tasks e t (slice_get_within app.tasks e t at))

  -- so is a routine
  routine_ok : (k : ℕ) (r : Routine) → slice_get app.routines k ≡ Some r → IsRoutineInOrder app r
  routine_ok k r at =
      subst (IsRoutineInOrder app) (get_or_from_slice_get app.routines k r r at) (ok.routines k r (slice_get_within app.routines k r at))

  -- no level of a task is above 64
  level_low : (e : ℕ) (t : Task) → slice_get app.tasks e ≡ Some t → t.level ≤ 64
  level_low e t at = let x = task_ok e t at in let p = x.priority in let l = x.level in omega arith

  -- no level of a routine is above 80
  routine_low : (k : ℕ) (r : Routine) → slice_get app.routines k ≡ Some r → r.level ≤ 80
  routine_low k r at = let x = routine_ok k r at in let p = x.priority in let l = x.level in omega arith

  -- a task's level is in those of the tasks that share its internal resource
  internal_above : (e : ℕ) (t : Task) (o : Option ℕ) → slice_get app.tasks e ≡ Some t → t.internal ≡ o → t.level ≤ internal_level app t.level o
  internal_above e t None at is = omega arith
  internal_above e t (Some r) at is =
      let same : is_number (Some r) r ≡ true = grind (arith, nat_tests) in
      level_in (λ u. is_number u.internal r) app.tasks e t at (ap (λ o. is_number o r) is ∙ same)

  -- no level that an internal resource gives is above 64
  internal_low : (e : ℕ) (t : Task) (o : Option ℕ) → slice_get app.tasks e ≡ Some t → internal_level app t.level o ≤ 64
  internal_low e t None at = level_low e t at
  internal_low e t (Some r) at = levels_at_most (λ u. is_number u.internal r) 64 app.tasks level_low

  -- a run level is at least the level
  runs_above : (e : ℕ) (t : Task) → slice_get app.tasks e ≡ Some t → t.level ≤ t.run_level
  runs_above e t at = subst (λ l. t.level ≤ l) (sym (task_ok e t at).run_level) (go t.non_preemptive)
    where
      go : (b : Bool) → t.level ≤ (if b then highest_task_level app else internal_level app t.level t.internal)
      go true = level_in_all app.tasks e t at
      go false = internal_above e t t.internal at refl

  -- no run level of a task is above 64
  run_level_low : (e : ℕ) (t : Task) → slice_get app.tasks e ≡ Some t → t.run_level ≤ 64
  run_level_low e t at = subst (λ l. l ≤ 64) (sym (task_ok e t at).run_level) (go t.non_preemptive)
    where
      go : (b : Bool) → (if b then highest_task_level app else internal_level app t.level t.internal) ≤ 64
      go true = all_levels_at_most 64 app.tasks level_low
      go false = internal_low e t t.internal at

  -- no ceiling is above 80
  ceiling_low : (r : ℕ) → ceiling_of app r ≤ 80
  ceiling_low r =
      let tasks = levels_at_most (task_declares r) 64 app.tasks level_low in
      let routines = routine_levels_at_most (routine_declares r) 80 app.routines routine_low in
      let both = greatest-append (levels_of (filter (task_declares r) app.tasks)) (routine_levels_of (filter (routine_declares r) app.routines)) in
      omega arith

  -- so no resource has a ceiling above 80
  ceilings_low : (n : ℕ) (rs : List Resource) → AreCeilings app n rs → (k : ℕ) → resource_ceiling (slice_get rs k) ≤ 80
  ceilings_low n [] h k = omega arith
  ceilings_low n (r ∷ rs) h zero = let here = h.0 in let low = ceiling_low n in omega arith
  ceilings_low n (r ∷ rs) h (suc k) = ceilings_low (n + 1) rs h.1 k

  -- nor has the scheduler
  scheduler_low : highest_task_level app ≤ 80
  scheduler_low = let low = all_levels_at_most 64 app.tasks level_low in omega arith

  -- a task has a level above 0
  task_in : (e : ℕ) (o : Option Task) (p : Option Routine) → slice_get app.tasks e ≡ o → by_kind (λ t. true) (λ r. false) false o p ≡ true → 0 < by_kind (λ t. t.level) (λ r. r.level) 0 o p
  task_in e (Some t) p at h = let x = (task_ok e t at).level in omega arith
  task_in e None (Some r) at h = absurd (let k : false ≡ true = h in cc)
  task_in e None None at h = absurd (let k : false ≡ true = h in cc)

  -- the run level of every entity is at least its level
  runs : (e : ℕ) (o : Option Task) (p : Option Routine) → slice_get app.tasks e ≡ o → by_kind (λ t. t.level) (λ r. r.level) 0 o p ≤ by_kind (λ t. t.run_level) (λ r. r.level) 0 o p
  runs e (Some t) p at = runs_above e t at
  runs e None (Some r) at = omega arith
  runs e None None at = omega arith

  -- no run level is above 80
  run_in : (e k : ℕ) (o : Option Task) (p : Option Routine) → slice_get app.tasks e ≡ o → slice_get app.routines k ≡ p → by_kind (λ t. t.run_level) (λ r. r.level) 0 o p ≤ 80
  run_in e k (Some t) p at there = let low = run_level_low e t at in omega arith
  run_in e k None (Some r) at there = routine_low k r there
  run_in e k None None at there = omega arith

  -- what is no task may have no request
  no_task : (o : Option Task) (p : Option Routine) → by_kind (λ t. true) (λ r. false) false o p ≡ false → by_kind (λ t. t.requests) (λ r. 0) 0 o p ≡ 0
  no_task (Some t) p h = absurd (let k : true ≡ false = h in cc)
  no_task None (Some r) h = refl
  no_task None None h = refl

  -- a routine is no task
  no_both : (o : Option Task) (p : Option Routine) → by_kind (λ t. false) (λ r. true) false o p ≡ true → by_kind (λ t. true) (λ r. false) false o p ≡ false
  no_both (Some t) p h = absurd (let k : false ≡ true = h in cc)
  no_both None (Some r) h = refl
  no_both None None h = refl

  -- tasks have numbers below the count of entities
  task_counted : (e : ℕ) (o : Option Task) (p : Option Routine) → slice_get app.tasks e ≡ o → by_kind (λ t. true) (λ r. false) false o p ≡ true → e < length app.tasks + length app.routines
  task_counted e (Some t) p at h = omega (arith, slice_get_within app.tasks e t at)
  task_counted e None (Some r) at h = absurd (let k : false ≡ true = h in cc)
  task_counted e None None at h = absurd (let k : false ≡ true = h in cc)

  -- so have routines
  routine_counted : (e : ℕ) (o : Option Task) (p : Option Routine) → slice_get app.routines (e - length app.tasks) ≡ p → by_kind (λ t. false) (λ r. true) false o p ≡ true → e < length app.tasks + length app.routines
  routine_counted e (Some t) p at h = absurd (let k : false ≡ true = h in cc)
  routine_counted e None (Some r) at h = omega (arith, slice_get_within app.routines (e - length app.tasks) r at)
  routine_counted e None None at h = absurd (let k : false ≡ true = h in cc)

  -- a task of the application is one to a scheduler
  is_task_at : (e : ℕ) (t : Task) → slice_get app.tasks e ≡ Some t → (setting_of app).is_task e ≡ true
  is_task_at e t at = ap (λ o. by_kind (λ t. true) (λ r. false) false o (slice_get app.routines (e - length app.tasks))) at

  -- the tasks that are started are tasks
  started : (n : ℕ) (ts : List Task) → ((k : ℕ) (t : Task) → slice_get ts k ≡ Some t → slice_get app.tasks (n + k) ≡ Some t) → AreTasks (setting_of app) (started_from n ts)
  started n [] h = tt
  started n (t ∷ ts) h =
      go t.autostart
      (started (n + 1) ts (λ k u e. let same : n + suc k ≡ n + 1 + k = omega arith in subst (λ i. slice_get app.tasks i ≡ Some u) same (h (suc k) u e)))
    where
      here : slice_get app.tasks n ≡ Some t
      here = let same : n + 0 ≡ n = omega arith in subst (λ i. slice_get app.tasks i ≡ Some t) same (h 0 t refl)

      go : (b : Bool) → AreTasks (setting_of app) (started_from (n + 1) ts) → AreTasks (setting_of app) (if b then n ∷ started_from (n + 1) ts else started_from (n + 1) ts)
      go true rest = (is_task_at n t here, rest)
      go false rest = rest

  -- an application in order is sound
  pub sound : IsSound (setting_of app)
  unfolding highest_level
  sound =
      record {
        above_idle = λ e h. task_in e (slice_get app.tasks e) _ refl h;
        runs_above = λ e. runs e (slice_get app.tasks e) _ refl;
        run_levels = λ e. run_in e (e - length app.tasks) (slice_get app.tasks e) _ refl refl;
        ceilings = λ r. let low = ceilings_low 0 app.resources ok.ceilings r in let high = scheduler_low in grind (arith, nat_tests);
        tasks_alone = λ e h. no_task (slice_get app.tasks e) _ h;
        routines = λ e h. no_both (slice_get app.tasks e) _ h;
        counted_tasks = λ e h. task_counted e (slice_get app.tasks e) _ refl h;
        counted_routines = λ e h. routine_counted e (slice_get app.tasks e) _ refl h;
        started = started 0 app.tasks (λ k t h. let same : k ≡ 0 + k = omega arith in subst (λ i. slice_get app.tasks i ≡ Some t) same h);
      }
