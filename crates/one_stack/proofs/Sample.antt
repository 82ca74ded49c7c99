-- The small application is in order, and its code fits it and is of the form.
use Rattle.std.proofs.Common.{◌≡◌, ℕ, zero, suc, ◌<◌, ◌≤◌, true, List, [], ◌∷◌, length, All, Option, Some, None, slice_get, refl, ap, subst, arith}
use Rattle.std.specs.Prelude.{slice_index_or}
use Rattle.application.specs.InOrder.{IsInOrder, IsTaskInOrder, AreDistinct, names_of}
use Rattle.one_stack.specs.Sample.{activating, two_tasks}
use Rattle.one_stack.specs.TaskForm.{is_task_form}
use Rattle.step_ir.specs.Fits.{Fits, IsPointFit}
use Rattle.step_ir.specs.Points.{PlainPoint, points_in}

tasks_ok : All (IsTaskInOrder two_tasks) two_tasks.tasks
tasks_ok zero d below =
    record {
      priority = omega arith;
      level = refl;
      run_level = refl;
      requested = omega arith;
      few_requests = omega arith;
      declares = λ k d' h. absurd (omega (arith, h));
      internal = tt;
    }
tasks_ok (suc zero) d below =
    record {
      priority = omega arith;
      level = refl;
      run_level = refl;
      requested = omega arith;
      few_requests = omega arith;
      declares = λ k d' h. absurd (omega (arith, h));
      internal = tt;
    }
tasks_ok (suc (suc k)) d below = absurd (omega arith)

names_differ : AreDistinct (names_of two_tasks)
names_differ = (λ h. other h.0 h.1 h.2, (λ h. absurd (omega (arith, h.1)), tt))
  where
    other : (k : ℕ) → k < 1 → slice_index_or {A = List ℕ} ((66 ∷ []) ∷ []) k (65 ∷ []) ≡ 65 ∷ [] → ⊥
    other zero below is = let e : 66 ≡ 65 = ap (λ (xs : List ℕ). slice_index_or xs 0 0) is in omega (arith, e)
    other (suc k) below is = absurd (omega arith)

pub in_order : IsInOrder two_tasks
in_order =
    record {
      few_entities = omega arith;
      few_resources = omega arith;
      tasks = tasks_ok;
      routines = λ k d h. absurd (omega (arith, h));
      ceilings = tt;
      class = refl;
      names = names_differ;
    }

some_is : (p q : PlainPoint) → ◌≡◌ {A = Option PlainPoint} (Some p) (Some q) → p ≡ q
some_is p q h = cc

no_point : (p : PlainPoint) → ◌≡◌ {A = Option PlainPoint} None (Some p) → ⊥
no_point p h = cc

points_fit : (e at : ℕ) (p : PlainPoint) → slice_get (points_in activating e) at ≡ Some p → IsPointFit two_tasks activating e p
points_fit zero zero p is =
    subst (IsPointFit two_tasks activating 0) (some_is _ p is)
    (record { action = omega arith; traps = tt; nexts = (tt, omega arith, tt); goes_on = λ h. omega arith; ends_in_one = refl })
points_fit zero (suc zero) p is =
    subst (IsPointFit two_tasks activating 0) (some_is _ p is)
    (record { action = tt; traps = tt; nexts = tt; goes_on = λ h. cc; ends_in_one = tt })
points_fit zero (suc (suc at)) p is = absurd (no_point p is)
points_fit (suc zero) zero p is =
    subst (IsPointFit two_tasks activating 1) (some_is _ p is)
    (record { action = tt; traps = tt; nexts = tt; goes_on = λ h. cc; ends_in_one = tt })
points_fit (suc zero) (suc at) p is = absurd (no_point p is)
points_fit (suc (suc e)) at p is = absurd (no_point p is)

begins : (e : ℕ) → e < 2 → 1 ≤ length (points_in activating e)
begins zero h = omega arith
begins (suc zero) h = omega arith
begins (suc (suc e)) h = absurd (omega arith)

pub fits : Fits two_tasks activating
fits =
    record {
      entities = refl;
      begins = begins;
      points = points_fit;
      starts = λ cell h. absurd (omega (arith, h));
      few_points = omega arith;
      few_bits = omega arith;
    }

pub form : is_task_form two_tasks activating ≡ true
form = refl
