-- The small application is in order, and its code fits it.
use Rattle.std.proofs.Common.{◌≡◌, ℕ, zero, suc, ◌<◌, ◌≤◌, true, false, List, [], ◌∷◌, length, All, Option, Some, None, slice_get, refl, subst, arith}
use Rattle.std.specs.Prelude.{slice_index_or}
use Rattle.application.specs.declared.app.App.{App}
use Rattle.application.specs.declared.app.Class.TheVariants.{Bcc1}
use Rattle.application.specs.declared.app.Routine.{Routine}
use Rattle.application.specs.declared.app.Task.{Task}
use Rattle.application.specs.InOrder.{IsInOrder, IsTaskInOrder, IsRoutineInOrder, AreDistinct, names_of}
use Rattle.chk_base.specs.declared.word.Width.TheVariants.{W8}
use Rattle.chk_base.specs.Widths.{limit_of}
use Rattle.osek_machine.specs.Sample.{HasOneEach, cell_names, entity_codes}
use Rattle.step_ir.specs.declared.code.Code.{Code}
use Rattle.step_ir.specs.Fits.{Fits, IsPointFit}
use Rattle.step_ir.specs.Points.{PlainPoint, points_in, start_bits, width_in}

-- the task
abbrev task : Task
task =
    record { name = 84 ∷ []; priority = 1; level = 2; run_level = 2; non_preemptive = false; requests = 1; autostart = true; declares = []; internal = None }

-- the routine
abbrev routine : Routine
routine = record { name = 73 ∷ 49 ∷ []; priority = 1; level = 65; declares = [] }

-- the application of both
abbrev pub application : App
application =
    record { tasks = task ∷ []; routines = routine ∷ []; resources = []; res_scheduler = false; class = Bcc1; mode = []; notes = [] }

-- the task is in order
task_ok : All (IsTaskInOrder application) (task ∷ [])
task_ok zero d below =
    record {
      priority = omega arith;
      level = refl;
      run_level = refl;
      requested = omega arith;
      few_requests = omega arith;
      declares = λ k d' h. absurd (omega (arith, h));
      internal = tt;
    }
task_ok (suc k) d below = absurd (omega arith)

-- so is the routine
routine_ok : All (IsRoutineInOrder application) (routine ∷ [])
routine_ok zero d below =
    record {
      priority_from = omega arith;
      priority = omega arith;
      level = refl;
      declares = λ k d' h. absurd (omega (arith, h));
    }
routine_ok (suc k) d below = absurd (omega arith)

-- their names differ
names_differ : AreDistinct (names_of application)
names_differ = (λ h. other h.0 h.1 h.2, (λ h. absurd (omega (arith, h.1)), tt))
  where
    other : (k : ℕ) → k < 1 → slice_index_or {A = List ℕ} ((73 ∷ 49 ∷ []) ∷ []) k (84 ∷ []) ≡ 84 ∷ [] → ⊥
    other zero below is = cc
    other (suc k) below is = absurd (omega arith)

-- so is the application
pub in_order : IsInOrder application
in_order =
    record {
      few_entities = omega arith;
      few_resources = omega arith;
      tasks = task_ok;
      routines = routine_ok;
      ceilings = tt;
      class = refl;
      names = names_differ;
    }

-- the code, whatever its functions and counts are
abbrev pub code_with : List (List ℕ) → ℕ → ℕ → Code
code_with functions cells weight =
    record {
      entities = entity_codes;
      globals = cell_names W8;
      functions = functions;
      cells = cells;
      weight = weight;
    }

-- the point that is there
some_is : (p q : PlainPoint) → ◌≡◌ {A = Option PlainPoint} (Some p) (Some q) → p ≡ q
some_is p q h = cc

-- beyond the last there is none
no_point : (p : PlainPoint) → ◌≡◌ {A = Option PlainPoint} None (Some p) → ⊥
no_point p h = cc

module _ (app : App) (functions : List (List ℕ)) (cells weight : ℕ) where
  points_fit : (e at : ℕ) (p : PlainPoint) → slice_get (points_in (code_with functions cells weight) e) at ≡ Some p → IsPointFit app (code_with functions cells weight) e p
  points_fit zero zero p is =
      subst (IsPointFit app (code_with functions cells weight) 0) (some_is _ p is)
      (record {
        action = (record { some = omega arith; globals = omega arith; index = tt }, tt);
        traps = tt;
        nexts = (tt, omega arith, tt);
        goes_on = λ h. omega arith;
        ends_in_one = refl;
      })
  points_fit zero (suc zero) p is =
      subst (IsPointFit app (code_with functions cells weight) 0) (some_is _ p is)
      (record {
        action = (record { some = omega arith; globals = omega arith; index = tt }, record { from = omega arith; below = omega arith }, refl);
        traps = tt;
        nexts = (tt, omega arith, tt);
        goes_on = λ h. omega arith;
        ends_in_one = refl;
      })
  points_fit zero (suc (suc zero)) p is =
      subst (IsPointFit app (code_with functions cells weight) 0) (some_is _ p is)
      (record {
        action = (omega arith, omega arith);
        traps = tt;
        nexts = (tt, omega arith, tt);
        goes_on = λ h. omega arith;
        ends_in_one = refl;
      })
  points_fit zero (suc (suc (suc zero))) p is =
      subst (IsPointFit app (code_with functions cells weight) 0) (some_is _ p is)
      (record {
        action = tt;
        traps = tt;
        nexts = (tt, omega arith, tt);
        goes_on = λ h. omega arith;
        ends_in_one = refl;
      })
  points_fit zero (suc (suc (suc (suc at)))) p is = absurd (no_point p is)
  points_fit (suc zero) zero p is =
      subst (IsPointFit app (code_with functions cells weight) 1) (some_is _ p is)
      (record {
        action = tt;
        traps = tt;
        nexts = (tt, omega arith, tt);
        goes_on = λ h. omega arith;
        ends_in_one = refl;
      })
  points_fit (suc zero) (suc at) p is = absurd (no_point p is)
  points_fit (suc (suc e)) at p is = absurd (no_point p is)

  begins : (e : ℕ) → e < 2 → 1 ≤ length (points_in (code_with functions cells weight) e)
  begins zero h = omega arith
  begins (suc zero) h = omega arith
  begins (suc (suc e)) h = absurd (omega arith)

  starts : (cell : ℕ) → cell < 2 → start_bits (code_with functions cells weight) cell < limit_of (width_in (code_with functions cells weight) cell)
  starts zero h = omega arith
  starts (suc zero) h = omega arith
  starts (suc (suc cell)) h = absurd (omega arith)

-- the code fits every application of one task and one routine
pub fits : (app : App) → HasOneEach app → (functions : List (List ℕ)) (cells weight : ℕ) → Fits app (code_with functions cells weight)
fits app one functions cells weight =
    record {
      entities = omega (arith, one.task, one.routine);
      begins = begins app functions cells weight;
      points = points_fit app functions cells weight;
      starts = starts app functions cells weight;
      few_points = omega arith;
      few_bits = omega arith;
    }
