-- The small application is in order, and its code fits it.
use Rattle.std.proofs.Common.{◌≡◌, ℕ, zero, suc, ◌<◌, ◌≤◌, false, List, [], ◌∷◌, length, map, All, Option, Some, None, slice_get, refl, ap, subst, arith}
use Rattle.std.specs.Prelude.{slice_index_or}
use Rattle.application.specs.declared.app.App.{App}
use Rattle.application.specs.declared.app.Class.TheVariants.{Bcc1}
use Rattle.application.specs.InOrder.{IsInOrder, IsTaskInOrder, IsRoutineInOrder, AreDistinct, names_of}
use Rattle.chk_base.specs.declared.word.Width.TheVariants.{W8}
use Rattle.chk_base.specs.Widths.{limit_of}
use Rattle.replay.proofs.Choosing.{first_byte}
use Rattle.replay.specs.Sample.{HasThree, cell, entity_codes, points_of_task, points_of_clearing, points_of_asserting, routine_of_sample, task_of_sample}
use Rattle.step_ir.specs.declared.code.Action.{Action}
use Rattle.step_ir.specs.declared.code.Code.{Code}
use Rattle.step_ir.specs.Fits.{Fits, IsActionFit, IsPointFit, IsTargetFit}
use Rattle.step_ir.specs.Points.{PlainPoint, plain_action, plain_of, points_in, start_bits, target_of, width_in}
use Rattle.osek_machine.specs.Sample.{global, point_to}
use Rattle.step_ir.specs.declared.code.Action.TheVariants.{Read, Write, Input, Assert, Service, End}
use Rattle.step_ir.specs.declared.event.Service.TheVariants.{DisableAll, EnableAll}
use Rattle.chk_base.specs.declared.expr.Expr.TheVariants.{Const, Cell}

-- the application of the three
abbrev pub application : App
application =
    record {
      tasks = task_of_sample ∷ [];
      routines = routine_of_sample (73 ∷ []) 1 ∷ routine_of_sample (74 ∷ []) 2 ∷ [];
      resources = [];
      res_scheduler = false;
      class = Bcc1;
      mode = [];
      notes = [];
    }

task_ok : All (IsTaskInOrder application) application.tasks
task_ok zero d below =
    record {
      priority = omega arith;
      level = refl;
      run_level = refl;
      requested = omega arith;
      few_requests = omega arith;
      declares = λ k d' h. absurd (omega (arith, h));
      internal = tt;
    }
task_ok (suc k) d below = absurd (omega arith)

routine_ok : (name : List ℕ) (priority : ℕ) → 1 ≤ priority → priority ≤ 16 → IsRoutineInOrder application (routine_of_sample name priority)
routine_ok name priority low high =
    record { priority_from = low; priority = high; level = refl; declares = λ k d' h. absurd (omega (arith, h)) }

routines_ok : All (IsRoutineInOrder application) application.routines
routines_ok zero d below = routine_ok (73 ∷ []) 1 (omega arith) (omega arith)
routines_ok (suc zero) d below = routine_ok (74 ∷ []) 2 (omega arith) (omega arith)
routines_ok (suc (suc k)) d below = absurd (omega arith)

names_differ : AreDistinct (names_of application)
names_differ = (λ h. first h.0 h.1 h.2, (λ h. second h.0 h.1 h.2, (λ h. absurd (omega (arith, h.1)), tt)))
  where
    second : (k : ℕ) → k < 1 → slice_index_or {A = List ℕ} ((74 ∷ []) ∷ []) k (73 ∷ []) ≡ 73 ∷ [] → ⊥
    second zero below is = let e : 74 ≡ 73 = ap first_byte is in omega (arith, e)
    second (suc k) below is = absurd (omega arith)

    first : (k : ℕ) → k < 2 → slice_index_or {A = List ℕ} ((73 ∷ []) ∷ (74 ∷ []) ∷ []) k (84 ∷ []) ≡ 84 ∷ [] → ⊥
    first zero below is = let e : 73 ≡ 84 = ap first_byte is in omega (arith, e)
    first (suc zero) below is = let e : 74 ≡ 84 = ap first_byte is in omega (arith, e)
    first (suc (suc k)) below is = absurd (omega arith)

pub in_order : IsInOrder application
in_order =
    record {
      few_entities = omega arith;
      few_resources = omega arith;
      tasks = task_ok;
      routines = routines_ok;
      ceilings = tt;
      class = refl;
      names = names_differ;
    }

-- the code, whatever its functions and counts are
abbrev pub code_with : List (List ℕ) → ℕ → ℕ → Code
code_with functions cells weight =
    record {
      entities = entity_codes;
      globals = cell W8 false 1 ∷ [];
      functions = functions;
      cells = cells;
      weight = weight;
    }

-- beyond the last there is none
no_point : (p : PlainPoint) → ◌≡◌ {A = Option PlainPoint} None (Some p) → ⊥
no_point p h = cc

module _ (app : App) (functions : List (List ℕ)) (cells weight : ℕ) where
  abbrev code : Code
  code = code_with functions cells weight

  -- each of these points fits
  abbrev AllFit : ℕ → List PlainPoint → Type 0
  AllFit e [] = Unit {0}
  AllFit e (p ∷ ps) = IsPointFit app code e p × AllFit e ps

  fit_at : (e at : ℕ) (ps : List PlainPoint) (p : PlainPoint) → AllFit e ps → slice_get ps at ≡ Some p → IsPointFit app code e p
  fit_at e at [] p all here = absurd cc
  fit_at e zero (q ∷ ps) p all here = let same : q ≡ p = cc in subst (IsPointFit app code e) same all.0
  fit_at e (suc at) (q ∷ ps) p all here = fit_at e at ps p all.1 here

  -- a point without traps fits where its action does, and it goes on at a point of its entity
  goes_to : (e : ℕ) (action : Action) (next : ℕ) → IsActionFit code e app (plain_action action) → next < length (points_in code e) → IsPointFit app code e (plain_of (point_to action next))
  goes_to e action next fit within =
      record { action = fit; traps = tt; nexts = (tt, within, tt); goes_on = λ h. omega arith; ends_in_one = refl }

  -- a target that is the global
  global_fits : (e : ℕ) → IsTargetFit code e (target_of global)
  global_fits e = record { some = omega arith; globals = omega arith; index = tt }

  task_fits : AllFit 0 (map plain_of points_of_task)
  task_fits = (
    goes_to 0 (Service DisableAll) 1 tt (omega arith),
    (
      goes_to 0 (Service EnableAll) 2 tt (omega arith),
      (
        goes_to 0 (Input 1) 3 (record { from = omega arith; below = omega arith }) (omega arith),
        (
          goes_to 0 (Input 2) 4 (record { from = omega arith; below = omega arith }) (omega arith),
          (
            goes_to 0 (Input 3) 5 (record { from = omega arith; below = omega arith }) (omega arith),
            (
              goes_to 0 (Input 4) 6 (record { from = omega arith; below = omega arith }) (omega arith),
              (
                goes_to 0 (Input 5) 7 (record { from = omega arith; below = omega arith }) (omega arith),
                (
                  goes_to 0 (Input 6) 8 (record { from = omega arith; below = omega arith }) (omega arith),
                  (
                    goes_to 0 (Input 7) 9 (record { from = omega arith; below = omega arith }) (omega arith),
                    (
                      goes_to 0 (Assert (Const 0)) 9 tt (omega arith),
                      tt,
                    ),
                  ),
                ),
              ),
            ),
          ),
        ),
      ),
    ),
  )

  clearing_fits : AllFit 1 (map plain_of points_of_clearing)
  clearing_fits = (
    goes_to 1 (Write global (Const 0)) 1 (global_fits 1, tt) (omega arith),
    (
      goes_to 1 (Write global (Const 1)) 2 (global_fits 1, tt) (omega arith),
      (
        goes_to 1 End 2 tt (omega arith),
        tt,
      ),
    ),
  )

  asserting_fits : AllFit 2 (map plain_of points_of_asserting)
  asserting_fits = (
    goes_to 2 (Read global 8) 1 (global_fits 2, record { from = omega arith; below = omega arith }, refl) (omega arith),
    (
      goes_to 2 (Assert (Cell 8 false)) 2 (omega arith, omega arith) (omega arith),
      (
        goes_to 2 End 2 tt (omega arith),
        tt,
      ),
    ),
  )

  points_fit : (e at : ℕ) (p : PlainPoint) → slice_get (points_in code e) at ≡ Some p → IsPointFit app code e p
  points_fit zero at p here = fit_at 0 at (map plain_of points_of_task) p task_fits here
  points_fit (suc zero) at p here = fit_at 1 at (map plain_of points_of_clearing) p clearing_fits here
  points_fit (suc (suc zero)) at p here = fit_at 2 at (map plain_of points_of_asserting) p asserting_fits here
  points_fit (suc (suc (suc e))) at p here = absurd (no_point p here)

  begins : (e : ℕ) → e < 3 → 1 ≤ length (points_in code e)
  begins zero h = omega arith
  begins (suc zero) h = omega arith
  begins (suc (suc zero)) h = omega arith
  begins (suc (suc (suc e))) h = absurd (omega arith)

  starts : (cell : ℕ) → cell < 9 → start_bits code cell < limit_of (width_in code cell)
  starts zero h = omega arith
  starts (suc zero) h = omega arith
  starts (suc (suc zero)) h = omega arith
  starts (suc (suc (suc zero))) h = omega arith
  starts (suc (suc (suc (suc zero)))) h = omega arith
  starts (suc (suc (suc (suc (suc zero))))) h = omega arith
  starts (suc (suc (suc (suc (suc (suc zero)))))) h = omega arith
  starts (suc (suc (suc (suc (suc (suc (suc zero))))))) h = omega arith
  starts (suc (suc (suc (suc (suc (suc (suc (suc zero)))))))) h = omega arith
  starts (suc (suc (suc (suc (suc (suc (suc (suc (suc cell))))))))) h = absurd (omega arith)

-- the code fits every application of one task and two routines
pub fits : (app : App) → HasThree app → (functions : List (List ℕ)) (cells weight : ℕ) → Fits app (code_with functions cells weight)
fits app three functions cells weight =
    record {
      entities = omega (arith, three.task, three.routines);
      begins = begins app functions cells weight;
      points = points_fit app functions cells weight;
      starts = starts app functions cells weight;
      few_points = omega arith;
      few_bits = omega arith;
    }
