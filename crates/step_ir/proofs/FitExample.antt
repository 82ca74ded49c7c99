-- A code that fits an application: one task, which reads the one global, writes it back and terminates.
use Rattle.std.proofs.Common.{◌≡◌, ℕ, zero, suc, ◌<◌, ◌≤◌, true, false, [], ◌∷◌, length, Option, Some, None, refl, subst, arith, slice_get}
use Rattle.application.specs.declared.app.App.{App}
use Rattle.chk_base.specs.declared.expr.Expr.TheVariants as expr
use Rattle.chk_base.specs.declared.word.Width.TheVariants.{W8, W32}
use Rattle.chk_base.specs.Widths.{limit_of}
use Rattle.step_ir.proofs.Sample.{application, full, somewhere}
use Rattle.step_ir.specs.declared.code.Action.{Action}
use Rattle.step_ir.specs.declared.code.Action.TheVariants as of
use Rattle.step_ir.specs.declared.code.Code.{Code}
use Rattle.step_ir.specs.declared.code.Point.{Point}
use Rattle.step_ir.specs.declared.code.Target.{Target}
use Rattle.step_ir.specs.declared.event.Service.TheVariants.{Terminate}
use Rattle.step_ir.specs.Fits.{Fits, IsPointFit}
use Rattle.step_ir.specs.Points.{PlainPoint, plain_of, points_in, start_bits, width_in}

abbrev one_task : App
one_task = application (full 1 1 true ∷ []) [] []

abbrev global : Target
global = record { base = 0; len = 1; index = None }

-- a point that goes on at this one
abbrev going : Action → ℕ → Point
going action next = record { place = somewhere; action = action; traps = []; next = (expr.Const 1, next) ∷ [] }

abbrev last_point : Point
last_point = record { place = somewhere; action = of.Service Terminate; traps = []; next = [] }

abbrev copying : Code
copying =
    record {
      entities =
          record {
            points = going (of.Read global 1) 1 ∷ going (of.Write global (expr.Cell 1 false)) 2 ∷ last_point ∷ [];
            names = record { text = []; element = None; width = W32; signed = false; start = 0 } ∷ [];
          }
          ∷ [];
      globals = record { text = []; element = None; width = W8; signed = false; start = 3 } ∷ [];
      functions = [];
      cells = 40;
      weight = 0;
    }

-- its points fit
reads : IsPointFit one_task copying 0 (plain_of (going (of.Read global 1) 1))
reads =
    record {
      action = (record { some = omega arith; globals = omega arith; index = tt }, record { from = omega arith; below = omega arith }, refl);
      traps = tt;
      nexts = (tt, omega arith, tt);
      goes_on = λ h. omega arith;
      ends_in_one = refl;
    }

writes : IsPointFit one_task copying 0 (plain_of (going (of.Write global (expr.Cell 1 false)) 2))
writes =
    record {
      action = (record { some = omega arith; globals = omega arith; index = tt }, (omega arith, omega arith));
      traps = tt;
      nexts = (tt, omega arith, tt);
      goes_on = λ h. omega arith;
      ends_in_one = refl;
    }

terminates : IsPointFit one_task copying 0 (plain_of last_point)
terminates =
    record {
      action = tt;
      traps = tt;
      nexts = tt;
      goes_on = λ h. absurd (let e : true ≡ false = h in cc);
      ends_in_one = tt;
    }

points_fit : (e n : ℕ) (p : PlainPoint) → slice_get (points_in copying e) n ≡ Some p → IsPointFit one_task copying e p
points_fit zero zero p is = subst (IsPointFit one_task copying 0) (let e : plain_of (going (of.Read global 1) 1) ≡ p = cc in e) reads
points_fit zero (suc zero) p is = subst (IsPointFit one_task copying 0) (let e : plain_of (going (of.Write global (expr.Cell 1 false)) 2) ≡ p = cc in e) writes
points_fit zero (suc (suc zero)) p is = subst (IsPointFit one_task copying 0) (let e : plain_of last_point ≡ p = cc in e) terminates
points_fit zero (suc (suc (suc n))) p is = absurd (let e : ◌≡◌ {A = Option PlainPoint} None (Some p) = is in cc)
points_fit (suc e) n p is = absurd (let k : ◌≡◌ {A = Option PlainPoint} None (Some p) = is in cc)

pub copying_fits : Fits one_task copying
copying_fits =
    record {
      entities = refl;
      begins = begins;
      points = points_fit;
      starts = starts;
      few_points = omega arith;
      few_bits = omega arith;
    }
  where
    begins : (e : ℕ) → e < 1 → 1 ≤ length (points_in copying e)
    begins zero h = omega arith
    begins (suc e) h = absurd (omega arith)

    starts : (cell : ℕ) → cell < 2 → start_bits copying cell < limit_of (width_in copying cell)
    starts zero h = omega arith
    starts (suc zero) h = omega arith
    starts (suc (suc n)) h = absurd (omega arith)
