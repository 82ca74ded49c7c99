-- The entities of a code tell no failure of their own.
use Rattle.std.proofs.Common.{ℕ, Bool, true, false, List, Option, Some, None, refl, slice_get, if◌then◌else◌}
use Rattle.chk_base.specs.declared.word.Width.{Width}
use Rattle.chk_base.specs.Operators.{truth}
use Rattle.chk_base.specs.Term.{Term}
use Rattle.step_ir.specs.declared.code.Code.{Code}
use Rattle.step_ir.specs.declared.event.EventAction.TheVariants as Told
use Rattle.step_ir.specs.declared.event.Failure.{Failure}
use Rattle.step_ir.specs.EntityStep.{Does, Fails, TellsNoFailures, TellsNoFailure}
use Rattle.step_ir.specs.Points.{PlainAction, PlainPoint, Read, Write, Local, Branch, Input, Call, Return, Invoke, Assert, End, points_in, width_in}
use Rattle.step_ir.specs.PointStep.{Bits, act, behaviour_of, fails, first, go_on, step, unless, val}
use Rattle.step_ir.specs.Services.{fault}

-- the entities of a code tell no failure of their own
module _ (width : ℕ → Width) where
  -- an action is told as no failure
  act_tells : (action : PlainAction) (nexts : List (Term × ℕ)) (bits : Bits) → TellsNoFailure (act width action nexts bits)
  act_tells (Read t into) nexts bits = refl
  act_tells (Write t term) nexts bits = refl
  act_tells (Local cell term) nexts bits = refl
  act_tells (Branch term) nexts bits = refl
  act_tells (Input cell) nexts bits = λ w. refl
  act_tells (Call f sets) nexts bits = refl
  act_tells (Return None) nexts bits = refl
  act_tells (Return (Some s)) nexts bits = refl
  act_tells (Invoke service) nexts bits = tt
  act_tells (Assert term) nexts bits = go (truth (val width bits term))
    where
      go : (b : Bool) → TellsNoFailure (if b then Does Told.Assert (go_on width nexts bits) else Fails (fault 1))
      go true = refl
      go false = tt
  act_tells End nexts bits = tt

  -- a trap is a failure, and no step of its own
  fails_tells : (action : PlainAction) (failure : Failure) → TellsNoFailure (fails width action failure)
  fails_tells (Input cell) failure = tt
  fails_tells _ failure = tt

  -- so it is, whether a trap counts or not
  unless_tells : (trap : Option ℕ) (p : PlainPoint) (bits : Bits) → TellsNoFailure (unless width trap p bits)
  unless_tells None p bits = act_tells p.action p.nexts bits
  unless_tells (Some n) p bits = fails_tells p.action (fault n)

  -- so it is at every point
  step_tells : (point : Option PlainPoint) (bits : Bits) → TellsNoFailure (step width point bits)
  step_tells None bits = tt
  step_tells (Some p) bits = unless_tells (first (val width bits) p.traps) p bits

-- so it is for every code
pub code_tells : (code : Code) → TellsNoFailures (behaviour_of code)
code_tells code e at bits = step_tells (width_in code) (slice_get (points_in code e) at) bits
