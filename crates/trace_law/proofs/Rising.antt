-- Where the two states agree, the stack rises: an entity stands on it at most once, and there are at most as many as there are entities.
use Rattle.std.proofs.Common.{◌≡◌, ℕ, suc, ◌≤◌, List, [], ◌∷◌, ◌++◌, length, Option, Some, None, refl, sym, ap, subst, arith}
use Rattle.std.proofs.lemmas.Bool.Decides.{nat_tests}
use Rattle.step_ir.proofs.Counting.{length_at_most}
use Rattle.step_ir.proofs.Stacks.{rises_below, standing_above, times_below}
use Rattle.trace_law.proofs.Traces.{same_runs_lem}
use Rattle.step_ir.specs.declared.event.Choice.{Choice}
use Rattle.step_ir.specs.declared.event.Event.{Event}
use Rattle.step_ir.specs.Agreement.{Rises, IsAgreed, Agrees, HaveSame}
use Rattle.step_ir.specs.EntityStep.{Behaviour}
use Rattle.step_ir.specs.Numbers.{AreUnder, times}
use Rattle.step_ir.specs.OneStackMachine
use Rattle.step_ir.specs.OneStackMachine.{Stacked, Frame, whos}
use Rattle.step_ir.specs.PermittedSchedule
use Rattle.step_ir.specs.SchedulerState.{State}
use Rattle.step_ir.specs.SchedulerStep
use Rattle.step_ir.specs.Setting.{Setting, IsSound, AreTasks, AreRoutines}
use Rattle.step_ir.specs.TraceEquality.{IsRising, StandHigh}

module _ {S G : Type 0} (app : Setting) (ok : IsSound app) (beh : Behaviour S G) where
  -- an entity stands on a stack that rises at most once
  once : (fs : List (Frame S)) (q : ℕ) → Rises app fs → times q (whos fs) ≤ 1
  once [] q r = omega arith
  once (f ∷ fs) q r =
      let rest = once fs q r.1 in
      let none = times_below app f.who fs (rises_below app ok (app.level f.who) fs r.0 r.1) in
      grind (arith, nat_tests)

  -- tasks have numbers below the count of entities
  tasks_under : (es : List ℕ) → AreTasks app es → AreUnder app.entities es
  tasks_under [] h = tt
  tasks_under (e ∷ es) h = (ok.counted_tasks e h.0, tasks_under es h.1)

  -- so have routines and tasks together
  all_under : (over under : List (Frame S)) → AreRoutines app (whos over) → AreTasks app (whos under) → AreUnder app.entities (whos (over ++ under))
  all_under [] under h k = tasks_under (whos under) k
  all_under (f ∷ fs) under h k = (ok.counted_routines f.who h.0, all_under fs under h.1 k)

  -- one for each frame
  length-whos : (fs : List (Frame S)) → length (whos fs) ≡ length fs
  length-whos [] = refl
  length-whos (f ∷ fs) = ap suc (length-whos fs)

  -- the stack has at most as many entities as there are
  depth_of : (st : State S G) (m : Stacked S G) (over under : List (Frame S)) → IsAgreed app st m over under → length m.stack ≤ app.entities
  depth_of st m over under a =
      let bound = length_at_most app.entities 1 (whos (over ++ under)) (all_under over under a.routines a.tasks) (λ q. once (over ++ under) q a.rises) in
      omega (arith, bound, length-whos (over ++ under), ap length a.stack)

  -- every standing level is at least the own level
  high : (fs : List (Frame S)) → StandHigh app fs
  high [] = tt
  high (f ∷ fs) = (standing_above app ok f, high fs)

  -- where the states agree, the stack rises
  pub rising_lem : (st : State S G) (m : Stacked S G) → Agrees app st m → IsRising app m
  rising_lem st m agrees =
      let a = agrees.agreed in
      let rises = subst (Rises app) (sym a.stack) a.rises in
      record {
        rises = rises;
        high = high m.stack;
        once = λ e. once m.stack e rises;
        depth = depth_of st m agrees.over agrees.under a;
      }

  -- so it does after a run that agrees
  rising_in : (o : Option (List Event × State S G)) (events : List Event) (m : Stacked S G) → HaveSame app o (Some (events, m)) → IsRising app m
  rising_in None events m h = absurd h
  rising_in (Some x) events m h = rising_lem x.1 m h.1

  -- so it does after every list of choices
  pub rising_after_lem : (globals : G) (choices : List Choice) (events : List Event) (m : Stacked S G) → OneStackMachine.run app beh choices (OneStackMachine.start app beh globals) ≡ Some (events, m) → IsRising app m
  rising_after_lem globals choices events m is =
      let standard = PermittedSchedule.run app beh choices (SchedulerStep.start app beh globals) in
      rising_in standard events m (subst (HaveSame app standard) is (same_runs_lem app ok beh globals choices))
