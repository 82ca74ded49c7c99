-- The whole law: over every sound application, and so over every one in order and over every code, both schedulers do the same.
use Rattle.std.proofs.Common.{◌≡◌, ◌≤◌, List, length, Some, arith}
use Rattle.application.specs.declared.app.App.{App}
use Rattle.application.specs.InOrder.{IsInOrder}
use Rattle.trace_law.proofs.Failing.{machine_stopped_lem, stopped_lem}
use Rattle.step_ir.proofs.InOrder.{sound}
use Rattle.trace_law.proofs.Prefixes.{as_many_lem, prefixes_lem}
use Rattle.trace_law.proofs.Rising.{rising_after_lem, rising_lem}
use Rattle.trace_law.proofs.Traces.{same_runs_lem, same_traces_lem, starts, steps}
use Rattle.step_ir.specs.declared.event.Choice.{Choice}
use Rattle.step_ir.specs.declared.event.Event.{Event}
use Rattle.step_ir.specs.EntityStep.{Behaviour}
use Rattle.step_ir.specs.OneStackMachine
use Rattle.step_ir.specs.OneStackMachine.{Stacked}
use Rattle.step_ir.specs.Setting.{IsSound, Setting, setting_of}
use Rattle.step_ir.specs.TraceEquality.{HaveSameTraces}

module _ {S G : Type 0} where
  -- the law over every sound application
  pub same_traces_of_sound : (app : Setting) → IsSound app → (beh : Behaviour S G) (globals : G) → HaveSameTraces app beh globals
  same_traces_of_sound app ok beh globals =
      record {
        starts = starts app ok beh globals;
        steps = steps app ok beh;
        runs = same_runs_lem app ok beh globals;
        traces = same_traces_lem app ok beh globals;
        as_many = as_many_lem app beh globals;
        prefixes = prefixes_lem app beh globals;
        rising = rising_lem app ok beh;
        rising_after = rising_after_lem app ok beh globals;
        stopped = λ tells. stopped_lem app beh tells ok globals;
        machine_stopped = λ tells. machine_stopped_lem app beh tells globals;
      }

  -- the law over every application in order
  pub same_traces_in_order : (app : App) → IsInOrder app → (beh : Behaviour S G) (globals : G) → HaveSameTraces (setting_of app) beh globals
  same_traces_in_order app ok = same_traces_of_sound (setting_of app) (sound app ok)

  -- at most 16 entities stand on the stack
  pub depth_in_order : (app : App) → IsInOrder app → (beh : Behaviour S G) (globals : G) (choices : List Choice) (events : List Event) (m : Stacked S G) → OneStackMachine.run (setting_of app) beh choices (OneStackMachine.start (setting_of app) beh globals) ≡ Some (events, m) → length m.stack ≤ 16
  depth_in_order app ok beh globals choices events m is =
      let few = ok.few_entities in
      let depth = (rising_after_lem (setting_of app) (sound app ok) beh globals choices events m is).depth in
      omega arith
