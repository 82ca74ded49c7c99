use Rattle.std.proofs.Common.{ℕ, ◌∙◌, ap, sym, subst}
use Rattle.osek_machine.proofs.Effects.{released_resource}
use Rattle.osek_machine.proofs.Serving.{way_runs}
use Rattle.osek_machine.proofs.machine.Machine.release_resource.Goals as goal
use Rattle.osek_machine.specs.Kept.{IsKept}
use Rattle.step_ir.specs.PointStep.{Bits}
use Rattle.step_ir.specs.SchedulerState.{State}
use Rattle.step_ir.specs.Setting.{setting_of, gives_way}

pub reschedule_after-requires : goal.reschedule_after-requires
reschedule_after-requires c = λ way. ap (λ (s : State ℕ Bits). s.running) c.release.ensures.state ∙ way_runs c.args.self.now c.args.e (subst IsKept c.self.view_is c.self.invariant.kept) c.requires.acts (ap (λ a. gives_way (setting_of a) c.args.e) (sym c.release.ensures.app) ∙ way)

pub returns : goal.returns
returns c = released_resource c.args.self.now c.release.new.self _ c.args.e c.args.r c.release.ensures c.reschedule_after.ensures
