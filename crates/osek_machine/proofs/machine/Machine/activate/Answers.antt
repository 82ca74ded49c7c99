use Rattle.std.proofs.Common.{◌∙◌, ap, sym, subst}
use Rattle.osek_machine.proofs.Effects.{activated}
use Rattle.osek_machine.proofs.Serving.{way_runs, activate_within, activate_room}
use Rattle.osek_machine.proofs.machine.Machine.activate.Goals as goal
use Rattle.osek_machine.specs.Kept.{IsKept}
use Rattle.step_ir.specs.Setting.{setting_of, gives_way}

pub queue-requires-clause-known : goal.queue-requires-clause-known
queue-requires-clause-known c = activate_within c.served_services.ensures.activated c.args.self.now c.args.e c.args.t (subst IsKept c.self.view_is c.self.invariant.kept) c.requires

pub queue-requires-clause-room : goal.queue-requires-clause-room
queue-requires-clause-room c = activate_room c.args.self.now c.args.e c.args.t (subst IsKept c.self.view_is c.self.invariant.kept) c.requires

pub reschedule_after-requires : goal.reschedule_after-requires
reschedule_after-requires c = λ way. c.queue.ensures.running ∙ way_runs c.args.self.now c.args.e (subst IsKept c.self.view_is c.self.invariant.kept) c.requires.acts (ap (λ a. gives_way (setting_of a) c.args.e) (sym c.queue.ensures.state.app) ∙ way)

pub returns : goal.returns
returns c = activated c.args.self.now c.queue.new.self _ c.args.e c.args.t c.queue.ensures.state c.reschedule_after.ensures
