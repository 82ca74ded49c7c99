use Rattle.std.proofs.Common.{subst}
use Rattle.osek_machine.proofs.Effects.{terminated}
use Rattle.osek_machine.proofs.Serving.{leaving_runs}
use Rattle.osek_machine.proofs.machine.Machine.terminate.Goals as goal
use Rattle.osek_machine.specs.Kept.{IsKept}

pub end_request-requires : goal.end_request-requires
end_request-requires c = leaving_runs c.served_services.ensures.left c.args.self.now c.args.e _ (subst IsKept c.self.view_is c.self.invariant.kept) c.requires.acts c.requires.no_fault

pub returns : goal.returns
returns c =
    terminated c.args.self.now c.end_request.new.self _ c.args.e (subst IsKept c.self.view_is c.self.invariant.kept) (leaving_runs c.served_services.ensures.left c.args.self.now c.args.e _ (subst IsKept c.self.view_is c.self.invariant.kept) c.requires.acts c.requires.no_fault) c.end_request.ensures c.dispatch.ensures
