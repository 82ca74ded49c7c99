use Rattle.std.proofs.Common.{◌<◌, ◌∙◌, ap, sym, subst, length, slice_index}
use Rattle.osek_machine.proofs.Effects.{chained}
use Rattle.osek_machine.proofs.Serving.{leaving_runs, chain_within, chain_room}
use Rattle.osek_machine.proofs.machine.Machine.chain.Goals as goal
use Rattle.osek_machine.specs.Kept.{Kept, IsKept}

pub end_request-requires : goal.end_request-requires
end_request-requires c = leaving_runs c.served_services.ensures.left c.args.self.now c.args.e _ (subst IsKept c.self.view_is c.self.invariant.kept) c.requires.acts c.requires.no_fault

pub queue-requires-clause-known : goal.queue-requires-clause-known
queue-requires-clause-known c =
    subst (λ (n : Kept). c.args.t < length n.app.tasks) (sym c.end_request.ensures) (chain_within c.served_services.ensures.chained c.args.self.now c.args.e c.args.t (subst IsKept c.self.view_is c.self.invariant.kept) c.requires)

pub queue-requires-clause-room : goal.queue-requires-clause-room
queue-requires-clause-room c =
    subst (λ (n : Kept). slice_index n.requests c.args.t < 8) (sym c.end_request.ensures) (chain_room c.served_services.ensures.left c.args.self.now c.args.e c.args.t (subst IsKept c.self.view_is c.self.invariant.kept) c.requires)

pub dispatch-requires : goal.dispatch-requires
dispatch-requires c = c.queue.ensures.running ∙ ap (λ (n : Kept). n.running) c.end_request.ensures

pub returns : goal.returns
returns c =
    chained c.args.self.now c.end_request.new.self c.queue.new.self _ c.args.e c.args.t (subst IsKept c.self.view_is c.self.invariant.kept) (leaving_runs c.served_services.ensures.left c.args.self.now c.args.e _ (subst IsKept c.self.view_is c.self.invariant.kept) c.requires.acts c.requires.no_fault) c.end_request.ensures c.queue.ensures.state c.dispatch.ensures
