use Rattle.std.proofs.Common.{◌∙◌, sym, subst}
use Rattle.osek_machine.proofs.Deeds.{served, servable_moved}
use Rattle.osek_machine.proofs.Serving.{actor_within}
use Rattle.osek_machine.proofs.machine.Machine.calls.Goals as goal
use Rattle.osek_machine.specs.Kept.{IsKept}

pub advance-requires : goal.advance-requires
advance-requires c = actor_within c.args.self.now c.args.e (subst IsKept c.self.view_is c.self.invariant.kept) c.requires.acts

pub serve-requires : goal.serve-requires
serve-requires c = servable_moved c.args.self.now c.advance.new.self c.args.e c.args.next c.args.service c.advance.ensures (sym c.fault.ensures ∙ c.in_default.is) c.requires.acts

pub returns : goal.returns
returns c =
    served c.args.self.now c.advance.new.self _ c.args.e c.args.next c.args.service c.args.place c.told.result _ (subst IsKept c.self.view_is c.self.invariant.kept) c.requires.up (actor_within c.args.self.now c.args.e (subst IsKept c.self.view_is c.self.invariant.kept) c.requires.acts) (sym c.fault.ensures ∙ c.in_default.is) c.advance.ensures c.serve.ensures c.told.ensures
