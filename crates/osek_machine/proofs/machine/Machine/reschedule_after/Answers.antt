use Rattle.osek_machine.proofs.Effects.{rescheduled_from, current_low}
use Rattle.osek_machine.proofs.machine.Machine.reschedule_after.Goals as goal
use Rattle.osek_machine.specs.Inside.{kept_of}

pub put_back-requires-clause-low : goal.put_back-requires-clause-low
put_back-requires-clause-low c =
    current_low (kept_of c.self.inside) c.args.e c.current_level-level.result _ c.self.invariant.kept c.current_level-level.ensures

pub returns : goal.returns
returns c =
    rescheduled_from (kept_of c.self.inside) _ c.put_back.new.self _ c.args.e c.current_level-level.result c.as_slice.result.now c.gives_way.result c.self.view_is c.requires c.gives_way.ensures c.if-not-gives_way.false c.as_slice.ensures.value c.current_level-level.ensures c.put_back.ensures.state c.dispatch.ensures
