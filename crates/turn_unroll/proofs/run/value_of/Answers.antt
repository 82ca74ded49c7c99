use Rattle.turn_unroll.proofs.Reading.{unreached}
use Rattle.turn_unroll.proofs.run.value_of.Goals as goal

pub returns-in-None : goal.returns-in-None
returns-in-None c = unreached c.args.values.now c.args.variable c.if-variable-eq0.false c.in-None.ensures
