use Rattle.one_stack.specs.Tables.{seen}
use Rattle.one_stack.proofs.layout.Layout.run_level.Goals as goal

pub returns : goal.returns
unfolding seen
returns c = rw (← c.self.view_is) c.run_level_at.ensures
