use Rattle.one_stack.specs.Tables.{seen}
use Rattle.one_stack.proofs.layout.Layout.level.Goals as goal

pub returns : goal.returns
unfolding seen
returns c = rw (← c.self.view_is) c.level_at.ensures
