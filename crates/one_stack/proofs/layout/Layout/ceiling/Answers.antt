use Rattle.one_stack.specs.Tables.{seen}
use Rattle.one_stack.proofs.layout.Layout.ceiling.Goals as goal

pub returns : goal.returns
unfolding seen
returns c = rw (← c.self.view_is) c.ceiling_at.ensures
