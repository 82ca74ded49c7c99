use Rattle.one_stack.specs.Tables.{seen}
use Rattle.one_stack.proofs.layout.Layout.levels.Goals as goal

pub returns-clause-count : goal.returns-clause-count
unfolding seen
returns-clause-count c = c.level_count.ensures.count
