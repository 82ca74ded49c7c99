-- No position changes places with another.
use Rattle.lower.proofs.Ordered.{first_is}
use Rattle.lower.proofs.entities.Lowering.first_point.Goals as goal

pub returns : goal.returns
returns c =
    first_is c.args.tree.now c.args.base c.args.temp _ _ _ _ _ c.expansion-expansion.ensures.first c.expansion-expansion.ensures.temp c.in_ok-entry.ensures c.items.ensures c.in_ok-first.ensures
