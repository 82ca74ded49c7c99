-- The points of the tree.
use Rattle.lower.proofs.Ordered.{first_within, ordered_are, points_few, points_made, same_fits, same_tables}
use Rattle.lower.proofs.entities.Lowering.points.Goals as goal

pub entity_points-requires-clause-tables : goal.entity_points-requires-clause-tables
entity_points-requires-clause-tables c =
    same_tables c.args.self.now.functions.now _ c.args.self.now.tables.now _ c.expansion-expansion.ensures.functions c.expansion-expansion.ensures.tables c.requires.tables

pub entity_points-requires-clause-fits : goal.entity_points-requires-clause-fits
entity_points-requires-clause-fits c =
    same_fits c.args.self.now.functions.now c.expansion-expansion.result.functions.now c.args.temp c.expansion-expansion.result.temp c.args.base c.args.tree.now c.expansion-expansion.ensures.functions c.expansion-expansion.ensures.temp c.requires.placed.fits

pub reordered-requires-clause-within : goal.reordered-requires-clause-within
reordered-requires-clause-within c =
    let made = points_made c.args.self.now.functions.now _ c.args.temp _ c.args.base _ _ c.args.tree.now _ c.expansion-expansion.ensures.functions c.expansion-expansion.ensures.temp c.expansion-expansion.ensures.first c.in_ok-first.ensures c.in_ok-points.ensures in
    first_within c.args.self.now.functions.now c.args.temp c.args.base c.in_ok-first.first c.args.tree.now c.in_ok-points.points c.requires.placed c.in_ok-first.ensures made

pub reordered-requires-clause-few : goal.reordered-requires-clause-few
reordered-requires-clause-few c =
    let made = points_made c.args.self.now.functions.now _ c.args.temp _ c.args.base _ _ c.args.tree.now _ c.expansion-expansion.ensures.functions c.expansion-expansion.ensures.temp c.expansion-expansion.ensures.first c.in_ok-first.ensures c.in_ok-points.ensures in
    points_few c.args.self.now.functions.now c.args.temp c.args.base c.args.tree.now c.in_ok-points.points c.requires.placed made

pub returns : goal.returns
returns c =
    let made = points_made c.args.self.now.functions.now _ c.args.temp _ c.args.base _ _ c.args.tree.now _ c.expansion-expansion.ensures.functions c.expansion-expansion.ensures.temp c.expansion-expansion.ensures.first c.in_ok-first.ensures c.in_ok-points.ensures in
    ordered_are c.args.self.now.functions.now c.args.temp c.args.base c.in_ok-first.first c.args.tree.now c.in_ok-points.points _ c.in_ok-first.ensures made c.in_ok-ordered.ensures
