use Rattle.std.proofs.Common.{◌+◌, ap}
use Rattle.typed_unit.specs.Views.{entity_of, unit_of}
use Rattle.unit_counts.proofs.CellParts.{reads_few, with_cells}
use Rattle.unit_counts.proofs.cells.entity_cells.Goals as goal

pub body_cells-requires-clause-few : goal.body_cells-requires-clause-few
body_cells-requires-clause-few c =
    reads_few (unit_of c.args.unit.now) c.args.number (entity_of c.in-Some.body.now) c.in-Some.ensures 8192 c.requires.few

pub returns-in_ok-names-in-Some : goal.returns-in_ok-names-in-Some
returns-in_ok-names-in-Some c =
    with_cells (unit_of c.args.unit.now) c.args.number (entity_of c.in-Some.body.now) c.in-Some.ensures c.args.first _ _ c.requires.first c.in_ok-names-in-Some.ensures.names (ap (λ n. c.args.first + n) c.in_ok-names-in-Some.ensures.before)
