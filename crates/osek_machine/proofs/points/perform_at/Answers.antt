use Rattle.std.proofs.Common.{◌≡◌, Some, slice_get, sym}
use Rattle.osek_machine.proofs.Performing.{point_fit, performed_at}
use Rattle.osek_machine.proofs.points.perform_at.Goals as goal
use Rattle.step_ir.specs.Points.{points_of}

pub perform-requires-clause-fit : goal.perform-requires-clause-fit
perform-requires-clause-fit c =
    let at : slice_get (points_of (slice_get c.args.code.now.entities c.args.e)) c.args.at ≡ Some c.in-Some.point.now = sym c.in-Some.ensures in
    point_fit (record { reads = c.cells_within.ensures.reads; own = c.cells_within.ensures.own; globals = c.cells_within.ensures.globals; few_cells = c.cells_within.ensures.few_cells; few_sets = c.cells_within.ensures.few_sets }) c.args.app.now c.args.code.now c.args.cells.now c.args.e c.args.at c.in-Some.point.now c.requires.fixed c.requires.over at

pub returns-in-Some-clause-performed : goal.returns-in-Some-clause-performed
returns-in-Some-clause-performed c =
    let at : slice_get (points_of (slice_get c.args.code.now.entities c.args.e)) c.args.at ≡ Some c.in-Some.point.now = sym c.in-Some.ensures in
    performed_at c.args.code.now c.args.cells.now c.args.e c.args.at c.in-Some.point.now _ _ _ c.requires.over at c.perform.ensures.performed
