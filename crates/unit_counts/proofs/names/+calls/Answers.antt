use Rattle.std.proofs.Common.{◌-◌, arith}
use Rattle.unit_counts.proofs.NameParts.{function_cells, on_ok}
use Rattle.unit_counts.proofs.names.+calls.Goals as goal

pub push_function-returns : goal.push_function-returns
push_function-returns t c =
    on_ok c.push_calls.result _ _
    (λ e.
    let p = c.in_ok-push_locals.ensures in
    let q = c.locals_of.ensures in
    let r = c.things_in.ensures in
    let m = function_cells c.args.names.now c.args.unit.now c.args.sizes.now c.args.depth (c.args.depth - 1) c.args.f c.requires (omega (arith, c.if-depth-eq0.false)) in
    cc)
    c.push_calls.ensures
