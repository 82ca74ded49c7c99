use Rattle.std.proofs.Common.{◌≡◌, ◌%◌, ◌∙◌, ap}
use Rattle.chk_base.specs.Widths.{PlainWord, limit_of}
use Rattle.guard_prog.specs.Executions.{widths_of, width_at, bits_at}
use Rattle.guard_prog.proofs.Cells.{widths_of-set, bits_at-set}
use Rattle.guard_prog.proofs.execution.set_cell.Goals as goal

pub returns-clause-widths : goal.returns-clause-widths
returns-clause-widths c =
    let e : c.taken.result.width ≡ width_at c.args.cells.now c.args.cell = ap (λ (w : PlainWord). w.width) c.taken.ensures ∙ ap (λ (w : PlainWord). w.width) (c.width.view_is ∙ c.get.ensures) in
    ap widths_of c.set.ensures ∙ widths_of-set c.args.cells.now c.args.cell c.taken.result e

pub returns-clause-bits : goal.returns-clause-bits
returns-clause-bits c =
    let e : c.taken.result.bits ≡ c.args.number % limit_of (width_at c.args.cells.now c.args.cell) = ap (λ (w : PlainWord). w.bits) c.taken.ensures ∙ ap (λ (w : PlainWord). c.args.number % limit_of w.width) (c.width.view_is ∙ c.get.ensures) in
    λ q. ap (λ cells. bits_at cells q) c.set.ensures ∙ bits_at-set c.args.cells.now c.args.cell q c.args.number c.taken.result c.requires e
