use Rattle.std.proofs.Common.{ap}
use Rattle.chk_base.specs.Widths.{PlainWord}
use Rattle.osek_machine.proofs.perform.store.Goals as goal
use Rattle.osek_machine.proofs.Storing.{stored_by}

pub returns-clause-cells : goal.returns-clause-cells
returns-clause-cells c =
    stored_by c.args.cells.now _ c.args.cell c.get-got.result c.taken-word.result c.got.inside.width c.requires c.get-got.ensures (ap (λ (x : PlainWord). x.width) c.got.view_is) (ap (λ (x : PlainWord). x.width) c.taken-word.ensures) c.set.ensures
