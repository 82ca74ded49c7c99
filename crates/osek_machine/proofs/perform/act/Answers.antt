use Rattle.std.proofs.Common.{ap, subst, length, arith}
use Rattle.std.proofs.lemmas.List.{length-map}
use Rattle.osek_machine.proofs.perform.act.Goals as goal
use Rattle.osek_machine.specs.CellWords.{widths}
use Rattle.osek_machine.specs.Within.{IsActionWithin}
use Rattle.step_ir.specs.Points.{plain_action, set_of}

pub call-action-requires-clause-room : goal.call-action-requires-clause-room
call-action-requires-clause-room c =
    let fit = subst (λ a. IsActionWithin (widths c.args.cells.now) (length c.args.cells.now) (plain_action a)) c.in-Call.is c.requires.fit in
    let here = fit.0 in
    let same = ap length c.items.ensures in
    omega (arith, here, same, length-map c.in-Call.sets set_of)
