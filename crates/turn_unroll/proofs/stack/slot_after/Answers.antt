use Rattle.std.proofs.Common.{rules, sym, subst}
use Rattle.std.proofs.lemmas.Result.{IfOk-weaker}
use Rattle.clause_form.specs.Literals.{AreOf}
use Rattle.turn_unroll.proofs.Making.{row_there, row_within, chosen_row}
use Rattle.turn_unroll.proofs.stack.slot_after.Goals as goal

pub choose_row-requires-clause-kept : goal.choose_row-requires-clause-kept
choose_row-requires-clause-kept c = subst (AreOf c.args.circuit.now.variables) (row_there c.args.slots.now c.args.d _ (search rules)) (row_within _ c.args.slots.now c.args.d c.requires.slots)

pub returns : goal.returns
returns c = IfOk-weaker _ _ _ (λ r m. chosen_row _ _ c.args.chosen _ _ c.args.leave.now r (sym (row_there c.args.slots.now c.args.d _ (search rules))) m) c.choose_row.ensures
