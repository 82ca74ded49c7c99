use Rattle.std.proofs.Common.{arith, refl}
use Rattle.clause_form.proofs.Rising.{IsOf-more}
use Rattle.bit_circuit.proofs.Choosing.{AreInside-more}
use Rattle.turn_unroll.proofs.Making.{truth_more}
use Rattle.turn_unroll.proofs.Setting.{put_after}
use Rattle.turn_unroll.proofs.Demanding.{on_ok}
use Rattle.turn_unroll.proofs.cells.put_set.Goals as goal

pub put_cell-requires-clause-truth : goal.put_cell-requires-clause-truth
put_cell-requires-clause-truth c = truth_more _ _ _ c.requires.truth c.in_ok-value.ensures.extends

pub put_cell-requires-clause-next : goal.put_cell-requires-clause-next
put_cell-requires-clause-next c = AreInside-more _ _ c.args.next.now c.in_ok-value.ensures.extends.grows c.requires.next

pub put_cell-requires-clause-taken : goal.put_cell-requires-clause-taken
put_cell-requires-clause-taken c = IsOf-more _ _ c.args.taken c.in_ok-value.ensures.extends.grows c.requires.taken

pub returns : goal.returns
returns c = on_ok c.put_cell.result _ _ (λ s. put_after _ _ _ _ _ _ _ _ _ _ _ _ c.width_of.ensures c.in_ok-value.ensures s) c.put_cell.ensures
