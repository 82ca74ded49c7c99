use Rattle.std.proofs.Common.{List, sym, ◌∙◌, subst, ap, length}
use Rattle.std.proofs.lemmas.Result.{IfOk-weaker}
use Rattle.clause_form.specs.Literals.{AreOf}
use Rattle.bit_circuit.specs.declared.bus.Bus.{Bus}
use Rattle.bit_circuit.specs.Selection.{AreInside}
use Rattle.turn_unroll.proofs.Making.{lent_back}
use Rattle.turn_unroll.proofs.Setting.{next_made}
use Rattle.turn_unroll.proofs.cells.next_cells.Goals as goal

pub put_all-requires-clause-next : goal.put_all-requires-clause-next
put_all-requires-clause-next c = subst (AreInside c.args.circuit.now.variables) (sym (c.deref_mut.ensures.value ∙ c.in_ok-next.ensures.items ∙ c.items.ensures)) c.requires.cells.inside

pub put_all-requires-clause-count : goal.put_all-requires-clause-count
put_all-requires-clause-count c = ap length (c.deref_mut.ensures.value ∙ c.in_ok-next.ensures.items ∙ c.items.ensures)

pub put_all-requires-clause-word : goal.put_all-requires-clause-word
put_all-requires-clause-word c = subst (AreOf c.args.circuit.now.variables) (sym c.bus_of.ensures) c.requires.word

pub returns : goal.returns
returns c =
    let n = c.in_ok-put_all.ensures.count ∙ c.deref_mut.ensures.len in
    IfOk-weaker _ _ _ (λ (b : List Bus) e. next_made c.args.circuit.now c.put_all.new.circuit c.args.widths.now c.args.cells.now c.deref_mut.result.now c.put_all.new.next _ _ b c.args.word.now c.bus_of.result.lits c.args.ways.now (c.deref_mut.ensures.value ∙ c.in_ok-next.ensures.items ∙ c.items.ensures) (lent_back _ c.put_all.new.next _ n) c.deref.ensures.value e c.bus_of.ensures c.in_ok-put_all.ensures) c.buses_of.ensures
