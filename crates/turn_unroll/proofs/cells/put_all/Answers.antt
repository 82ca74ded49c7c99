use Rattle.std.proofs.Common.{arith, ◌∙◌}
use Rattle.clause_form.proofs.Rising.{AreOf-more}
use Rattle.bit_circuit.proofs.Choosing.{cells_more}
use Rattle.turn_unroll.proofs.Making.{truth_more}
use Rattle.turn_unroll.proofs.Setting.{sets_of_way, ways_all, ways_none, ways_read}
use Rattle.turn_unroll.proofs.Waying.{taken_of, taken_more}
use Rattle.turn_unroll.proofs.cells.put_all.Goals as goal

pub loop-i-init : goal.loop-i-init
loop-i-init c = ways_none _ c.args.widths.now c.args.cells.now c.args.next.now c.args.word.lits c.args.ways.now c.requires.next

pub put_alternative-requires-clause-truth : goal.put_alternative-requires-clause-truth
put_alternative-requires-clause-truth c = truth_more _ _ _ c.requires.truth c.loop-i.invariant.extends

pub put_alternative-requires-clause-next : goal.put_alternative-requires-clause-next
put_alternative-requires-clause-next c = c.loop-i.invariant.inside

pub put_alternative-requires-clause-count : goal.put_alternative-requires-clause-count
put_alternative-requires-clause-count c = c.loop-i.invariant.count ∙ c.requires.count

pub put_alternative-requires-clause-cells : goal.put_alternative-requires-clause-cells
put_alternative-requires-clause-cells c = cells_more _ _ _ c.args.widths.now c.args.cells.now c.loop-i.invariant.extends c.requires.cells

pub put_alternative-requires-clause-word : goal.put_alternative-requires-clause-word
put_alternative-requires-clause-word c = AreOf-more _ _ c.args.word.lits c.loop-i.invariant.extends.grows c.requires.word

pub put_alternative-requires-clause-taken : goal.put_alternative-requires-clause-taken
put_alternative-requires-clause-taken c = taken_of _ c.args.ways.now c.loop-i.i _ c.index-ways-i.is (taken_more _ _ c.args.ways.now c.loop-i.invariant.extends.grows c.requires.ways) (omega arith)

pub put_alternative-requires-clause-sets : goal.put_alternative-requires-clause-sets
put_alternative-requires-clause-sets c = sets_of_way _ c.args.widths.now _ c.args.ways.now c.loop-i.i _ c.index-ways-i.is (omega arith) c.requires.cells.same_length c.requires.fits

pub loop-i-preserved : goal.loop-i-preserved
loop-i-preserved c = ways_read _ _ _ c.args.widths.now c.args.cells.now _ _ _ c.args.word.lits c.args.ways.now c.loop-i.i _ c.index-ways-i.is (omega arith) c.loop-i.invariant c.in_ok-put_alternative.ensures

pub returns : goal.returns
returns c = ways_all _ _ c.args.widths.now c.args.cells.now _ _ c.args.word.lits c.args.ways.now c.loop-i.i (omega arith) c.loop-i.invariant
