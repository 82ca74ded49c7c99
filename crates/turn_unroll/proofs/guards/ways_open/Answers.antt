use Rattle.std.proofs.Common.{arith, refl, subst, sym}
use Rattle.clause_form.specs.Literals.{IsOf}
use Rattle.clause_form.proofs.Rising.{AreOf-more}
use Rattle.bit_circuit.proofs.Choosing.{cells_more}
use Rattle.turn_unroll.specs.Cells.{is_open_in}
use Rattle.turn_unroll.proofs.Making.{nth_of, truth_more}
use Rattle.turn_unroll.proofs.Waying.{opens_none, opens_read, opens_all}
use Rattle.turn_unroll.proofs.Opening.{guard_at}
use Rattle.turn_unroll.proofs.guards.ways_open.Goals as goal

pub loop-i-init : goal.loop-i-init
loop-i-init c = opens_none _ c.args.at.now (is_open_in c.args.widths.now c.args.cells.now) c.args.offers.now _ c.new-ways.ensures.items

pub open_where-requires-clause-truth : goal.open_where-requires-clause-truth
open_where-requires-clause-truth c = truth_more _ _ _ c.requires.truth c.loop-i.invariant.extends

pub open_where-requires-clause-at : goal.open_where-requires-clause-at
open_where-requires-clause-at c = subst (IsOf c.loop-i.circuit.variables) (sym c.place-here.ensures) (nth_of _ c.args.at.now _ (truth_more _ _ _ c.requires.truth c.loop-i.invariant.extends) (AreOf-more _ _ c.args.at.now c.loop-i.invariant.extends.grows c.requires.at))

pub open_where-requires-clause-cells : goal.open_where-requires-clause-cells
open_where-requires-clause-cells c = cells_more _ _ _ c.args.widths.now c.args.cells.now c.loop-i.invariant.extends c.requires.cells

pub open_where-requires-clause-names : goal.open_where-requires-clause-names
open_where-requires-clause-names c = guard_at _ c.args.widths.now _ c.args.offers.now c.loop-i.i _ c.index-offers-i.is (omega arith) c.requires.cells.same_length c.requires.fits

pub loop-i-preserved : goal.loop-i-preserved
loop-i-preserved c = opens_read _ _ _ c.args.at.now (is_open_in c.args.widths.now c.args.cells.now) c.args.offers.now _ _ c.loop-i.i _ _ _ c.index-offers-i.is (omega arith) c.loop-i.invariant c.place-here.ensures c.in_ok-taken.ensures refl c.in_ok-push.ensures.items

pub returns : goal.returns
returns c = opens_all _ _ c.args.at.now (is_open_in c.args.widths.now c.args.cells.now) c.args.offers.now _ c.loop-i.i (omega arith) c.loop-i.invariant
