use Rattle.std.proofs.Common.{arith, subst, sym, get_or}
use Rattle.clause_form.specs.Literals.{IsOf}
use Rattle.turn_law.specs.Symbol.{no as never}
use Rattle.turn_unroll.proofs.Demanding.{IsOf-with, required_none, required_more, required_all}
use Rattle.turn_unroll.proofs.Making.{AreOf-get}
use Rattle.turn_unroll.proofs.demands.require_all.Goals as goal

pub loop-i-init : goal.loop-i-init
loop-i-init c = required_none _ c.args.demands.now

pub require-requires : goal.require-requires
require-requires c = subst (IsOf c.loop-i.circuit.variables) (sym c.place.ensures) (IsOf-with c.args.circuit.now _ c.loop-i.circuit _ c.loop-i.invariant (AreOf-get _ c.args.demands.now c.loop-i.i never c.requires (omega arith)))

pub loop-i-preserved : goal.loop-i-preserved
loop-i-preserved c = required_more _ _ _ c.args.demands.now c.loop-i.i never _ (omega arith) c.place.ensures c.loop-i.invariant c.in_ok-require.ensures

pub returns : goal.returns
returns c = required_all _ _ c.args.demands.now c.loop-i.i (omega arith) c.loop-i.invariant
