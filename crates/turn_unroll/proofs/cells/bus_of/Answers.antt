use Rattle.std.proofs.Common.{◌≡◌, length, arith, refl, sym, ◌∙◌}
use Rattle.std.proofs.lemmas.List.{length-set}
use Rattle.turn_unroll.proofs.Setting.{filled_all, filled_more}
use Rattle.turn_unroll.proofs.cells.bus_of.Goals as goal

pub loop-i-init : goal.loop-i-init
loop-i-init c = record { count = refl; same = λ k h. absurd (omega (arith, h)) }

pub loop-i-preserved : goal.loop-i-preserved
loop-i-preserved c = record {
  count = length-set c.loop-i.lits c.loop-i.i _ ∙ c.loop-i.invariant.count;
  same = filled_more c.loop-i.lits c.args.row.now c.loop-i.i _ (omega (arith, c.loop-i.invariant.count)) c.place.ensures c.loop-i.invariant.same;
}

pub returns : goal.returns
returns c = filled_all c.loop-i.lits c.args.row.now c.loop-i.i (omega (arith, c.loop-i.invariant.count)) (c.loop-i.invariant.count ∙ sym c.requires) c.loop-i.invariant.same
