use Rattle.std.proofs.Common.{◌-◌, arith, refl}
use Rattle.clause_form.specs.ClauseTruth.{values_of}
use Rattle.turn_law.specs.Symbol.{nth}
use Rattle.turn_unroll.proofs.Reading.{digit_more, number_none}
use Rattle.turn_unroll.proofs.run.number.Goals as goal

pub loop-i-init : goal.loop-i-init
loop-i-init c = number_none (values_of c.args.values.now) c.args.row.now 32 c.requires (omega arith)

pub overflow_mul-sum : goal.overflow_mul-sum
overflow_mul-sum c =
    let d = digit_more (values_of c.args.values.now) c.args.row.now c.loop-i.i c.loop-i.sum (nth c.args.row.now (c.loop-i.i - 1)) c.requires (omega arith) (omega arith) c.loop-i.invariant refl in
    let s = d.small in
    omega (arith, s)

pub overflow_add-sum : goal.overflow_add-sum
overflow_add-sum c =
    let d = digit_more (values_of c.args.values.now) c.args.row.now c.loop-i.i c.loop-i.sum c.place.result c.requires (omega arith) (omega arith) c.loop-i.invariant c.place.ensures in
    let s = d.small in
    let b = c.bit.ensures in
    omega (arith, s, b)

pub loop-i-preserved : goal.loop-i-preserved
loop-i-preserved c =
    let d = digit_more (values_of c.args.values.now) c.args.row.now c.loop-i.i c.loop-i.sum c.place.result c.requires (omega arith) (omega arith) c.loop-i.invariant c.place.ensures in
    let s = d.is in
    let b = c.bit.ensures in
    omega (arith, s, b)
