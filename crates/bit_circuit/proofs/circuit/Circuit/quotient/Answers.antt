use Rattle.std.proofs.Common.{◌≡◌, ◌-◌, length, rules, arith}
use Rattle.clause_form.proofs.Rising.{AreOf-more}
use Rattle.bit_circuit.proofs.Numbers.{are-get}
use Rattle.bit_circuit.proofs.OneByOne.{are-map_negation}
use Rattle.bit_circuit.proofs.Multiplying.{quotient_none, quotient_more, quotient_done, complement_made}
use Rattle.bit_circuit.proofs.circuit.Circuit.quotient.Goals as goal

pub loop-i-init : goal.loop-i-init
loop-i-init c =
    let l : length c.args.a.lits ≡ 32 = search rules in
    quotient_none _ _ c.args.b.lits _ l c.requires.a c.no-rest.ensures

pub divide_step-requires-clause-complement : goal.divide_step-requires-clause-complement
divide_step-requires-clause-complement c = rw c.negate_all.ensures (AreOf-more _ _ _ c.loop-i.invariant.extends.grows (are-map_negation _ _ c.wide-complement.ensures.inside))

pub divide_step-requires-clause-digit : goal.divide_step-requires-clause-digit
divide_step-requires-clause-digit c =
    let k : length c.args.a.lits ≡ 32 = search rules in
    are-get _ c.args.a.lits (c.loop-i.i - 1) _ (AreOf-more _ _ c.args.a.lits c.loop-i.invariant.extends.grows c.requires.a) (omega arith)

pub loop-i-preserved : goal.loop-i-preserved
loop-i-preserved c =
    let k : length c.args.b.lits ≡ 32 = search rules in
    let l : length c.args.a.lits ≡ 32 = search rules in
    quotient_more _ _ _ c.args.a.lits c.args.b.lits _ _ _ _ c.loop-i.i (c.loop-i.i - 1) (record { 0 = 0 }) _ (omega arith) (omega arith) l k (complement_made _ _ _ _ c.wide-complement.ensures c.negate_all.ensures) c.loop-i.invariant c.in_ok-quotient.ensures

pub returns : goal.returns
returns c =
    let k : length c.args.b.lits ≡ 32 = search rules in
    quotient_done _ _ _ c.args.b.lits _ _ _ c.loop-i.i (omega arith) c.narrow.ensures k c.loop-i.invariant
