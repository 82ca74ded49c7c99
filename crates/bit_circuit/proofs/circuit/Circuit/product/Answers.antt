use Rattle.std.proofs.Common.{◌≡◌, length, rules, arith}
use Rattle.clause_form.proofs.Rising.{AreOf-more}
use Rattle.bit_circuit.proofs.Numbers.{are-get}
use Rattle.bit_circuit.proofs.Multiplying.{product_more, product_done}
use Rattle.bit_circuit.proofs.circuit.Circuit.product.Goals as goal

pub multiply_step-requires-clause-a : goal.multiply_step-requires-clause-a
multiply_step-requires-clause-a c = AreOf-more _ _ _ c.loop-i.invariant.extends.grows c.wide-wide.ensures.inside

pub multiply_step-requires-clause-digit : goal.multiply_step-requires-clause-digit
multiply_step-requires-clause-digit c =
    let k : length c.args.b.lits ≡ 32 = search rules in
    are-get _ c.args.b.lits c.loop-i.i _ (AreOf-more _ _ c.args.b.lits c.loop-i.invariant.extends.grows c.requires.b) (omega arith)

pub loop-i-preserved : goal.loop-i-preserved
loop-i-preserved c =
    let k : length c.args.b.lits ≡ 32 = search rules in
    let l : length c.args.a.lits ≡ 32 = search rules in
    product_more _ _ _ c.args.a.lits c.args.b.lits _ c.loop-i.low.lits _ _ c.loop-i.i (record { 0 = 0 }) _ (omega arith) l k c.wide-wide.ensures c.loop-i.invariant c.in_ok-low.ensures

pub returns : goal.returns
returns c =
    let k : length c.args.b.lits ≡ 32 = search rules in
    product_done _ _ _ c.args.b.lits _ _ _ c.loop-i.i (omega arith) k c.narrow.ensures c.loop-i.invariant
