use Rattle.std.proofs.lemmas.Result.{IfOk-weaker}
use Rattle.std.proofs.Common.{◌≡◌, length, rules, arith}
use Rattle.bit_circuit.proofs.Numbers.{are-get}
use Rattle.bit_circuit.proofs.Operating.{sign8_made, sign16_made, not_made, neg_made, inv_made}
use Rattle.bit_circuit.proofs.circuit.Circuit.unary.Goals as goal

pub extend-requires-in-Sign16-clause-fill : goal.extend-requires-in-Sign16-clause-fill
extend-requires-in-Sign16-clause-fill c =
    let l : length c.args.a.lits ≡ 32 = search rules in
    are-get _ c.args.a.lits 15 _ c.requires (omega arith)

pub returns-in_ok-is_true-in-Not : goal.returns-in_ok-is_true-in-Not
returns-in_ok-is_true-in-Not c = not_made _ _ c.args.op c.args.a.lits _ _ _ c.in-Not.is c.in_ok-is_true-in-Not.ensures c.negated.ensures.negation c.flag.ensures

pub returns-in-Inv : goal.returns-in-Inv
returns-in-Inv c =
    let l : length c.args.a.lits ≡ 32 = search rules in
    inv_made _ c.args.op c.args.a.lits _ c.in-Inv.is l c.requires c.inverted.ensures

pub returns-in-Sign8 : goal.returns-in-Sign8
returns-in-Sign8 c =
    let l : length c.args.a.lits ≡ 32 = search rules in
    sign8_made _ c.args.op c.args.a.lits _ (record { 0 = 0 }) c.in-Sign8.is l c.extend-in-Sign8.ensures

pub returns-in-Sign16 : goal.returns-in-Sign16
returns-in-Sign16 c =
    let l : length c.args.a.lits ≡ 32 = search rules in
    sign16_made _ c.args.op c.args.a.lits _ (record { 0 = 0 }) c.in-Sign16.is l c.extend-in-Sign16.ensures

pub returns-in-Neg : goal.returns-in-Neg
returns-in-Neg c = IfOk-weaker _ _ _ (λ r p. neg_made _ _ c.args.op c.args.a.lits _ _ c.in-Neg.is c.yes.ensures p) c.negate_if.ensures
