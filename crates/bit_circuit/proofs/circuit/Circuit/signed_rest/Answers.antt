use Rattle.std.proofs.Common.{◌≡◌, length, rules}
use Rattle.std.proofs.lemmas.Result.{IfOk-weaker}
use Rattle.clause_form.proofs.Rising.{AreOf-more}
use Rattle.bit_circuit.proofs.Signing.{signed_rest_made}
use Rattle.bit_circuit.proofs.circuit.Circuit.signed_rest.Goals as goal

pub absolute-requires-2 : goal.absolute-requires-2
absolute-requires-2 c = AreOf-more _ _ c.args.b.lits c.in_ok-a_absolute.ensures.extends.grows c.requires.b

pub quotient-requires-clause-a : goal.quotient-requires-clause-a
quotient-requires-clause-a c = AreOf-more _ _ c.in_ok-a_absolute.a_absolute.lits c.in_ok-b_absolute.ensures.extends.grows c.in_ok-a_absolute.ensures.inside

pub sign-requires : goal.sign-requires
sign-requires c = AreOf-more _ _ c.args.a.lits c.in_ok-rest.ensures.extends.grows (AreOf-more _ _ c.args.a.lits c.in_ok-b_absolute.ensures.extends.grows (AreOf-more _ _ c.args.a.lits c.in_ok-a_absolute.ensures.extends.grows c.requires.a))

pub returns : goal.returns
returns c =
    let k : length c.args.b.lits ≡ 32 = search rules in
    IfOk-weaker _ _ _ (λ r p. signed_rest_made _ _ _ _ _ _ c.args.b.lits _ _ _ _ _ _ k c.in_ok-a_absolute.ensures c.in_ok-b_absolute.ensures c.in_ok-rest.ensures c.sign.ensures p) c.negate_if.ensures
