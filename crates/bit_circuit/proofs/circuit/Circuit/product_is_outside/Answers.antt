use Rattle.std.proofs.lemmas.Result.{IfOk-weaker}
use Rattle.clause_form.proofs.Rising.{AreOf-more}
use Rattle.bit_circuit.proofs.Signing.{product_outside_made}
use Rattle.bit_circuit.proofs.circuit.Circuit.product_is_outside.Goals as goal

pub absolute-requires : goal.absolute-requires
absolute-requires c = AreOf-more _ _ c.args.a.lits c.in_ok-is_negative.ensures.extends.grows c.requires.a

pub absolute-requires-2 : goal.absolute-requires-2
absolute-requires-2 c = AreOf-more _ _ c.args.b.lits c.in_ok-a_absolute.ensures.extends.grows (AreOf-more _ _ c.args.b.lits c.in_ok-is_negative.ensures.extends.grows c.requires.b)

pub product-requires-clause-a : goal.product-requires-clause-a
product-requires-clause-a c = AreOf-more _ _ c.in_ok-a_absolute.a_absolute.lits c.in_ok-b_absolute.ensures.extends.grows c.in_ok-a_absolute.ensures.inside

pub is_nonzero-requires : goal.is_nonzero-requires
is_nonzero-requires c = AreOf-more _ _ c.in_ok-low.high.lits c.in_ok-bound.ensures.extends.grows c.in_ok-low.ensures.high_inside

pub is_at_most-requires-clause-a : goal.is_at_most-requires-clause-a
is_at_most-requires-clause-a c = AreOf-more _ _ c.in_ok-bound.bound.lits c.in_ok-is_high.ensures.extends.grows c.in_ok-bound.ensures.inside

pub is_at_most-requires-clause-b : goal.is_at_most-requires-clause-b
is_at_most-requires-clause-b c = AreOf-more _ _ c.in_ok-low.low.lits c.in_ok-is_high.ensures.extends.grows (AreOf-more _ _ c.in_ok-low.low.lits c.in_ok-bound.ensures.extends.grows c.in_ok-low.ensures.low_inside)

pub returns : goal.returns
returns c = IfOk-weaker _ _ _ (λ r p. product_outside_made _ _ _ _ _ _ _ _ _ _ _ _ _ _ _ _ _ _ _ _ _ _ _ _ c.sign.ensures c.sign-2.ensures c.in_ok-is_negative.ensures c.in_ok-a_absolute.ensures c.in_ok-b_absolute.ensures c.in_ok-low.ensures c.constant.ensures c.flag.ensures c.in_ok-bound.ensures c.in_ok-is_high.ensures c.in_ok-is_over.ensures p) c.or.ensures
