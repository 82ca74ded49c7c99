use Rattle.std.proofs.Common.{◌≡◌, length, rules}
use Rattle.std.proofs.lemmas.Result.{IfOk-weaker}
use Rattle.clause_form.proofs.Rising.{AreOf-more}
use Rattle.bit_circuit.proofs.Operating.{shift_signed_made}
use Rattle.bit_circuit.proofs.circuit.Circuit.shift_signed.Goals as goal

pub shift_low-requires-clause-amount : goal.shift_low-requires-clause-amount
shift_low-requires-clause-amount c = AreOf-more _ _ c.args.amount.lits c.in_ok-flipped.ensures.extends.grows c.requires.amount

pub near-requires-clause-amount : goal.near-requires-clause-amount
near-requires-clause-amount c = AreOf-more _ _ c.args.amount.lits c.in_ok-result.ensures.extends.grows (AreOf-more _ _ c.args.amount.lits c.in_ok-moved.ensures.extends.grows (AreOf-more _ _ c.args.amount.lits c.in_ok-flipped.ensures.extends.grows c.requires.amount))

pub returns : goal.returns
returns c =
    let l : length c.args.a.lits ≡ 32 = search rules in
    let k : length c.args.amount.lits ≡ 32 = search rules in
    IfOk-weaker _ _ _ (λ r p. shift_signed_made _ _ _ _ _ c.args.a.lits c.args.amount.lits _ _ c.in_ok-result.result.lits _ _ l k c.sign-sign.ensures c.in_ok-flipped.ensures c.in_ok-moved.ensures c.in_ok-result.ensures p) c.near.ensures
