use Rattle.std.proofs.Common.{◌≡◌, length, rules}
use Rattle.std.proofs.lemmas.Result.{IfOk-weaker}
use Rattle.clause_form.proofs.Rising.{AreOf-more}
use Rattle.bit_circuit.proofs.Shifting.{shift_made}
use Rattle.bit_circuit.proofs.circuit.Circuit.shift.Goals as goal

pub near-requires-clause-amount : goal.near-requires-clause-amount
near-requires-clause-amount c = AreOf-more _ _ c.args.amount.lits c.in_ok-result.ensures.extends.grows c.requires.amount

pub returns : goal.returns
returns c =
    let k : length c.args.amount.lits ≡ 32 = search rules in
    IfOk-weaker _ _ _ (λ r p. shift_made _ _ _ c.args.way _ c.args.amount.lits _ _ k c.in_ok-result.ensures p) c.near.ensures
