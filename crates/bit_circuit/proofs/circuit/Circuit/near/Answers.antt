use Rattle.std.proofs.Common.{◌≡◌, length, rules}
use Rattle.std.proofs.lemmas.Result.{IfOk-weaker}
use Rattle.clause_form.proofs.Rising.{AreOf-more}
use Rattle.bit_circuit.proofs.Numbers.{are-take, are-drop}
use Rattle.bit_circuit.proofs.Shifting.{near_made, far_made}
use Rattle.bit_circuit.proofs.circuit.Circuit.near.Goals as goal

pub any-requires : goal.any-requires
any-requires c = are-take _ _ _ (are-drop _ 5 _ c.requires.amount)

pub pick-requires-clause-a : goal.pick-requires-clause-a
pick-requires-clause-a c = AreOf-more _ _ c.args.a.lits c.in_ok-is_far.ensures.extends.grows c.requires.a

pub returns : goal.returns
returns c =
    let k : length c.args.amount.lits ≡ 32 = search rules in
    IfOk-weaker _ _ _ (λ r p. near_made _ _ _ c.args.amount.lits c.args.a.lits _ _ _ k (far_made _ _ c.args.amount.lits _ k c.in_ok-is_far.ensures) c.constant-zero.ensures p) c.pick.ensures
