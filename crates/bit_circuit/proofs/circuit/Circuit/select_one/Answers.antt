use Rattle.std.proofs.lemmas.Result.{IfOk-weaker}
use Rattle.clause_form.proofs.Rising.{AreOf-more}
use Rattle.bit_circuit.proofs.Selecting.{select_one_made}
use Rattle.bit_circuit.proofs.circuit.Circuit.select_one.Goals as goal

pub pick-requires-clause-a : goal.pick-requires-clause-a
pick-requires-clause-a c = AreOf-more _ _ c.args.chosen.lits c.in_ok-is_here.ensures.extends.grows c.requires.chosen

pub pick-requires-clause-b : goal.pick-requires-clause-b
pick-requires-clause-b c = AreOf-more _ _ c.args.item.lits c.in_ok-is_here.ensures.extends.grows c.requires.item

pub returns : goal.returns
returns c = IfOk-weaker _ _ _ (λ r p. select_one_made _ _ _ c.args.chosen.lits c.args.item.lits c.constant.result.lits c.args.index.lits _ _ _ c.constant.ensures c.in_ok-is_here.ensures p) c.pick.ensures
