use Rattle.std.proofs.lemmas.Result.{IfOk-weaker}
use Rattle.clause_form.proofs.Rising.{AreOf-more}
use Rattle.bit_circuit.proofs.Choosing.{choose_bus_made}
use Rattle.bit_circuit.proofs.circuit.Circuit.choose_bus.Goals as goal

pub pick-requires-clause-a : goal.pick-requires-clause-a
pick-requires-clause-a c = AreOf-more _ _ c.args.b.lits c.in_ok-is_true.ensures.extends.grows c.requires.b

pub pick-requires-clause-b : goal.pick-requires-clause-b
pick-requires-clause-b c = AreOf-more _ _ c.args.a.lits c.in_ok-is_true.ensures.extends.grows c.requires.a

pub returns : goal.returns
returns c = IfOk-weaker _ _ _ (λ r p. choose_bus_made _ _ _ c.args.c.lits c.args.a.lits c.args.b.lits _ _ c.in_ok-is_true.ensures p) c.pick.ensures
