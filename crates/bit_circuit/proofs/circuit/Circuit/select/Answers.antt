use Rattle.std.proofs.Common.{◌≡◌, length, rules, arith, inl, inr}
use Rattle.clause_form.proofs.Rising.{AreOf-more}
use Rattle.bit_circuit.proofs.Selecting.{inside_at, select_more, select_done}
use Rattle.bit_circuit.proofs.circuit.Circuit.select.Goals as goal

pub select_one-requires-clause-item : goal.select_one-requires-clause-item
select_one-requires-clause-item c = AreOf-more _ _ c.at.result.lits c.loop-i.invariant.extends.grows (inside_at _ c.args.items.now c.loop-i.i _ c.at.ensures c.requires.items)

pub select_one-requires-clause-index : goal.select_one-requires-clause-index
select_one-requires-clause-index c = AreOf-more _ _ c.args.index.lits c.loop-i.invariant.extends.grows c.requires.index

pub loop-i-preserved : goal.loop-i-preserved
loop-i-preserved c = select_more _ _ _ c.args.items.now c.args.index c.at.result _ _ c.loop-i.i _ (omega arith) c.at.ensures c.in-Ok.ensures.1 c.loop-i.invariant c.in_ok-chosen.ensures

pub returns-after-loop-i : goal.returns-after-loop-i
returns-after-loop-i c =
    let k : length c.args.index.lits ≡ 32 = search rules in
    select_done _ _ c.args.items.now c.args.index _ c.loop-i.i k (inl (omega arith)) (omega arith) c.loop-i.invariant

pub returns-in_default : goal.returns-in_default
returns-in_default c =
    let k : length c.args.index.lits ≡ 32 = search rules in
    select_done _ _ c.args.items.now c.args.index _ c.loop-i.i k (inr (omega arith)) (omega arith) c.loop-i.invariant
