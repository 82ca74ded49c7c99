use Rattle.std.proofs.Common.{refl, ◌≡◌, length, rules, arith}
use Rattle.clause_form.proofs.Rising.{AreOf-more}
use Rattle.bit_circuit.proofs.Numbers.{are-get}
use Rattle.bit_circuit.proofs.Shifting.{shift_none, shift_more, shift_fits, are-moved}
use Rattle.bit_circuit.proofs.circuit.Circuit.shift_low.Goals as goal

pub loop-i-init : goal.loop-i-init
loop-i-init c =
    let l : length c.args.a.lits ≡ 32 = search rules in
    shift_none _ _ _ c.args.amount.lits l c.requires.a

pub move_lits-requires : goal.move_lits-requires
move_lits-requires c = shift_fits c.loop-i.i _ (omega arith) c.loop-i.invariant.width

pub pick-requires-clause-c : goal.pick-requires-clause-c
pick-requires-clause-c c =
    let k : length c.args.amount.lits ≡ 32 = search rules in
    are-get _ c.args.amount.lits c.loop-i.i _ (AreOf-more _ _ c.args.amount.lits c.loop-i.invariant.extends.grows c.requires.amount) (omega arith)

pub pick-requires-clause-b : goal.pick-requires-clause-b
pick-requires-clause-b c = rw c.move_lits.ensures (are-moved _ c.args.way _ _ _ c.loop-i.invariant.inside c.no.ensures.inside)

pub loop-i-preserved : goal.loop-i-preserved
loop-i-preserved c =
    let k : length c.args.amount.lits ≡ 32 = search rules in
    shift_more _ _ _ c.args.way _ c.args.amount.lits _ _ _ c.loop-i.i _ (record { 0 = 0 }) _ (omega arith) k refl c.move_lits.ensures c.no.ensures c.loop-i.invariant c.in_ok-result.ensures
