use Rattle.std.proofs.Common.{subst, sym}
use Rattle.std.proofs.lemmas.Result.{IfOk-weaker}
use Rattle.clause_form.specs.Literals.{IsOf}
use Rattle.turn_unroll.proofs.Making.{nth_of, chosen_gives}
use Rattle.turn_unroll.proofs.rows.choose_place.Goals as goal

pub choose-requires-clause-a : goal.choose-requires-clause-a
choose-requires-clause-a c = subst (IsOf c.args.circuit.now.variables) (sym c.place_in.ensures) (nth_of _ c.args.new.now c.args.i c.requires.truth c.requires.new)

pub choose-requires-clause-b : goal.choose-requires-clause-b
choose-requires-clause-b c = subst (IsOf c.args.circuit.now.variables) (sym c.place.ensures) (nth_of _ c.args.kept.now c.args.i c.requires.truth c.requires.kept)

pub returns : goal.returns
returns c = IfOk-weaker _ _ _ (λ r m. chosen_gives _ _ c.args.choice _ _ r c.args.kept.now c.args.new.now c.args.i c.place_in.ensures c.place.ensures m) c.choose.ensures
