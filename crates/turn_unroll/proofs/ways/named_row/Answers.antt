use Rattle.std.proofs.Common.{arith, subst, sym, ap, length, ◌∙◌, refl}
use Rattle.clause_form.specs.Literals.{AreOf}
use Rattle.turn_unroll.specs.Ways.{AreBelow, GivesNamed, choices_of}
use Rattle.turn_unroll.proofs.Making.{dark_of, length-dark, lent_back}
use Rattle.turn_unroll.proofs.Waying.{named_made}
use Rattle.turn_unroll.proofs.ways.named_row.Goals as goal

pub put_ways-requires-clause-row : goal.put_ways-requires-clause-row
put_ways-requires-clause-row c = subst (AreOf c.args.circuit.now.variables) (sym (c.deref_mut.ensures.value ∙ c.in_ok-row.ensures)) (dark_of _ _ c.requires.truth)

pub put_ways-requires-clause-fits : goal.put_ways-requires-clause-fits
put_ways-requires-clause-fits c = subst (λ n. AreBelow c.args.side n (choices_of c.args.ways.now)) (sym (ap length (c.deref_mut.ensures.value ∙ c.in_ok-row.ensures) ∙ length-dark _)) c.requires.fits

pub returns : goal.returns
returns c =
    let n = c.in_ok-put_ways.ensures.count ∙ c.deref_mut.ensures.len in
    subst (λ row. GivesNamed c.args.circuit.now c.put_ways.new.circuit c.args.side c.args.ways.now c.args.count row) (sym (lent_back _ c.put_ways.new.row _ n)) (named_made c.args.circuit.now c.put_ways.new.circuit c.args.side c.args.ways.now c.args.count _ _ _ c.requires.truth c.in_ok-row.ensures c.deref_mut.ensures.value c.in_ok-put_ways.ensures)
