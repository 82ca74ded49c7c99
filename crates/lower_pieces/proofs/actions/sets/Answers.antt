-- At the end no parameter or no term is left.
use Rattle.std.proofs.Common.{◌++◌, sym, ap, ◌∙◌, arith, append-nil}
use Rattle.std.specs.Prelude.{map}
use Rattle.step_ir.specs.Points.{set_of}
use Rattle.lower_pieces.proofs.Walked.{sets_end}
use Rattle.lower_pieces.proofs.actions.sets.Goals as goal

pub returns : goal.returns
returns c =
    let e = sets_end c.loop-i.cell c.args.params.now c.args.terms.now c.loop-i.i (omega (arith, c.fewer-i-end.ensures, c.loop-i-test.false)) in
    sym (c.loop-i.invariant.1 ∙ (ap (λ r. map set_of c.loop-i.sets ++ r) e ∙ append-nil (map set_of c.loop-i.sets)))
