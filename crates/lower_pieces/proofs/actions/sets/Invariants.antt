use Rattle.std.proofs.Common.{◌≡◌, ◌+◌, ◌++◌, drop}
use Rattle.std.specs.Prelude.{map}
use Rattle.chk_base.specs.Term.{term_of}
use Rattle.step_ir.specs.Points.{set_of}
use Rattle.lower_law.specs.Lowered.{sets}
use Rattle.lower_pieces.proofs.actions.sets.Given as goal

-- what is left of the parameters and the terms
abbrev pub invariant-loop-i : goal.invariant-loop-i
invariant-loop-i l =
    (l.cell ≡ l.fn.cell + l.i)
    × (sets l.fn.cell l.params (map term_of l.terms) ≡ map set_of l.sets ++ sets l.cell (drop l.i l.params) (map term_of (drop l.i l.terms)))
