use Rattle.std.proofs.Common.{◌≡◌, ◌++◌, drop}
use Rattle.std.specs.Prelude.{map}
use Rattle.chk_base.specs.Term.{term_of}
use Rattle.step_ir.specs.Points.{item_of}
use Rattle.lower_law.specs.Lowered.{all_guarded}
use Rattle.lower_pieces.proofs.entries.all_guarded.Given as goal

-- what is left of the first nexts
abbrev pub invariant-loop-next : goal.invariant-loop-next
invariant-loop-next l =
    all_guarded (term_of l.test) (map item_of l.here) (map item_of l.rest)
    ≡ map item_of l.nexts ++ all_guarded (term_of l.test) (map item_of (drop l.next-index l.here)) (map item_of l.rest)
