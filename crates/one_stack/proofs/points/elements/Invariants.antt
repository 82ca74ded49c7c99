use Rattle.std.proofs.Common.{◌≡◌, ◌++◌}
use Rattle.chk_base.specs.Term.{term_of}
use Rattle.guard_prog.specs.Drafts.{plain_sets}
use Rattle.one_stack.specs.Rules as rules
use Rattle.one_stack.proofs.points.elements.Given as goal

abbrev pub invariant-loop-j : goal.invariant-loop-j
invariant-loop-j l =
    plain_sets l.sets ++ rules.write_sets l.target.base (term_of l.index) (term_of l.value) l.j
    ≡ rules.write_sets l.target.base (term_of l.index) (term_of l.value) l.target.len
