use Rattle.std.proofs.Common.{◌≡◌, ◌++◌}
use Rattle.guard_prog.specs.Drafts.{plain_sets}
use Rattle.one_stack.specs.Rules as rules
use Rattle.one_stack.specs.Tables.{place_in}
use Rattle.one_stack.specs.Plain.{change_of}
use Rattle.one_stack.proofs.sets.put_stack.Given as goal

abbrev pub invariant-loop-x : goal.invariant-loop-x
invariant-loop-x l =
    plain_sets l.sets ++ rules.collect l.x (λ k. rules.set_at (place_in l.layout (rules.On k)) (rules.on_set (change_of l.c) k))
    ≡ plain_sets l.initial.sets ++ rules.collect l.layout.entities (λ k. rules.set_at (place_in l.layout (rules.On k)) (rules.on_set (change_of l.c) k))
