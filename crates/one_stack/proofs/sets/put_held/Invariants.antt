use Rattle.std.proofs.Common.{◌≡◌, ◌++◌}
use Rattle.guard_prog.specs.Drafts.{plain_sets}
use Rattle.one_stack.specs.Rules as rules
use Rattle.one_stack.specs.Tables.{place_in}
use Rattle.one_stack.specs.Plain.{change_of}
use Rattle.one_stack.proofs.sets.put_held.Given as goal

abbrev pub invariant-loop-r : goal.invariant-loop-r
invariant-loop-r l =
    plain_sets l.sets ++ rules.collect l.r (λ k. rules.set_at (place_in l.layout (rules.Held k)) (rules.held_set (change_of l.c) k))
    ≡ plain_sets l.initial.sets ++ rules.collect l.layout.resources (λ k. rules.set_at (place_in l.layout (rules.Held k)) (rules.held_set (change_of l.c) k))
