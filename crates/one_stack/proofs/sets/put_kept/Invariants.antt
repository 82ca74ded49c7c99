use Rattle.std.proofs.Common.{◌≡◌, ◌++◌}
use Rattle.guard_prog.specs.Drafts.{plain_sets}
use Rattle.one_stack.specs.Rules as rules
use Rattle.one_stack.specs.Tables.{place_in, plan_in, seen}
use Rattle.one_stack.specs.Plain.{change_of}
use Rattle.one_stack.proofs.sets.put_kept.Given as goal

abbrev pub invariant-loop-e : goal.invariant-loop-e
invariant-loop-e l =
    plain_sets l.sets ++ rules.collect l.e (λ k. rules.collect l.layout.resources (λ i. rules.set_at (place_in l.layout (rules.Kept k i)) (rules.kept_set (seen l.layout) (plan_in l.layout) (change_of l.c) k i)))
    ≡ plain_sets l.initial.sets ++ rules.collect l.layout.entities (λ k. rules.collect l.layout.resources (λ i. rules.set_at (place_in l.layout (rules.Kept k i)) (rules.kept_set (seen l.layout) (plan_in l.layout) (change_of l.c) k i)))
