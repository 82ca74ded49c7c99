use Rattle.std.proofs.Common.{◌≡◌, ◌++◌}
use Rattle.guard_prog.specs.Drafts.{plain_sets}
use Rattle.one_stack.specs.Rules as rules
use Rattle.one_stack.specs.Tables.{place_in, plan_in, seen}
use Rattle.one_stack.specs.Plain.{change_of}
use Rattle.one_stack.proofs.sets.put_counts.Given as goal

abbrev pub invariant-loop-t : goal.invariant-loop-t
invariant-loop-t l =
    plain_sets l.sets ++ rules.collect l.t (λ k. rules.set_at (place_in l.layout (rules.Count k)) (rules.count_set (seen l.layout) (plan_in l.layout) (change_of l.c) k))
    ≡ plain_sets l.initial.sets ++ rules.collect l.layout.entities (λ k. rules.set_at (place_in l.layout (rules.Count k)) (rules.count_set (seen l.layout) (plan_in l.layout) (change_of l.c) k))
