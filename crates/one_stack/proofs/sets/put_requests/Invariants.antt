use Rattle.std.proofs.Common.{◌≡◌, ◌+◌, ◌++◌}
use Rattle.guard_prog.specs.Drafts.{plain_sets}
use Rattle.one_stack.specs.Rules as rules
use Rattle.one_stack.specs.Tables.{place_in, plan_in, room_in, seen}
use Rattle.one_stack.specs.Plain.{change_of}
use Rattle.one_stack.proofs.sets.put_requests.Given as goal

abbrev pub invariant-loop-l : goal.invariant-loop-l
invariant-loop-l l =
    plain_sets l.sets ++ rules.collect l.l (λ k. rules.collect (room_in l.layout k) (λ i. rules.set_at (place_in l.layout (rules.Waits k i)) (rules.waits_set (seen l.layout) (plan_in l.layout) (change_of l.c) k i)))
    ≡ plain_sets l.initial.sets ++ rules.collect ((seen l.layout).top + 1) (λ k. rules.collect (room_in l.layout k) (λ i. rules.set_at (place_in l.layout (rules.Waits k i)) (rules.waits_set (seen l.layout) (plan_in l.layout) (change_of l.c) k i)))
