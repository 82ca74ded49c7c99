use Rattle.std.proofs.Common.{◌≡◌, ◌++◌}
use Rattle.guard_prog.specs.Drafts.{plain_sets}
use Rattle.one_stack.specs.Rules as rules
use Rattle.one_stack.specs.Tables.{place_in, plan_in, room_in, seen}
use Rattle.one_stack.specs.Plain.{change_of}
use Rattle.one_stack.proofs.sets.put_level.Given as goal

abbrev pub invariant-loop-i : goal.invariant-loop-i
invariant-loop-i l =
    plain_sets l.sets ++ rules.collect l.i (λ k. rules.set_at (place_in l.layout (rules.Waits l.l k)) (rules.waits_set (seen l.layout) (plan_in l.layout) (change_of l.c) l.l k))
    ≡ plain_sets l.initial.sets ++ rules.collect (room_in l.layout l.l) (λ k. rules.set_at (place_in l.layout (rules.Waits l.l k)) (rules.waits_set (seen l.layout) (plan_in l.layout) (change_of l.c) l.l k))
