use Rattle.std.proofs.Common.{◌≡◌, ◌++◌, take}
use Rattle.guard_prog.specs.Drafts.{plain_sets}
use Rattle.one_stack.proofs.sets.put_copies.Given as goal

abbrev pub invariant-loop-set : goal.invariant-loop-set
invariant-loop-set l = plain_sets l.sets ≡ plain_sets l.initial.sets ++ plain_sets (take l.set-index l.others)
