use Rattle.std.proofs.Common.{◌≡◌, ◌==◌, if◌then◌else◌}
use Rattle.one_stack.specs.Built.{sum_below, table}
use Rattle.step_ir.specs.Setting.{setting_of}
use Rattle.one_stack.proofs.laying.rooms_of.Given as goal

abbrev pub invariant-loop-l : goal.invariant-loop-l
invariant-loop-l l =
    l.rooms.items ≡ table l.l (λ k. sum_below l.entities (λ t. if (setting_of l.app).level t == k then (setting_of l.app).limit t else 0))
