use Rattle.std.proofs.Common.{◌≡◌, ◌≤◌, ◌*◌, ◌==◌, if◌then◌else◌}
use Rattle.one_stack.specs.Built.{sum_below}
use Rattle.step_ir.specs.Setting.{setting_of}
use Rattle.one_stack.proofs.laying.room_at.Given as goal

abbrev pub invariant-loop-t : goal.invariant-loop-t
invariant-loop-t l =
    record {
      is : l.sum ≡ sum_below l.t (λ t. if (setting_of l.app).level t == l.l then (setting_of l.app).limit t else 0);
      few : l.sum ≤ 8 * l.t;
    }
