use Rattle.std.proofs.Common.{◌≡◌, drop, max}
use Rattle.osek_machine.proofs.held.current_level.Given as goal
use Rattle.osek_machine.specs.Held.{held_by}
use Rattle.step_ir.specs.Setting.{current, setting_of}

abbrev pub invariant-loop-i : goal.invariant-loop-i
invariant-loop-i l = current (setting_of l.app) l.entity (held_by l.held l.entity) ≡ max l.level (current (setting_of l.app) l.entity (held_by (drop l.i l.held) l.entity))
