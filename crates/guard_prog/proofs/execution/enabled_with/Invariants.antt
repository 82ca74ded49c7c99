use Rattle.std.proofs.Common.{◌≡◌, true, length}
use Rattle.std.specs.List.{list_all}
use Rattle.guard_prog.specs.Drafts.{plain_alternatives}
use Rattle.guard_prog.specs.Executions.{is_takeable, widths_of, width_at, bits_at}
use Rattle.guard_prog.specs.GuardedRun.{alternative_with, enabled_of}
use Rattle.guard_prog.proofs.execution.enabled_with.Given as goal

-- what was passed over isn't it, so the rest decides
abbrev pub invariant-loop-alternative : goal.invariant-loop-alternative
invariant-loop-alternative l =
    record {
      takeable : list_all (is_takeable (widths_of l.cells)) l.rest ≡ true;
      same : alternative_with l.label (enabled_of (width_at l.cells) (bits_at l.cells) (plain_alternatives l.rest)) ≡ alternative_with l.label (enabled_of (width_at l.cells) (bits_at l.cells) (plain_alternatives l.point));
    }

abbrev pub decreases-loop-alternative : goal.decreases-loop-alternative
decreases-loop-alternative l = length l.rest
