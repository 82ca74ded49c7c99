use Rattle.std.proofs.Common.{◌≡◌, true, subst, sym}
use Rattle.std.specs.List.{list_all}
use Rattle.guard_prog.specs.Executions.{is_takeable}
use Rattle.guard_prog.proofs.Turns.{takeable_point}
use Rattle.guard_prog.proofs.execution.top_point.Goals as goal

pub returns-in-Some-clause-takeable : goal.returns-in-Some-clause-takeable
returns-in-Some-clause-takeable c =
    subst (λ point. list_all (is_takeable c.args.draft.now.widths) point ≡ true) (sym c.alternatives_of.ensures) (takeable_point c.args.draft.now c.in-Some.top.now c.requires)
