use Rattle.std.proofs.Common.{◌≡◌, take}
use Rattle.std.specs.List.{flat_map}
use Rattle.app_model.specs.Application.{task_in}
use Rattle.app_model.proofs.objects.tasks_of.Given as goal

-- those of the items so far
abbrev pub invariant-loop-item : goal.invariant-loop-item
invariant-loop-item l = l.tasks ≡ flat_map (task_in l.known l.mode) (take l.item-index l.items)
