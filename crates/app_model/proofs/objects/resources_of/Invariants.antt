use Rattle.std.proofs.Common.{◌≡◌, take}
use Rattle.std.specs.List.{flat_map}
use Rattle.app_model.specs.Application.{resource_in, ceiled}
use Rattle.app_model.proofs.objects.resources_of.Given as goal

-- those of the items so far
abbrev pub invariant-loop-item : goal.invariant-loop-item
invariant-loop-item l = l.resources ≡ ceiled l.tasks l.routines 0 (flat_map resource_in (take l.item-index l.items))
