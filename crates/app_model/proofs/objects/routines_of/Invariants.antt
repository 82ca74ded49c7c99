use Rattle.std.proofs.Common.{◌≡◌, take}
use Rattle.std.specs.List.{flat_map}
use Rattle.app_model.specs.Application.{routine_in}
use Rattle.app_model.proofs.objects.routines_of.Given as goal

-- those of the items so far
abbrev pub invariant-loop-item : goal.invariant-loop-item
invariant-loop-item l = l.routines ≡ flat_map (routine_in l.known) (take l.item-index l.items)
