use Rattle.std.proofs.Common.{ap, ◌∙◌, length, take, arith}
use Rattle.std.specs.List.{flat_map}
use Rattle.std.proofs.lemmas.List.Folds.{length-flat_map-take}
use Rattle.app_model.specs.Application.{resource_in}
use Rattle.app_model.proofs.Steps.{length-ceiled, resources_step}
use Rattle.app_model.proofs.objects.resources_of.Goals as goal

pub push_resource-requires : goal.push_resource-requires
push_resource-requires c =
    let items = c.args.items.now in
    let i = c.loop-item.item-index in
    let count = ap length c.loop-item.invariant ∙ length-ceiled c.args.tasks.now c.args.routines.now 0 (flat_map resource_in (take i items)) in
    omega (arith, length-flat_map-take resource_in items i c.item-item.result c.loop-item-test.true)

pub loop-item-preserved : goal.loop-item-preserved
loop-item-preserved c =
    resources_step c.args.tasks.now c.args.routines.now c.args.items.now c.loop-item.item-index c.item-item.result c.loop-item.resources c.push_resource.new.resources
    c.loop-item-test.true c.loop-item.invariant c.in_ok-push_resource.ensures c.item-item.is
