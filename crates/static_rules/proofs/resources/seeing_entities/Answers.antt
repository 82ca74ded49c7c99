use Rattle.typed_unit.specs.Views.{entity_of}
use Rattle.static_rules.specs.Rules.{body_resource_faults}
use Rattle.static_rules.proofs.FaultParts.{mapped_step}
use Rattle.static_rules.proofs.resources.seeing_entities.Goals as goal

pub loop-entity-preserved : goal.loop-entity-preserved
loop-entity-preserved c =
    mapped_step c.args.first.fault c.loop-entity.first.fault c.in_ok-first.first.fault (body_resource_faults c.args.app.now c.args.bodies.now) entity_of c.args.entities.now c.loop-entity.entity-index c.entity-item.result
    c.loop-entity-test.true c.entity-item.is c.loop-entity.invariant c.in_ok-first.ensures
