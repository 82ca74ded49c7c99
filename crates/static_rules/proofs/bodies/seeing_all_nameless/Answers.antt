use Rattle.typed_unit.specs.Views.{entity_of}
use Rattle.static_rules.specs.Rules.{nameless_faults}
use Rattle.static_rules.proofs.FaultParts.{mapped_step}
use Rattle.static_rules.proofs.bodies.seeing_all_nameless.Goals as goal

pub loop-entity-preserved : goal.loop-entity-preserved
loop-entity-preserved c =
    mapped_step c.args.first.fault c.loop-entity.first.fault c.seeing_nameless-first.result.fault nameless_faults entity_of c.args.entities.now c.loop-entity.entity-index c.entity-item.result
    c.loop-entity-test.true c.entity-item.is c.loop-entity.invariant c.seeing_nameless-first.ensures
