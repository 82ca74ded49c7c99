use Rattle.std.proofs.Common.{ap, ◌∙◌}
use Rattle.typed_unit.specs.Views.{entity_of}
use Rattle.c_rules.specs.First.{first_of}
use Rattle.static_rules.specs.Rules.{local_faults, entity_local_faults}
use Rattle.static_rules.proofs.FaultParts.{mapped_step}
use Rattle.static_rules.proofs.sizes.seeing_entity_locals.Goals as goal

pub loop-entity-preserved : goal.loop-entity-preserved
loop-entity-preserved c =
    let best = c.loop-entity.first.fault in
    mapped_step c.args.first.fault best c.seeing_local-first.result.fault entity_local_faults entity_of c.args.entities.now c.loop-entity.entity-index c.entity-item.result
    c.loop-entity-test.true c.entity-item.is c.loop-entity.invariant (c.seeing_local-first.ensures ∙ ap (λ l. first_of best (local_faults l)) c.get.ensures.value)
