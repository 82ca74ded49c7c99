use Rattle.std.proofs.Common.{ap, ◌∙◌}
use Rattle.typed_unit.specs.Views.{function_of}
use Rattle.c_rules.specs.First.{first_of}
use Rattle.static_rules.specs.Rules.{local_faults, function_local_faults}
use Rattle.static_rules.proofs.FaultParts.{mapped_step}
use Rattle.static_rules.proofs.sizes.seeing_function_locals.Goals as goal

pub loop-function-preserved : goal.loop-function-preserved
loop-function-preserved c =
    let best = c.loop-function.first.fault in
    mapped_step c.args.first.fault best c.seeing_local-first.result.fault function_local_faults function_of c.args.functions.now c.loop-function.function-index c.function-item.result
    c.loop-function-test.true c.function-item.is c.loop-function.invariant (c.seeing_local-first.ensures ∙ ap (λ l. first_of best (local_faults l)) c.get.ensures.value)
