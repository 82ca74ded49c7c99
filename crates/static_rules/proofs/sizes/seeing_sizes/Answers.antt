use Rattle.std.specs.Option.{option_copied}
use Rattle.static_rules.proofs.FaultParts.{sizes_seen}
use Rattle.static_rules.proofs.sizes.seeing_sizes.Goals as goal

pub returns : goal.returns
returns c =
    sizes_seen c.args.unit.now c.args.first.fault c.seeing_variable-first.result.fault c.seeing_function-first.result.fault c.seeing_function_locals-first.result.fault c.seeing_entity_locals.result.fault
    (option_copied c.get.result) (option_copied c.get-2.result) c.as_slice.result.now c.as_slice-2.result.now
    c.get.ensures.value c.seeing_variable-first.ensures c.get-2.ensures.value c.seeing_function-first.ensures
    c.as_slice.ensures c.seeing_function_locals-first.ensures c.as_slice-2.ensures c.seeing_entity_locals.ensures
