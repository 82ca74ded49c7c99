use Rattle.std.proofs.Common.{ap}
use Rattle.c_rules.specs.UnitRules.{declaration_faults}
use Rattle.c_rules.proofs.Firsts.{first_of_more}
use Rattle.c_rules.proofs.units.seeing_variables.Goals as goal

pub loop-d-preserved : goal.loop-d-preserved
loop-d-preserved c =
    let more = first_of_more declaration_faults c.args.first.fault c.args.declarations.now c.loop-d.d-index c.d-item.result c.loop-d-test.true in
    let here = ap (λ x. declaration_faults x) c.d-item.is in
    let done = c.seeing_declaration-first.ensures in
    cc
