use Rattle.std.proofs.Common.{sym, ap, ◌∙◌}
use Rattle.oil_rules.specs.First.{first_of}
use Rattle.oil_rules.specs.Rules.{item_faults}
use Rattle.oil_rules.proofs.Firsts.{first_of_more}
use Rattle.oil_rules.proofs.object.seeing_items.Goals as goal

pub loop-item-preserved : goal.loop-item-preserved
loop-item-preserved c =
    let more = first_of_more (item_faults c.args.known.now) c.args.first.fault c.args.items.now c.loop-item.item-index c.item-item.result c.loop-item-test.true in
    let here = ap (λ x. item_faults c.args.known.now x) c.item-item.is in
    let done = c.in_ok-first.ensures in
    cc
