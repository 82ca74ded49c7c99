use Rattle.std.proofs.Common.{◌≡◌, ◌+◌, drop}
use Rattle.std.proofs.lemmas.List.{at_drop_more}
use Rattle.oil_rules.specs.Objects.{names_in}
use Rattle.oil_rules.specs.First.{first_of}
use Rattle.oil_rules.specs.Rules.{at_names}
use Rattle.oil_rules.proofs.Firsts.{beyond_named, beyond_unnamed}
use Rattle.oil_rules.proofs.group.seeing_beyond.Goals as goal
use Rattle.oil_rules.proofs.group.seeing_beyond.Goals.{in-Some, in_default}

pub loop-item-preserved : goal.loop-item-preserved
loop-item-preserved c =
    let rest = drop (c.loop-item.item-index + 1) c.args.items.now in
    let best = c.loop-item.first.fault in
    let step = at_drop_more (λ xs. first_of best (at_names c.args.rule (drop c.loop-item.left (names_in c.args.group xs)))) c.args.items.now c.loop-item.item-index c.item-item.result c.loop-item-test.true in
    let here = c.item-item.is in
    elim c.match-name_in.branch [
      | in-Some w ↦
          let named = beyond_named c.args.rule best c.loop-item.left c.args.group c.item-item.result w.in-Some.name.now rest (c.name_in.ensures.some w.in-Some.name w.in-Some.is) in
          cc
      | in_default w ↦
          let unnamed = beyond_unnamed c.args.rule best c.loop-item.left c.args.group c.item-item.result rest (c.name_in.ensures.none w.in_default.is) in
          cc
    ]
