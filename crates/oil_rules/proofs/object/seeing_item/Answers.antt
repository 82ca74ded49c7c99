use Rattle.std.proofs.Common.{ap, sym, ◌∙◌}
use Rattle.oil_rules.specs.Kinds.{kind_of}
use Rattle.oil_rules.specs.First.{first_of}
use Rattle.oil_rules.specs.Rules.{is_passed_over, object_faults}
use Rattle.oil_rules.proofs.Firsts.{object_done}
use Rattle.oil_rules.proofs.object.seeing_item.Goals as goal

pub returns-in_ok-first-in-Object : goal.returns-in_ok-first-in-Object
returns-in_ok-first-in-Object c =
    let o = c.in-Object in
    let k = c.kind_of-kind.result in
    let kinds = c.seeing_kind-first.result.fault in
    object_done c.args.known.now c.args.item.now o.kind o.name o.attributes c.args.first.fault kinds c.in_ok-first-in-Object.first.fault k
    o.is
    (c.kind_of-kind.ensures ∙ ap kind_of c.as_bytes.ensures)
    (ap (is_passed_over k) (sym c.as_bytes-in-Object.ensures) ∙ (sym c.is_passed_over.ensures ∙ c.if-is_passed_over.false))
    c.seeing_kind-first.ensures
    (c.in_ok-first-in-Object.ensures ∙ ap (λ a. first_of kinds (object_faults c.args.known.now k o.name a)) c.items.ensures)
