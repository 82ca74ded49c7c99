use Rattle.std.proofs.Common.{◌≡◌, ap, ◌∙◌}
use Rattle.typed_unit.specs.Views.{entity_of, unit_of}
use Rattle.lower_law.specs.Counts.{call_depth, entity_reads}
use Rattle.unit_counts.specs.Tallies.{tally_of, tallies_to}
use Rattle.unit_counts.proofs.CellParts.{body_cells, cells_own, reads_counted}
use Rattle.unit_counts.proofs.cells.body_cells.Goals as goal

pub returns-clause-names : goal.returns-clause-names
returns-clause-names c =
    let calls = c.requires.calls ∙ ap (λ s. tallies_to s call_depth) c.requires.sizes in
    let reads : c.tally_of-reads.result.reads ≡ entity_reads (unit_of c.args.unit.now) (entity_of c.args.body.now) =
    ap (λ t. t.reads) c.tally_of-reads.ensures
    ∙ (ap (λ s. (tally_of c.args.calls.now s).reads) c.in_ok-size.ensures ∙ reads_counted c.args.unit.now c.args.body.now c.args.calls.now calls c.requires.few) in
    body_cells c.args.unit.now c.args.body.now _ _ _ _ _ _ _
    c.new-names.ensures c.as_slice.ensures c.in_ok-push_locals.ensures (c.as_slice-2.ensures ∙ ap (λ s. s.things) c.in_ok-size.ensures) c.in_ok-push_calls.ensures reads c.in_ok-push_values.ensures

pub returns-clause-before : goal.returns-clause-before
returns-clause-before c =
    c.len-before.ensures
    ∙ cells_own c.args.unit.now c.args.body.now _ _ _ _ _
    c.new-names.ensures c.as_slice.ensures c.in_ok-push_locals.ensures (c.as_slice-2.ensures ∙ ap (λ s. s.things) c.in_ok-size.ensures) c.in_ok-push_calls.ensures
