-- The laws together.
use Rattle.std.proofs.Common.{◌≡◌, ◌≤◌, ◌∙◌, arith}
use Rattle.step_ir.specs.PointStep.{program_of}
use Rattle.typed_unit.specs.Views.{unit_of}
use Rattle.lower_law.specs.Counts.{bit_total, call_depth, point_total, saturated, weight_total}
use Rattle.lower_law.specs.Exact.{exchanged}
use Rattle.lower_law.specs.Layout.{layout}
use Rattle.lower_law.specs.Translated.{unit_over_cells}
use Rattle.fit_law.specs.Codes.{IsCodeOf, first_point}
use Rattle.lower.specs.LoweredCode.{entity_count}
use Rattle.lower.specs.Ready.{IsReady}
use Rattle.lower.proofs.Whole.{all_counted, few_counted, from_app, to_app, whole}
use Rattle.lower.proofs.lower.lower.Goals as goal

pub code_of-requires : goal.code_of-requires
code_of-requires c =
    let app = c.args.app.now in
    let u = unit_of c.args.checked.now in
    let there = to_app app c.args.checked.now c.unit-unit.result.now c.len.result c.len-2.result c.unit-unit.ensures c.len.ensures c.len-2.ensures in
    let right = c.names_are_right.ensures app u c.requires.fits.unit in
    from_app app c.args.checked.now c.unit-unit.result.now c.len.result c.len-2.result c.unit-unit.ensures c.len.ensures c.len-2.ensures IsReady (record {
      right = right;
      few = c.bodies_are_right.ensures.sizes app u c.requires.fits.unbroken;
      bodies = c.bodies_are_right.ensures.bodies app u right c.requires.fits.unbroken;
      points = there (λ v n. point_total v n ≤ 2048) (few_counted _ _ c.in_ok-counts.ensures.points 2048 (omega arith) c.if-counts-gt2048.false);
      cells = there (λ v n. bit_total v n ≤ 8192) (few_counted _ _ c.in_ok-counts.ensures.bits 8192 (omega arith) c.if-counts-gt8192.false);
    })

pub returns-clause-code : goal.returns-clause-code
returns-clause-code c =
    let app = c.args.app.now in
    let u = unit_of c.args.checked.now in
    let n = entity_count app in
    let code = c.in_ok-code.code in
    let there = to_app app c.args.checked.now c.unit-unit.result.now c.len.result c.len-2.result c.unit-unit.ensures c.len.ensures c.len-2.ensures in
    let right = c.names_are_right.ensures app u c.requires.fits.unit in
    let ready : IsReady u n = record {
      right = right;
      few = c.bodies_are_right.ensures.sizes app u c.requires.fits.unbroken;
      bodies = c.bodies_are_right.ensures.bodies app u right c.requires.fits.unbroken;
      points = there (λ v k. point_total v k ≤ 2048) (few_counted _ _ c.in_ok-counts.ensures.points 2048 (omega arith) c.if-counts-gt2048.false);
      cells = there (λ v k. bit_total v k ≤ 8192) (few_counted _ _ c.in_ok-counts.ensures.bits 8192 (omega arith) c.if-counts-gt8192.false);
    } in
    let is = there (λ v k. IsCodeOf v k code) c.in_ok-code.ensures.code in
    whole app u code c.requires.order c.requires.fits.unit ready is
    (there (λ v k. code.cells ≡ bit_total v k) (all_counted _ _ _ c.in_ok-code.ensures.cells c.in_ok-counts.ensures.bits c.if-counts-gt8192.false))
    (there (λ v k. code.weight ≡ saturated (weight_total v k)) (c.in_ok-code.ensures.weight ∙ c.in_ok-counts.ensures.weight))
    (c.codes_fit.ensures app u code is (c.services_are_right.ensures app u c.requires.fits.unit) (c.variables_are_right.ensures app u c.requires.fits.unit) ready.bodies ready.points ready.cells)
    (λ e lt. let h = ready.bodies e lt in c.units_fit_their_cells.ensures.fits u n e h.body lt h.is h.right)
    (λ e l. c.lowering_is_exact.ensures.numbers (unit_over_cells u) call_depth (layout u) (program_of code) (exchanged (first_point u n e)) e l)
    (λ l. c.schedules_are_the_same.ensures (unit_over_cells u) call_depth (layout u) (program_of code) (λ e. exchanged (first_point u n e)) n l)
