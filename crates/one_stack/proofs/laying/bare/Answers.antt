use Rattle.std.proofs.Common.{◌∙◌, ◌+◌, length, sym, ap, ap₂, refl, subst}
use Rattle.std.proofs.lemmas.List.{length-map}
use Rattle.one_stack.specs.Tables.{AreSmall}
use Rattle.one_stack.proofs.Tabling.{laid_out, small}
use Rattle.step_ir.specs.Points.{cells_of}
use Rattle.one_stack.proofs.laying.bare.Goals as goal

pub invariant_of-result : goal.invariant_of-result
invariant_of-result c =
    subst AreSmall
    (sym (laid_out c.args.app.now c.args.code.now c.requires.order (c.sound_levels.ensures.sound _ c.requires.order) c.in_ok-widths.widths _ _ _ _ _ _
    (c.len-3.ensures ∙ ap length c.in_ok-widths.ensures ∙ length-map (cells_of c.args.code.now) _) (ap₂ (λ a b. a + b) c.len.ensures c.len-2.ensures) (ap (λ n. n + 1) c.len-4.ensures) c.in_ok-rooms.ensures c.in_ok-counts.ensures refl))
    (small c.args.app.now c.args.code.now c.requires.order (c.sound_levels.ensures.sound _ c.requires.order) c.in_ok-widths.widths c.requires.fits (c.cells_within.ensures.few_cells c.args.code.now))

pub returns : goal.returns
returns c =
    laid_out c.args.app.now c.args.code.now c.requires.order (c.sound_levels.ensures.sound _ c.requires.order) _ _ _ _ _ _ _
    (c.len-3.ensures ∙ ap length c.in_ok-widths.ensures ∙ length-map (cells_of c.args.code.now) _) (ap₂ (λ a b. a + b) c.len.ensures c.len-2.ensures) (ap (λ n. n + 1) c.len-4.ensures) c.in_ok-rooms.ensures c.in_ok-counts.ensures c.in_ok-widths.ensures
