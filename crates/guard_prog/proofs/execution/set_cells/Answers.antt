use Rattle.std.proofs.Common.{◌≡◌, ◌-◌, ◌%◌, ◌<◌, ◌&&◌, ◌==◌, if◌then◌else◌, nat_lt, length, drop, arith, sym, ◌∙◌, ap, subst}
use Rattle.std.proofs.lemmas.Bool.{and_parts}
use Rattle.chk_base.specs.declared.sets.Set.{Set}
use Rattle.chk_base.specs.Term.{term_of}
use Rattle.chk_base.specs.Widths.{PlainWord, limit_of}
use Rattle.guard_prog.specs.Drafts.{plain_sets}
use Rattle.guard_prog.specs.Executions.{bits_at, width_at}
use Rattle.guard_prog.specs.GuardedRun.{cell_after_sets, value_in}
use Rattle.guard_prog.specs.WellShaped.{names_cells}
use Rattle.guard_prog.proofs.Cells.{within, same_width_at}
use Rattle.guard_prog.proofs.Turns.{passes_at, drop_before, set_in_front}
use Rattle.guard_prog.proofs.execution.set_cells.Goals as goal

pub eval-requires : goal.eval-requires
eval-requires c =
    let n = length c.args.cells.now in
    let set = c.index-sets-i.result in
    let lt : c.loop-i.i - 1 < length c.args.sets.now = omega arith in
    let fits = passes_at (λ (s : Set). nat_lt s.cell n && names_cells n (term_of s.value)) c.args.sets.now (c.loop-i.i - 1) set lt c.index-sets-i.is c.requires.fits in
    within n (term_of set.value) (and_parts (nat_lt set.cell n) (names_cells n (term_of set.value)) fits).1

pub loop-i-preserved : goal.loop-i-preserved
loop-i-preserved c =
    let cells = c.args.cells.now in
    let set = c.index-sets-i.result in
    let old = c.loop-i.after in
    let new = c.set_cell-in-loop-i.new.cells in
    let some : 0 < c.loop-i.i = omega arith in
    let lt : c.loop-i.i - 1 < length c.args.sets.now = omega arith in
    let front = drop_before c.args.sets.now c.loop-i.i set some lt c.index-sets-i.is in
    let number : c.set_cell.inside.bits ≡ value_in (width_at cells) (bits_at cells) (term_of set.value) = ap (λ (w : PlainWord). w.bits) (c.set_cell.view_is ∙ c.eval.ensures) in
    record {
      widths = c.set_cell-in-loop-i.ensures.widths ∙ c.loop-i.invariant.widths;
      bits =
          λ q.
          subst (λ sets. bits_at new q ≡ cell_after_sets (width_at cells) (bits_at cells) (plain_sets sets) q) (sym front)
          (set_in_front (width_at cells) (bits_at cells) (bits_at old) (bits_at new) set (drop c.loop-i.i c.args.sets.now) c.set_cell.inside.bits number c.loop-i.invariant.bits
          (λ k. c.set_cell-in-loop-i.ensures.bits k ∙ ap (λ w. if set.cell == k then c.set_cell.inside.bits % limit_of w else bits_at old k) (same_width_at old cells k c.loop-i.invariant.widths))
          q);
    }
