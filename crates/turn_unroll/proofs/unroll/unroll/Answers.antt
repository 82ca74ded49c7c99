use Rattle.std.proofs.Common.{◌∙◌, ◌+◌, ◌<◌, ◌^◌, ap, subst, sym, arith}
use Rattle.guard_prog.specs.Drafts.{program_of}
use Rattle.guard_prog.specs.WellShaped.{IsWellShaped}
use Rattle.turn_law.specs.Description.{Describes}
use Rattle.turn_law.specs.Unrolled.{offers_from}
use Rattle.turn_encoding.specs.Encodings.{encoding_of, HasShape}
use Rattle.turn_unroll.specs.Offers.{greatest_of}
use Rattle.turn_unroll.specs.Unrolls.{IsUnrolled}
use Rattle.turn_unroll.specs.Ways.{offers_of}
use Rattle.turn_unroll.proofs.Advancing.{unrolled_describes, unrolled_shape, wide_columns, wide_fewer}
use Rattle.turn_unroll.proofs.Fitting.{draft_few}
use Rattle.turn_unroll.proofs.unroll.unroll.Goals as goal

pub loop-t-init : goal.loop-t-init
loop-t-init c = c.in_ok-unrolled.ensures

pub advanced-requires-clause-unrolled : goal.advanced-requires-clause-unrolled
advanced-requires-clause-unrolled c = c.loop-t.invariant

pub loop-t-preserved : goal.loop-t-preserved
loop-t-preserved c = c.in_ok-unrolled-2.ensures

pub goal_of-requires : goal.goal_of-requires
goal_of-requires c = c.loop-t.invariant.rises

pub encoded-requires-clause-labels : goal.encoded-requires-clause-labels
encoded-requires-clause-labels c =
    let few = draft_few c.draft-draft.result.now (subst IsWellShaped (sym c.draft-draft.ensures.draft) c.draft-draft.ensures.shaped) in
    let count = c.greatest_label-count.ensures ∙ ap greatest_of (ap offers_of c.deref.ensures.value ∙ c.in_ok-offers.ensures) in
    wide_fewer (c.greatest_label-count.result + 1) (2 ^ 32) c.loop-t.unrolled.alternatives (omega (arith, few, count)) c.loop-t.invariant.alternatives_wide

pub encoded-requires-clause-bits : goal.encoded-requires-clause-bits
encoded-requires-clause-bits c = wide_columns 32 c.loop-t.unrolled.inputs c.loop-t.invariant.inputs_wide

pub returns-clause-describes : goal.returns-clause-describes
returns-clause-describes c =
    let some : 0 < c.args.turns = omega (arith, c.requires.least) in
    let k = subst (λ n. IsUnrolled c.draft-draft.result.now c.greatest_label-count.result n c.loop-t.unrolled) (omega arith) c.loop-t.invariant in
    subst (λ d. Describes (encoding_of c.encoded.result) (program_of d) c.args.turns) c.draft-draft.ensures.draft
    (unrolled_describes c.draft-draft.result.now _ c.args.turns c.loop-t.unrolled _ _ (subst IsWellShaped (sym c.draft-draft.ensures.draft) c.draft-draft.ensures.shaped) some k c.in_ok-goal.ensures c.encoded.ensures.encoding)

pub returns-clause-shape : goal.returns-clause-shape
returns-clause-shape c =
    let k = subst (λ n. IsUnrolled c.draft-draft.result.now c.greatest_label-count.result n c.loop-t.unrolled) (omega arith) c.loop-t.invariant in
    let count = c.greatest_label-count.ensures ∙ ap greatest_of (ap offers_of c.deref.ensures.value ∙ c.in_ok-offers.ensures) in
    subst (λ d. HasShape (encoding_of c.encoded.result) d.depth (greatest_of (offers_from 0 d.points)) c.args.turns) c.draft-draft.ensures.draft
    (subst (λ n. HasShape (encoding_of c.encoded.result) c.draft-draft.result.now.depth n c.args.turns) count (unrolled_shape c.draft-draft.result.now _ c.args.turns c.loop-t.unrolled _ _ k c.encoded.ensures.encoding))
