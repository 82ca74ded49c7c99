-- What the steps of a turn need of those before.
use Rattle.std.proofs.Common.{◌≡◌, ℕ, ◌+◌, ◌<◌, ◌≤◌, List, ◌∷◌, sym, ◌∙◌, ap, subst, arith, length}
use Rattle.chk_base.specs.declared.word.Width.{Width}
use Rattle.clause_form.specs.declared.lit.Lit.{Lit}
use Rattle.clause_form.specs.ClauseTruth.{Values}
use Rattle.guard_prog.specs.declared.draft.Draft.{Draft}
use Rattle.guard_prog.specs.GuardedRun.{PlainAlternative}
use Rattle.guard_prog.specs.WellShaped.{IsWellShaped}
use Rattle.bit_circuit.specs.Extension.{PlainFormula}
use Rattle.turn_law.specs.Sight.{Offer}
use Rattle.turn_law.specs.Unrolled.{offers_from}
use Rattle.turn_unroll.specs.declared.turn.Chosen.{Chosen}
use Rattle.turn_unroll.specs.declared.ways.Side.TheVariants.{Label}
use Rattle.turn_unroll.specs.declared.ways.Way.{Way}
use Rattle.turn_unroll.specs.Cells.{AreFit}
use Rattle.turn_unroll.specs.Offers.{greatest_of}
use Rattle.turn_unroll.specs.Places.{labels_below}
use Rattle.turn_unroll.specs.Turns.{ChoosesBy}
use Rattle.turn_unroll.specs.Ways.{AreBelow, AreTaken, OpensWays, TakesWays, choices_of, offered_choices}
use Rattle.turn_unroll.proofs.Fitting.{draft_fits, fit_labels, labels_within}
use Rattle.turn_unroll.proofs.Waying.{taken_more}

pub offers_fit : (d : Draft) (os : List Offer) (n : ℕ) → IsWellShaped d → os ≡ offers_from 0 d.points → n ≡ length d.points → AreFit n d.widths (offered_choices os)
offers_fit d os n w e k = subst (λ m. AreFit m d.widths (offered_choices os)) (sym k) (subst (λ o. AreFit (length d.points) d.widths (offered_choices o)) (sym e) (draft_fits d w))

pub opened_fit : (d : Draft) (os : List Offer) (opened ws : List Way) → IsWellShaped d → os ≡ offers_from 0 d.points → choices_of opened ≡ offered_choices os → ws ≡ opened → AreFit (length d.points) d.widths (choices_of ws)
opened_fit d os opened ws w e s k = subst (λ x. AreFit (length d.points) d.widths (choices_of x)) (sym k) (subst (AreFit (length d.points) d.widths) (sym s) (subst (λ o. AreFit (length d.points) d.widths (offered_choices o)) (sym e) (draft_fits d w)))

pub opened_labels : (d : Draft) (os : List Offer) (opened ws : List Way) (count : ℕ) → IsWellShaped d → os ≡ offers_from 0 d.points → count ≡ greatest_of os → choices_of opened ≡ offered_choices os → ws ≡ opened → labels_below count (choices_of ws)
opened_labels d os opened ws count w e c s k =
    let f = subst (λ o. AreFit (length d.points) d.widths (offered_choices o)) (sym e) (draft_fits d w) in
    subst (λ x. labels_below count (choices_of x)) (sym k) (subst (labels_below count) (sym s) (subst (λ n. labels_below n (offered_choices os)) (sym c) (fit_labels (length d.points) d.widths os f)))

pub lent_taken : (n m : ℕ) (opened ws : List Way) → n ≤ m → AreTaken n opened → ws ≡ opened → AreTaken m ws
lent_taken n m opened ws h t k = subst (AreTaken m) (sym k) (taken_more n m opened h t)

pub label_row : (mid new : PlainFormula) (was now : List Lit) (opened : List Way) (count : ℕ) (chosen : Chosen) → ChoosesBy mid new was now opened count chosen → count < length chosen.labels
label_row mid new was now opened count chosen c = let r = ap length c.row in omega (arith, r, c.labels_count)
