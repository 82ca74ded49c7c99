-- A cell that is written.
use Rattle.std.proofs.Common.{◌≡◌, ℕ, zero, suc, ◌<◌, Bool, true, false, List, [], ◌∷◌, length, set, slice_set, refl, sym, ap, subst, ◌∙◌, arith, if◌then◌else◌, ◌==◌}
use Rattle.std.proofs.Math.Path.{fun_ext}
use Rattle.std.proofs.lemmas.Bool.Decides.{nat_tests}
use Rattle.chk_base.specs.Widths.{PlainWord}
use Rattle.chk_base.specs.WordValue.{word_at}
use Rattle.chk_base.specs.declared.word.Width.{Width}
use Rattle.osek_machine.specs.CellWords.{widths, bits, IsStored}

-- the words after one was written
pub word_at-set : (cells : List PlainWord) (i : ℕ) (w : PlainWord) (q : ℕ) → i < length cells → word_at (set cells i w) q ≡ (if q == i then w else word_at cells q)
word_at-set [] i w q h = absurd (omega arith)
word_at-set (c ∷ cs) zero w zero h = refl
word_at-set (c ∷ cs) zero w (suc q) h = grind (arith, nat_tests)
word_at-set (c ∷ cs) (suc i) w zero h = grind (arith, nat_tests)
word_at-set (c ∷ cs) (suc i) w (suc q) h = let ih = word_at-set cs i w q (omega arith) in grind (arith, nat_tests)

-- a written word of the same width is stored
pub stored_in : (cells : List PlainWord) (i : ℕ) (w : PlainWord) → i < length cells → w.width ≡ widths cells i → IsStored cells i w.bits (slice_set cells i w)
stored_in cells i w h same =
    record {
      bits = fun_ext (λ q. ap (λ (x : PlainWord). x.bits) (word_at-set cells i w q h) ∙ pick_bits q (q == i));
      widths = fun_ext (λ q. ap (λ (x : PlainWord). x.width) (word_at-set cells i w q h) ∙ pick q (q == i) refl);
    }
  where
    pick_bits : (q : ℕ) (b : Bool) → (if b then w else word_at cells q).bits ≡ (if b then w.bits else bits cells q)
    pick_bits q true = refl
    pick_bits q false = refl

    pick : (q : ℕ) (b : Bool) → (q == i) ≡ b → (if b then w else word_at cells q).width ≡ widths cells q
    pick q true e = let here : q ≡ i = grind (arith, nat_tests) in subst (λ j. w.width ≡ widths cells j) (sym here) same
    pick q false e = refl

-- the same for the cells that were written
pub stored_by : (cells new : List PlainWord) (i : ℕ) (got word : PlainWord) (width : Width) → i < length cells → got ≡ word_at cells i → width ≡ got.width → word.width ≡ width → new ≡ slice_set cells i word → IsStored cells i word.bits new
stored_by cells new i got word width h is w same made =
    subst (IsStored cells i word.bits) (sym made) (stored_in cells i word h (same ∙ w ∙ ap (λ (x : PlainWord). x.width) is))
