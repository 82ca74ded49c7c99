-- The sets of a call.
use Rattle.std.proofs.Common.{◌≡◌, ℕ, suc, ◌+◌, ◌<◌, List, [], ◌∷◌, ◌++◌, length, get_or, drop, map, refl, sym, ap, ap₂, subst, ◌∙◌, arith, add-one}
use Rattle.std.proofs.Math.Seq.{drop-cons}
use Rattle.chk_base.specs.Term.{Term, term_of}
use Rattle.chk_base.specs.Widths.{PlainWord}
use Rattle.chk_base.specs.declared.word.Width.{Width}
use Rattle.osek_machine.specs.CellWords.{widths, bits, IsStored}
use Rattle.osek_machine.specs.Performing.{values_of, set_values, IsDone}
use Rattle.osek_machine.specs.Within.{AreSetsWithin}
use Rattle.chk_base.specs.declared.sets.Set.{Set}
use Rattle.osek_machine.proofs.Firsts.{map-drop}
use Rattle.step_ir.specs.Numbers.{put}
use Rattle.step_ir.specs.PointStep.{Bits, stored, set_all, val}
use Rattle.step_ir.specs.Points.{Call, set_of}
use Rattle.step_ir.specs.declared.event.EventAction.TheVariants as Told

-- there are as many values as sets
pub length-values_of : (v : Term → ℕ) (xs : List (ℕ × Term)) → length (values_of v xs) ≡ length xs
length-values_of v [] = refl
length-values_of v (x ∷ xs) = ap suc (length-values_of v xs)

-- the values of the first i sets
pub record IsTaking (n : ℕ) (v : Term → ℕ) (sets : List Set) (i : ℕ) (values : List ℕ) : Type 0 where
  pub fit : AreSetsWithin n (map set_of (drop i sets))
  pub all : values_of v (map set_of sets) ≡ values ++ values_of v (map set_of (drop i sets))
  pub count : length values ≡ i

-- one more value
pub taking_next : (n : ℕ) (v : Term → ℕ) (sets : List Set) (i : ℕ) (values values' : List ℕ) (x : Set) (m : ℕ) → i < length sets → x ≡ get_or sets i x → m ≡ v (term_of x.value) → values' ≡ values ++ m ∷ [] → IsTaking n v sets i values → IsTaking n v sets (i + 1) values'
taking_next n v sets i values values' x m h is value more inv =
    let from = map-drop set_of sets i x h is in
    record {
      fit = (subst (AreSetsWithin n) from inv.fit).2;
      all = inv.all ∙ ap (λ ss. values ++ values_of v ss) from ∙ ap (λ k. values ++ k ∷ values_of v (map set_of (drop (i + 1) sets))) (sym value) ∙ sym (joined values m (values_of v (map set_of (drop (i + 1) sets)))) ∙ ap (λ vs. vs ++ values_of v (map set_of (drop (i + 1) sets))) (sym more);
      count = ap length more ∙ counted values m ∙ ap (λ k. k + 1) inv.count;
    }
  where
    joined : (xs : List ℕ) (y : ℕ) (zs : List ℕ) → (xs ++ y ∷ []) ++ zs ≡ xs ++ y ∷ zs
    joined [] y zs = refl
    joined (x ∷ xs) y zs = ap (λ ws. x ∷ ws) (joined xs y zs)

    counted : (xs : List ℕ) (y : ℕ) → length (xs ++ y ∷ []) ≡ length xs + 1
    counted [] y = refl
    counted (x ∷ xs) y = let ih = counted xs y in omega arith

-- the first i sets are done
pub record IsSetting (start cells : List PlainWord) (sets : List Set) (values : List ℕ) (i : ℕ) : Type 0 where
  pub fit : AreSetsWithin (length start) (map set_of (drop i sets))
  pub same : set_values (widths start) (map set_of sets) values (bits start) ≡ set_values (widths start) (map set_of (drop i sets)) (drop i values) (bits cells)
  pub widths : widths cells ≡ widths start
  pub length : length cells ≡ length start

-- one more set
pub setting_next : (start cells cells' : List PlainWord) (sets : List Set) (values : List ℕ) (i n : ℕ) (x : Set) → i < length sets → i < length values → x ≡ get_or sets i x → n ≡ get_or values i 0 → IsStored cells x.cell (stored (widths cells) x.cell n).bits cells' → length cells' ≡ length cells → IsSetting start cells sets values i → IsSetting start cells' sets values (i + 1)
setting_next start cells cells' sets values i n x h k is value stored_there long inv =
    let from = map-drop set_of sets i x h is in
    record {
      fit = (subst (AreSetsWithin (length start)) from inv.fit).2;
      same =
          inv.same
          ∙ ap₂ (λ ss ns. set_values (widths start) ss ns (bits cells)) from numbers
          ∙ ap (λ w. set_values (widths start) (map set_of (drop (i + 1) sets)) (drop (i + 1) values) (put (bits cells) x.cell (stored w x.cell n).bits)) (sym inv.widths)
          ∙ ap (λ b. set_values (widths start) (map set_of (drop (i + 1) sets)) (drop (i + 1) values) b) (sym stored_there.bits);
      widths = stored_there.widths ∙ inv.widths;
      length = long ∙ inv.length;
    }
  where
    numbers : drop i values ≡ n ∷ drop (i + 1) values
    numbers = drop-cons values i 0 k ∙ (rw (add-one) (ap (λ y. y ∷ drop (suc i) values) (sym value)))

-- the cell of a set is there
pub setting_here : (start cells : List PlainWord) (sets : List Set) (values : List ℕ) (i : ℕ) (x : Set) → i < length sets → x ≡ get_or sets i x → IsSetting start cells sets values i → x.cell < length cells
setting_here start cells sets values i x h is inv =
    let fits = subst (AreSetsWithin (length start)) (map-drop set_of sets i x h is) inv.fit in
    let long = inv.length in
    let here : x.cell < length start = fits.0 in
    omega arith

-- setting the values that were taken is what a call does
pub values_set : (width : ℕ → Width) (v : Term → ℕ) (ss : List (ℕ × Term)) (b : Bits) → set_values width ss (values_of v ss) b ≡ set_all width v ss b
values_set width v [] b = refl
values_set width v (s ∷ ss) b = values_set width v ss (put b s.0 (stored width s.0 (v s.1)).bits)

-- so a call is done
pub called : (function : ℕ) (sets : List Set) (values : List ℕ) (old new : List PlainWord) → values ≡ values_of (val (widths old) (bits old)) (map set_of sets) → bits new ≡ set_values (widths old) (map set_of sets) values (bits old) → widths new ≡ widths old → length new ≡ length old → IsDone (Call function (map set_of sets)) old (Told.Call function) new
called function sets values old new is made same long =
    record {
      does = λ nexts. let e : bits new ≡ set_all (widths old) (val (widths old) (bits old)) (map set_of sets) (bits old) = made ∙ ap (λ ns. set_values (widths old) (map set_of sets) ns (bits old)) is ∙ values_set (widths old) (val (widths old) (bits old)) (map set_of sets) (bits old) in rw e refl;
      widths = same;
      length = long;
    }
