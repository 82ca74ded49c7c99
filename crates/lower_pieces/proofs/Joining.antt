-- The points of a thing are those of its joined items.
use Rattle.std.proofs.Common.{◌≡◌, ℕ, ◌+◌, List, [], ◌∷◌, ◌++◌, refl, ap, ◌∙◌}
use Rattle.std.specs.Prelude.{map}
use Rattle.chk_base.specs.declared.place.Place.{Place}
use Rattle.chk_base.specs.Term.{Term}
use Rattle.step_ir.specs.Points.{PlainAction, Read, PlainPoint}
use Rattle.lower_law.specs.Items.{Item, Site, Check, guarded}
use Rattle.lower_law.specs.Lowered.{Nexts, behind, cut, entry, thing}
use Rattle.lower_pieces.specs.Guards.{guard_term}
use Rattle.lower_pieces.specs.Joined.{joined}
use Rattle.lower_pieces.specs.Steps.{behind_joined, cut_joined, entry_joined, thing_joined}

module _ (number : ℕ → ℕ) where
  cut_is : (g : List Term) (at : ℕ) (rest : Nexts) → cut_joined number (guard_term g) at rest ≡ cut number g at rest
  cut_is [] at rest = refl
  cut_is (t ∷ ts) at rest = refl

  pub entry_is : (is : List Item) (at : ℕ) → entry_joined number at (map joined is) ≡ entry number at is
  entry_is [] at = refl
  entry_is (Check g t f ∷ is) at = entry_is is at
  entry_is (Site g t into ∷ is) at = ap (λ r. cut_joined number (guard_term g) at r) (entry_is is (at + 1)) ∙ cut_is g at (entry number (at + 1) is)

  behind_is : (g : List Term) (traps : List (Term × ℕ)) → behind_joined (guard_term g) traps ≡ behind g traps
  behind_is [] traps = refl
  behind_is (t ∷ ts) traps = refl

  pub thing_is : (place : Place) (action : PlainAction) (nexts : Nexts) (traps : List (Term × ℕ)) (at : ℕ) (is : List Item)
      → thing_joined number place action nexts traps at (map joined is) ≡ thing number place action nexts traps at is
  thing_is place action nexts traps at [] = refl
  thing_is place action nexts traps at (Check g t f ∷ is) = thing_is place action nexts (traps ++ (guarded g t, f) ∷ []) at is
  thing_is place action nexts traps at (Site g t into ∷ is) =
      let point : Nexts → PlainPoint = λ r. record { place = place; action = Read t into; traps = traps; nexts = r } in
      ap (λ r. point r ∷ thing_joined number place action nexts (behind_joined (guard_term g) traps) (at + 1) (map joined is)) (entry_is is (at + 1))
      ∙ ap (λ xs. point (entry number (at + 1) is) ∷ thing_joined number place action nexts xs (at + 1) (map joined is)) (behind_is g traps)
      ∙ ap (λ ps. point (entry number (at + 1) is) ∷ ps) (thing_is place action nexts (behind g traps) (at + 1) is)
