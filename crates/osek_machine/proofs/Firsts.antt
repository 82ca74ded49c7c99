-- The first item that counts.
use Rattle.std.proofs.Common.{◌≡◌, ℕ, suc, ◌+◌, ◌<◌, List, ◌∷◌, length, get_or, drop, map, ap, sym, ◌∙◌, add-one}
use Rattle.std.proofs.Math.Seq.{drop-cons}
use Rattle.chk_base.specs.Term.{Term}
use Rattle.osek_machine.specs.Within.{AreItemsWithin}
use Rattle.step_ir.specs.PointStep.{first}

-- the items from this one on are over n cells, and the first that counts is among them
pub record IsAhead (n : ℕ) (v : Term → ℕ) (all left : List (Term × ℕ)) : Type 0 where
  pub fit : AreItemsWithin n left
  pub same : first v all ≡ first v left

-- the items from one on, changed one by one, begin with the changed item
pub map-drop : {A B : Type 0} (f : A → B) (xs : List A) (i : ℕ) (x : A) → i < length xs → x ≡ get_or xs i x → map f (drop i xs) ≡ f x ∷ map f (drop (i + 1) xs)
map-drop f xs i x h is =
    ap (map f) (drop-cons xs i x h) ∙ (rw (add-one) (ap (λ y. f y ∷ map f (drop (suc i) xs)) (sym is)))
