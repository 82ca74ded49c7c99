-- The cells of variables.
use Rattle.std.proofs.Common.{◌≡◌, ℕ, zero, suc, ◌+◌, ◌<◌, ◌≤◌, List, [], ◌∷◌, length, take, drop, get_or, refl, ap, arith}
use Rattle.std.proofs.lemmas.List.{drop_more}
use Rattle.typed_unit.specs.declared.typed.GlobalVar.{GlobalVar}
use Rattle.lower_law.specs.Translated.{elements, cell_count}

pub globals_more : (gs : List GlobalVar) (i : ℕ) (d : GlobalVar) → i < length gs → cell_count (drop i gs) ≡ elements (get_or gs i d).len + cell_count (drop (i + 1) gs)
globals_more gs i d h = ap cell_count (drop_more gs i d h)

pub few_before : (gs : List GlobalVar) (g : ℕ) → cell_count (take g gs) ≤ cell_count gs
few_before [] zero = omega arith
few_before [] (suc g) = omega arith
few_before (x ∷ xs) zero = omega arith
few_before (x ∷ xs) (suc g) = let h = few_before xs g in omega arith

pub all_before : (gs : List GlobalVar) (g : ℕ) → length gs ≤ g → cell_count (take g gs) ≡ cell_count gs
all_before [] zero h = refl
all_before [] (suc g) h = refl
all_before (x ∷ xs) zero h = absurd (omega arith)
all_before (x ∷ xs) (suc g) h = let e = all_before xs g (omega arith) in omega arith
