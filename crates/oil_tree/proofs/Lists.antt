-- The list of plain attributes that were made of a list.
use Rattle.std.proofs.Common.{◌≡◌, List, [], ◌∷◌, refl, ap}
use Rattle.oil_tree.specs.Listed.{listed, plain}
use Rattle.oil_tree.specs.declared.tree.Attribute.{Attribute}

pub listed_plain : (attributes : List Attribute) → listed (plain attributes) ≡ attributes
listed_plain [] = refl
listed_plain (a ∷ others) = ap (λ rest. a ∷ rest) (listed_plain others)
