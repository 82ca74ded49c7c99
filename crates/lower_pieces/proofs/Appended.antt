-- Lists of items, one after another.
use Rattle.std.proofs.Common.{◌≡◌, List, [], ◌∷◌, ◌++◌, refl, ap}
use Rattle.std.specs.Prelude.{map}
use Rattle.lower_law.specs.Items as plain
use Rattle.lower_pieces.specs.declared.evaluation.Item.{Item}
use Rattle.step_ir.specs.declared.code.Point.{Point}
use Rattle.step_ir.specs.Points.{plain_of}
use Rattle.lower_pieces.specs.declared.pieces.Piece.{Piece}
use Rattle.lower_pieces.specs.Pieces.{Stands, piece_of}
use Rattle.lower_pieces.specs.Joined.{JoinedItem, joined, item_of, items_of}

pub items_of_append : (xs ys : List Item) → items_of (xs ++ ys) ≡ items_of xs ++ items_of ys
items_of_append [] ys = refl
items_of_append (x ∷ xs) ys = ap (λ l. item_of x ∷ l) (items_of_append xs ys)

pub joined_append : (xs ys : List plain.Item) → map joined (xs ++ ys) ≡ map joined xs ++ map joined ys
joined_append [] ys = refl
joined_append (x ∷ xs) ys = ap (λ l. joined x ∷ l) (joined_append xs ys)

pub append_none : (xs : List JoinedItem) → xs ++ [] ≡ xs
append_none [] = refl
append_none (x ∷ xs) = ap (λ l. x ∷ l) (append_none xs)

pub pieces_append : (xs ys : List Piece) → map piece_of (xs ++ ys) ≡ map piece_of xs ++ map piece_of ys
pieces_append [] ys = refl
pieces_append (x ∷ xs) ys = ap (λ l. piece_of x ∷ l) (pieces_append xs ys)

pub stands_append : (xs ys : List Point) → map Stands (map plain_of (xs ++ ys)) ≡ map Stands (map plain_of xs) ++ map Stands (map plain_of ys)
stands_append [] ys = refl
stands_append (x ∷ xs) ys = ap (λ l. Stands (plain_of x) ∷ l) (stands_append xs ys)
