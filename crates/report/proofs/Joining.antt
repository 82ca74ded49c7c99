-- Pieces behind a text, and pieces one by one.
use Rattle.std.proofs.Common.{◌≡◌, ℕ, ◌+◌, List, [], ◌∷◌, ◌++◌, sym, ◌∙◌, append_assoc}
use Rattle.std.proofs.lemmas.List.{append-nil}
use Rattle.report.specs.declared.pieces.Piece.{Piece}
use Rattle.report.specs.Lines.{each}
use Rattle.report.specs.Pieces.{piece_text, pieces_each, pieces_text, with_pieces}

behind : (n : ℕ) (text : List ℕ) (xs : List Piece) → with_pieces text xs ≡ text ++ each (λ k x. piece_text x) n xs
behind n text [] = sym (append-nil text)
behind n text (x ∷ xs) = behind (n + 1) (text ++ piece_text x) xs ∙ append_assoc text (piece_text x) (each (λ k y. piece_text y) (n + 1) xs)

-- pieces one after another, one by one
pub one_by_one : (xs : List Piece) → pieces_text xs ≡ pieces_each xs
one_by_one xs = behind 0 [] xs
