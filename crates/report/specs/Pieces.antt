-- Texts that are put together from pieces.
use Rattle.std.specs.Prelude.{ℕ, List, [], ◌∷◌, ◌++◌, decimal}
use Rattle.std.specs.Fmt.{signed_decimal}
use Rattle.chk_base.specs.Widths.{reading_of}
use Rattle.report.specs.declared.pieces.Piece.{Piece}
use Rattle.report.specs.declared.pieces.Piece.TheVariants as part
use Rattle.report.specs.EventTexts.{element_text}
use Rattle.report.specs.Lines.{counted, each, line, place_text}

-- what a piece prints
abbrev pub piece_text : Piece → List ℕ
piece_text (part.Bytes bytes) = bytes.now
piece_text (part.Text text) = text.now
piece_text (part.Number number) = decimal number
piece_text (part.Counted text number) = counted text.now number
piece_text (part.Line text number) = line (counted text.now number)
piece_text (part.Element element) = element_text element
piece_text (part.Reading w signed) = signed_decimal (reading_of signed w)
piece_text (part.Place place) = place_text place

-- a text with pieces behind it
abbrev pub with_pieces : List ℕ → List Piece → List ℕ
with_pieces text [] = text
with_pieces text (x ∷ xs) = with_pieces (text ++ piece_text x) xs

-- pieces one after another
abbrev pub pieces_text : List Piece → List ℕ
pieces_text xs = with_pieces [] xs

-- the same, piece by piece
abbrev pub pieces_each : List Piece → List ℕ
pieces_each xs = each (λ n x. piece_text x) 0 xs
