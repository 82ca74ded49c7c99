-- Worked pieces, and the first fault of a worked text.
use Rattle.std.proofs.Common.{◌≡◌, [], ◌∷◌, Some, None, refl}
use Rattle.oil_text.specs.Pieces.{piece_of}
use Rattle.oil_text.specs.declared.token.Kind.TheVariants.{Cpu, OtherName, Integer, Point, Quoted, Include}
use Rattle.oil_text.specs.declared.token.Piece.TheVariants.{Skipped, Spelled}

-- 0x, 0x1f
digits_are_missing : piece_of (48 ∷ 120 ∷ []) ≡ None
digits_are_missing = refl

hexadecimal : piece_of (48 ∷ 120 ∷ 49 ∷ 102 ∷ []) ≡ Some (Spelled Integer)
hexadecimal = refl

-- 1.5, 1.5e+7, 1.5e7
point : piece_of (49 ∷ 46 ∷ 53 ∷ []) ≡ Some (Spelled Point)
point = refl

exponent : piece_of (49 ∷ 46 ∷ 53 ∷ 101 ∷ 43 ∷ 55 ∷ []) ≡ Some (Spelled Point)
exponent = refl

sign_is_missing : piece_of (49 ∷ 46 ∷ 53 ∷ 101 ∷ 55 ∷ []) ≡ None
sign_is_missing = refl

-- CPU, CPU1
cpu : piece_of (67 ∷ 80 ∷ 85 ∷ []) ≡ Some (Spelled Cpu)
cpu = refl

longer_name : piece_of (67 ∷ 80 ∷ 85 ∷ 49 ∷ []) ≡ Some (Spelled OtherName)
longer_name = refl

-- "a", "a
string : piece_of (34 ∷ 97 ∷ 34 ∷ []) ≡ Some (Spelled Quoted)
string = refl

unfinished_string : piece_of (34 ∷ 97 ∷ []) ≡ None
unfinished_string = refl

-- /*/, /**/, /**/*/, //a
unfinished_comment : piece_of (47 ∷ 42 ∷ 47 ∷ []) ≡ None
unfinished_comment = refl

comment : piece_of (47 ∷ 42 ∷ 42 ∷ 47 ∷ []) ≡ Some Skipped
comment = refl

past_its_end : piece_of (47 ∷ 42 ∷ 42 ∷ 47 ∷ 42 ∷ 47 ∷ []) ≡ None
past_its_end = refl

line_comment : piece_of (47 ∷ 47 ∷ 97 ∷ []) ≡ Some Skipped
line_comment = refl

-- #includefoo, #includ
include : piece_of (35 ∷ 105 ∷ 110 ∷ 99 ∷ 108 ∷ 117 ∷ 100 ∷ 101 ∷ 102 ∷ 111 ∷ 111 ∷ []) ≡ Some (Spelled Include)
include = refl

no_include : piece_of (35 ∷ 105 ∷ 110 ∷ 99 ∷ 108 ∷ 117 ∷ 100 ∷ []) ≡ None
no_include = refl
