-- Texts and numbers, computed.
use Rattle.std.proofs.Common.{◌≡◌, true, false, List, [], ◌∷◌, codes, Option, Some, None, Result, Ok, Err, refl}
use Rattle.c_lex.specs.declared.fault.LexFault.TheVariants.{Number as BadNumberAt}
use Rattle.c_lex.specs.declared.token.TokenKind.TheVariants.{Word, Name, Number, Mark}
use Rattle.c_lex.specs.CText.{IsReading, Ends, Passes, Defines, Spells, HasNumber}
use Rattle.c_lex.specs.Numbers.{number_of}
use Rattle.c_lex.specs.Pieces.{Spelled, Space, BadByte, is_reserved, mark_length, piece}

octal : number_of (codes "020000000000") ≡ Some (Number 2147483648 true)
octal = refl

decimal : number_of (codes "2147483648") ≡ None
decimal = refl

unsigned : number_of (codes "4294967295LU") ≡ Some (Number 4294967295 true)
unsigned = refl

bad_digit : number_of (codes "08") ≡ None
bad_digit = refl

longest : piece [] true (codes ">>=1") ≡ Spelled 3 Mark (codes ">>=")
unfolding mark_length
longest = refl

comment : piece [] true (codes "/*/*/x") ≡ Space 5
comment = refl

no_end : piece [] true (codes "/*/") ≡ BadByte
no_end = refl

-- a name before and after its line
defined : IsReading (codes "A\n#define A 7u\nA") (Ok (
    record { kind = Name; place = record { line = 1; column = 1; offset = 0 }; text = codes "A" }
    ∷ record { kind = Number 7 true; place = record { line = 3; column = 1; offset = 15 }; text = codes "7u" } ∷ []))
unfolding is_reserved
defined =
    Spells [] 0 _ 1 _ refl refl
    (Passes [] 1 _ 1 refl
    (Defines [] 2 _ 12 (codes "A") (record { kind = Number 7 true; text = codes "7u" }) refl
    (Passes _ 14 _ 1 refl
    (Spells _ 15 _ 1 _ refl refl
    (Ends _ 16 refl)))))

-- the number of a line that defines is the fault
bad_define : IsReading (codes " #define A 08") (Err (BadNumberAt (record { line = 1; column = 12; offset = 11 })))
unfolding is_reserved
bad_define = Passes [] 0 _ 1 refl (HasNumber [] 1 10 refl)
