-- Classes of bytes.
use Rattle.std.specs.Prelude.{ℕ, Bool, not, ◌&&◌, ◌||◌, ◌==◌, nat_le, Option, Some, None, cond}
use Rattle.oil_text.specs.declared.token.Mark.{Mark}
use Rattle.oil_text.specs.declared.token.Mark.TheVariants.{Equals, Semicolon, OpeningBrace, ClosingBrace, Colon, OpeningBracket, ClosingBracket, Comma, Dot, Less, Greater, Plus, Minus}

-- a byte from the first to the last of these
abbrev pub is_from : ℕ → ℕ → ℕ → Bool
is_from first last b = nat_le first b && nat_le b last

-- space, tab, carriage return and line feed
abbrev pub is_blank : ℕ → Bool
is_blank b = b == 32 || (b == 9 || (b == 13 || b == 10))

abbrev pub is_digit : ℕ → Bool
is_digit b = is_from 48 57 b

-- 0 to 9, A to F, a to f
abbrev pub is_hexadecimal : ℕ → Bool
is_hexadecimal b = is_digit b || (is_from 65 70 b || is_from 97 102 b)

-- a letter or _
abbrev pub is_letter : ℕ → Bool
is_letter b = is_from 65 90 b || (is_from 97 122 b || b == 95)

-- a letter, a digit or _
abbrev pub is_of_name : ℕ → Bool
is_of_name b = is_letter b || is_digit b

-- a byte but the line feed
abbrev pub is_of_line : ℕ → Bool
is_of_line b = not (b == 10)

-- a byte but the quotation mark and the line feed
abbrev pub is_of_string : ℕ → Bool
is_of_string b = not (b == 34) && not (b == 10)

-- x or X
abbrev pub is_x : ℕ → Bool
is_x b = b == 120 || b == 88

-- e or E
abbrev pub is_e : ℕ → Bool
is_e b = b == 101 || b == 69

-- + or -
abbrev pub is_sign : ℕ → Bool
is_sign b = b == 43 || b == 45

-- the mark that a byte is: = ; { } : [ ] , . < > + -
abbrev pub mark_of : ℕ → Option Mark
mark_of b =
    cond (b == 61) (Some Equals)
    (cond (b == 59) (Some Semicolon)
    (cond (b == 123) (Some OpeningBrace)
    (cond (b == 125) (Some ClosingBrace)
    (cond (b == 58) (Some Colon)
    (cond (b == 91) (Some OpeningBracket)
    (cond (b == 93) (Some ClosingBracket)
    (cond (b == 44) (Some Comma)
    (cond (b == 46) (Some Dot)
    (cond (b == 60) (Some Less)
    (cond (b == 62) (Some Greater)
    (cond (b == 43) (Some Plus)
    (cond (b == 45) (Some Minus) None))))))))))))
