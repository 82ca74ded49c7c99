-- Blanks and comments, which stand between the tokens of a text.
use Rattle.std.specs.Prelude.{ℕ, zero, suc, ◌+◌, ◌-◌, Bool, false, not, ◌&&◌, ◌||◌, if◌then◌else◌, ◌==◌, List, [], ◌∷◌, drop, Option, Some, None}
use Rattle.std.specs.List.{prefix_len}
use Rattle.std.specs.Option.{option_map}
use Rattle.chk_base.specs.Places.{is_line_feed}

-- space, tab, carriage return and line feed
abbrev pub is_blank : ℕ → Bool
is_blank b = (b == 32) || (b == 9) || (b == 13) || (b == 10)

-- these bytes begin with this one
abbrev pub begins : ℕ → List ℕ → Bool
begins c [] = false
begins c (b ∷ bs) = b == c

-- these bytes begin with these two
abbrev pub begins_two : ℕ → ℕ → List ℕ → Bool
begins_two c d [] = false
begins_two c d (b ∷ bs) = (b == c) && begins d bs

-- how many bytes stand before the next line feed or the end
abbrev pub line_length : List ℕ → ℕ
line_length bytes = prefix_len (λ b. not (is_line_feed b)) bytes

-- how many bytes there are up to the end of the next `*/`, if there is one
abbrev pub close_length : List ℕ → Option ℕ
close_length [] = None
close_length (b ∷ bs) = if begins_two 42 47 (b ∷ bs) then Some 2 else option_map (λ n. n + 1) (close_length bs)

-- how many bytes the comment has that begins here (ISO/IEC 9899:1999, 6.4.9): from `//` to before the next line feed or the end, or from
-- `/*` to the end of the next `*/`; none where no comment begins, or one that doesn't end
abbrev pub comment_length : List ℕ → Option ℕ
comment_length bytes =
    if begins_two 47 47 bytes
    then Some (line_length bytes)
    else (if begins_two 47 42 bytes then option_map (λ n. n + 2) (close_length (drop 2 bytes)) else None)

-- how many bytes the blank or the comment has that begins here
abbrev pub space_length : List ℕ → Option ℕ
space_length [] = None
space_length (b ∷ bs) = if is_blank b then Some 1 else comment_length (b ∷ bs)

-- a blank or a comment, and then what the others leave; all bytes where neither begins here
abbrev pub pass : Option ℕ → List ℕ → (ℕ → List ℕ) → List ℕ
pass None bytes others = bytes
pass (Some size) bytes others = others (size - 1)

-- what stands after the blanks and comments at the front, of whose first the first n bytes are passed already
abbrev pub after_spaces_from : ℕ → List ℕ → List ℕ
after_spaces_from n [] = []
after_spaces_from (suc n) (b ∷ bs) = after_spaces_from n bs
after_spaces_from zero (b ∷ bs) = pass (space_length (b ∷ bs)) (b ∷ bs) (λ n. after_spaces_from n bs)

-- what stands after all the blanks and comments at the front
abbrev pub after_spaces : List ℕ → List ℕ
after_spaces bytes = after_spaces_from 0 bytes
