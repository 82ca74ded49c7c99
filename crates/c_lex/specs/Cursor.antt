-- Where a text is read on.
use Rattle.std.specs.Prelude.{Bool, not, List, reverse, take, ℕ}
use Rattle.std.specs.List.{list_all, suffix_len}
use Rattle.chk_base.specs.Places.{is_line_feed, place_after}
use Rattle.c_lex.specs.declared.cursor.Cursor.{Cursor}
use Rattle.c_lex.specs.Blanks.{is_blank}

-- only blanks stand after the last line feed of these bytes
abbrev pub is_bare : List ℕ → Bool
is_bare before = list_all is_blank (take (suffix_len (λ b. not (is_line_feed b)) before) (reverse before))

-- where a text is read on after these bytes
abbrev pub cursor_after : List ℕ → Cursor
cursor_after before = record { place = place_after before; bare = is_bare before }
