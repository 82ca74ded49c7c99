-- Places in texts.
use Rattle.std.specs.Prelude.{ℕ, ◌+◌, Bool, not, ◌==◌, List, length, count_by}
use Rattle.std.specs.List.{suffix_len}
use Rattle.chk_base.specs.declared.place.Place.{Place}

-- the byte that ends a line
abbrev pub is_line_feed : ℕ → Bool
is_line_feed b = b == 10

-- the place right after these bytes of a text: the line is 1 more than the line feeds in them, the column 1 more than the bytes since the last line feed
abbrev pub place_after : List ℕ → Place
place_after before =
    record {
      line = count_by is_line_feed before + 1;
      column = suffix_len (λ b. not (is_line_feed b)) before + 1;
      offset = length before;
    }
