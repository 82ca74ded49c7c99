-- The demand on the bits of a turn's word.
use Rattle.std.specs.Prelude.{ℕ, Bool, ◌&&◌, List}
use Rattle.clause_form.specs.declared.lit.Lit.{Lit}
use Rattle.clause_form.specs.ClauseTruth.{Values}
use Rattle.turn_unroll.specs.declared.ways.Way.{Way}
use Rattle.turn_unroll.specs.Demands.{all_imply}
use Rattle.turn_unroll.specs.Ways.{any_way, wider}

-- so many bits from a place on are false, or an alternative is taken whose input has more bits than that place says
abbrev pub are_bits_taken : Values → List Lit → List Way → ℕ → ℕ → Bool
are_bits_taken v word ways from n = all_imply v word (any_way v (wider from) ways) from n

-- each bit that is true belongs to the input of an alternative that is taken; inputs have 1, 8, 16 or 32 bits
abbrev pub is_word_taken : Values → List Lit → List Way → Bool
is_word_taken v word ways =
    ((are_bits_taken v word ways 0 1 && are_bits_taken v word ways 1 7) && are_bits_taken v word ways 8 8) && are_bits_taken v word ways 16 16
