-- The demand that the turn's label is offered.
use Rattle.std.specs.Prelude.{ℕ, Bool, not, ◌||◌, List}
use Rattle.clause_form.specs.declared.lit.Lit.{Lit}
use Rattle.clause_form.specs.ClauseTruth.{Values}
use Rattle.turn_law.specs.Symbol.{row_true}
use Rattle.turn_unroll.specs.declared.ways.Way.{Way}
use Rattle.turn_unroll.specs.declared.ways.Side.TheVariants.{Label}
use Rattle.turn_unroll.specs.Demands.{each_from}
use Rattle.turn_unroll.specs.Ways.{any_way, names}

-- each of so many labels from one on that is true belongs to an alternative that is taken
abbrev pub all_offered : Values → List Lit → List Way → ℕ → ℕ → Bool
all_offered v labels ways from n = each_from (λ i. not (row_true v labels i) || any_way v (names Label i) ways) from n
