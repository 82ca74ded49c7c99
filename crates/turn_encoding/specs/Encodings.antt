-- What an encoding holds.
use Rattle.std.specs.Prelude.{◌≡◌, ℕ, ◌+◌, List, length}
use Rattle.clause_form.specs.declared.lit.Lit.{Lit}
use Rattle.bit_circuit.specs.Extension.{PlainFormula, formula}
use Rattle.turn_encoding.specs.declared.encoding.Encoding.{Encoding}
use Rattle.turn_encoding.specs.Grids.{AreWide}

-- a formula without the goal, the goal clause, and the literals of the depth after each number of turns, of each turn's labels and of its word
pub record PlainEncoding : Type 0 where
  pub formula : PlainFormula
  pub goal : List Lit
  pub depths : List (List Lit)
  pub alternatives : List (List Lit)
  pub inputs : List (List Lit)

-- an encoding as plain data
abbrev pub encoding_of : Encoding → PlainEncoding
encoding_of e =
    record {
      formula = formula e.formula.variables e.formula.clauses;
      goal = e.goal;
      depths = e.depths;
      alternatives = e.alternatives;
      inputs = e.inputs;
    }

-- the grids have a row for each number of turns or for each turn, with a literal for each depth, each label and each bit of a word
pub record HasShape (e : PlainEncoding) (depth greatest turns : ℕ) : Type 0 where
  pub depths : length e.depths ≡ turns + 1
  pub depths_wide : AreWide (depth + 1) e.depths
  pub alternatives : length e.alternatives ≡ turns
  pub alternatives_wide : AreWide (greatest + 1) e.alternatives
  pub inputs : length e.inputs ≡ turns
  pub inputs_wide : AreWide 32 e.inputs
