-- The turns of a draft so far, in literals.
use Rattle.std.specs.Prelude.{◌≡◌, ℕ, ◌+◌, true, List, ◌∷◌, length}
use Rattle.clause_form.specs.declared.lit.Lit.{Lit}
use Rattle.clause_form.specs.Literals.{last_variable, rises_above}
use Rattle.guard_prog.specs.declared.draft.Draft.{Draft}
use Rattle.guard_prog.specs.Drafts.{program_of}
use Rattle.turn_law.specs.Building.{free_of}
use Rattle.turn_law.specs.Symbol.{Row, Unrolls}
use Rattle.turn_law.specs.Unrolled.{IsStart, depths_of, failures_of, labels_of, words_of}
use Rattle.turn_unroll.specs.declared.unroll.Unrolled.{Unrolled}
use Rattle.turn_encoding.specs.Grids.{AreWide}
use Rattle.turn_unroll.specs.Turns.{IsState, symbol_of}

-- the formula, the state and the grids after so many turns; a failure literal is the one that is false, or its variable is above those before
pub record IsUnrolled (d : Draft) (count turns : ℕ) (u : Unrolled) : Type 0 where
  pub rows : List Row
  pub start : List Lit
  pub taken : length rows ≡ turns
  pub state : IsState d u.circuit u.state
  pub unrolls : Unrolls (program_of d) u.circuit (symbol_of u.state) rows
  pub starts : IsStart (program_of d) u.circuit start
  pub failures : u.failures ≡ failures_of rows
  pub rises : rises_above 1 (free_of u.failures) ≡ true
  pub last : last_variable 1 (free_of u.failures) ≡ u.last
  pub depths : u.depths ≡ start ∷ depths_of rows
  pub alternatives : u.alternatives ≡ labels_of rows
  pub inputs : u.inputs ≡ words_of rows
  pub depths_wide : AreWide (d.depth + 1) u.depths
  pub alternatives_wide : AreWide (count + 1) u.alternatives
  pub inputs_wide : AreWide 32 u.inputs
