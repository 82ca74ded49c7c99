-- The choice of a literal, and the values where no variable is left.
use Rattle.std.specs.Prelude.{◌≡◌, ℕ, ◌+◌, ◌-◌, ◌<◌, ◌≤◌, Bool, true, false, List, slice_index_or}
use Rattle.clause_form.specs.declared.lit.Lit.{Lit}
use Rattle.clause_form.specs.Literals.{variable, negation, literal, has}
use Rattle.clause_solver.specs.declared.trail.Entry.{Entry}
use Rattle.clause_solver.specs.Trail.{is_variable_set, lits_of}

-- each variable from 1 to n is set
abbrev pub AreAllSet : ℕ → List Entry → Type 0
AreAllSet n trail = (v : ℕ) → 0 < v → v ≤ n → is_variable_set trail v ≡ true

-- the literal is an unset variable from 1 to n, and each variable before it is set
pub record IsChoice (n : ℕ) (trail : List Entry) (l : Lit) : Type 0 where
  pub above : 0 < variable l
  pub within : variable l ≤ n
  pub unset : has (lits_of trail) l ≡ false
  pub other : has (lits_of trail) (negation l) ≡ false
  pub positive : l ≡ literal (variable l)
  pub least : AreAllSet (variable l - 1) trail

-- a variable is true where it is a set literal itself
abbrev pub HasValues : ℕ → List Lit → List Bool → Type 0
HasValues n set values = (k : ℕ) → k < n → slice_index_or values k false ≡ has set (literal (k + 1))
