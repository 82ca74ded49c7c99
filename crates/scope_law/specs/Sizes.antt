-- How many variables, functions and locals there are, by the rules S12 to S14.
use Rattle.std.specs.Prelude.{◌≡◌, ℕ, ◌≤◌, length, Some, slice_get}
use Rattle.typed_unit.specs.Plain.{PlainFunction, PlainEntity, PlainUnit}

pub record AreFew (u : PlainUnit) : Type 0 where
  pub variables : length u.globals ≤ 256
  pub functions : length u.functions ≤ 64
  pub locals : (g : ℕ) (f : PlainFunction) → slice_get u.functions g ≡ Some f → length f.locals ≤ 32
  pub entity_locals : (i : ℕ) (e : PlainEntity) → slice_get u.entities i ≡ Some e → length e.locals ≤ 32
