-- What is known of the names in a typed unit of a text that breaks no C rule, however deep calls nest.
use Rattle.std.specs.Prelude.{◌≡◌, ℕ, ◌≤◌, nat_lt, List, length, Option, Some, None, slice_get}
use Rattle.typed_unit.specs.declared.typed.Taker.{Taker}
use Rattle.typed_unit.specs.Plain.{PlainExpr, PlainFunction, PlainEntity, PlainUnit}
use Rattle.lower_law.specs.Scoped.{BlockScoped, IsBody, IsClosed, IsFunction, IsTaken}
use Rattle.lower_law.specs.Translated.{entity_body}

-- a call has as many arguments as the function has parameters, and takes a result only where there is one
pub record IsCalled (args : List PlainExpr) (t : Option Taker) (f : PlainFunction) : Type 0 where
  pub count : length args ≡ f.params
  pub taken : IsTaken f.result t

-- a call of a function that there is
abbrev pub IsCallIn : PlainUnit → ℕ → List PlainExpr → Option Taker → Type 0
IsCallIn u f args t = IsFunction (IsCalled args t) (slice_get u.functions f)

-- the names in a function are right
pub record IsRightFunction (u : PlainUnit) (f : PlainFunction) : Type 0 where
  pub few : f.params ≤ length f.locals
  pub closed : IsClosed f.result f.body
  pub body : BlockScoped u.globals (IsCallIn u) (length f.locals) f.result (λ i. nat_lt i f.params) f.body

-- and in the body of a task or routine
abbrev pub IsRightEntity : PlainUnit → PlainEntity → Type 0
IsRightEntity u e = BlockScoped u.globals (IsCallIn u) (length e.locals) None (λ i. nat_lt i 0) e.body

-- all names are right
pub record AreRight (u : PlainUnit) : Type 0 where
  pub functions : (g : ℕ) (f : PlainFunction) → slice_get u.functions g ≡ Some f → IsRightFunction u f
  pub entities : (i : ℕ) (e : PlainEntity) → slice_get u.entities i ≡ Some e → IsRightEntity u e

-- the task or routine with this number has a body, whose names are right in every chain of calls
pub record HasBody (u : PlainUnit) (e : ℕ) : Type 0 where
  pub body : PlainEntity
  pub is : entity_body e u.entities ≡ Some body
  pub right : IsBody u body
