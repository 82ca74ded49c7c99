-- The codes of the entities of a unit.
use Rattle.std.specs.Prelude.{◌≡◌, ℕ, zero, suc, List, [], ◌∷◌, ◌++◌, map, Option, Some, None, slice_get}
use Rattle.step_ir.specs.declared.code.EntityCode.{EntityCode}
use Rattle.step_ir.specs.Points.{PlainPoint, plain_of}
use Rattle.typed_unit.specs.Plain.{PlainUnit}
use Rattle.lower_law.specs.Exact.{exchanged}
use Rattle.lower_law.specs.Layout.{entity_names, lowered_points}
use Rattle.fit_law.specs.Codes.{IsExchanged, first_point}

-- the item, where there is one
abbrev pub listed : {A : Type 0} → Option A → List A
listed None = []
listed (Some x) = x ∷ []

-- the first points, of which those at 0 and at z change places
abbrev pub exchanged_front : ℕ → List PlainPoint → ℕ → List PlainPoint
exchanged_front z ps zero = []
exchanged_front z ps (suc k) = exchanged_front z ps k ++ listed (slice_get ps (exchanged z k))

-- the cells and the points of the entity with this number, where there are so many entities
pub record IsEntityCode (u : PlainUnit) (entities e : ℕ) (code : EntityCode) : Type 0 where
  pub names : code.names ≡ entity_names u e
  pub points : IsExchanged (first_point u entities e) (lowered_points u entities e) (map plain_of code.points)

-- these are the codes of the first entities
abbrev pub AreEntityCodes : PlainUnit → ℕ → List EntityCode → Type 0
AreEntityCodes u entities codes = (e : ℕ) (code : EntityCode) → slice_get codes e ≡ Some code → IsEntityCode u entities e code
