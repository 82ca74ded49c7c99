-- The resources that all entities hold, in one list, the last taken first.
use Rattle.std.specs.Prelude.{◌≡◌, ℕ, ◌<◌, ◌≤◌, Bool, false, ◌||◌, List, [], ◌∷◌, length, Option, Some, None, slice_get, if◌then◌else◌, ◌==◌}
use Rattle.osek_machine.specs.declared.held.Holding.{Holding}
use Rattle.step_ir.specs.Numbers.{times}

-- the resources of an entity, the last taken first
abbrev pub held_by : List Holding → ℕ → List ℕ
held_by [] e = []
held_by (h ∷ hs) e = if h.entity == e then h.resource ∷ held_by hs e else held_by hs e

-- the last taken, if there is one
abbrev pub last_in : List ℕ → Option ℕ
last_in [] = None
last_in (r ∷ rs) = Some r

-- the resources that are held, whoever holds them
abbrev pub resources_of : List Holding → List ℕ
resources_of [] = []
resources_of (h ∷ hs) = h.resource ∷ resources_of hs

-- any entity holds this resource
abbrev pub any_holds : ℕ → List Holding → Bool
any_holds r [] = false
any_holds r (h ∷ hs) = (h.resource == r) || any_holds r hs

-- the entities are below n, and the resources below 256
abbrev pub AreHolders : ℕ → List Holding → Type 0
AreHolders n [] = Unit {0}
AreHolders n (h ∷ hs) = (h.entity < n) × (h.resource < 256) × AreHolders n hs

-- entities below n hold these, and no resource is held twice
pub record IsHeld (n : ℕ) (hs : List Holding) : Type 0 where
  pub holders : AreHolders n hs
  pub once : (r : ℕ) → times r (resources_of hs) ≤ 1

-- there is one, and this entity holds it
abbrev pub IsEntity : Option Holding → ℕ → Type 0
IsEntity None e = ⊥
IsEntity (Some h) e = h.entity ≡ e

-- here stands the first of this entity
pub record IsFirstOf (hs : List Holding) (e i : ℕ) : Type 0 where
  pub within : i < length hs
  pub here : IsEntity (slice_get hs i) e
  pub before : (k : ℕ) → k < i → IsEntity (slice_get hs k) e → ⊥

-- the last taken of this entity was taken out
pub record IsReleased (old : List Holding) (e r : ℕ) (new : List Holding) : Type 0 where
  pub same : held_by old e ≡ r ∷ held_by new e
  pub others : (q : ℕ) → (q ≡ e → ⊥) → held_by old q ≡ held_by new q
  pub counts : (q : ℕ) → times q (resources_of new) ≤ times q (resources_of old)
  pub holders : (n : ℕ) → AreHolders n old → AreHolders n new

-- all of this entity's were taken out
pub record IsFreed (old : List Holding) (e : ℕ) (new : List Holding) : Type 0 where
  pub none : held_by new e ≡ []
  pub others : (q : ℕ) → (q ≡ e → ⊥) → held_by old q ≡ held_by new q
  pub counts : (q : ℕ) → times q (resources_of new) ≤ times q (resources_of old)
  pub holders : (n : ℕ) → AreHolders n old → AreHolders n new
