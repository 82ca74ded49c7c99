-- The first of several faults. A fault is the number of a rule and a place.
use Rattle.std.specs.Prelude.{ℕ, Bool, true, false, ◌≡◌, ◌&&◌, ◌||◌, ◌==◌, nat_lt, if◌then◌else◌, List, [], ◌∷◌, Option, Some, None, Contains, All}
use Rattle.chk_base.specs.declared.place.Place.{Place}
use Rattle.c_rules.specs.declared.first.Fault.{Fault}

-- a fault comes before another: it is at a lesser place, or there of a lesser rule
abbrev pub is_before : Fault → Fault → Bool
is_before f g =
    nat_lt f.place.offset g.place.offset || ((f.place.offset == g.place.offset) && nat_lt f.rule g.rule)

-- the fault is one of these, and none of them comes before it
pub record IsFirst (faults : List Fault) (first : Fault) : Type 0 where
  pub broken : Contains faults first
  pub least : All (λ f. is_before f first ≡ false) faults

-- the earlier of the first fault so far and one more
abbrev pub sooner : Option Fault → Fault → Option Fault
sooner None f = Some f
sooner (Some g) f = if is_before f g then Some f else Some g

-- the first of the fault so far and these
abbrev pub first_of : Option Fault → List Fault → Option Fault
first_of best [] = best
first_of best (f ∷ fs) = first_of (sooner best f) fs

-- the fault, where the rule is broken
abbrev pub when : Bool → ℕ → Place → List Fault
when true rule place = record { rule = rule; place = place } ∷ []
when false rule place = []
