-- What names mean in a text that breaks no rule: each thing that is meant is there, and a local is set.
use Rattle.std.proofs.Common.{◌≡◌, ℕ, ◌<◌, Bool, true, false, List, [], ◌∷◌, ◌++◌, Option, Some, None, IsTrue, refl, slice_get}
use Rattle.std.specs.Option.{option_map}
use Rattle.chk_base.specs.declared.place.Place.{Place}
use Rattle.c_rules.specs.declared.meaning.FunctionMeaning.{FunctionMeaning}
use Rattle.c_rules.specs.declared.meaning.Meaning.{Meaning}
use Rattle.c_rules.specs.declared.meaning.Meaning.TheVariants as m
use Rattle.c_rules.specs.First.{when}
use Rattle.typed_unit.specs.declared.typed.GlobalVar.{GlobalVar}
use Rattle.typed_unit.specs.Plain.{PlainFunction, PlainUnit}
use Rattle.typed_unit.specs.Conversions.{ctype_named}
use Rattle.typed_unit.specs.TypedExpressions.{length_of}

-- two lists are nothing where they are nothing together
pub front_none : {A : Type 0} (xs ys : List A) → xs ++ ys ≡ [] → xs ≡ []
front_none [] ys h = refl
front_none (x ∷ xs) ys h = absurd (cc)

pub back_none : {A : Type 0} (xs ys : List A) → xs ++ ys ≡ [] → ys ≡ []
back_none [] ys h = h
back_none (x ∷ xs) ys h = absurd (cc)

-- a rule that isn't broken
pub unbroken : (b : Bool) (rule : ℕ) (place : Place) → when b rule place ≡ [] → b ≡ false
unbroken true rule place h = absurd (cc)
unbroken false rule place h = refl

-- there is one, and it has this property
abbrev pub IsThere : {A : Type 0} → (A → Type 0) → Option A → Type 0
IsThere P None = ⊥
IsThere P (Some x) = P x

-- the function has this result and so many parameters
pub record IsSigned (f : FunctionMeaning) (x : PlainFunction) : Type 0 where
  pub result : x.result ≡ option_map ctype_named f.result
  pub params : x.params ≡ f.parameters

-- the variable has the length that is written, as far as 64
abbrev pub IsFound : Option ℕ → GlobalVar → Type 0
IsFound len g = g.len ≡ option_map length_of len

-- what is meant is no local, and it is there
abbrev pub IsAbroad : PlainUnit → Meaning → Type 0
IsAbroad u (m.Local l) = ⊥
IsAbroad u (m.Variable v) = IsThere (IsFound v.len) (slice_get u.globals v.number)
IsAbroad u (m.Function f) = IsThere (IsSigned f) (slice_get u.functions f.number)
IsAbroad u _ = Unit {0}

-- what is meant is there; a local is one of so many, and set
abbrev pub IsMeant : PlainUnit → ℕ → (ℕ → Bool) → Meaning → Type 0
IsMeant u locals ready (m.Local l) = IsTrue (ready l.number) × (l.number < locals)
IsMeant u locals ready (m.Variable v) = IsThere (IsFound v.len) (slice_get u.globals v.number)
IsMeant u locals ready (m.Function f) = IsThere (IsSigned f) (slice_get u.functions f.number)
IsMeant u locals ready _ = Unit {0}

-- what is meant outside of every body is meant within
pub meant_abroad : (u : PlainUnit) (locals : ℕ) (ready : ℕ → Bool) (meaning : Meaning) → IsAbroad u meaning → IsMeant u locals ready meaning
meant_abroad u locals ready (m.Local l) h = absurd h
meant_abroad u locals ready (m.Variable v) h = h
meant_abroad u locals ready (m.Function f) h = h
meant_abroad u locals ready _ h = tt
