-- What one of the alternatives does that are taken.
use Rattle.std.specs.Prelude.{◌≡◌, ℕ, ◌<◌, Bool, true, false, ◌&&◌, ◌||◌, if◌then◌else◌, ◌==◌, nat_lt, List, [], ◌∷◌, length, Option, Some, None}
use Rattle.clause_form.specs.declared.lit.Lit.{Lit}
use Rattle.clause_form.specs.ClauseTruth.{Values, is_lit_true}
use Rattle.clause_form.specs.Literals.{AreOf, IsOf}
use Rattle.bit_circuit.specs.Extension.{PlainFormula, IsModel, Extends}
use Rattle.chk_base.specs.declared.word.Width.{Width}
use Rattle.chk_base.specs.Widths.{bits_of}
use Rattle.guard_prog.specs.declared.draft.Control.{Control}
use Rattle.guard_prog.specs.declared.draft.Control.TheVariants.{Goto, Push, Pop, PopPush, Fail}
use Rattle.guard_prog.specs.Drafts.{plain_of}
use Rattle.guard_prog.specs.GuardedRun.{PlainAlternative, is_fail}
use Rattle.turn_law.specs.Sight.{Offer, is_push, is_pop, is_end}
use Rattle.turn_law.specs.Symbol.{row_true}
use Rattle.turn_unroll.specs.declared.offers.Offered.{Offered}
use Rattle.turn_unroll.specs.declared.ways.Way.{Way}
use Rattle.turn_unroll.specs.declared.ways.Test.{Test}
use Rattle.turn_unroll.specs.declared.ways.Test.TheVariants.{Pushes, Pops, Ends, Fails, Wider}
use Rattle.turn_unroll.specs.declared.ways.Side.{Side}
use Rattle.turn_unroll.specs.declared.ways.Side.TheVariants.{Top, Below, Label}

-- an alternative with its point, as plain data
abbrev pub offer_of : Offered → Offer
offer_of o = record { point = o.point; choice = plain_of o.alternative.now }

abbrev pub offers_of : List Offered → List Offer
offers_of [] = []
offers_of (o ∷ os) = offer_of o ∷ offers_of os

-- the alternative of a way
abbrev pub choice_of : Way → PlainAlternative
choice_of w = plain_of w.alternative.now

abbrev pub choices_of : List Way → List PlainAlternative
choices_of [] = []
choices_of (w ∷ ws) = choice_of w ∷ choices_of ws

abbrev pub offered_choices : List Offer → List PlainAlternative
offered_choices [] = []
offered_choices (o ∷ os) = o.choice ∷ offered_choices os

-- the number of bits of an input
abbrev pub input_bits : Option Width → ℕ
input_bits None = 0
input_bits (Some w) = bits_of w

-- takes an input of more bits
abbrev pub wider : ℕ → PlainAlternative → Bool
wider bits a = nat_lt bits (input_bits a.input)

abbrev pub holds_of : Test → PlainAlternative → Bool
holds_of Pushes a = is_push a.control
holds_of Pops a = is_pop a.control
holds_of Ends a = is_end a.control
holds_of Fails a = is_fail a.control
holds_of (Wider bits) a = wider bits a

-- the point that a control makes the top
abbrev pub top_of : Control → Option ℕ
top_of (Goto q) = Some q
top_of (Push below start) = Some start
top_of Pop = None
top_of (PopPush q) = Some q
top_of Fail = None

-- the point that it leaves below the top
abbrev pub below_of : Control → Option ℕ
below_of (Push below start) = Some below
below_of _ = None

abbrev pub target_of : Side → PlainAlternative → Option ℕ
target_of Top a = top_of a.control
target_of Below a = below_of a.control
target_of Label a = Some a.label

abbrev pub is_here : Option ℕ → ℕ → Bool
is_here None i = false
is_here (Some q) i = i == q

abbrev pub IsBelow : Option ℕ → ℕ → Type 0
IsBelow None n = Unit {0}
IsBelow (Some q) n = q < n

-- the literals have variables of the formula
abbrev pub AreTaken : ℕ → List Way → Type 0
AreTaken n [] = Unit {0}
AreTaken n (w ∷ ws) = IsOf n w.taken × AreTaken n ws

-- it is taken and has this property
abbrev pub does : Values → (PlainAlternative → Bool) → Way → Bool
does v f w = is_lit_true v w.taken && f (choice_of w)

-- one that is taken has this property
abbrev pub any_way : Values → (PlainAlternative → Bool) → List Way → Bool
any_way v f [] = false
any_way v f (w ∷ ws) = does v f w || any_way v f ws

-- the alternative is put to the number that it names
pub record GrowsRow (old new : PlainFormula) (side : Side) (way : Way) (was now : List Lit) : Type 0 where
  pub extends : Extends old new
  pub inside : AreOf new.variables now
  pub count : length now ≡ length was
  pub equal : (v : Values) → IsModel v new → (i : ℕ) → row_true v now i ≡ (row_true v was i || (is_lit_true v way.taken && is_here (target_of side (choice_of way)) i))

-- the numbers that they name are below this one
abbrev pub AreBelow : Side → ℕ → List PlainAlternative → Type 0
AreBelow side n [] = Unit {0}
AreBelow side n (a ∷ as') = IsBelow (target_of side a) n × AreBelow side n as'

abbrev pub names : Side → ℕ → PlainAlternative → Bool
names side i a = is_here (target_of side a) i

-- each alternative is put to the number that it names
pub record GathersRow (old new : PlainFormula) (side : Side) (ways : List Way) (was now : List Lit) : Type 0 where
  pub extends : Extends old new
  pub inside : AreOf new.variables now
  pub count : length now ≡ length was
  pub equal : (v : Values) → IsModel v new → (i : ℕ) → row_true v now i ≡ (row_true v was i || any_way v (names side i) ways)

-- so many literals, each of which is true where an alternative is taken that names its place
pub record GivesNamed (old new : PlainFormula) (side : Side) (ways : List Way) (n : ℕ) (row : List Lit) : Type 0 where
  pub extends : Extends old new
  pub inside : AreOf new.variables row
  pub count : length row ≡ n
  pub equal : (v : Values) → IsModel v new → (i : ℕ) → row_true v row i ≡ any_way v (names side i) ways

-- the literals are true where the point is the top and the alternative has the property
abbrev pub AreOpen : Values → (ℕ → Bool) → (PlainAlternative → Bool) → List Way → List Offer → Type 0
AreOpen v at f [] [] = Unit {0}
AreOpen v at f (w ∷ ws) (o ∷ os) = (is_lit_true v w.taken ≡ (at o.point && f o.choice)) × AreOpen v at f ws os
AreOpen v at f _ _ = ⊥

-- the literals are true where those are, and the label is the turn's
abbrev pub AreLabelledBy : Values → (ℕ → Bool) → List Way → List Way → Type 0
AreLabelledBy v label [] [] = Unit {0}
AreLabelledBy v label (w ∷ ws) (u ∷ us) = (is_lit_true v u.taken ≡ (is_lit_true v w.taken && label (choice_of w).label)) × AreLabelledBy v label ws us
AreLabelledBy v label _ _ = ⊥

-- the alternatives with the literals that they are open
pub record OpensWays (old new : PlainFormula) (at : List Lit) (f : Values → PlainAlternative → Bool) (os : List Offer) (ways : List Way) : Type 0 where
  pub extends : Extends old new
  pub inside : AreTaken new.variables ways
  pub same : choices_of ways ≡ offered_choices os
  pub equal : (v : Values) → IsModel v new → AreOpen v (row_true v at) (f v) ways os

-- and with the literals that they are taken
pub record TakesWays (old new : PlainFormula) (labels : List Lit) (opened ways : List Way) : Type 0 where
  pub extends : Extends old new
  pub inside : AreTaken new.variables ways
  pub same : choices_of ways ≡ choices_of opened
  pub equal : (v : Values) → IsModel v new → AreLabelledBy v (row_true v labels) opened ways
