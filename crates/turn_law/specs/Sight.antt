-- One turn over truth values: what a symbolic state shows under an assignment, and what the gates of a turn make of it.
use Rattle.std.specs.Prelude.{◌≡◌, ℕ, suc, zero, ◌+◌, ◌-◌, ◌%◌, ◌≤◌, Bool, true, false, not, ◌&&◌, ◌||◌, if◌then◌else◌, ◌==◌, nat_le, nat_lt, List, [], ◌∷◌, length, Option, Some, None, unwrap_or}
use Rattle.chk_base.specs.Operators.{truth}
use Rattle.chk_base.specs.Widths.{limit_of}
use Rattle.chk_base.specs.declared.word.Width.{Width}
use Rattle.guard_prog.specs.declared.draft.Control.{Control}
use Rattle.guard_prog.specs.declared.draft.Control.TheVariants.{Goto, Push, Pop, PopPush, Fail}
use Rattle.guard_prog.specs.GuardedRun.{PlainAlternative, Program, State, value_in, alternative_with, takes_word, is_fail, value_set}
use Rattle.chk_base.specs.Term.{Term}
use Rattle.turn_law.specs.Padded.{Phase}

-- the top point and the depth, the points below the top by their depth, and the cells
pub record Sight : Type 0 where
  pub at : ℕ → Bool
  pub depth : ℕ → Bool
  pub slots : ℕ → ℕ → Bool
  pub cells : ℕ → ℕ

-- the truth of each label, and the word
pub record Pick : Type 0 where
  pub label : ℕ → Bool
  pub word : ℕ

-- an alternative with its point
pub record Offer : Type 0 where
  pub point : ℕ
  pub choice : PlainAlternative

-- the only truth of the row stands there
pub record IsAt (row : ℕ → Bool) (q : ℕ) : Type 0 where
  pub only : (i : ℕ) → row i ≡ (i == q)

-- the row has no truth
pub record IsDark (row : ℕ → Bool) : Type 0 where
  pub none : (i : ℕ) → row i ≡ false

-- ---- meaning
-- the points below the top, each at its depth
abbrev pub Below : (ℕ → ℕ → Bool) → List ℕ → Type 0
Below slots [] = Unit {0}
Below slots (u ∷ us) = IsAt (slots (length us)) u × Below slots us

-- the top and what is below it; where only padding follows no point is the top
abbrev pub MeansTop : Sight → ℕ → List ℕ → Bool → Type 0
MeansTop s t ts true = IsDark s.at
MeansTop s t ts false = IsAt s.at t × Below s.slots ts

-- the stack, top first, of at most so many points above the bottom
abbrev pub MeansStack : ℕ → Sight → List ℕ → Bool → Type 0
MeansStack most s [] over = ⊥
MeansStack most s (t ∷ ts) over = (length ts ≤ most) × IsAt s.depth (length ts) × MeansTop s t ts over

-- what is seen is this phase
pub record Means (p : Program) (s : Sight) (ph : Phase) : Type 0 where
  pub stack : MeansStack p.depth s ph.state.stack ph.is_over
  pub cells : ph.is_over ≡ false → (q : ℕ) → s.cells q ≡ ph.state.cells q
  pub unfailed : ph.is_over ≡ false → ph.state.is_failed ≡ false

-- the labels and the word are this pair; label 0 is none
pub record Reads (x : Pick) (c : ℕ × ℕ) : Type 0 where
  pub label : (i : ℕ) → x.label i ≡ (not (i == 0) && (i == c.0))
  pub word : x.word ≡ c.1

-- ---- the alternatives that are taken
abbrev pub is_taken : (ℕ → Bool) → (ℕ → Bool) → Offer → Bool
is_taken at label o = at o.point && label o.choice.label

-- one that is taken has this property
abbrev pub any : (ℕ → Bool) → (ℕ → Bool) → (PlainAlternative → Bool) → List Offer → Bool
any at label f [] = false
any at label f (o ∷ os) = (is_taken at label o && f o.choice) || any at label f os

-- the old value, changed by those that are taken, one after another
abbrev pub value_after : (ℕ → Bool) → (ℕ → Bool) → (PlainAlternative → ℕ → ℕ) → List Offer → ℕ → ℕ
value_after at label f [] old = old
value_after at label f (o ∷ os) old = value_after at label f os (if is_taken at label o then f o.choice old else old)

-- each that is taken has this property
pub record AllTaken (at label : ℕ → Bool) (f : PlainAlternative → Bool) (os : List Offer) : Type 0 where
  pub none : any at label (λ a. not (f a)) os ≡ false

-- ---- properties of alternatives
-- makes this point the top
abbrev pub leads_to : ℕ → Control → Bool
leads_to i (Goto q) = i == q
leads_to i (Push below start) = i == start
leads_to i Pop = false
leads_to i (PopPush q) = i == q
leads_to i Fail = false

-- puts a point on the stack
abbrev pub is_push : Control → Bool
is_push (Push below start) = true
is_push _ = false

-- makes the point below the top the new one
abbrev pub is_pop : Control → Bool
is_pop Pop = true
is_pop _ = false

-- takes the top away
abbrev pub is_end : Control → Bool
is_end Pop = true
is_end (PopPush q) = true
is_end _ = false

-- leaves this point below the new top
abbrev pub leaves : ℕ → Control → Bool
leaves i (Push below start) = i == below
leaves i _ = false

-- any alternative
abbrev pub is_all : PlainAlternative → Bool
is_all a = true

-- ---- what the guards leave
-- the alternatives whose guard isn't 0 over these cells
abbrev pub enabled_offers : (ℕ → Width) → (ℕ → ℕ) → List Offer → List Offer
enabled_offers width cells [] = []
enabled_offers width cells (o ∷ os) =
    if truth (value_in width cells o.choice.guard) then o ∷ enabled_offers width cells os else enabled_offers width cells os

-- those over the cells that are seen
abbrev pub open_offers : Program → List Offer → Sight → List Offer
open_offers p os s = enabled_offers p.width s.cells os

-- ---- the next symbolic state
-- the point under the top, at a depth of at most n
abbrev pub popped : Sight → ℕ → ℕ → Bool
popped s i zero = false
popped s i (suc n) = (s.depth (suc n) && s.slots n i) || popped s i n

-- the depth after a push
abbrev pub one_deeper : (ℕ → Bool) → ℕ → Bool
one_deeper depth d = if d == 0 then false else depth (d - 1)

-- an alternative is taken whose control has this property
abbrev pub taken_any : Sight → Pick → List Offer → (Control → Bool) → Bool
taken_any s x os f = any s.at x.label (λ a. f a.control) os

-- the top after the turn
abbrev pub next_at : Program → List Offer → Sight → Pick → ℕ → Bool
next_at p es s x i = taken_any s x es (leads_to i) || (taken_any s x es is_pop && popped s i p.depth)

-- the depth after it
abbrev pub next_depth : Program → List Offer → Sight → Pick → ℕ → Bool
next_depth p es s x d =
    if nat_le d p.depth
    then (if taken_any s x es is_push then one_deeper s.depth d
    else (if taken_any s x es is_pop then s.depth (d + 1) else s.depth d))
    else false

-- the points below the top after it: a push puts one to the depth that was
abbrev pub next_slots : Program → List Offer → Sight → Pick → ℕ → ℕ → Bool
next_slots p es s x d i =
    if taken_any s x es is_push && (nat_lt d p.depth && s.depth d) then taken_any s x es (leaves i) else s.slots d i

-- the value that an alternative sets a cell to, if it sets it; the turn's word counts modulo the input's width
abbrev pub set_of : (ℕ → Width) → (ℕ → ℕ) → ℕ → Option Width → List (ℕ × Term) → ℕ → Option ℕ
set_of width cells word None sets q = value_set width cells sets q
set_of width cells word (Some w) [] q = None
set_of width cells word (Some w) (s ∷ others) q =
    if s.0 == q then Some (word % limit_of w) else value_set width cells others q

-- the value of a cell after an alternative
abbrev pub set_to : Program → Sight → Pick → ℕ → PlainAlternative → ℕ → ℕ
set_to p s x q a old = unwrap_or (set_of p.width s.cells x.word a.input a.sets q) old

-- the value of a cell after the turn
abbrev pub next_cell : Program → List Offer → Sight → Pick → ℕ → ℕ
next_cell p es s x q = value_after s.at x.label (set_to p s x q) es (s.cells q)

-- what is seen after the turn, of which these alternatives have guards that aren't 0
abbrev pub next_of : Program → List Offer → Sight → Pick → Sight
next_of p es s x =
    record { at = next_at p es s x; depth = next_depth p es s x; slots = next_slots p es s x; cells = next_cell p es s x }

-- what is seen after the turn
abbrev pub next : Program → List Offer → Sight → Pick → Sight
next p os s x = next_of p (open_offers p os s) s x

-- what a turn demands, of which these alternatives have guards that aren't 0: a true label is offered at the top, there is room for a push,
-- the bottom stays, the word fits the input, and without a label it is 0
pub record AllowsOf (p : Program) (es : List Offer) (s : Sight) (x : Pick) : Type 0 where
  pub offered : (l : ℕ) → x.label l ≡ true → any s.at (λ i. i == l) is_all es ≡ true
  pub room : (taken_any s x es is_push && s.depth p.depth) ≡ false
  pub ends : (taken_any s x es is_end && s.depth 0) ≡ false
  pub word : AllTaken s.at x.label (λ a. takes_word a.input x.word) es
  pub unused : any s.at x.label is_all es ≡ false → x.word ≡ 0

-- what a turn demands
abbrev pub Allows : Program → List Offer → Sight → Pick → Type 0
Allows p os s x = AllowsOf p (open_offers p os s) s x

-- ---- a program's alternatives
-- those of a point
abbrev pub choices_at : ℕ → List Offer → List PlainAlternative
choices_at q [] = []
choices_at q (o ∷ os) = if o.point == q then o.choice ∷ choices_at q os else choices_at q os

-- no label comes again
abbrev pub Apart : List PlainAlternative → Type 0
Apart [] = Unit {0}
Apart (a ∷ as') = (alternative_with a.label as' ≡ None) × Apart as'

-- these are the alternatives of the program
pub record IsOffered (p : Program) (os : List Offer) : Type 0 where
  pub lists : (q : ℕ) → choices_at q os ≡ p.points q
  pub apart : (q : ℕ) → Apart (p.points q)
