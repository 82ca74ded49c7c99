-- A line spells at most one choice.
use Rattle.std.proofs.Common.{◌≡◌, ◌≢◌, ℕ, ◌<◌, List, [], ◌∷◌, ◌++◌, Option, Some, None, IfNone, codes, refl, sym, ap, ◌∙◌, arith}
use Rattle.std.proofs.lemmas.List.{append_cancel_left}
use Rattle.application.specs.declared.app.App.{App}
use Rattle.application.specs.declared.app.Entity.{Entity}
use Rattle.application.specs.InOrder.{IsInOrder}
use Rattle.chk_base.specs.Widths.{PlainWord, limit_of}
use Rattle.replay.specs.declared.value.ValueType.{ValueType}
use Rattle.replay.specs.ScheduleText.{HasName, HasValue, IsNamed, IsValue, Spells}
use Rattle.replay.proofs.Names.{one_named}
use Rattle.replay.proofs.Numbers.{same_word}
use Rattle.step_ir.specs.declared.event.Choice.{Choice}
use Rattle.step_ir.specs.declared.event.Choice.TheVariants.{Go, GoWith, Arrive}

-- digits spell one word
one_value : (input : Option ValueType) (digits : List ℕ) (v w : PlainWord) → v.bits < limit_of v.width → w.bits < limit_of w.width → IsValue input digits v → IsValue input digits w → v ≡ w
one_value (Some t) digits v w fits also first second =
    same_word t.signed t.signed v w (first.0 ∙ sym second.0) fits also (sym first.1 ∙ second.1)
one_value None digits v w fits also first second =
    same_word first.1.0 second.1.0 v w (first.0 ∙ sym second.0) fits also (sym first.1.1 ∙ second.1.1)

same_digits : (input : Option ValueType) (line : List ℕ) (v w : PlainWord) → HasValue input line v → HasValue input line w → v ≡ w
same_digits input line v w first second =
    let same : first.digits ≡ second.digits = append_cancel_left (codes "go ") first.digits second.digits (sym first.parts ∙ second.parts) in
    one_value input second.digits v w first.fits second.fits (rw same at first.value) second.value

same_name : (app : App) → IsInOrder app → (line : List ℕ) (a b : Entity) → HasName app line a → HasName app line b → a ≡ b
same_name app order line a b first second =
    let same : first.name ≡ second.name = append_cancel_left (codes "arrive ") first.name second.name (sym first.parts ∙ second.parts) in
    one_named app order second.name a b (rw same at first.named) second.named

-- the first byte, and 0 without one
abbrev pub first_byte : List ℕ → ℕ
first_byte [] = 0
first_byte (b ∷ bs) = b

-- the forms of lines exclude each other
value_is_longer : (digits : List ℕ) → codes "go" ≡ codes "go " ++ digits → ⊥
value_is_longer digits e = absurd cc

name_is_longer : (name : List ℕ) → codes "go" ≡ codes "arrive " ++ name → ⊥
name_is_longer name e = absurd cc

value_is_no_name : (digits name : List ℕ) → codes "go " ++ digits ≡ codes "arrive " ++ name → ⊥
value_is_no_name digits name e = let first : 103 ≡ 97 = ap first_byte e in absurd (omega (arith, first))

-- a line spells one choice
pub one_choice : (app : App) → IsInOrder app → (input : Option ValueType) (line : List ℕ) (c d : Choice) → Spells app input line c → Spells app input line d → c ≡ d
one_choice app order input line Go Go first second = refl
one_choice app order input line Go (GoWith w) first second = absurd (value_is_longer second.digits (sym first ∙ second.parts))
one_choice app order input line Go (Arrive r) first second = absurd (name_is_longer second.name (sym first ∙ second.parts))
one_choice app order input line (GoWith w) Go first second = absurd (value_is_longer first.digits (sym second ∙ first.parts))
one_choice app order input line (GoWith v) (GoWith w) first second = ap GoWith (same_digits input line v w first second)
one_choice app order input line (GoWith w) (Arrive r) first second =
    absurd (value_is_no_name first.digits second.name (sym first.parts ∙ second.parts))
one_choice app order input line (Arrive r) Go first second = absurd (name_is_longer first.name (sym second ∙ first.parts))
one_choice app order input line (Arrive r) (GoWith w) first second =
    absurd (value_is_no_name second.digits first.name (sym second.parts ∙ first.parts))
one_choice app order input line (Arrive a) (Arrive b) first second = ap Arrive (same_name app order line a b first second)

-- a line that is no step, and names nobody, spells no choice
pub no_choice : (app : App) (input : Option ValueType) (line : List ℕ) → line ≢ codes "go" → ((digits : List ℕ) → line ≢ codes "go " ++ digits) → (name : List ℕ) → line ≡ codes "arrive " ++ name → ((r : Entity) → IsNamed app name r → ⊥) → (choice : Choice) → Spells app input line choice → ⊥
no_choice app input line step value name parts nobody Go spelled = step spelled
no_choice app input line step value name parts nobody (GoWith w) spelled = value spelled.digits spelled.parts
no_choice app input line step value name parts nobody (Arrive r) spelled =
    let same : spelled.name ≡ name = append_cancel_left (codes "arrive ") spelled.name name (sym spelled.parts ∙ parts) in
    nobody r (rw same at spelled.named)

-- what holds holds where there is no value
pub if_none : {T P : Type 0} (o : Option T) → P → IfNone o P
if_none None p = p
if_none (Some x) p = tt
