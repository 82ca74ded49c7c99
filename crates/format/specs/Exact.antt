-- When a format is exact: its reading is what its spelling says.
use Rattle.std.specs.Prelude.{◌≡◌, Bool, true, false, ◌⊎◌, List, [], ◌∷◌, ◌++◌, Option, Some}
use Rattle.format.specs.Format.{Answer, Got, Stuck, Format}
use Rattle.format.specs.Faults.{IsFront}

-- The text begins with the spelling of a value that the format has, and these tokens are left.
pub record IsGot {A T : Type 0} (F : Format A T) (text : List T) (x : A) (rest : List T) : Type 0 where
  pub valid : F.valid x ≡ true
  pub parts : text ≡ F.spell x ++ rest

-- What came before the tokens that are left fits, unless nothing did, and no spelling begins with that and the next token.
pub record IsStuck {A T : Type 0} (F : Format A T) (text left : List T) : Type 0 where
  pub before : List T
  pub parts : text ≡ before ++ left
  pub fits : (before ≡ []) ⊎ IsFront F before
  pub no_more : (t : T) (r : List T) → left ≡ t ∷ r → (x : A) (more other : List T) → F.valid x ≡ true → F.spell x ++ more ≡ before ++ t ∷ other → ⊥

abbrev pub Says : {A T : Type 0} → Format A T → List T → Answer A T → Type 0
Says F text (Got x rest) = IsGot F text x rest
Says F text (Stuck left) = IsStuck F text left

-- Each spelling is read, whatever follows it, and each answer says the truth.
pub record IsExact {A T : Type 0} (F : Format A T) : Type 0 where
  pub whole : (x : A) (more : List T) → F.valid x ≡ true → F.read (F.spell x ++ more) ≡ Got x more
  pub says : (text : List T) → Says F text (F.read text)

-- The format has a value.
pub record HasSome {A T : Type 0} (F : Format A T) : Type 0 where
  pub value : A
  pub valid : F.valid value ≡ true

-- Each value has its token, and each token that means a value is that value's.
pub record IsSpelling {A T : Type 0} (valid : A → Bool) (token : A → T) (meaning : T → Option A) : Type 0 where
  pub means : (x : A) → valid x ≡ true → meaning (token x) ≡ Some x
  pub spells : (t : T) (x : A) → meaning t ≡ Some x → (valid x ≡ true) × (token x ≡ t)

-- The new values stand for the old ones, one for one.
pub record IsRenaming {A B : Type 0} (valid : A → Bool) (to : A → B) (from : B → Option A) : Type 0 where
  pub back : (x : A) → valid x ≡ true → from (to x) ≡ Some x
  pub forth : (y : B) (x : A) → from y ≡ Some x → to x ≡ y

-- The tokens begin with one that doesn't stop.
abbrev pub BeginsApart : {T : Type 0} → (T → Bool) → List T → Type 0
BeginsApart is_stop [] = ⊥
BeginsApart is_stop (t ∷ ts) = is_stop t ≡ false

-- This token stops, and no other does.
pub record Stops {T : Type 0} (stop : T) (is_stop : T → Bool) : Type 0 where
  pub yes : is_stop stop ≡ true
  pub only : (t : T) → is_stop t ≡ true → t ≡ stop
