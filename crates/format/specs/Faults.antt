-- What can be said of a whole text in words of the spelling alone.
use Rattle.std.specs.Prelude.{◌≡◌, true, List, ◌++◌}
use Rattle.format.specs.Format.{Format}

-- The tokens spell a value that the format has.
pub record IsText {A T : Type 0} (F : Format A T) (text : List T) (x : A) : Type 0 where
  pub valid : F.valid x ≡ true
  pub spelled : text ≡ F.spell x

-- The tokens are a whole text.
abbrev pub IsWhole : {A T : Type 0} → Format A T → List T → Type 0
IsWhole {A} F text = (x : A) × IsText F text x

-- The tokens begin the spelling of some value.
pub record IsFront {A T : Type 0} (F : Format A T) (front : List T) : Type 0 where
  pub value : A
  pub more : List T
  pub valid : F.valid value ≡ true
  pub spelled : F.spell value ≡ front ++ more
