-- Worked values of the definitions of schedules.
use Rattle.std.proofs.Common.{◌≡◌, pos, negsuc, true, false, [], ◌∷◌, codes, refl}
use Rattle.chk_base.specs.declared.word.Width.TheVariants.{W8, W32}
use Rattle.chk_base.specs.Widths.{reading_of}
use Rattle.replay.specs.ScheduleText.{ended, lines_of}

-- no line, a line with its line feed and without, and an empty line
pub no_line : lines_of [] ≡ []
no_line = refl

pub one_line : lines_of (codes "go\n") ≡ codes "go" ∷ []
one_line = refl

pub last_line : lines_of (codes "go\ngo 7") ≡ codes "go" ∷ codes "go 7" ∷ []
last_line = refl

pub empty_line : lines_of (codes "go\n\n") ≡ codes "go" ∷ [] ∷ []
empty_line = refl

pub before_the_second : ended (codes "go" ∷ []) ≡ codes "go\n"
before_the_second = refl

-- the word 128 of 8 bits in both readings, and the greatest of 32 bits
pub least_of_8 : reading_of true (record { width = W8; bits = 128 }) ≡ negsuc 127
least_of_8 = refl

pub unsigned_of_8 : reading_of false (record { width = W8; bits = 128 }) ≡ pos 128
unsigned_of_8 = refl

pub minus_one : reading_of true (record { width = W32; bits = 4294967295 }) ≡ negsuc 0
minus_one = refl
