-- The names of file level without where they lie.
use Rattle.std.specs.Prelude.{ℕ, List, map}
use Rattle.std.specs.Borrow.{Bor}
use Rattle.c_rules.specs.declared.meaning.Meaning.{Meaning}
use Rattle.c_rules.specs.Files.{Files}

abbrev pub plain_entry : Bor (List ℕ) × Meaning → List ℕ × Meaning
plain_entry e = (e.0.now, e.1)

abbrev pub plain_files : List (Bor (List ℕ) × Meaning) → Files
plain_files entries = map plain_entry entries
