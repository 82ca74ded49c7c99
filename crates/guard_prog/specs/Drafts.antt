-- The guarded program that a draft describes.
use Rattle.std.specs.Prelude.{ℕ, List, [], ◌∷◌, slice_get, unwrap_or}
use Rattle.chk_base.specs.declared.sets.Set.{Set}
use Rattle.chk_base.specs.declared.word.Width.TheVariants.{W32}
use Rattle.chk_base.specs.Term.{Term, term_of}
use Rattle.guard_prog.specs.declared.draft.Alternative.{Alternative}
use Rattle.guard_prog.specs.declared.draft.Draft.{Draft}
use Rattle.guard_prog.specs.GuardedRun.{PlainAlternative, Program}

-- the sets as pairs of cell and expression
abbrev pub plain_sets : List Set → List (ℕ × Term)
plain_sets [] = []
plain_sets (s ∷ others) = (s.cell, term_of s.value) ∷ plain_sets others

-- an alternative as plain data
abbrev pub plain_of : Alternative → PlainAlternative
plain_of a =
    record { label = a.label; guard = term_of a.guard; sets = plain_sets a.sets; control = a.control; input = a.input }

-- the alternatives of a point as plain data
abbrev pub plain_alternatives : List Alternative → List PlainAlternative
plain_alternatives [] = []
plain_alternatives (a ∷ others) = plain_of a ∷ plain_alternatives others

-- the alternatives of the point with this number
abbrev pub point_of : Draft → ℕ → List Alternative
point_of d i = unwrap_or (slice_get d.points i) []

-- the guarded program of a draft; a cell that isn't there counts as a word 0 of 32 bits, and a point that isn't there has no alternative
abbrev pub program_of : Draft → Program
program_of d =
    record {
      width = λ q. unwrap_or (slice_get d.widths q) W32;
      starts = λ q. unwrap_or (slice_get d.starts q) 0;
      first = d.first;
      points = λ i. plain_alternatives (point_of d i);
      depth = d.depth;
    }
