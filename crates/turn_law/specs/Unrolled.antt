-- Turns that are unrolled, as an encoding, and the laws that lead from one turn to the description.
use Rattle.std.specs.Prelude.{◌≡◌, ℕ, suc, ◌+◌, ◌<◌, Bool, true, false, ◌||◌, if◌then◌else◌, ◌==◌, List, [], ◌∷◌, ◌++◌, length, Option, None}
use Rattle.clause_form.specs.declared.lit.Lit.{Lit}
use Rattle.clause_form.specs.ClauseTruth.{Values, is_lit_true}
use Rattle.clause_form.specs.Literals.{AreOf, IsClause, has, literal}
use Rattle.bit_circuit.specs.Extension.{PlainFormula, IsModel, formula, with_clauses}
use Rattle.guard_prog.specs.declared.draft.Alternative.{Alternative}
use Rattle.guard_prog.specs.declared.draft.Draft.{Draft}
use Rattle.guard_prog.specs.Drafts.{plain_alternatives, program_of}
use Rattle.guard_prog.specs.GuardedRun.{PlainAlternative, Program, alternative_with, start_of}
use Rattle.guard_prog.specs.WellShaped.{IsWellShaped}
use Rattle.turn_law.specs.Building.{BuildsTurn, units}
use Rattle.turn_law.specs.Description.{Describes}
use Rattle.turn_encoding.specs.Encodings.{PlainEncoding}
use Rattle.turn_law.specs.Padded.{beginning}
use Rattle.turn_law.specs.Sight.{Offer, IsOffered, Means}
use Rattle.turn_law.specs.Symbol.{Symbol, Row, row_true, sight, MakesTurn, Unrolls}

-- no alternative has label 0
pub record AreLabelled (p : Program) : Type 0 where
  pub none : (q : ℕ) → alternative_with 0 (p.points q) ≡ None

-- the alternatives of a point, with the point
abbrev pub offers_here : ℕ → List PlainAlternative → List Offer
offers_here i [] = []
offers_here i (a ∷ others) = record { point = i; choice = a } ∷ offers_here i others

-- the alternatives of points in a row, the first of which has this number
abbrev pub offers_from : ℕ → List (List Alternative) → List Offer
offers_from i [] = []
offers_from i (point ∷ points) = offers_here i (plain_alternatives point) ++ offers_from (i + 1) points

-- the rows' literals of labels, of words and of depths
abbrev pub labels_of : List Row → List (List Lit)
labels_of [] = []
labels_of (r ∷ rs) = r.labels ∷ labels_of rs

abbrev pub words_of : List Row → List (List Lit)
words_of [] = []
words_of (r ∷ rs) = r.word ∷ words_of rs

abbrev pub depths_of : List Row → List (List Lit)
depths_of [] = []
depths_of (r ∷ rs) = r.depth ∷ depths_of rs

-- the failure literal of each row
abbrev pub failures_of : List Row → List Lit
failures_of [] = []
failures_of (r ∷ rs) = r.failure ∷ failures_of rs

-- a turn fails
abbrev pub failed_in : Values → List Row → Bool
failed_in v [] = false
failed_in v (r ∷ rs) = is_lit_true v r.failure || failed_in v rs

-- the encoding of these turns, with the literals of the depth at the start
abbrev pub encoded : PlainFormula → List Lit → List Lit → List Row → PlainEncoding
encoded s goal start rows =
    record { formula = s; goal = goal; depths = start ∷ depths_of rows; alternatives = labels_of rows; inputs = words_of rows }

-- the goal: the rows' failure literals and no others, each once, by rising variables
pub record IsGoal (rows : List Row) (goal : List Lit) : Type 0 where
  pub rises : IsClause goal
  pub same : (l : Lit) → has goal l ≡ has (failures_of rows) l

-- the literals of the depth at the start
pub record IsStart (p : Program) (s : PlainFormula) (start : List Lit) : Type 0 where
  pub begins : (v : Values) → IsModel v s → (d : ℕ) → row_true v start d ≡ (suc d == length (start_of p).stack)
  pub within : AreOf s.variables start

-- the alternatives of a well-shaped draft are those of its program
abbrev pub DraftsOffer : Type 0
DraftsOffer = (d : Draft) → IsWellShaped d → IsOffered (program_of d) (offers_from 0 d.points) × AreLabelled (program_of d)

-- a turn that is built makes the turn
abbrev pub BuiltTurnsAreMade : Type 0
BuiltTurnsAreMade =
    (p : Program) (os : List Offer) (old mid gates : PlainFormula) (before after : Symbol) (r : Row) (other : Lit) (labels demands : List Lit) →
    IsOffered p os → BuildsTurn p os old mid gates before after r other labels demands → MakesTurn p old (with_clauses gates (units demands)) before after r

-- before the first turn
abbrev pub NoTurnIsUnrolled : Type 0
NoTurnIsUnrolled =
    (p : Program) (symbol : Symbol) →
    ((v : Values) → v 1 ≡ true → Means p (sight v symbol) (beginning p)) → Unrolls p (formula 1 ((literal 1 ∷ []) ∷ [])) symbol []

-- one more turn
abbrev pub OneMoreTurnIsUnrolled : Type 0
OneMoreTurnIsUnrolled =
    (p : Program) (s new : PlainFormula) (before after : Symbol) (rows : List Row) (r : Row) →
    Unrolls p s before rows → MakesTurn p s new before after r → Unrolls p new after (rows ++ r ∷ [])

-- turns that are unrolled, at least one, with a goal, are a description
abbrev pub UnrolledTurnsDescribe : Type 0
UnrolledTurnsDescribe =
    (p : Program) (s : PlainFormula) (symbol : Symbol) (rows : List Row) (start goal : List Lit) →
    AreLabelled p → Unrolls p s symbol rows → 0 < length rows → IsStart p s start → IsGoal rows goal → Describes (encoded s goal start rows) p (length rows)
