-- Which certificates there are, plainly: the bounds, counts and orders of their parts, and which texts are theirs.
use Rattle.std.specs.Prelude.{◌≡◌, ℕ, ◌+◌, Bool, true, false, ◌&&◌, nat_lt, nat_le, ◌==◌, List, [], ◌∷◌, length}
use Rattle.clause_form.specs.declared.lit.Lit.{Lit}
use Rattle.clause_form.specs.declared.line.Line.{Line}
use Rattle.clause_form.specs.Literals.{rises_above, is_within, are_within}
use Rattle.cert_form.specs.Words.{Token, limit, within, is_name}
use Rattle.cert_form.specs.Certificate.{Label, Idle, Arrive, Step, Ending, Holds, Fails, Undecided, Certificate}
use Rattle.cert_form.specs.CertificateText.{certificate_words}

-- a number that a text can have
abbrev pub is_small : ℕ → Bool
is_small n = within 0 limit n

-- names are names, and points have numbers that a text can have
abbrev pub is_label : Label → Bool
is_label Idle = true
is_label (Arrive name) = is_name name
is_label (Step name p) = is_name name && is_small p

abbrev pub are_labels : List Label → Bool
are_labels [] = true
are_labels (l ∷ ls) = is_label l && are_labels ls

-- a clause over n variables
abbrev pub is_clause_over : ℕ → List Lit → Bool
is_clause_over n c = rises_above 0 c && is_within n c

-- each row has so many literals, over n variables
abbrev pub are_rows : ℕ → ℕ → List (List Lit) → Bool
are_rows n width [] = true
are_rows n width (row ∷ rows) = ((length row == width) && is_within n row) && are_rows n width rows

-- the rows of depths are K + 1, and all are as long as the first, from 1 to 17
abbrev pub are_depths : ℕ → ℕ → List (List Lit) → Bool
are_depths n k [] = false
are_depths n k (row ∷ rows) =
    ((nat_le 1 (length row) && nat_le (length row) 17) && (length rows == k)) && are_rows n (length row) (row ∷ rows)

-- hints are from 1, and below the number of their own line
abbrev pub are_hints : ℕ → List ℕ → Bool
are_hints own [] = true
are_hints own (h ∷ hs) = ((nat_le 1 h && nat_lt h own) && is_small h) && are_hints own hs

-- the lines of a log, of which the first has this number
abbrev pub are_lines : ℕ → ℕ → List Line → Bool
are_lines n own [] = true
are_lines n own (l ∷ ls) = (is_clause_over n l.clause && are_hints own l.hints) && are_lines n (own + 1) ls

-- a model has a value for each variable
abbrev pub is_ending : ℕ → Ending → Bool
is_ending n Holds = true
is_ending n (Fails values) = length values == n
is_ending n Undecided = true

-- Numbers and counts are below 2^63, and there is a variable; clauses and goal rise by variable; the tables have their sizes;
-- the first line of the log has the number after the goal's.
abbrev pub is_certificate : Certificate → Bool
is_certificate c =
    is_small c.turns
    && (is_small c.arrivals
    && (is_small c.budget
    && (within 1 limit c.variables
    && ((is_small (length c.clauses) && are_within c.variables c.clauses)
    && (is_clause_over c.variables c.goal
    && ((is_small (length c.labels) && are_labels c.labels)
    && ((are_depths c.variables c.turns c.depth_lits
    && ((length c.turn_lits == c.turns) && are_rows c.variables (length c.labels) c.turn_lits))
    && (are_lines c.variables (length c.clauses + 2) c.log
    && is_ending c.variables c.ending))))))))

-- The tokens are those of a certificate.
abbrev pub IsCertificateText : List Token → Type 0
IsCertificateText ts = (c : Certificate) × (is_certificate c ≡ true) × (ts ≡ certificate_words c)
