-- What reading gives of the parts of which not all is kept.
use Rattle.std.specs.Prelude.{ℕ, suc, ◌+◌, ◌-◌, Bool, true, false, cond, nat_lt, List, [], ◌∷◌, length, Option, Some, None, codes}
use Rattle.std.specs.Str.{bytes_eq}
use Rattle.clause_form.specs.declared.lit.Lit.{Lit}
use Rattle.clause_form.specs.declared.line.Line.{Line}
use Rattle.format.specs.Format.{Answer, Got, Format, and_then, never, nothing, pair, times, until, turn, map_got}
use Rattle.cert_form.specs.Words.{Token, sp, lf, word, words, behind, spaced, lined, limit, number, literal, value_token, name}
use Rattle.cert_form.specs.Certificate.{nought, any_number, label_word, label_rest, label, depth_line, table_line, shifted_line, up_to_17, moving}
use Rattle.cert_form.specs.Certificate.{tables, Ending, chosen, clause, body, labels, after_variables, opening, Certificate, certificate}

-- nothing is kept
abbrev pub passed : {A : Type 0} → Answer A Token → Answer (Unit {0}) Token
passed a = map_got (λ _. tt) a

-- ---- labels

unfoldable pub name_read : List Token → Answer (Unit {0}) Token
name_read ts = passed (name.read ts)

unfoldable pub idle_read : List Token → Answer (Unit {0}) Token
idle_read ts = passed ((word lf).read ts)

unfoldable pub arrive_read : List Token → Answer (Unit {0}) Token
arrive_read ts = passed ((words (sp ∷ []) (lined name)).read ts)

unfoldable pub step_read : List Token → Answer (Unit {0}) Token
step_read ts = passed ((words (sp ∷ []) (pair (spaced name) (λ _. lined any_number))).read ts)

-- from the word that says which label it is
unfoldable pub label_rest_read : List Token → Answer (Unit {0}) Token
label_rest_read ts = passed ((pair label_word label_rest).read ts)

unfoldable pub label_read : ℕ → List Token → Answer (Unit {0}) Token
label_read a ts = passed ((label a).read ts)

-- so many labels, numbered from i
unfoldable pub labels_read : ℕ → ℕ → List Token → Answer (Unit {0}) Token
labels_read i m ts = passed ((times label i m).read ts)

-- ---- depths and turns

unfoldable pub literal_read : ℕ → List Token → Answer (Unit {0}) Token
literal_read n ts = passed ((lined (literal 0 n)).read ts)

unfoldable pub line_read : Token → ℕ → ℕ → ℕ → List Token → Answer (Unit {0}) Token
line_read w n t i ts = passed ((table_line w n t i).read ts)

-- so many lines of one T, from the second number i on
unfoldable pub row_read : Token → ℕ → ℕ → ℕ → ℕ → List Token → Answer (Unit {0}) Token
row_read w n t i m ts = passed ((times (table_line w n t) i m).read ts)

-- the lines of so many T from i on, with so many lines each
unfoldable pub rows_read : Token → ℕ → ℕ → ℕ → ℕ → List Token → Answer (Unit {0}) Token
rows_read w n width i m ts = passed ((times (λ t. times (table_line w n t) 0 width) i m).read ts)

-- the lines of T = 0, whether others follow or not
abbrev pub first_stop : Bool → Token
first_stop more = cond more (49 ∷ []) (codes "log")

unfoldable pub first_line : Bool → ℕ → ℕ → Format Lit Token
first_line more n d = cond more (shifted_line n d) (depth_line n 0 d)

unfoldable pub first_line_read : Bool → ℕ → ℕ → List Token → Answer (Unit {0}) Token
first_line_read more n d ts = passed ((first_line more n d).read ts)

abbrev pub is_some : {A : Type 0} → Option A → Bool
is_some None = false
is_some (Some x) = true

-- whether there is one more line
unfoldable pub first_turn : Bool → ℕ → ℕ → List Token → Answer Bool Token
first_turn more n d ts =
    map_got is_some (turn (λ t. bytes_eq t (first_stop more)) (cond (nat_lt d 17) (first_line more n d) never) ts)

-- how many lines there are, where there are d already
unfoldable pub first_rest_read : Bool → ℕ → ℕ → List Token → Answer ℕ Token
first_rest_read more n d ts =
    map_got (λ ls. d + length ls) ((until (first_stop more) (λ t. bytes_eq t (first_stop more)) (λ d. cond (nat_lt d 17) (first_line more n d) never) (λ d l. suc d) d).read ts)

unfoldable pub first_row_read : Bool → ℕ → List Token → Answer ℕ Token
first_row_read more n ts = map_got length ((up_to_17 (first_stop more) (first_line more n)).read ts)

-- the row of T = 1 behind its front, and all rows after the first, which has m lines
unfoldable pub second_row_read : ℕ → ℕ → List Token → Answer (Unit {0}) Token
second_row_read n m ts = and_then (literal_read n ts) (λ _ r. row_read (codes "depth") n 1 1 (m - 1) r)

unfoldable pub after_width_read : ℕ → ℕ → ℕ → List Token → Answer (Unit {0}) Token
after_width_read n k m ts =
    and_then ((words (sp ∷ (nought ∷ (sp ∷ []))) nothing).read ts) (λ _ r. and_then (second_row_read n m r) (λ _ r. rows_read (codes "depth") n m 2 k r))

-- the depths where there are k turns and one more
unfoldable pub moving_read : ℕ → ℕ → List Token → Answer (Unit {0}) Token
moving_read n k ts = passed ((moving n k).read ts)

unfoldable pub tables_read : ℕ → ℕ → ℕ → List Token → Answer (Unit {0}) Token
tables_read n q k ts = passed ((tables n q k).read ts)

-- ---- the end

-- the values of a model to the end of their line
unfoldable pub values_end_read : ℕ → List Token → Answer (List Bool) Token
values_end_read n ts = (behind (times (λ v. spaced (value_token v)) 1 n) (nought ∷ (lf ∷ []))).read ts

-- what stands after the verdict's word and the space, to the end
unfoldable pub outcome_end_read : ℕ → List Token → Answer Ending Token
outcome_end_read n ts = (behind (chosen n) (codes "end" ∷ (lf ∷ []))).read ts

-- ---- the whole

unfoldable pub body_read : ℕ → ℕ → ℕ → ℕ → List Token → Answer (List Line × Ending) Token
body_read n c q k ts = map_got (λ b. b.1) ((body n c q k).read ts)

-- from the number of labels on
unfoldable pub labelled_read : ℕ → ℕ → ℕ → List Token → Answer (List Line × Ending) Token
labelled_read n c k ts = map_got (λ p. p.1.1) ((pair labels (λ ls. body n c (length ls) k)).read ts)

-- from the goal on, after c clauses
unfoldable pub lower_read : ℕ → ℕ → ℕ → List Token → Answer (List Lit × (List Line × Ending)) Token
lower_read n k c ts =
    map_got (λ p. (p.0, p.1.1.1)) ((words (codes "goal" ∷ (sp ∷ [])) (pair (lined (clause n)) (λ _. words (codes "labels" ∷ (sp ∷ [])) (pair labels (λ ls. body n c (length ls) k))))).read ts)

-- from the word before the number of labels on, and from the goal's literals on
unfoldable pub label_part_read : ℕ → ℕ → ℕ → List Token → Answer (List Line × Ending) Token
label_part_read n c k ts = and_then ((words (codes "labels" ∷ (sp ∷ [])) nothing).read ts) (λ _ r. labelled_read n c k r)

unfoldable pub goal_part_read : ℕ → ℕ → ℕ → List Token → Answer (List Lit × (List Line × Ending)) Token
goal_part_read n k c ts = and_then ((lined (clause n)).read ts) (λ g r. and_then (label_part_read n c k r) (λ b r. Got (g, b) r))

-- the clauses, the goal, the log and the ending
abbrev pub KeptMiddle : Type 0
KeptMiddle = List (List Lit) × (List Lit × (List Line × Ending))

unfoldable pub middle_read : ℕ → ℕ → List Token → Answer KeptMiddle Token
middle_read k n ts = map_got (λ p. (p.0, (p.1.0, p.1.1.1.1))) ((after_variables k n).read ts)

-- the lines before the clauses: turns, arrivals, budget and variables
abbrev pub Header : Type 0
Header = ℕ × (ℕ × (ℕ × (ℕ × Unit {0})))

abbrev pub header : Format Header Token
header =
    words opening
    (pair (spaced any_number) (λ _. pair (lined any_number) (λ _. words (codes "budget" ∷ (sp ∷ []))
    (pair (lined any_number) (λ _. words (codes "variables" ∷ (sp ∷ [])) (pair (lined (number 1 limit)) (λ _. nothing)))))))

-- the words of the first line, and its number with the word of the second
unfoldable pub title_read : List Token → Answer (Unit {0}) Token
title_read ts = (words (codes "oschk" ∷ (sp ∷ (codes "certificate" ∷ (sp ∷ [])))) nothing).read ts

unfoldable pub version_read : List Token → Answer (Unit {0}) Token
version_read ts = (words (codes "1" ∷ (lf ∷ (codes "bounds" ∷ (sp ∷ [])))) nothing).read ts

unfoldable pub opening_read : List Token → Answer (Unit {0}) Token
opening_read ts = (words opening nothing).read ts

-- turns, budget and variables
unfoldable pub header_read : List Token → Answer (ℕ × (ℕ × ℕ)) Token
header_read ts = map_got (λ (z : Header). (z.0, (z.1.1.0, z.1.1.1.0))) (header.read ts)

-- a word, a space, and a number to the end of the line
unfoldable pub named_number_read : Token → ℕ → ℕ → List Token → Answer ℕ Token
named_number_read w low high ts = and_then ((words (w ∷ (sp ∷ [])) nothing).read ts) (λ _ r. (lined (number low high)).read r)

-- budget and variables; turns, budget and variables
unfoldable pub sizes_read : List Token → Answer (ℕ × ℕ) Token
sizes_read ts =
    and_then (named_number_read (codes "budget") 0 limit ts) (λ b r. and_then (named_number_read (codes "variables") 1 limit r) (λ n r. Got (b, n) r))

unfoldable pub counts_read : List Token → Answer (ℕ × (ℕ × ℕ)) Token
counts_read ts = and_then ((spaced any_number).read ts) (λ k r. and_then ((lined any_number).read r) (λ _ r. and_then (sizes_read r) (λ s r. Got (k, s) r)))

-- the budget, the number of variables and the rest
abbrev pub Kept : Type 0
Kept = ℕ × (ℕ × KeptMiddle)

abbrev pub kept : Certificate → Kept
kept c = (c.budget, (c.variables, (c.clauses, (c.goal, (c.log, c.ending)))))

unfoldable pub certificate_read : List Token → Answer Kept Token
certificate_read ts = map_got kept (certificate.read ts)
