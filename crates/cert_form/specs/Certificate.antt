-- The format of certificates.
use Rattle.std.specs.Prelude.{ℕ, zero, suc, ◌+◌, ◌-◌, Bool, true, cond, nat_lt, min, List, [], ◌∷◌, length, Option, Some, None, codes}
use Rattle.std.specs.Fmt.{decimal}
use Rattle.std.specs.Str.{bytes_eq}
use Rattle.clause_form.specs.declared.lit.Lit.{Lit}
use Rattle.clause_form.specs.declared.line.Line.{Line}
use Rattle.clause_form.specs.Literals.{variable}
use Rattle.format.specs.Format.{Answer, turn, Format, one, never, pair, mapped, times, counted, until, uncons}
use Rattle.cert_form.specs.Words.{Token, sp, lf, limit, word, words, behind, spaced, lined, number, literal, value_token, name}

abbrev pub nought : Token
nought = 48 ∷ []

abbrev pub any_number : Format ℕ Token
any_number = number 0 limit

-- ---- clauses, and lines of the log

-- literals rising by variable, each followed by a space, and 0
unfoldable pub clause_from : ℕ → ℕ → Format (List Lit) Token
clause_from n above = until nought (λ t. bytes_eq t nought) (λ above. spaced (literal above n)) (λ above l. variable l) above

abbrev pub clause : ℕ → Format (List Lit) Token
clause n = clause_from n 0

-- what is read at one turn of a clause: a literal, or none at the end
unfoldable pub clause_turn : ℕ → ℕ → List Token → Answer (Option Lit) Token
clause_turn n above ts = turn (λ t. bytes_eq t nought) (spaced (literal above n)) ts

-- numbers below that of the line itself, each followed by a space, and 0
unfoldable pub hints : ℕ → Format (List ℕ) Token
hints own = until nought (λ t. bytes_eq t nought) (λ own. spaced (number 1 (min own limit))) (λ own h. own) own

unfoldable pub hint_turn : ℕ → List Token → Answer (Option ℕ) Token
hint_turn own ts = turn (λ t. bytes_eq t nought) (spaced (number 1 (min own limit))) ts

unfoldable pub log_line : ℕ → ℕ → Format Line Token
log_line n own =
    mapped (λ p. record { clause = p.0; hints = p.1 }) (λ l. Some (l.clause, l.hints)) (pair (spaced (clause n)) (λ _. lined (hints own)))

-- the lines, and the word after them
unfoldable pub log : ℕ → ℕ → Format (List Line) Token
log n own = until (codes "verdict") (λ t. bytes_eq t (codes "verdict")) (log_line n) (λ own l. own + 1) own

unfoldable pub log_turn : ℕ → ℕ → List Token → Answer (Option Line) Token
log_turn n own ts = turn (λ t. bytes_eq t (codes "verdict")) (log_line n own) ts

-- ---- labels

pub data Label : Type 0 where
  Idle : Label
  Arrive : Token → Label
  Step : Token → ℕ → Label

pub data LabelWord : Type 0 where
  IdleWord : LabelWord
  ArriveWord : LabelWord
  StepWord : LabelWord

abbrev pub label_token : LabelWord → Token
label_token IdleWord = codes "idle"
label_token ArriveWord = codes "arrive"
label_token StepWord = codes "step"

abbrev pub label_word_of : Token → Option LabelWord
label_word_of t = cond (bytes_eq t (codes "idle")) (Some IdleWord) (cond (bytes_eq t (codes "arrive")) (Some ArriveWord) (cond (bytes_eq t (codes "step")) (Some StepWord) None))

unfoldable pub label_word : Format LabelWord Token
label_word = one (λ _. true) label_token label_word_of

abbrev pub word_of_label : Label → LabelWord
word_of_label Idle = IdleWord
word_of_label (Arrive a) = ArriveWord
word_of_label (Step a p) = StepWord

abbrev pub as_idle : Label → Option (Unit {0})
as_idle Idle = Some tt
as_idle _ = None

abbrev pub as_arrive : Label → Option Token
as_arrive (Arrive a) = Some a
as_arrive _ = None

abbrev pub as_step : Label → Option (Token × ℕ)
as_step (Step a p) = Some (a, p)
as_step _ = None

abbrev pub label_rest : LabelWord → Format Label Token
label_rest IdleWord = mapped (λ _. Idle) as_idle (word lf)
label_rest ArriveWord = mapped Arrive as_arrive (words (sp ∷ []) (lined name))
label_rest StepWord = mapped (λ p. Step p.0 p.1) as_step (words (sp ∷ []) (pair (spaced name) (λ _. lined any_number)))

unfoldable pub label : ℕ → Format Label Token
label a = words (codes "label" ∷ sp ∷ decimal a ∷ sp ∷ []) (mapped (λ p. p.1) (λ l. Some (word_of_label l, l)) (pair label_word label_rest))

-- ---- depths and turns

-- a line that begins with this word and these two numbers
unfoldable pub table_line : Token → ℕ → ℕ → ℕ → Format Lit Token
table_line w n t i = words (w ∷ sp ∷ decimal t ∷ sp ∷ decimal i ∷ sp ∷ []) (lined (literal 0 n))

abbrev pub depth_line : ℕ → ℕ → ℕ → Format Lit Token
depth_line n t d = table_line (codes "depth") n t d

abbrev pub turn_line : ℕ → ℕ → ℕ → Format Lit Token
turn_line n t a = table_line (codes "turn") n t a

-- the lines of T = 0, cut so that each but the first begins where the next thing is decided: at T
unfoldable pub shifted_line : ℕ → ℕ → Format Lit Token
shifted_line n d = words (nought ∷ sp ∷ decimal d ∷ sp ∷ []) (behind (lined (literal 0 n)) (codes "depth" ∷ sp ∷ []))

-- from one to seventeen lines, and then a token that isn't how a line begins
abbrev pub up_to_17 : Token → (ℕ → Format Lit Token) → Format (List Lit) Token
up_to_17 stop line =
    mapped (λ p. p.0 ∷ p.1) uncons (pair (line 0) (λ _. until stop (λ t. bytes_eq t stop) (λ d. cond (nat_lt d 17) (line d) never) (λ d l. suc d) 1))

-- for each T from 0 to K the literals by D, and for each T from 1 to K the literals by A
abbrev pub Tables : Type 0
Tables = List (List Lit) × List (List Lit)

abbrev pub single : {A : Type 0} → List A → Option A
single (x ∷ []) = Some x
single _ = None

-- without turns
unfoldable pub still : ℕ → Format (List (List Lit)) Token
still n = mapped (λ r. r ∷ []) single (up_to_17 (codes "log") (depth_line n 0))

abbrev pub as_rows : List (List Lit) → Option (List Lit × (List Lit × List (List Lit)))
as_rows (r ∷ (s ∷ rows)) = Some (r, (s, rows))
as_rows _ = None

-- the line of T = 1 and D = 0, which has begun, the other lines of T = 1, and those of T from 2 to K = k + 1
abbrev pub rows_after : ℕ → ℕ → List Lit → Format (List Lit × List (List Lit)) Token
rows_after n k r =
    words (sp ∷ nought ∷ sp ∷ [])
    (pair
    (mapped (λ p. p.0 ∷ p.1) uncons (pair (lined (literal 0 n)) (λ _. times (depth_line n 1) 1 (length r - 1))))
    (λ _. times (λ t. times (depth_line n t) 0 (length r)) 2 k))

unfoldable pub moving : ℕ → ℕ → Format (List (List Lit)) Token
moving n k =
    mapped (λ p. p.0 ∷ (p.1.0 ∷ p.1.1)) as_rows
    (words (codes "depth" ∷ sp ∷ []) (pair (up_to_17 (49 ∷ []) (shifted_line n)) (rows_after n k)))

abbrev pub no_rows : List (List Lit) → Option (Unit {0})
no_rows [] = Some tt
no_rows (r ∷ rs) = None

unfoldable pub tables : ℕ → ℕ → ℕ → Format Tables Token
tables n q zero = pair (still n) (λ _. mapped (λ _. []) no_rows (word lf))
tables n q (suc k) = pair (moving n k) (λ _. behind (times (λ t. times (turn_line n t) 0 q) 1 (suc k)) (codes "log" ∷ lf ∷ []))

-- ---- the end

pub data Ending : Type 0 where
  Holds : Ending
  Fails : List Bool → Ending
  Undecided : Ending

pub data EndWord : Type 0 where
  HoldsWord : EndWord
  FailsWord : EndWord
  UndecidedWord : EndWord

abbrev pub end_token : EndWord → Token
end_token HoldsWord = codes "holds"
end_token FailsWord = codes "fails"
end_token UndecidedWord = codes "undecided"

abbrev pub end_word_of : Token → Option EndWord
end_word_of t = cond (bytes_eq t (codes "holds")) (Some HoldsWord) (cond (bytes_eq t (codes "fails")) (Some FailsWord) (cond (bytes_eq t (codes "undecided")) (Some UndecidedWord) None))

unfoldable pub end_word : Format EndWord Token
end_word = one (λ _. true) end_token end_word_of

abbrev pub word_of_end : Ending → EndWord
word_of_end Holds = HoldsWord
word_of_end (Fails m) = FailsWord
word_of_end Undecided = UndecidedWord

abbrev pub as_holds : Ending → Option (Unit {0})
as_holds Holds = Some tt
as_holds _ = None

abbrev pub as_undecided : Ending → Option (Unit {0})
as_undecided Undecided = Some tt
as_undecided _ = None

abbrev pub as_fails : Ending → Option (List Bool)
as_fails (Fails m) = Some m
as_fails _ = None

unfoldable pub model : ℕ → Format (List Bool) Token
model n = words (codes "model" ∷ sp ∷ []) (behind (times (λ v. spaced (value_token v)) 1 n) (nought ∷ lf ∷ []))

abbrev pub end_rest : ℕ → EndWord → Format Ending Token
end_rest n HoldsWord = mapped (λ _. Holds) as_holds (word lf)
end_rest n FailsWord = mapped Fails as_fails (words (lf ∷ []) (model n))
end_rest n UndecidedWord = mapped (λ _. Undecided) as_undecided (word lf)

-- what stands after the verdict's word and the space
unfoldable pub chosen : ℕ → Format Ending Token
chosen n = mapped (λ p. p.1) (λ e. Some (word_of_end e, e)) (pair end_word (end_rest n))

unfoldable pub ending : ℕ → Format Ending Token
ending n =
    words (sp ∷ []) (behind (chosen n) (codes "end" ∷ lf ∷ []))

-- ---- the whole

abbrev pub labels : Format (List Label) Token
labels = counted (lined any_number) label

abbrev pub clauses : ℕ → Format (List (List Lit)) Token
clauses n = counted (lined any_number) (λ _. lined (clause n))

abbrev pub Body : Type 0
Body = Tables × (List Line × Ending)

-- depths and turns, the log, and the end; the log's first line has the number after the goal's
abbrev pub body : ℕ → ℕ → ℕ → ℕ → Format Body Token
body n c q k = pair (tables n q k) (λ _. pair (log n (c + 2)) (λ _. ending n))

abbrev pub Lower : Type 0
Lower = List Lit × (List Label × Body)

abbrev pub after_clauses : ℕ → ℕ → List (List Lit) → Format Lower Token
after_clauses n k cs =
    words (codes "goal" ∷ sp ∷ []) (pair (lined (clause n)) (λ _. words (codes "labels" ∷ sp ∷ []) (pair labels (λ ls. body n (length cs) (length ls) k))))

abbrev pub Middle : Type 0
Middle = List (List Lit) × Lower

abbrev pub after_variables : ℕ → ℕ → Format Middle Token
after_variables k n = words (codes "clauses" ∷ sp ∷ []) (pair (clauses n) (after_clauses n k))

abbrev pub Upper : Type 0
Upper = ℕ × (ℕ × (ℕ × (ℕ × Middle)))

abbrev pub opening : List Token
opening = codes "oschk" ∷ sp ∷ codes "certificate" ∷ sp ∷ codes "1" ∷ lf ∷ codes "bounds" ∷ sp ∷ []

-- K, M, B and N, and the rest; a text without variables has no depth line
abbrev pub upper : Format Upper Token
upper =
    words opening
    (pair (spaced any_number) (λ k. pair (lined any_number) (λ _. words (codes "budget" ∷ sp ∷ [])
    (pair (lined any_number) (λ _. words (codes "variables" ∷ sp ∷ []) (pair (lined (number 1 limit)) (after_variables k)))))))

pub record Certificate : Type 0 where
  pub turns : ℕ
  pub arrivals : ℕ
  pub budget : ℕ
  pub variables : ℕ
  pub clauses : List (List Lit)
  pub goal : List Lit
  pub labels : List Label
  pub depth_lits : List (List Lit)
  pub turn_lits : List (List Lit)
  pub log : List Line
  pub ending : Ending

abbrev pub certificate_from : Upper → Certificate
certificate_from u =
    let low = u.1.1.1.1.1 in
    record { turns = u.0; arrivals = u.1.0; budget = u.1.1.0; variables = u.1.1.1.0; clauses = u.1.1.1.1.0; goal = low.0; labels = low.1.0; depth_lits = low.1.1.0.0; turn_lits = low.1.1.0.1; log = low.1.1.1.0; ending = low.1.1.1.1 }

abbrev pub parts_of : Certificate → Upper
parts_of c = (c.turns, (c.arrivals, (c.budget, (c.variables, (c.clauses, (c.goal, (c.labels, ((c.depth_lits, c.turn_lits), (c.log, c.ending)))))))))

unfoldable pub certificate : Format Certificate Token
certificate = mapped certificate_from (λ c. Some (parts_of c)) upper
