-- The parts of a certificate's text, as bytes.
use Rattle.std.specs.Prelude.{ℕ, suc, Bool, if◌then◌else◌, List, [], ◌∷◌, ◌++◌, codes, decimal}
use Rattle.clause_form.specs.declared.lit.Lit.{Lit}
use Rattle.clause_form.specs.declared.line.Line.{Line}
use Rattle.cert_form.specs.Words.{literal_token, minus}
use Rattle.cert_text.specs.declared.label.LabelText.{LabelText}
use Rattle.cert_text.specs.declared.label.LabelText.TheVariants as l

-- the parts of items one after another, the first of which has this number
abbrev pub parts_from : {A : Type 0} → (ℕ → A → List ℕ) → ℕ → List A → List ℕ
parts_from part n [] = []
parts_from part n (x ∷ xs) = part n x ++ parts_from part (suc n) xs

-- a word and a number in a line
abbrev pub numbered : List ℕ → ℕ → List ℕ
numbered word n = word ++ codes " " ++ decimal n ++ codes "\n"

-- a word and two numbers in a line
abbrev pub pair_line : List ℕ → ℕ → ℕ → List ℕ
pair_line word a b = word ++ codes " " ++ decimal a ++ codes " " ++ decimal b ++ codes "\n"

-- literals, each with a space behind it
abbrev pub spaced_literal : ℕ → Lit → List ℕ
spaced_literal n lit = literal_token lit ++ codes " "

abbrev pub literals_text : List Lit → List ℕ
literals_text lits = parts_from spaced_literal 0 lits

-- the literals of a clause, and 0
abbrev pub clause_text : List Lit → List ℕ
clause_text lits = literals_text lits ++ codes "0"

abbrev pub clause_line : ℕ → List Lit → List ℕ
clause_line n lits = clause_text lits ++ codes "\n"

abbrev pub spaced_number : ℕ → ℕ → List ℕ
spaced_number n hint = decimal hint ++ codes " "

abbrev pub hints_text : List ℕ → List ℕ
hints_text hints = parts_from spaced_number 0 hints

-- a line of the log: its clause, and its hints
abbrev pub log_line : Line → List ℕ
log_line line = clause_text line.clause ++ codes " " ++ hints_text line.hints ++ codes "0\n"

abbrev pub log_part : ℕ → Line → List ℕ
log_part n line = log_line line

abbrev pub label_text : LabelText → List ℕ
label_text l.Idle = codes "idle"
label_text (l.Arrive name) = codes "arrive " ++ name
label_text (l.Step name point) = codes "step " ++ name ++ codes " " ++ decimal point

abbrev pub label_line : ℕ → LabelText → List ℕ
label_line n label = codes "label " ++ decimal n ++ codes " " ++ label_text label ++ codes "\n"

-- a literal of a table, with its row and column
abbrev pub cell_line : List ℕ → ℕ → ℕ → Lit → List ℕ
cell_line word row column lit = word ++ codes " " ++ decimal row ++ codes " " ++ decimal column ++ codes " " ++ literal_token lit ++ codes "\n"

abbrev pub row_lines : List ℕ → ℕ → List Lit → List ℕ
row_lines word row lits = parts_from (cell_line word row) 0 lits

-- the rows of a table, the first of which has this number
abbrev pub table_lines : List ℕ → ℕ → List (List Lit) → List ℕ
table_lines word n rows = parts_from (row_lines word) n rows

-- a variable with its value, and a space
abbrev pub value_text : ℕ → Bool → List ℕ
value_text variable value = (if value then [] else codes "-") ++ decimal variable ++ codes " "
