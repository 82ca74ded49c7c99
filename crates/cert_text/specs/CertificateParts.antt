-- What a certificate says before its log, and from there on, as bytes.
use Rattle.std.specs.Prelude.{ℕ, Bool, List, ◌++◌, length, codes, decimal}
use Rattle.cert_form.specs.Certificate as c
use Rattle.clause_form.specs.declared.formula.Formula.{Formula}
use Rattle.clause_form.specs.declared.lit.Lit.{Lit}
use Rattle.clause_form.specs.declared.line.Line.{Line}
use Rattle.turn_encoding.specs.declared.encoding.Encoding.{Encoding}
use Rattle.cert_text.specs.declared.front.Bounds.{Bounds}
use Rattle.cert_text.specs.declared.label.LabelText.{LabelText}
use Rattle.cert_text.specs.Parts.{parts_from, numbered, pair_line, clause_text, clause_line, label_line, log_part, table_lines, value_text}

-- the title and the bounds
abbrev pub bounds_text : Bounds → List ℕ
bounds_text b = codes "oschk certificate 1\n" ++ pair_line (codes "bounds") b.turns b.arrivals

-- the budget, and how many variables and clauses there are
abbrev pub counts_text : ℕ → Formula → List ℕ
counts_text budget f =
    numbered (codes "budget") budget ++ numbered (codes "variables") f.variables ++ numbered (codes "clauses") (length f.clauses)

abbrev pub head_text : Bounds → Formula → List ℕ
head_text b f = bounds_text b ++ counts_text b.budget f

abbrev pub upper_text : Bounds → Formula → List ℕ
upper_text b f = head_text b f ++ parts_from clause_line 0 f.clauses

-- the goal, and the number of labels
abbrev pub goal_text : List Lit → List LabelText → List ℕ
goal_text goal labels = codes "goal " ++ clause_text goal ++ codes "\n" ++ numbered (codes "labels") (length labels)

abbrev pub middle_text : List Lit → List LabelText → List ℕ
middle_text goal labels = goal_text goal labels ++ parts_from label_line 0 labels

-- the literals of labels, and where the log begins
abbrev pub turns_text : Encoding → List ℕ
turns_text e = table_lines (codes "turn") 1 e.alternatives ++ codes "log\n"

-- the literals of depths and labels
abbrev pub tables_text : Encoding → List ℕ
tables_text e = table_lines (codes "depth") 0 e.depths ++ turns_text e

-- from the goal on
abbrev pub lower_text : Encoding → List LabelText → List ℕ
lower_text e labels = middle_text e.goal labels ++ tables_text e

-- what stands before the log
abbrev pub front_text : Bounds → Encoding → List LabelText → List ℕ
front_text b e labels = upper_text b e.formula ++ lower_text e labels

-- the values of a model, and the end
abbrev pub values_text : List Bool → List ℕ
values_text values = parts_from value_text 1 values ++ codes "0\nend\n"

-- the model, and the end
abbrev pub model_text : List Bool → List ℕ
model_text values = codes "verdict fails\nmodel " ++ values_text values

-- the verdict, the model where it fails, and the end
abbrev pub ending_text : c.Ending → List ℕ
ending_text c.Holds = codes "verdict holds\nend\n"
ending_text (c.Fails values) = model_text values
ending_text c.Undecided = codes "verdict undecided\nend\n"

-- the log, and what stands behind it
abbrev pub rest_text : List Line → c.Ending → List ℕ
rest_text log ending = parts_from log_part 0 log ++ ending_text ending
