-- The text of a certificate, plainly: its tokens from first to last.
use Rattle.std.specs.Prelude.{ℕ, suc, Bool, cond, List, [], ◌∷◌, ◌++◌, length, codes}
use Rattle.std.specs.Fmt.{decimal}
use Rattle.clause_form.specs.declared.lit.Lit.{Lit}
use Rattle.clause_form.specs.declared.line.Line.{Line}
use Rattle.cert_form.specs.Words.{Token, sp, lf, minus, literal_token}
use Rattle.cert_form.specs.Certificate.{nought, Label, Idle, Arrive, Step, Ending, Holds, Fails, Undecided, Certificate}

abbrev pub literals_text : List Lit → List Token
literals_text [] = nought ∷ []
literals_text (l ∷ ls) = literal_token l ∷ (sp ∷ literals_text ls)

abbrev pub numbers_text : List ℕ → List Token
numbers_text [] = nought ∷ []
numbers_text (n ∷ ns) = decimal n ∷ (sp ∷ numbers_text ns)

abbrev pub clauses_text : List (List Lit) → List Token
clauses_text [] = []
clauses_text (c ∷ cs) = (literals_text c ++ lf ∷ []) ++ clauses_text cs

abbrev pub label_end : Label → List Token
label_end Idle = codes "idle" ∷ lf ∷ []
label_end (Arrive name) = codes "arrive" ∷ sp ∷ name ∷ lf ∷ []
label_end (Step name p) = codes "step" ∷ sp ∷ name ∷ sp ∷ decimal p ∷ lf ∷ []

-- numbered from a
abbrev pub labels_text : ℕ → List Label → List Token
labels_text a [] = []
labels_text a (l ∷ ls) = (codes "label" ∷ (sp ∷ (decimal a ∷ (sp ∷ label_end l)))) ++ labels_text (suc a) ls

-- the lines of one T, from D on; those of all T
abbrev pub row_text : Token → ℕ → ℕ → List Lit → List Token
row_text w t d [] = []
row_text w t d (l ∷ ls) = w ∷ (sp ∷ (decimal t ∷ (sp ∷ (decimal d ∷ (sp ∷ (literal_token l ∷ (lf ∷ row_text w t (suc d) ls)))))))

abbrev pub rows_text : Token → ℕ → List (List Lit) → List Token
rows_text w t [] = []
rows_text w t (r ∷ rs) = row_text w t 0 r ++ rows_text w (suc t) rs

abbrev pub log_text : List Line → List Token
log_text [] = []
log_text (l ∷ ls) = ((literals_text l.clause ++ sp ∷ []) ++ (numbers_text l.hints ++ lf ∷ [])) ++ log_text ls

abbrev pub model_text : ℕ → List Bool → List Token
model_text v [] = []
model_text v (b ∷ bs) = cond b (decimal v) (minus ∷ decimal v) ∷ (sp ∷ model_text (suc v) bs)

abbrev pub ending_text : Ending → List Token
ending_text Holds = codes "holds" ∷ (lf ∷ (codes "end" ∷ (lf ∷ [])))
ending_text (Fails m) = codes "fails" ∷ (lf ∷ (codes "model" ∷ (sp ∷ (model_text 1 m ++ (nought ∷ (lf ∷ (codes "end" ∷ (lf ∷ []))))))))
ending_text Undecided = codes "undecided" ∷ (lf ∷ (codes "end" ∷ (lf ∷ [])))

-- a word, and a number to the end of the line
abbrev pub numbered : Token → ℕ → List Token → List Token
numbered w n more = w ∷ (sp ∷ (decimal n ∷ (lf ∷ more)))

-- the parts from the clauses on
abbrev pub lower_text : Certificate → List Token
lower_text c =
    clauses_text c.clauses
    ++ (codes "goal" ∷ (sp ∷ (literals_text c.goal ++ (lf ∷ numbered (codes "labels") (length c.labels)
    (labels_text 0 c.labels
    ++ (rows_text (codes "depth") 0 c.depth_lits
    ++ (rows_text (codes "turn") 1 c.turn_lits
    ++ (codes "log" ∷ (lf ∷ (log_text c.log ++ (codes "verdict" ∷ (sp ∷ ending_text c.ending))))))))))))

-- the tokens of a certificate's text, from the first to the last
abbrev pub certificate_words : Certificate → List Token
certificate_words c =
    codes "oschk" ∷ (sp ∷ (codes "certificate" ∷ (sp ∷ (codes "1" ∷ (lf ∷ (codes "bounds" ∷ (sp ∷ (decimal c.turns ∷ (sp ∷ (decimal c.arrivals ∷ (lf ∷
    numbered (codes "budget") c.budget (numbered (codes "variables") c.variables (numbered (codes "clauses") (length c.clauses) (lower_text c))))))))))))))
