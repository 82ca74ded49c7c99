-- The parts are together the text of the certificate.
use Rattle.std.proofs.Common.{◌≡◌, ℕ, zero, suc, ◌+◌, Bool, true, false, List, [], ◌∷◌, ◌++◌, map, length, codes, refl, sym, ◌∙◌, ap, append_assoc, arith}
use Rattle.std.specs.Fmt.{decimal}
use Rattle.std.proofs.lemmas.List.{append-nil}
use Rattle.clause_form.specs.declared.lit.Lit.{Lit}
use Rattle.clause_form.specs.declared.line.Line.{Line}
use Rattle.cert_form.specs.Words.{Token, sp, lf, literal_token}
use Rattle.cert_form.specs.Certificate.{Label, Ending, Holds, Fails, Undecided}
use Rattle.cert_form.specs.CertificateText.{certificate_words, literals_text, numbers_text, clauses_text, label_end, labels_text, row_text, rows_text, log_text, model_text, ending_text, lower_text, numbered}
use Rattle.cert_form.specs.Texts.{concat}
use Rattle.turn_encoding.specs.declared.encoding.Encoding.{Encoding}
use Rattle.cert_text.specs.declared.front.Bounds.{Bounds}
use Rattle.cert_text.specs.declared.label.LabelText.{LabelText}
use Rattle.cert_text.specs.declared.label.LabelText.TheVariants as l
use Rattle.cert_text.specs.Parts as p
use Rattle.cert_text.specs.CertificateParts as parts
use Rattle.cert_text.specs.CertificateText.{certificate_text, label_of, certificate_of}

joined : (xs ys : List Token) → concat (xs ++ ys) ≡ concat xs ++ concat ys
joined [] ys = refl
joined (x ∷ xs) ys = ap (λ w. x ++ w) (joined xs ys) ∙ sym (append_assoc x (concat xs) (concat ys))

literals : (n : ℕ) (ls : List Lit) (more : List Token) → concat (literals_text ls ++ more) ≡ p.parts_from p.spaced_literal n ls ++ (codes "0" ++ concat more)
literals n [] more = refl
literals n (x ∷ ls) more =
    ap (λ w. literal_token x ++ (codes " " ++ w)) (literals (suc n) ls more)
    ∙ sym (ap (λ w. w) (append_assoc (literal_token x ++ codes " ") (p.parts_from p.spaced_literal (suc n) ls) (codes "0" ++ concat more) ∙ append_assoc (literal_token x) (codes " ") (p.parts_from p.spaced_literal (suc n) ls ++ (codes "0" ++ concat more))))

clause : (ls : List Lit) (more : List Token) → concat (literals_text ls ++ more) ≡ p.clause_text ls ++ concat more
clause ls more = literals 0 ls more ∙ sym (append_assoc (p.literals_text ls) (codes "0") (concat more))

hints : (n : ℕ) (hs : List ℕ) (more : List Token) → concat (numbers_text hs ++ more) ≡ p.parts_from p.spaced_number n hs ++ (codes "0" ++ concat more)
hints n [] more = refl
hints n (h ∷ hs) more =
    ap (λ w. decimal h ++ (codes " " ++ w)) (hints (suc n) hs more)
    ∙ sym (append_assoc (decimal h ++ codes " ") (p.parts_from p.spaced_number (suc n) hs) (codes "0" ++ concat more) ∙ append_assoc (decimal h) (codes " ") (p.parts_from p.spaced_number (suc n) hs ++ (codes "0" ++ concat more)))

clauses : (n : ℕ) (cs : List (List Lit)) (more : List Token) → concat (clauses_text cs ++ more) ≡ p.parts_from p.clause_line n cs ++ concat more
clauses n [] more = refl
clauses n (c ∷ cs) more =
    ap concat (append_assoc (literals_text c ++ lf ∷ []) (clauses_text cs) more ∙ append_assoc (literals_text c) (lf ∷ []) (clauses_text cs ++ more))
    ∙ clause c (lf ∷ (clauses_text cs ++ more))
    ∙ ap (λ w. p.clause_text c ++ (codes "\n" ++ w)) (clauses (suc n) cs more)
    ∙ sym (append_assoc (p.clause_text c ++ codes "\n") (p.parts_from p.clause_line (suc n) cs) (concat more) ∙ append_assoc (p.clause_text c) (codes "\n") (p.parts_from p.clause_line (suc n) cs ++ concat more))

label : (n : ℕ) (x : LabelText) (more : List Token) → concat ((codes "label" ∷ (sp ∷ (decimal n ∷ (sp ∷ label_end (label_of x))))) ++ more) ≡ p.label_line n x ++ concat more
label n l.Idle more = grind (arith, append_assoc)
label n (l.Arrive name) more = grind (arith, append_assoc)
label n (l.Step name point) more = grind (arith, append_assoc)

labels : (n : ℕ) (xs : List LabelText) (more : List Token) → concat (labels_text n (map label_of xs) ++ more) ≡ p.parts_from p.label_line n xs ++ concat more
labels n [] more = refl
labels n (x ∷ xs) more =
    ap concat (append_assoc (codes "label" ∷ (sp ∷ (decimal n ∷ (sp ∷ label_end (label_of x))))) (labels_text (suc n) (map label_of xs)) more)
    ∙ label n x (labels_text (suc n) (map label_of xs) ++ more)
    ∙ ap (λ w. p.label_line n x ++ w) (labels (suc n) xs more)
    ∙ sym (append_assoc (p.label_line n x) (p.parts_from p.label_line (suc n) xs) (concat more))

cell_joined : (a b c d more : List ℕ) → a ++ (codes " " ++ (b ++ (codes " " ++ (c ++ (codes " " ++ (d ++ (codes "\n" ++ more))))))) ≡ (a ++ codes " " ++ b ++ codes " " ++ c ++ codes " " ++ d ++ codes "\n") ++ more
cell_joined a b c d more = simp append_assoc

row : (w : Token) (t d : ℕ) (ls : List Lit) (more : List Token) → concat (row_text w t d ls ++ more) ≡ p.parts_from (p.cell_line w t) d ls ++ concat more
row w t d [] more = refl
row w t d (x ∷ ls) more =
    ap (λ (z : List ℕ). w ++ (codes " " ++ (decimal t ++ (codes " " ++ (decimal d ++ (codes " " ++ (literal_token x ++ (codes "\n" ++ z)))))))) (row w t (suc d) ls more)
    ∙ cell_joined w (decimal t) (decimal d) (literal_token x) (p.parts_from (p.cell_line w t) (suc d) ls ++ concat more)
    ∙ sym (append_assoc (p.cell_line w t d x) (p.parts_from (p.cell_line w t) (suc d) ls) (concat more))

rows : (w : Token) (t : ℕ) (rs : List (List Lit)) (more : List Token) → concat (rows_text w t rs ++ more) ≡ p.table_lines w t rs ++ concat more
rows w t [] more = refl
rows w t (r ∷ rs) more =
    ap concat (append_assoc (row_text w t 0 r) (rows_text w (suc t) rs) more)
    ∙ row w t 0 r (rows_text w (suc t) rs ++ more)
    ∙ ap (λ x. p.row_lines w t r ++ x) (rows w (suc t) rs more)
    ∙ sym (append_assoc (p.row_lines w t r) (p.table_lines w (suc t) rs) (concat more))

line : (x : Line) (more : List Token) → concat (((literals_text x.clause ++ sp ∷ []) ++ (numbers_text x.hints ++ lf ∷ [])) ++ more) ≡ p.log_line x ++ concat more
line x more =
    let a = clause x.clause (sp ∷ ((numbers_text x.hints ++ lf ∷ []) ++ more)) in
    let b = hints 0 x.hints (lf ∷ more) in
    grind (arith, append_assoc, a, b)

log : (n : ℕ) (xs : List Line) (more : List Token) → concat (log_text xs ++ more) ≡ p.parts_from p.log_part n xs ++ concat more
log n [] more = refl
log n (x ∷ xs) more =
    ap concat (append_assoc ((literals_text x.clause ++ sp ∷ []) ++ (numbers_text x.hints ++ lf ∷ [])) (log_text xs) more)
    ∙ line x (log_text xs ++ more)
    ∙ ap (λ w. p.log_line x ++ w) (log (suc n) xs more)
    ∙ sym (append_assoc (p.log_line x) (p.parts_from p.log_part (suc n) xs) (concat more))

model : (v : ℕ) (bs : List Bool) (more : List Token) → concat (model_text v bs ++ more) ≡ p.parts_from p.value_text v bs ++ concat more
model v [] more = refl
model v (true ∷ bs) more = let ih = model (suc v) bs more in grind (arith, append_assoc, ih)
model v (false ∷ bs) more = let ih = model (suc v) bs more in grind (arith, append_assoc, ih)

ending : (x : Ending) → concat (codes "verdict" ∷ (sp ∷ ending_text x)) ≡ parts.ending_text x
ending Holds = refl
ending (Fails values) = ap (λ w. codes "verdict fails\nmodel " ++ w) (model 1 values (codes "0" ∷ (lf ∷ (codes "end" ∷ (lf ∷ [])))))
ending Undecided = refl

rest : (xs : List Line) (x : Ending) → concat (log_text xs ++ (codes "verdict" ∷ (sp ∷ ending_text x))) ≡ parts.rest_text xs x
rest xs x = log 0 xs (codes "verdict" ∷ (sp ∷ ending_text x)) ∙ ap (λ w. p.parts_from p.log_part 0 xs ++ w) (ending x)

tables : (b : Encoding) (more : List Token) → concat (rows_text (codes "depth") 0 b.depths ++ (rows_text (codes "turn") 1 b.alternatives ++ (codes "log" ∷ (lf ∷ more)))) ≡ parts.tables_text b ++ concat more
tables b more =
    rows (codes "depth") 0 b.depths (rows_text (codes "turn") 1 b.alternatives ++ (codes "log" ∷ (lf ∷ more)))
    ∙ ap (λ w. p.table_lines (codes "depth") 0 b.depths ++ w) (rows (codes "turn") 1 b.alternatives (codes "log" ∷ (lf ∷ more)))
    ∙ sym (append_assoc (p.table_lines (codes "depth") 0 b.depths) (p.table_lines (codes "turn") 1 b.alternatives ++ codes "log\n") (concat more) ∙ ap (λ w. p.table_lines (codes "depth") 0 b.depths ++ w) (append_assoc (p.table_lines (codes "turn") 1 b.alternatives) (codes "log\n") (concat more)))

counted : (n : ℕ) (xs : List LabelText) (goal : List Lit) (more : List Token)
    → n ≡ length xs
    → concat (codes "goal" ∷ (sp ∷ (literals_text goal ++ (lf ∷ numbered (codes "labels") n (labels_text 0 (map label_of xs) ++ more))))) ≡ parts.middle_text goal xs ++ concat more
counted n xs goal more is =
    let a = clause goal (lf ∷ numbered (codes "labels") n (labels_text 0 (map label_of xs) ++ more)) in
    let b = labels 0 xs more in
    grind (arith, append_assoc, a, b, is)

map_length : (xs : List LabelText) → length (map label_of xs) ≡ length xs
map_length [] = refl
map_length (x ∷ xs) = ap suc (map_length xs)

number_joined : (w : List ℕ) (n : ℕ) (more : List ℕ) → w ++ (codes " " ++ (decimal n ++ (codes "\n" ++ more))) ≡ p.numbered w n ++ more
number_joined w n more = simp append_assoc

pair_joined : (w : List ℕ) (a b : ℕ) (more : List ℕ) → w ++ (codes " " ++ (decimal a ++ (codes " " ++ (decimal b ++ (codes "\n" ++ more))))) ≡ p.pair_line w a b ++ more
pair_joined w a b more = simp append_assoc

regrouped : (t p a b c q more : List ℕ) → t ++ (p ++ (a ++ (b ++ (c ++ (q ++ more))))) ≡ (((t ++ p) ++ (a ++ b ++ c)) ++ q) ++ more
regrouped t p a b c q more = simp append_assoc

upper : (b : Bounds) (x : Encoding) (more : List Token)
    → concat (codes "oschk" ∷ (sp ∷ (codes "certificate" ∷ (sp ∷ (codes "1" ∷ (lf ∷ (codes "bounds" ∷ (sp ∷ (decimal b.turns ∷ (sp ∷ (decimal b.arrivals ∷ (lf ∷ numbered (codes "budget") b.budget (numbered (codes "variables") x.formula.variables (numbered (codes "clauses") (length x.formula.clauses) (clauses_text x.formula.clauses ++ more))))))))))))))) ≡ parts.upper_text b x.formula ++ concat more
upper b x more =
    let R = concat (clauses_text x.formula.clauses ++ more) in
    ap (λ (z : List ℕ). codes "oschk certificate 1\n" ++ z)
    (pair_joined (codes "bounds") b.turns b.arrivals _
    ∙ ap (λ (z : List ℕ). p.pair_line (codes "bounds") b.turns b.arrivals ++ z)
    (number_joined (codes "budget") b.budget _
    ∙ ap (λ (z : List ℕ). p.numbered (codes "budget") b.budget ++ z)
    (number_joined (codes "variables") x.formula.variables _
    ∙ ap (λ (z : List ℕ). p.numbered (codes "variables") x.formula.variables ++ z)
    (number_joined (codes "clauses") (length x.formula.clauses) R
    ∙ ap (λ (z : List ℕ). p.numbered (codes "clauses") (length x.formula.clauses) ++ z) (clauses 0 x.formula.clauses more)))))
    ∙ regrouped (codes "oschk certificate 1\n") (p.pair_line (codes "bounds") b.turns b.arrivals) (p.numbered (codes "budget") b.budget) (p.numbered (codes "variables") x.formula.variables) (p.numbered (codes "clauses") (length x.formula.clauses)) (p.parts_from p.clause_line 0 x.formula.clauses) (concat more)

pub whole : (b : Bounds) (x : Encoding) (labels : List LabelText) (log : List Line) (end : Ending) → parts.front_text b x labels ++ parts.rest_text log end ≡ certificate_text (certificate_of b x labels log end)
whole b x labels log end =
    let r = rest log end in
    let t = tables x (log_text log ++ (codes "verdict" ∷ (sp ∷ ending_text end))) in
    let m = counted (length (map label_of labels)) labels x.goal (rows_text (codes "depth") 0 x.depths ++ (rows_text (codes "turn") 1 x.alternatives ++ (codes "log" ∷ (lf ∷ (log_text log ++ (codes "verdict" ∷ (sp ∷ ending_text end))))))) (map_length labels) in
    let u = upper b x (codes "goal" ∷ (sp ∷ (literals_text x.goal ++ (lf ∷ numbered (codes "labels") (length (map label_of labels)) (labels_text 0 (map label_of labels) ++ (rows_text (codes "depth") 0 x.depths ++ (rows_text (codes "turn") 1 x.alternatives ++ (codes "log" ∷ (lf ∷ (log_text log ++ (codes "verdict" ∷ (sp ∷ ending_text end)))))))))))) in
    grind (arith, append_assoc, r, t, m, u)
