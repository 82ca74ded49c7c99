-- What the format spells is the plain text.
use Rattle.std.proofs.Common.{◌≡◌, ℕ, zero, suc, ◌+◌, ◌-◌, Bool, true, false, cond, ◌&&◌, nat_lt, List, [], ◌∷◌, ◌++◌, length, refl, sym, ap, ◌∙◌, append_assoc, codes}
use Rattle.std.proofs.lemmas.Bool.{and_parts}
use Rattle.std.proofs.lemmas.List.{append-nil}
use Rattle.std.specs.Fmt.{decimal, digits}
use Rattle.std.specs.Str.{bytes_eq}
use Rattle.clause_form.specs.declared.lit.Lit.{Lit}
use Rattle.clause_form.specs.declared.line.Line.{Line}
use Rattle.clause_form.specs.Literals.{variable}
use Rattle.format.specs.Format.{Format, never, times, until}
use Rattle.cert_form.specs.Words.{Token, sp, lf, minus, limit, within, word, behind, spaced, lined, number, literal, literal_token, value_token, name}
use Rattle.cert_form.specs.Certificate.{nought, clause_from, clause, hints, log_line, log, Label, Idle, Arrive, Step, label_word, body, Tables, Lower, after_clauses, after_variables, certificate, Holds, Fails, Undecided, end_word, model, ending, chosen, label, table_line, depth_line, turn_line, shifted_line, still, moving, up_to_17, tables, Ending, Certificate}
use Rattle.cert_form.specs.CertificateText.{literals_text, numbers_text, clauses_text, label_end, labels_text, row_text, rows_text, log_text, model_text, ending_text, numbered, certificate_words}

pub clause_text : (n above : ℕ) (ls : List Lit) → (clause_from n above).spell ls ≡ literals_text ls
unfolding clause_from literal word
clause_text n above [] = refl
clause_text n above (l ∷ ls) = ap (λ (w : List Token). literal_token l ∷ (sp ∷ w)) (clause_text n (variable l) ls)

pub hints_text : (own : ℕ) (hs : List ℕ) → (hints own).spell hs ≡ numbers_text hs
unfolding hints number word
hints_text own [] = refl
hints_text own (h ∷ hs) = ap (λ (w : List Token). decimal h ∷ (sp ∷ w)) (hints_text own hs)

line_text : (n own : ℕ) (l : Line) → (log_line n own).spell l ≡ (literals_text l.clause ++ sp ∷ []) ++ (numbers_text l.hints ++ lf ∷ [])
unfolding log_line word
line_text n own l = rw (clause_text n 0 l.clause, hints_text own l.hints) refl

pub log_spelled : (n own : ℕ) (ls : List Line) → (log n own).spell ls ≡ log_text ls ++ codes "verdict" ∷ []
unfolding log
log_spelled n own [] = refl
log_spelled n own (l ∷ ls) = rw (line_text n own l, log_spelled n (own + 1) ls) (sym (append_assoc ((literals_text l.clause ++ sp ∷ []) ++ (numbers_text l.hints ++ lf ∷ [])) (log_text ls) (codes "verdict" ∷ [])))

pub clauses_spelled : (n i m : ℕ) (cs : List (List Lit)) → (times (λ _. lined (clause n)) i m).valid cs ≡ true → (times (λ _. lined (clause n)) i m).spell cs ≡ clauses_text cs
unfolding word
clauses_spelled n i zero [] v = refl
clauses_spelled n i zero (c ∷ cs) v = absurd cc
clauses_spelled n i (suc m) [] v = absurd cc
clauses_spelled n i (suc m) (c ∷ cs) v =
    let p = and_parts ((lined (clause n)).valid c) ((times (λ _. lined (clause n)) (suc i) m).valid cs) v in
    rw (clause_text n 0 c, clauses_spelled n (suc i) m cs p.1) refl

label_text : (a : ℕ) (l : Label) → (label a).spell l ≡ codes "label" ∷ (sp ∷ (decimal a ∷ (sp ∷ label_end l)))
unfolding label word label_word name number
label_text a Idle = refl
label_text a (Arrive x) = refl
label_text a (Step x p) = refl

pub labels_spelled : (i m : ℕ) (ls : List Label) → (times label i m).valid ls ≡ true → (times label i m).spell ls ≡ labels_text i ls
labels_spelled i zero [] v = refl
labels_spelled i zero (l ∷ ls) v = absurd cc
labels_spelled i (suc m) [] v = absurd cc
labels_spelled i (suc m) (l ∷ ls) v =
    let p = and_parts ((label i).valid l) ((times label (suc i) m).valid ls) v in
    rw (label_text i l, labels_spelled (suc i) m ls p.1) refl

pub depths_spelled : (n t i m : ℕ) (ls : List Lit) → (times (depth_line n t) i m).valid ls ≡ true → (times (depth_line n t) i m).spell ls ≡ row_text (codes "depth") t i ls
unfolding table_line word literal
depths_spelled n t i zero [] v = refl
depths_spelled n t i zero (l ∷ ls) v = absurd cc
depths_spelled n t i (suc m) [] v = absurd cc
depths_spelled n t i (suc m) (l ∷ ls) v =
    let p = and_parts ((depth_line n t i).valid l) ((times (depth_line n t) (suc i) m).valid ls) v in
    ap (λ (w : List Token). codes "depth" ∷ (sp ∷ (decimal t ∷ (sp ∷ (decimal i ∷ (sp ∷ (literal_token l ∷ (lf ∷ w)))))))) (depths_spelled n t (suc i) m ls p.1)

pub turns_spelled : (n t i m : ℕ) (ls : List Lit) → (times (turn_line n t) i m).valid ls ≡ true → (times (turn_line n t) i m).spell ls ≡ row_text (codes "turn") t i ls
unfolding table_line word literal
turns_spelled n t i zero [] v = refl
turns_spelled n t i zero (l ∷ ls) v = absurd cc
turns_spelled n t i (suc m) [] v = absurd cc
turns_spelled n t i (suc m) (l ∷ ls) v =
    let p = and_parts ((turn_line n t i).valid l) ((times (turn_line n t) (suc i) m).valid ls) v in
    ap (λ (w : List Token). codes "turn" ∷ (sp ∷ (decimal t ∷ (sp ∷ (decimal i ∷ (sp ∷ (literal_token l ∷ (lf ∷ w)))))))) (turns_spelled n t (suc i) m ls p.1)

-- the lines of T = 0 without turns
abbrev last_rows : ℕ → ℕ → Format (List Lit) Token
last_rows n d = until (codes "log") (λ t. bytes_eq t (codes "log")) (λ d. cond (nat_lt d 17) (depth_line n 0 d) never) (λ d l. suc d) d

last_spelled : (n d : ℕ) (ls : List Lit) → (last_rows n d).valid ls ≡ true → (last_rows n d).spell ls ≡ row_text (codes "depth") 0 d ls ++ codes "log" ∷ []
unfolding table_line word literal
last_spelled n d [] v = refl
last_spelled n d (l ∷ ls) v = go (nat_lt d 17) (and_parts ((cond (nat_lt d 17) (depth_line n 0 d) never).valid l) ((last_rows n (suc d)).valid ls) v) (λ w. last_spelled n (suc d) ls w)
  where
    go : (b : Bool) → ((cond b (depth_line n 0 d) never).valid l ≡ true) × ((last_rows n (suc d)).valid ls ≡ true) → ((last_rows n (suc d)).valid ls ≡ true → (last_rows n (suc d)).spell ls ≡ row_text (codes "depth") 0 (suc d) ls ++ codes "log" ∷ []) → (cond b (depth_line n 0 d) never).spell l ++ (last_rows n (suc d)).spell ls ≡ row_text (codes "depth") 0 d (l ∷ ls) ++ codes "log" ∷ []
    go true p ih = ap (λ (w : List Token). codes "depth" ∷ (sp ∷ (decimal 0 ∷ (sp ∷ (decimal d ∷ (sp ∷ (literal_token l ∷ (lf ∷ w)))))))) (ih p.1)
    go false p ih = absurd cc

-- the lines of T = 0 before those of T = 1, which the format cuts elsewhere
abbrev first_rows : ℕ → ℕ → Format (List Lit) Token
first_rows n d = until (49 ∷ []) (λ t. bytes_eq t (49 ∷ [])) (λ d. cond (nat_lt d 17) (shifted_line n d) never) (λ d l. suc d) d

shift : (n d : ℕ) (ls : List Lit) (tail : List Token) → (first_rows n d).valid ls ≡ true → codes "depth" ∷ (sp ∷ ((first_rows n d).spell ls ++ tail)) ≡ row_text (codes "depth") 0 d ls ++ (codes "depth" ∷ (sp ∷ ((49 ∷ []) ∷ tail)))
unfolding shifted_line word literal digits
shift n d [] tail v = refl
shift n d (l ∷ ls) tail v = go (nat_lt d 17) (and_parts ((cond (nat_lt d 17) (shifted_line n d) never).valid l) ((first_rows n (suc d)).valid ls) v) (λ w. shift n (suc d) ls tail w)
  where
    go : (b : Bool) → ((cond b (shifted_line n d) never).valid l ≡ true) × ((first_rows n (suc d)).valid ls ≡ true) → ((first_rows n (suc d)).valid ls ≡ true → codes "depth" ∷ (sp ∷ ((first_rows n (suc d)).spell ls ++ tail)) ≡ row_text (codes "depth") 0 (suc d) ls ++ (codes "depth" ∷ (sp ∷ ((49 ∷ []) ∷ tail)))) → codes "depth" ∷ (sp ∷ (((cond b (shifted_line n d) never).spell l ++ (first_rows n (suc d)).spell ls) ++ tail)) ≡ row_text (codes "depth") 0 d (l ∷ ls) ++ (codes "depth" ∷ (sp ∷ ((49 ∷ []) ∷ tail)))
    go true p ih = ap (λ (w : List Token). codes "depth" ∷ (sp ∷ (decimal 0 ∷ (sp ∷ (decimal d ∷ (sp ∷ (literal_token l ∷ (lf ∷ w)))))))) (ih p.1)
    go false p ih = absurd cc

depth_rows_spelled : (n m i k : ℕ) (rs : List (List Lit)) → (times (λ t. times (depth_line n t) 0 m) i k).valid rs ≡ true → (times (λ t. times (depth_line n t) 0 m) i k).spell rs ≡ rows_text (codes "depth") i rs
depth_rows_spelled n m i zero [] v = refl
depth_rows_spelled n m i zero (r ∷ rs) v = absurd cc
depth_rows_spelled n m i (suc k) [] v = absurd cc
depth_rows_spelled n m i (suc k) (r ∷ rs) v =
    let p = and_parts ((times (depth_line n i) 0 m).valid r) ((times (λ t. times (depth_line n t) 0 m) (suc i) k).valid rs) v in
    rw (depths_spelled n i 0 m r p.0, depth_rows_spelled n m (suc i) k rs p.1) refl

turn_rows_spelled : (n q i k : ℕ) (rs : List (List Lit)) → (times (λ t. times (turn_line n t) 0 q) i k).valid rs ≡ true → (times (λ t. times (turn_line n t) 0 q) i k).spell rs ≡ rows_text (codes "turn") i rs
turn_rows_spelled n q i zero [] v = refl
turn_rows_spelled n q i zero (r ∷ rs) v = absurd cc
turn_rows_spelled n q i (suc k) [] v = absurd cc
turn_rows_spelled n q i (suc k) (r ∷ rs) v =
    let p = and_parts ((times (turn_line n i) 0 q).valid r) ((times (λ t. times (turn_line n t) 0 q) (suc i) k).valid rs) v in
    rw (turns_spelled n i 0 q r p.0, turn_rows_spelled n q (suc i) k rs p.1) refl

pub still_spelled : (n : ℕ) (rows : List (List Lit)) → (still n).valid rows ≡ true → (still n).spell rows ≡ rows_text (codes "depth") 0 rows ++ codes "log" ∷ []
unfolding still table_line word literal
still_spelled n [] v = absurd cc
still_spelled n ([] ∷ []) v = absurd cc
still_spelled n ((x ∷ xs) ∷ []) v =
    let p = and_parts ((depth_line n 0 0).valid x) ((last_rows n 1).valid xs) v in
    ap (λ (w : List Token). codes "depth" ∷ (sp ∷ (decimal 0 ∷ (sp ∷ (decimal 0 ∷ (sp ∷ (literal_token x ∷ (lf ∷ w)))))))) (last_spelled n 1 xs p.1 ∙ ap (λ (w : List Token). w ++ codes "log" ∷ []) (sym (append-nil (row_text (codes "depth") 0 1 xs))))
still_spelled n (r ∷ (s ∷ rs)) v = absurd cc

pub moving_spelled : (n k : ℕ) (rows : List (List Lit)) → (moving n k).valid rows ≡ true → (moving n k).spell rows ≡ rows_text (codes "depth") 0 rows
unfolding moving shifted_line table_line word literal digits
moving_spelled n k [] v = absurd cc
moving_spelled n k (r ∷ []) v = absurd cc
moving_spelled n k ([] ∷ (s ∷ rs)) v = absurd cc
moving_spelled n k ((x ∷ xs) ∷ ([] ∷ rs)) v =
    let p = and_parts ((up_to_17 (49 ∷ []) (shifted_line n)).valid (x ∷ xs)) false v in
    absurd cc
moving_spelled n k ((x ∷ xs) ∷ ((y ∷ ys) ∷ rs)) v =
    let m = length (x ∷ xs) in
    let p = and_parts ((up_to_17 (49 ∷ []) (shifted_line n)).valid (x ∷ xs)) (((lined (literal 0 n)).valid y && (times (depth_line n 1) 1 (length (x ∷ xs) - 1)).valid ys) && (times (λ t. times (depth_line n t) 0 (length (x ∷ xs))) 2 k).valid rs) v in
    let q = and_parts ((shifted_line n 0).valid x) ((first_rows n 1).valid xs) p.0 in
    let r = and_parts ((lined (literal 0 n)).valid y && (times (depth_line n 1) 1 (length (x ∷ xs) - 1)).valid ys) ((times (λ t. times (depth_line n t) 0 (length (x ∷ xs))) 2 k).valid rs) p.1 in
    let s = and_parts ((lined (literal 0 n)).valid y) ((times (depth_line n 1) 1 (length (x ∷ xs) - 1)).valid ys) r.0 in
    let e1 = depths_spelled n 1 1 (length (x ∷ xs) - 1) ys s.1 in
    let e2 = depth_rows_spelled n (length (x ∷ xs)) 2 k rs r.1 in
    let tail : List Token = sp ∷ (nought ∷ (sp ∷ (literal_token y ∷ (lf ∷ ((times (depth_line n 1) 1 (length (x ∷ xs) - 1)).spell ys ++ (times (λ t. times (depth_line n t) 0 (length (x ∷ xs))) 2 k).spell rs))))) in
    ap (λ (w : List Token). codes "depth" ∷ (sp ∷ (nought ∷ (sp ∷ (nought ∷ (sp ∷ (literal_token x ∷ (lf ∷ w)))))))) (shift n 1 xs tail q.1 ∙
    ap (λ (w : List Token). row_text (codes "depth") 0 1 xs ++ (codes "depth" ∷ (sp ∷ ((49 ∷ []) ∷ (sp ∷ (nought ∷ (sp ∷ (literal_token y ∷ (lf ∷ w)))))))))
    (ap (λ (w : List Token). w ++ (times (λ t. times (depth_line n t) 0 (length (x ∷ xs))) 2 k).spell rs) e1 ∙ ap (λ (w : List Token). row_text (codes "depth") 1 1 ys ++ w) e2))

pub tables_spelled : (n q k : ℕ) (t : Tables) → (tables n q k).valid t ≡ true → (tables n q k).spell t ≡ rows_text (codes "depth") 0 t.0 ++ (rows_text (codes "turn") 1 t.1 ++ (codes "log" ∷ (lf ∷ [])))
unfolding tables word
tables_spelled n q zero t v = go t.0 t.1 v
  where
    go : (d ts : List (List Lit)) → (tables n q zero).valid (d, ts) ≡ true → (tables n q zero).spell (d, ts) ≡ rows_text (codes "depth") 0 d ++ (rows_text (codes "turn") 1 ts ++ (codes "log" ∷ (lf ∷ [])))
    go d [] v = let p = and_parts ((still n).valid d) true v in rw (still_spelled n d p.0) (append_assoc (rows_text (codes "depth") 0 d) (codes "log" ∷ []) (lf ∷ []))
    go d (r ∷ rs) v = let p = and_parts ((still n).valid d) false v in absurd cc
tables_spelled n q (suc k) t v =
    let turns = times (λ t. times (turn_line n t) 0 q) 1 (suc k) in
    let p = and_parts ((moving n k).valid t.0) ((behind turns (codes "log" ∷ (lf ∷ []))).valid t.1) v in
    let p1 = and_parts (turns.valid t.1 && true) true p.1 in
    let p2 = and_parts (turns.valid t.1) true p1.0 in
    rw (moving_spelled n k t.0 p.0, turn_rows_spelled n q 1 (suc k) t.1 p2.0) (ap (λ (w : List Token). rows_text (codes "depth") 0 t.0 ++ w) (append_assoc (rows_text (codes "turn") 1 t.1) (codes "log" ∷ []) (lf ∷ [])))

model_spelled : (i m : ℕ) (bs : List Bool) → (times (λ v. spaced (value_token v)) i m).valid bs ≡ true → (times (λ v. spaced (value_token v)) i m).spell bs ≡ model_text i bs
unfolding value_token word
model_spelled i zero [] v = refl
model_spelled i zero (b ∷ bs) v = absurd cc
model_spelled i (suc m) [] v = absurd cc
model_spelled i (suc m) (b ∷ bs) v = ap (λ (w : List Token). cond b (decimal i) (minus ∷ decimal i) ∷ (sp ∷ w)) (model_spelled (suc i) m bs v)

four : (m : List Token) (a b c d : Token) → (((m ++ a ∷ []) ++ b ∷ []) ++ c ∷ []) ++ d ∷ [] ≡ m ++ (a ∷ (b ∷ (c ∷ (d ∷ []))))
four m a b c d = simp append_assoc

pub ending_spelled : (n : ℕ) (e : Ending) → (ending n).valid e ≡ true → (ending n).spell e ≡ sp ∷ ending_text e
unfolding ending chosen end_word model word
ending_spelled n Holds v = refl
ending_spelled n Undecided v = refl
ending_spelled n (Fails m) v =
    let ms = times (λ v. spaced (value_token v)) 1 n in
    let p1 = and_parts (((ms.valid m && true) && true) && true) true v in
    let p2 = and_parts ((ms.valid m && true) && true) true p1.0 in
    let p3 = and_parts (ms.valid m && true) true p2.0 in
    let p4 = and_parts (ms.valid m) true p3.0 in
    let f : List Token → List Token = λ w. sp ∷ (codes "fails" ∷ (lf ∷ (codes "model" ∷ (sp ∷ w)))) in
    ap (λ (w : List Token). f ((((w ++ nought ∷ []) ++ lf ∷ []) ++ codes "end" ∷ []) ++ lf ∷ [])) (model_spelled 1 n m p4.0) ∙ ap f (four (model_text 1 m) nought lf (codes "end") lf)

body_spelled : (n c q k : ℕ) (t : Tables) (ls : List Line) (e : Ending) → (body n c q k).valid (t, (ls, e)) ≡ true → (body n c q k).spell (t, (ls, e)) ≡ rows_text (codes "depth") 0 t.0 ++ (rows_text (codes "turn") 1 t.1 ++ (codes "log" ∷ (lf ∷ (log_text ls ++ (codes "verdict" ∷ (sp ∷ ending_text e))))))
body_spelled n c q k t ls e v =
    let p = and_parts ((tables n q k).valid t) ((log n (c + 2)).valid ls && (ending n).valid e) v in
    let r = and_parts ((log n (c + 2)).valid ls) ((ending n).valid e) p.1 in
    joined (rows_text (codes "depth") 0 t.0) (rows_text (codes "turn") 1 t.1) (log_text ls) (ending_text e) ((tables n q k).spell t) ((log n (c + 2)).spell ls) ((ending n).spell e) (tables_spelled n q k t p.0) (log_spelled n (c + 2) ls) (ending_spelled n e r.1)
  where
    joined : (ds ts ls es table log end : List Token) → table ≡ ds ++ (ts ++ (codes "log" ∷ (lf ∷ []))) → log ≡ ls ++ codes "verdict" ∷ [] → end ≡ sp ∷ es → table ++ (log ++ end) ≡ ds ++ (ts ++ (codes "log" ∷ (lf ∷ (ls ++ (codes "verdict" ∷ (sp ∷ es))))))
    joined ds ts ls es table log end a b c = rw (a, b, c) (simp append_assoc)

abbrev body_text : Tables → List Line → Ending → List Token
body_text t ls e = rows_text (codes "depth") 0 t.0 ++ (rows_text (codes "turn") 1 t.1 ++ (codes "log" ∷ (lf ∷ (log_text ls ++ (codes "verdict" ∷ (sp ∷ ending_text e))))))

after_clauses_spelled : (n k : ℕ) (cs : List (List Lit)) (g : List Lit) (bs : List Label) (t : Tables) (ls : List Line) (e : Ending) → (after_clauses n k cs).valid (g, (bs, (t, (ls, e)))) ≡ true → (after_clauses n k cs).spell (g, (bs, (t, (ls, e)))) ≡ codes "goal" ∷ (sp ∷ (literals_text g ++ (lf ∷ numbered (codes "labels") (length bs) (labels_text 0 bs ++ body_text t ls e))))
unfolding word number
after_clauses_spelled n k cs g bs t ls e v =
    let b = body n (length cs) (length bs) k in
    let labels_valid : Bool = (within 0 limit (length bs) && true) && (times label 0 (length bs)).valid bs in
    let p = and_parts ((clause n).valid g && true) (labels_valid && b.valid (t, (ls, e))) v in
    let q = and_parts labels_valid (b.valid (t, (ls, e))) p.1 in
    let r = and_parts (within 0 limit (length bs) && true) ((times label 0 (length bs)).valid bs) q.0 in
    joined (literals_text g) (labels_text 0 bs) (body_text t ls e) ((clause n).spell g) ((times label 0 (length bs)).spell bs) (b.spell (t, (ls, e))) (decimal (length bs)) (clause_text n 0 g) (labels_spelled 0 (length bs) bs r.1) (body_spelled n (length cs) (length bs) k t ls e q.1)
  where
    joined : (gs ls bs goal labels body : List Token) (d : Token) → goal ≡ gs → labels ≡ ls → body ≡ bs → codes "goal" ∷ (sp ∷ ((goal ++ lf ∷ []) ++ (codes "labels" ∷ (sp ∷ ((d ∷ (lf ∷ labels)) ++ body))))) ≡ codes "goal" ∷ (sp ∷ (gs ++ (lf ∷ (codes "labels" ∷ (sp ∷ (d ∷ (lf ∷ (ls ++ bs))))))))
    joined gs ls bs goal labels body d a b c = rw (a, b, c) (ap (λ (w : List Token). codes "goal" ∷ (sp ∷ w)) (append_assoc gs (lf ∷ []) (codes "labels" ∷ (sp ∷ ((d ∷ (lf ∷ ls)) ++ bs)))))

after_variables_spelled : (k n : ℕ) (cs : List (List Lit)) (low : Lower) (text : List Token) → ((after_clauses n k cs).valid low ≡ true → (after_clauses n k cs).spell low ≡ text) → (after_variables k n).valid (cs, low) ≡ true → (after_variables k n).spell (cs, low) ≡ numbered (codes "clauses") (length cs) (clauses_text cs ++ text)
unfolding word number
after_variables_spelled k n cs low text h v =
    let clauses_valid : Bool = (within 0 limit (length cs) && true) && (times (λ _. lined (clause n)) 0 (length cs)).valid cs in
    let p = and_parts clauses_valid ((after_clauses n k cs).valid low) v in
    let r = and_parts (within 0 limit (length cs) && true) ((times (λ _. lined (clause n)) 0 (length cs)).valid cs) p.0 in
    joined (clauses_text cs) text ((times (λ _. lined (clause n)) 0 (length cs)).spell cs) ((after_clauses n k cs).spell low) (decimal (length cs)) (clauses_spelled n 0 (length cs) cs r.1) (h p.1)
  where
    joined : (cs text clauses low : List Token) (d : Token) → clauses ≡ cs → low ≡ text → codes "clauses" ∷ (sp ∷ ((d ∷ (lf ∷ clauses)) ++ low)) ≡ codes "clauses" ∷ (sp ∷ (d ∷ (lf ∷ (cs ++ text))))
    joined cs text clauses low d a b = rw (a, b) refl

-- What the format spells is the plain text.
pub certificate_spelled : (c : Certificate) → certificate.valid c ≡ true → certificate.spell c ≡ certificate_words c
unfolding certificate word number
certificate_spelled c v =
    let K = within 0 limit c.turns && true in
    let M = within 0 limit c.arrivals && true in
    let B = within 0 limit c.budget && true in
    let N = within 1 limit c.variables && true in
    let low : Lower = (c.goal, (c.labels, ((c.depth_lits, c.turn_lits), (c.log, c.ending)))) in
    let R = (after_variables c.turns c.variables).valid (c.clauses, low) in
    let p1 = and_parts K (M && (B && (N && R))) v in
    let p2 = and_parts M (B && (N && R)) p1.1 in
    let p3 = and_parts B (N && R) p2.1 in
    let p4 = and_parts N R p3.1 in
    let f : List Token → List Token = λ w. codes "oschk" ∷ (sp ∷ (codes "certificate" ∷ (sp ∷ (codes "1" ∷ (lf ∷ (codes "bounds" ∷ (sp ∷ (decimal c.turns ∷ (sp ∷ (decimal c.arrivals ∷ (lf ∷ numbered (codes "budget") c.budget (numbered (codes "variables") c.variables w)))))))))))) in
    ap f (after_variables_spelled c.turns c.variables c.clauses low (codes "goal" ∷ (sp ∷ (literals_text c.goal ++ (lf ∷ numbered (codes "labels") (length c.labels) (labels_text 0 c.labels ++ body_text (c.depth_lits, c.turn_lits) c.log c.ending))))) (λ w. after_clauses_spelled c.variables c.turns c.clauses c.goal c.labels (c.depth_lits, c.turn_lits) c.log c.ending w) p4.1)
