-- The certificate of an encoding that depicts an application, and of a log of derived lines, has the bounds, counts and orders of one.
use Rattle.std.proofs.Common.{◌≡◌, ℕ, suc, ◌+◌, ◌-◌, ◌<◌, ◌≤◌, ◌^◌, Bool, true, false, ◌&&◌, ◌==◌, nat_lt, nat_le, Option, Some, None, List, [], ◌∷◌, ◌++◌, map, length, length-append, if◌then◌else◌, refl, sym, subst, arith, codes}
use Rattle.std.proofs.lemmas.Bool.{and_parts, and_from, eq-eqb, le-leb, lt-ltb, true≢false}
use Rattle.std.proofs.lemmas.Bool.Decides.{nat_tests}
use Rattle.std.proofs.lemmas.List.{length-map}
use Rattle.std.proofs.lemmas.Option.{slice_get_within}
use Rattle.std.specs.Fmt.{decimal}
use Rattle.std.specs.List.{slice_get}
use Rattle.application.specs.declared.app.App.{App}
use Rattle.bounded_check.specs.declared.decide.Verdict.{Verdict}
use Rattle.bounded_check.specs.declared.decide.Verdict.TheVariants as verdict
use Rattle.bounded_check.specs.Depicts.{AreNamed}
use Rattle.bounded_check.specs.Verdicts.{IsDecided, with_goal}
use Rattle.cert_form.specs.Certificate.{Certificate}
use Rattle.cert_form.specs.CertificateText.{literals_text, clauses_text, certificate_words, labels_text, rows_text, log_text, ending_text, numbered}
use Rattle.cert_form.specs.IsCertificate.{is_small, is_label, are_labels, is_clause_over, are_rows, are_depths, are_hints, are_lines, is_ending, is_certificate}
use Rattle.cert_form.specs.Texts.{concat}
use Rattle.cert_form.specs.Words.{Token, sp, lf, limit, within, is_name}
use Rattle.cert_text.specs.CertificateText.{certificate_of, label_of}
use Rattle.cert_text.specs.declared.front.Bounds.{Bounds}
use Rattle.cert_text.specs.declared.label.LabelText.TheVariants as kinds
use Rattle.certified_run.specs.Certified.{IsEvidence, ending_by, text_with}
use Rattle.certified_run.specs.Names.{ArePoints, entity_name, text_of, texts_of}
use Rattle.clause_form.proofs.Rising.{is_within-from}
use Rattle.clause_form.specs.declared.lit.Lit.{Lit}
use Rattle.clause_form.specs.declared.line.Line.{Line}
use Rattle.clause_form.specs.DerivedLine.{AreDerived, clause_at, closes, follow, is_empty, option_unfalse}
use Rattle.clause_form.specs.Literals.{AreOf, are_within, is_within, negation, rises_above}
use Rattle.one_stack.specs.declared.label.Label.{Label}
use Rattle.step_ir.specs.declared.code.Code.{Code}
use Rattle.step_ir.specs.Setting.{setting_of}
use Rattle.turn_law.specs.Description.{AreRowsWithin}
use Rattle.turn_encoding.specs.declared.encoding.Encoding.{Encoding}
use Rattle.turn_encoding.specs.Encodings.{encoding_of}
use Rattle.turn_encoding.specs.Grids.{AreWide, HasFewer}
use Rattle.cert_law.specs.Named.{HaveNames}

-- a number that a text can have
small : (n : ℕ) → n < limit → is_small n ≡ true
small n h = and_from (nat_le 0 n) (nat_lt n limit) (le-leb 0 n (omega arith)) (lt-ltb n limit h)

-- ---- rows

-- rows of one width over n variables
rows_are : (n width : ℕ) (rows : List (List Lit)) → AreWide width rows → AreRowsWithin n rows → are_rows n width rows ≡ true
rows_are n width [] w r = refl
rows_are n width (row ∷ rows) w r =
    and_from ((length row == width) && is_within n row) (are_rows n width rows)
    (and_from (length row == width) (is_within n row) (eq-eqb (length row) width w.0) (is_within-from n row r.0))
    (rows_are n width rows w.1 r.1)

-- a row of depths for each number of turns
depths_are : (n k deep : ℕ) (rows : List (List Lit)) → length rows ≡ k + 1 → deep ≤ 16 → AreWide (deep + 1) rows → AreRowsWithin n rows → are_depths n k rows ≡ true
depths_are n k deep [] count few w r = absurd (omega (arith, count))
depths_are n k deep (row ∷ rows) count few w r =
    let wide : length row ≡ deep + 1 = w.0 in
    let one = le-leb 1 (length row) (omega (arith, wide)) in
    let most = le-leb (length row) 17 (omega (arith, few, wide)) in
    let rest : length rows ≡ k = omega (arith, count) in
    and_from ((nat_le 1 (length row) && nat_le (length row) 17) && (length rows == k)) (are_rows n (length row) (row ∷ rows))
    (and_from (nat_le 1 (length row) && nat_le (length row) 17) (length rows == k) (and_from (nat_le 1 (length row)) (nat_le (length row) 17) one most) (eq-eqb (length rows) k rest))
    (subst (λ (m : ℕ). are_rows n m (row ∷ rows) ≡ true) (sym wide) (rows_are n (deep + 1) (row ∷ rows) w r))

-- rows with so many columns that have fewer than 2 ^ 32
columns_few : (width : ℕ) (rows : List (List Lit)) → 1 ≤ length rows → AreWide width rows → HasFewer (2 ^ 32) rows → width < 2 ^ 32
columns_few width [] some w h = absurd (omega (arith, some))
columns_few width (row ∷ rows) some w h = omega (arith, w.0, h 0 row refl)

-- ---- labels

-- a label of a name, whether it arrives or not
named_label : (b : Bool) (name : List ℕ) (point : ℕ) → is_name name ≡ true → point < 2 ^ 16 → is_label (label_of (if b then kinds.Arrive name else kinds.Step name point)) ≡ true
named_label true name point named few = named
named_label false name point named few = and_from (is_name name) (is_small point) named (small point (omega (arith, few)))

-- a label of an entity that has a name
label_is : (app : App) (label : Label) → is_name (entity_name app label.entity.0) ≡ true → label.point < 2 ^ 16 → is_label (label_of (text_of app label)) ≡ true
label_is app label named few = named_label label.arrives (entity_name app label.entity.0) label.point named few

-- the labels of entities that have names
labels_are : (app : App) (labels : List Label) → HaveNames app → AreNamed (length app.tasks + length app.routines) labels → ArePoints labels → are_labels (map label_of (map (text_of app) labels)) ≡ true
labels_are app [] names n p = refl
labels_are app (label ∷ labels) names n p =
    and_from (is_label (label_of (text_of app label))) (are_labels (map label_of (map (text_of app) labels)))
    (label_is app label (names label.entity.0 n.0) p.0)
    (labels_are app labels names n.1 p.1)

-- a label more, for the padding
texts_count : (app : App) (labels : List Label) → length (map label_of (texts_of app labels)) ≡ length labels + 1
texts_count app labels =
    let a = length-map (map (text_of app) labels) label_of in
    let b = length-map labels (text_of app) in
    omega (arith, a, b)

-- ---- lines

-- a step that is followed has a clause, and goes on to a literal where it isn't the last
followed : (b : Bool) (o : Option (List Lit)) (next : Lit → Bool) → follow b o next ≡ true → (ls : List Lit) × (o ≡ Some ls) × (b ≡ false → (x : Lit) × (next x ≡ true))
followed true None next h = absurd cc
followed true (Some []) next h = ([], refl, λ e. absurd (true≢false e))
followed true (Some (x ∷ xs)) next h = absurd cc
followed false None next h = absurd cc
followed false (Some []) next h = absurd cc
followed false (Some (x ∷ [])) next h = (x ∷ [], refl, λ e. (x, h))
followed false (Some (x ∷ (y ∷ ys))) next h = absurd cc

-- what is left of a clause is left of one that is there
unfalse_some : (set : List Lit) (o : Option (List Lit)) (ls : List Lit) → option_unfalse set o ≡ Some ls → (c : List Lit) × (o ≡ Some c)
unfalse_some set None ls e = absurd cc
unfalse_some set (Some c) ls e = (c, refl)

-- a number of a clause is from 1 to their count
number_within : (cs : List (List Lit)) (n : ℕ) (c : List Lit) → clause_at cs n ≡ Some c → (0 < n) × (n ≤ length cs)
number_within cs n c e = go (n == 0) refl e
  where
    go : (b : Bool) → (n == 0) ≡ b → (if b then None else slice_get cs (n - 1)) ≡ Some c → (0 < n) × (n ≤ length cs)
    go true f q = absurd cc
    go false f q =
        let p : 0 < n = grind (arith, nat_tests, f) in
        let w = slice_get_within cs (n - 1) c q in
        (p, omega (arith, w, p))

-- the hints of a line that closes are numbers of clauses before it
hints_are : (cs : List (List Lit)) (set : List Lit) (hs : List ℕ) (own : ℕ) → own ≡ length cs + 1 → own ≤ limit → closes cs set hs ≡ true → are_hints own hs ≡ true
hints_are cs set [] own count most e = refl
hints_are cs set (h ∷ hs) own count most e =
    let s = followed (is_empty hs) (option_unfalse set (clause_at cs h)) (λ x. closes cs (x ∷ set) hs) e in
    let u = unfalse_some set (clause_at cs h) s.0 s.1 in
    let w = number_within cs h u.0 u.1 in
    let some : 1 ≤ h = omega (arith, w.0) in
    let below : h < own = omega (arith, w.1, count) in
    let low = le-leb 1 h some in
    let high = lt-ltb h own below in
    and_from ((nat_le 1 h && nat_lt h own) && is_small h) (are_hints own hs)
    (and_from (nat_le 1 h && nat_lt h own) (is_small h) (and_from (nat_le 1 h) (nat_lt h own) low high) (small h (omega (arith, below, most))))
    (rest hs (λ x q. hints_are cs (x ∷ set) hs own count most q) s.2)
  where
    rest : (hs : List ℕ) → ((x : Lit) → closes cs (x ∷ set) hs ≡ true → are_hints own hs ≡ true) → (is_empty hs ≡ false → (x : Lit) × (closes cs (x ∷ set) hs ≡ true)) → are_hints own hs ≡ true
    rest [] ih f = refl
    rest (k ∷ ks) ih f = let p = f refl in ih p.0 p.1

-- derived lines are clauses with such hints
lines_are : (n : ℕ) (cs : List (List Lit)) (log : List Line) (own : ℕ) → own ≡ length cs + 1 → own + length log ≤ limit → AreDerived n cs log → are_lines n own log ≡ true
lines_are n cs [] own count most d = refl
lines_are n cs (line ∷ lines) own count most d =
    let p = and_parts (rises_above 0 line.clause && is_within n line.clause) (closes cs (map negation line.clause) line.hints) d.0 in
    let longer = length-append cs (line.clause ∷ []) in
    and_from (is_clause_over n line.clause && are_hints own line.hints) (are_lines n (own + 1) lines)
    (and_from (is_clause_over n line.clause) (are_hints own line.hints) p.0 (hints_are cs (map negation line.clause) line.hints own count (omega (arith, most)) p.1))
    (lines_are n (cs ++ line.clause ∷ []) lines (own + 1) (omega (arith, longer, count)) (omega (arith, most)) d.1)

-- ---- counts that the length of the text bounds

-- how many bytes the tokens have
abbrev pub size : List Token → ℕ
size ts = length (concat ts)

-- the bytes of both
size_append : (xs ys : List Token) → size (xs ++ ys) ≡ size xs + size ys
size_append [] ys = omega arith
size_append (x ∷ xs) ys =
    let a = length-append x (concat (xs ++ ys)) in
    let b = length-append x (concat xs) in
    let ih = size_append xs ys in
    omega (arith, a, b, ih)

-- a part with one byte behind it, and the rest, are longer than the rest
longer_by : (n part rest front whole : ℕ) → whole ≡ front + rest → front ≡ part + 1 → n ≤ rest → suc n ≤ whole
longer_by n part rest front whole a b h = omega (arith, a, b, h)

-- each clause has a byte at least
clauses_size : (cs : List (List Lit)) → length cs ≤ size (clauses_text cs)
clauses_size [] = omega arith
clauses_size (c ∷ cs) =
    longer_by (length cs) (size (literals_text c)) (size (clauses_text cs)) (size (literals_text c ++ lf ∷ [])) (size (clauses_text (c ∷ cs)))
    (size_append (literals_text c ++ lf ∷ []) (clauses_text cs)) (size_append (literals_text c) (lf ∷ [])) (clauses_size cs)

-- the words before the clauses
abbrev pub head_words : Certificate → List Token
head_words x =
    codes "oschk" ∷ (sp ∷ (codes "certificate" ∷ (sp ∷ (codes "1" ∷ (lf ∷ (codes "bounds" ∷ (sp ∷ (decimal x.turns ∷ (sp ∷ (decimal x.arrivals ∷ (lf ∷
    numbered (codes "budget") x.budget (numbered (codes "variables") x.variables (numbered (codes "clauses") (length x.clauses) [])))))))))))))

-- the words from the goal on
abbrev pub goal_words : Certificate → List Token
goal_words x =
    codes "goal" ∷ (sp ∷ (literals_text x.goal ++ (lf ∷ numbered (codes "labels") (length x.labels)
    (labels_text 0 x.labels
    ++ (rows_text (codes "depth") 0 x.depth_lits
    ++ (rows_text (codes "turn") 1 x.turn_lits
    ++ (codes "log" ∷ (lf ∷ (log_text x.log ++ (codes "verdict" ∷ (sp ∷ ending_text x.ending)))))))))))

-- what is at most a part is at most the whole
part_within : (n head part rest last whole : ℕ) → whole ≡ head + rest → rest ≡ part + last → n ≤ part → n ≤ whole
part_within n head part rest last whole a b h = omega (arith, a, b, h)

-- a certificate has no more clauses than its text has bytes
clauses_counted : (x : Certificate) → length x.clauses ≤ size (certificate_words x)
clauses_counted x =
    let rest = clauses_text x.clauses ++ goal_words x in
    part_within (length x.clauses) (size (head_words x)) (size (clauses_text x.clauses)) (size rest) (size (goal_words x)) (size (certificate_words x))
    (size_append (head_words x) rest) (size_append (clauses_text x.clauses) (goal_words x)) (clauses_size x.clauses)

-- through a number between
at_most : (a b k : ℕ) → a ≤ b → b ≤ k → a ≤ k
at_most a b k g h = omega (arith, g, h)

-- ---- the whole

-- the first line has the number after the goal's, which has that after the clauses'
number_behind : (cs : List (List Lit)) (goal : List Lit) → length cs + 2 ≡ length (cs ++ goal ∷ []) + 1
number_behind cs goal = let a = length-append cs (goal ∷ []) in omega (arith, a)

-- a list that isn't empty has a variable
variable_some : (n : ℕ) (ls : List Lit) → 0 < length ls → AreOf n ls → 1 ≤ n
variable_some n [] some o = absurd (omega (arith, some))
variable_some n (x ∷ xs) some o = omega (arith, o.0.least, o.0.most)

-- a model has a value for each variable
ending_is : (e : Encoding) (labels : List Label) (budget : ℕ) (log : List Line) (v : Verdict) → IsDecided (encoding_of e) labels budget log v → is_ending e.formula.variables (ending_by v) ≡ true
ending_is e labels budget log verdict.Holds d = refl
ending_is e labels budget log (verdict.Fails values choices) d = eq-eqb (length values) e.formula.variables d.0.count
ending_is e labels budget log verdict.Undecided d = refl

-- the certificate is one by its bounds, counts and orders
pub certificate_is : (app : App) (code : Code) (bounds : Bounds) (e : Encoding) (labels : List Label) (log : List Line) (v : Verdict)
    → HaveNames app → 1 ≤ bounds.turns → bounds.turns ≤ 512 → bounds.arrivals ≤ 15 → bounds.budget ≤ 10 ^ 12
    → IsEvidence app code bounds e labels log v → length (text_with app bounds e labels log (ending_by v)) ≤ 2 ^ 30
    → is_certificate (certificate_of bounds e (texts_of app labels) log (ending_by v)) ≡ true
certificate_is app code bounds e labels log v names least most arrivals budget evidence short =
    let depicts = evidence.encodes.depicts in
    let shape = evidence.encodes.shape in
    let entities = evidence.encodes.few in
    let derived = evidence.derived in
    let n = e.formula.variables in
    let cs = e.formula.clauses in
    let texts = map label_of (texts_of app labels) in
    let count = texts_count app labels in
    let certificate = certificate_of bounds e (texts_of app labels) log (ending_by v) in
    let clauses : length cs ≤ 2 ^ 30 = at_most (length cs) (size (certificate_words certificate)) (2 ^ 30) (clauses_counted certificate) short in
    let some : 1 ≤ n = variable_some n e.goal depicts.some depicts.goal_within in
    let few : n < limit = e.formula.few in
    let low = le-leb 1 n some in
    let high = lt-ltb n limit few in
    let rows : length e.alternatives ≡ bounds.turns = shape.alternatives in
    let labelled : length labels + 1 < 2 ^ 32 = columns_few (length labels + 1) e.alternatives (omega (arith, rows, least)) shape.alternatives_wide e.labels in
    let own : length cs + 2 ≡ length (with_goal (encoding_of e)) + 1 = number_behind cs e.goal in
    let E = are_lines n (length cs + 2) log && is_ending n (ending_by v) in
    let Y = (length e.alternatives == bounds.turns) && are_rows n (length texts) e.alternatives in
    let D = are_depths n bounds.turns e.depths && Y in
    let L = (is_small (length texts) && are_labels texts) && (D && E) in
    let G = is_clause_over n e.goal && L in
    let C = (is_small (length cs) && are_within n cs) && G in
    let lines : are_lines n (length cs + 2) log ≡ true = lines_are n (with_goal (encoding_of e)) log (length cs + 2) own (omega (arith, clauses, derived.few, budget)) derived.derived in
    let ends : E ≡ true = and_from (are_lines n (length cs + 2) log) (is_ending n (ending_by v)) lines (ending_is e labels bounds.budget log v evidence.decided) in
    let depths : are_depths n bounds.turns e.depths ≡ true = depths_are n bounds.turns (setting_of app).entities e.depths shape.depths entities shape.depths_wide depicts.depths_within in
    let turns : Y ≡ true =
    and_from (length e.alternatives == bounds.turns) (are_rows n (length texts) e.alternatives) (eq-eqb (length e.alternatives) bounds.turns rows)
    (subst (λ (m : ℕ). are_rows n m e.alternatives ≡ true) (sym count) (rows_are n (length labels + 1) e.alternatives shape.alternatives_wide depicts.alternatives_within)) in
    let tables : D ≡ true = and_from (are_depths n bounds.turns e.depths) Y depths turns in
    let labels_good : are_labels texts ≡ true = labels_are app labels names depicts.named evidence.encodes.points in
    let lower : L ≡ true =
    and_from (is_small (length texts) && are_labels texts) (D && E) (and_from (is_small (length texts)) (are_labels texts) (small (length texts) (omega (arith, count, labelled))) labels_good) (and_from D E tables ends) in
    let goal : G ≡ true = and_from (is_clause_over n e.goal) L (and_from (rises_above 0 e.goal) (is_within n e.goal) depicts.rises (is_within-from n e.goal depicts.goal_within)) lower in
    let middle : C ≡ true =
    and_from (is_small (length cs) && are_within n cs) G (and_from (is_small (length cs)) (are_within n cs) (small (length cs) (omega (arith, clauses))) e.formula.within) goal in
    and_from (is_small bounds.turns) (is_small bounds.arrivals && (is_small bounds.budget && (within 1 limit n && C))) (small bounds.turns (omega (arith, most)))
    (and_from (is_small bounds.arrivals) (is_small bounds.budget && (within 1 limit n && C)) (small bounds.arrivals (omega (arith, arrivals)))
    (and_from (is_small bounds.budget) (within 1 limit n && C) (small bounds.budget (omega (arith, budget)))
    (and_from (within 1 limit n) C (and_from (nat_le 1 n) (nat_lt n limit) low high) middle)))
