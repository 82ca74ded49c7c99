-- The tokens of the text of a certificate are its words, each with a space or a line feed behind it.
use Rattle.std.proofs.Common.{◌≡◌, ℕ, suc, ◌+◌, ◌<◌, ◌≤◌, ◌^◌, Bool, true, false, cond, not, ◌&&◌, ◌||◌, ◌==◌, eqb, nat_lt, nat_le, List, [], ◌∷◌, ◌++◌, length, drop, Some, None, codes, append_assoc, refl, sym, ap, subst, ◌∙◌, arith}
use Rattle.std.proofs.lemmas.Bool.{and_parts, and_from, eqb-true, leb-true, ltb-true, not-true}
use Rattle.std.specs.Fmt.{decimal}
use Rattle.std.specs.Str.{all_ascii_digits}
use Rattle.clause_form.specs.declared.lit.Lit.{Lit}
use Rattle.clause_form.specs.declared.line.Line.{Line}
use Rattle.clause_form.specs.Literals.{variable, is_positive, rises_above, is_within, are_within}
use Rattle.cert_form.specs.Words.{Token, sp, lf, minus, limit, within, is_nil, is_number, value_after, literal_token, is_first_of_name, is_digit, are_of_name, is_name}
use Rattle.cert_form.specs.Certificate.{nought, Label, Idle, Arrive, Step, Ending, Holds, Fails, Undecided, Certificate}
use Rattle.cert_form.specs.CertificateText.{literals_text, numbers_text, clauses_text, labels_text, row_text, rows_text, log_text, model_text, ending_text, numbered, lower_text, certificate_words}
use Rattle.cert_form.specs.IsCertificate.{is_small, are_labels, is_clause_over, are_rows, are_depths, are_hints, are_lines, is_ending, is_certificate}
use Rattle.cert_form.specs.Texts.{tokens, concat, run, is_of_word}
use Rattle.cert_form.proofs.Texts.{tokens_word, tokens_other}
use Rattle.cert_form.proofs.Words.{number_of-decimal}

-- each byte is one of a word
abbrev pub are_of_word : List ℕ → Bool
are_of_word [] = true
are_of_word (b ∷ bs) = is_of_word b && are_of_word bs

-- a word: such bytes, and at least one
abbrev pub is_word : Token → Bool
is_word [] = false
is_word (b ∷ bs) = is_of_word b && are_of_word bs

-- one byte that is none of a word
abbrev pub is_gap : Token → Bool
is_gap [] = false
is_gap (b ∷ []) = not (is_of_word b)
is_gap (b ∷ (c ∷ bs)) = false

-- words, each with a gap behind it
abbrev pub AreSpaced : List Token → Type 0
AreSpaced [] = Unit {0}
AreSpaced (t ∷ []) = ⊥
AreSpaced (t ∷ (s ∷ ts)) = (is_word t ≡ true) × ((is_gap s ≡ true) × AreSpaced ts)

-- ---- such tokens are those of their text

-- the longest run of a word's bytes before a gap is the word
run_front : (bs : List ℕ) (g : ℕ) (rest : List ℕ) → are_of_word bs ≡ true → is_of_word g ≡ false → run (bs ++ g ∷ rest) ≡ bs
run_front [] g rest a e = ap (λ x. cond x (g ∷ run rest) []) e
run_front (b ∷ bs) g rest a e =
    let p = and_parts (is_of_word b) (are_of_word bs) a in
    ap (λ x. cond x (b ∷ run (bs ++ g ∷ rest)) []) p.0 ∙ ap (λ w. b ∷ w) (run_front bs g rest p.1 e)

-- behind a front
drop_front : (bs ys : List ℕ) → drop (length bs) (bs ++ ys) ≡ ys
drop_front [] ys = refl
drop_front (b ∷ bs) ys = drop_front bs ys

-- a word and a gap are the first two tokens
word_and_gap : (b : ℕ) (bs : List ℕ) (g : ℕ) (rest : List ℕ) → is_of_word b ≡ true → are_of_word bs ≡ true → is_of_word g ≡ false → tokens (b ∷ (bs ++ g ∷ rest)) ≡ (b ∷ bs) ∷ ((g ∷ []) ∷ tokens rest)
word_and_gap b bs g rest eb a e =
    tokens_word b (bs ++ g ∷ rest) eb
    ∙ ap (λ (w : List ℕ). (b ∷ w) ∷ tokens (drop (length w) (bs ++ g ∷ rest))) (run_front bs g rest a e)
    ∙ ap (λ (w : List ℕ). (b ∷ bs) ∷ tokens w) (drop_front bs (g ∷ rest))
    ∙ ap (λ (w : List Token). (b ∷ bs) ∷ w) (tokens_other g rest e)

-- the same of any word and gap
first_two : (t s : Token) (rest : List ℕ) → is_word t ≡ true → is_gap s ≡ true → tokens (t ++ (s ++ rest)) ≡ t ∷ (s ∷ tokens rest)
first_two [] s rest w g = absurd cc
first_two (b ∷ bs) [] rest w g = absurd cc
first_two (b ∷ bs) (g ∷ (c ∷ cs)) rest w e = absurd cc
first_two (b ∷ bs) (g ∷ []) rest w e =
    let p = and_parts (is_of_word b) (are_of_word bs) w in
    word_and_gap b bs g rest p.0 p.1 (not-true (is_of_word g) e)

-- no bytes have no token
none_first : tokens [] ≡ []
unfolding tokens
none_first = refl

-- words with gaps are the tokens of what they are together
pub spaced_tokens : (ts : List Token) → AreSpaced ts → tokens (concat ts) ≡ ts
spaced_tokens [] h = none_first
spaced_tokens (t ∷ []) h = absurd h
spaced_tokens (t ∷ (s ∷ ts)) h = first_two t s (concat ts) h.0 h.1.0 ∙ ap (λ (w : List Token). t ∷ (s ∷ w)) (spaced_tokens ts h.1.1)

-- ---- numbers, literals and names are words

-- digits are bytes of a word
digits_of_word : (bs : List ℕ) → all_ascii_digits bs ≡ true → are_of_word bs ≡ true
digits_of_word [] e = refl
digits_of_word (b ∷ bs) e =
    let p = and_parts (is_digit b) (all_ascii_digits bs) e in
    and_from (is_of_word b) (are_of_word bs) (go (is_first_of_name b) (is_digit b) p.0) (digits_of_word bs p.1)
  where
    go : (x y : Bool) → y ≡ true → (x || (y || eqb b 45)) ≡ true
    go true y e = refl
    go false true e = refl
    go false false e = absurd cc

-- a number is a word
number_word : (t : Token) → is_number t ≡ true → is_word t ≡ true
number_word [] e = absurd cc
number_word (c ∷ cs) e = digits_of_word (c ∷ cs) (and_parts (all_ascii_digits (c ∷ cs)) (not (eqb c 48) || is_nil cs) e).0

-- so is what is written for a number
decimal_word : (n : ℕ) → n < 2 ^ 64 → is_word (decimal n) ≡ true
decimal_word n small = go (is_number (decimal n)) refl (number_of-decimal n small)
  where
    go : (b : Bool) → is_number (decimal n) ≡ b → cond b (Some (value_after 0 (decimal n))) None ≡ Some n → is_word (decimal n) ≡ true
    go true e q = number_word (decimal n) e
    go false e q = absurd cc

-- the bytes of a word are such
bytes_of_word : (t : Token) → is_word t ≡ true → are_of_word t ≡ true
bytes_of_word [] e = refl
bytes_of_word (b ∷ bs) e = e

-- a number, or one behind `-`
signed_word : (b : Bool) (n : ℕ) → n < 2 ^ 64 → is_word (cond b (decimal n) (minus ∷ decimal n)) ≡ true
signed_word true n small = decimal_word n small
signed_word false n small = bytes_of_word (decimal n) (decimal_word n small)

-- so is a literal
literal_word : (l : Lit) → variable l < 2 ^ 64 → is_word (literal_token l) ≡ true
literal_word l small = signed_word (is_positive l) (variable l) small

-- bytes of a name are bytes of a word
name_of_word : (bs : List ℕ) → are_of_name bs ≡ true → are_of_word bs ≡ true
name_of_word [] e = refl
name_of_word (b ∷ bs) e =
    let p = and_parts (is_first_of_name b || is_digit b) (are_of_name bs) e in
    and_from (is_of_word b) (are_of_word bs) (go (is_first_of_name b) (is_digit b) p.0) (name_of_word bs p.1)
  where
    go : (x y : Bool) → (x || y) ≡ true → (x || (y || eqb b 45)) ≡ true
    go true y e = refl
    go false true e = refl
    go false false e = absurd cc

-- a name is a word
name_word : (t : Token) → is_name t ≡ true → is_word t ≡ true
name_word [] e = absurd cc
name_word (b ∷ bs) e =
    let p = and_parts (is_first_of_name b) (are_of_name bs) e in
    and_from (is_of_word b) (are_of_word bs) (go (is_first_of_name b) p.0) (name_of_word bs p.1)
  where
    go : (x : Bool) → x ≡ true → (x || (is_digit b || eqb b 45)) ≡ true
    go true e = refl
    go false e = absurd cc

-- ---- the parts of a certificate

-- a number that a text can have is one of 64 bits
small_below : (n : ℕ) → is_small n ≡ true → n < 2 ^ 64
small_below n e =
    let p = ltb-true n limit (and_parts (nat_le 0 n) (nat_lt n limit) e).1 in
    omega (arith, p)

-- the hints of a line, and its line feed
hints_spaced : (own : ℕ) (hs : List ℕ) (more : List Token) → are_hints own hs ≡ true → AreSpaced more → AreSpaced (numbers_text hs ++ lf ∷ more)
hints_spaced own [] more e m = (refl, (refl, m))
hints_spaced own (h ∷ hs) more e m =
    let p = and_parts ((nat_le 1 h && nat_lt h own) && is_small h) (are_hints own hs) e in
    let q = and_parts (nat_le 1 h && nat_lt h own) (is_small h) p.0 in
    (decimal_word h (small_below h q.1), (refl, hints_spaced own hs more p.1 m))

module _ (n : ℕ) (few : n < limit) where
  -- the literals of a list, and a gap
  literals_spaced : (ls : List Lit) (gap : Token) (more : List Token) → is_within n ls ≡ true → is_gap gap ≡ true → AreSpaced more → AreSpaced (literals_text ls ++ gap ∷ more)
  literals_spaced [] gap more w g m = (refl, (g, m))
  literals_spaced (l ∷ ls) gap more w g m =
      let p = and_parts (nat_lt 0 (variable l) && nat_le (variable l) n) (is_within n ls) w in
      let q = leb-true (variable l) n (and_parts (nat_lt 0 (variable l)) (nat_le (variable l) n) p.0).1 in
      let small : variable l < 2 ^ 64 = omega (arith, q, few) in
      (literal_word l small, (refl, literals_spaced ls gap more p.1 g m))

  -- the lines of clauses
  clauses_spaced : (cs : List (List Lit)) (more : List Token) → are_within n cs ≡ true → AreSpaced more → AreSpaced (clauses_text cs ++ more)
  clauses_spaced [] more w m = m
  clauses_spaced (c ∷ cs) more w m =
      let p = and_parts (rises_above 0 c && is_within n c) (are_within n cs) w in
      subst AreSpaced (sym (append_assoc (literals_text c ++ lf ∷ []) (clauses_text cs) more ∙ append_assoc (literals_text c) (lf ∷ []) (clauses_text cs ++ more)))
      (literals_spaced c lf (clauses_text cs ++ more) (and_parts (rises_above 0 c) (is_within n c) p.0).1 refl (clauses_spaced cs more p.1 m))

  -- the lines of a row
  row_spaced : (w : Token) (t d : ℕ) (ls : List Lit) (more : List Token) → is_word w ≡ true → t < 2 ^ 64 → d + length ls ≤ 2 ^ 64 → is_within n ls ≡ true → AreSpaced more → AreSpaced (row_text w t d ls ++ more)
  row_spaced w t d [] more ew et ed el m = m
  row_spaced w t d (l ∷ ls) more ew et ed el m =
      let p = and_parts (nat_lt 0 (variable l) && nat_le (variable l) n) (is_within n ls) el in
      let q = leb-true (variable l) n (and_parts (nat_lt 0 (variable l)) (nat_le (variable l) n) p.0).1 in
      let small : variable l < 2 ^ 64 = omega (arith, q, few) in
      (ew, (refl, (decimal_word t et, (refl, (decimal_word d (omega (arith, ed)), (refl, (literal_word l small, (refl, row_spaced w t (suc d) ls more ew et (omega (arith, ed)) p.1 m))))))))

  -- the lines of a table
  rows_spaced : (w : Token) (t width : ℕ) (rows : List (List Lit)) (more : List Token) → is_word w ≡ true → t + length rows ≤ 2 ^ 64 → width ≤ 2 ^ 64 → are_rows n width rows ≡ true → AreSpaced more → AreSpaced (rows_text w t rows ++ more)
  rows_spaced w t width [] more ew et ed el m = m
  rows_spaced w t width (r ∷ rs) more ew et ed el m =
      let p = and_parts ((length r == width) && is_within n r) (are_rows n width rs) el in
      let q = and_parts (length r == width) (is_within n r) p.0 in
      let long = eqb-true (length r) width q.0 in
      subst AreSpaced (sym (append_assoc (row_text w t 0 r) (rows_text w (suc t) rs) more))
      (row_spaced w t 0 r (rows_text w (suc t) rs ++ more) ew (omega (arith, et)) (omega (arith, long, ed)) q.1 (rows_spaced w (suc t) width rs more ew (omega (arith, et)) ed p.1 m))

  -- the lines of a log
  log_spaced : (own : ℕ) (log : List Line) (more : List Token) → are_lines n own log ≡ true → AreSpaced more → AreSpaced (log_text log ++ more)
  log_spaced own [] more e m = m
  log_spaced own (l ∷ ls) more e m =
      let p = and_parts (is_clause_over n l.clause && are_hints own l.hints) (are_lines n (own + 1) ls) e in
      let q = and_parts (is_clause_over n l.clause) (are_hints own l.hints) p.0 in
      let inside = (and_parts (rises_above 0 l.clause) (is_within n l.clause) q.0).1 in
      let L : List Token = literals_text l.clause in
      let H : List Token = numbers_text l.hints in
      let R : List Token = log_text ls in
      let X : List Token = R ++ more in
      let whole : (((L ++ sp ∷ []) ++ (H ++ lf ∷ [])) ++ R) ++ more ≡ L ++ (sp ∷ (H ++ (lf ∷ X))) =
      append_assoc ((L ++ sp ∷ []) ++ (H ++ lf ∷ [])) R more
      ∙ append_assoc (L ++ sp ∷ []) (H ++ lf ∷ []) X
      ∙ append_assoc L (sp ∷ []) ((H ++ lf ∷ []) ++ X)
      ∙ ap (λ (w : List Token). L ++ (sp ∷ w)) (append_assoc H (lf ∷ []) X) in
      subst AreSpaced (sym whole) (literals_spaced l.clause sp (H ++ (lf ∷ X)) inside refl (hints_spaced own l.hints X q.1 (log_spaced (own + 1) ls more p.1 m)))

-- the lines of labels
labels_spaced : (a : ℕ) (ls : List Label) (more : List Token) → a + length ls ≤ 2 ^ 64 → are_labels ls ≡ true → AreSpaced more → AreSpaced (labels_text a ls ++ more)
labels_spaced a [] more c e m = m
labels_spaced a (Idle ∷ ls) more c e m =
    (refl, (refl, (decimal_word a (omega (arith, c)), (refl, (refl, (refl, labels_spaced (suc a) ls more (omega (arith, c)) e m))))))
labels_spaced a (Arrive name ∷ ls) more c e m =
    let p = and_parts (is_name name) (are_labels ls) e in
    (refl, (refl, (decimal_word a (omega (arith, c)), (refl, (refl, (refl, (name_word name p.0, (refl, labels_spaced (suc a) ls more (omega (arith, c)) p.1 m))))))))
labels_spaced a (Step name point ∷ ls) more c e m =
    let p = and_parts (is_name name && is_small point) (are_labels ls) e in
    let q = and_parts (is_name name) (is_small point) p.0 in
    (refl, (refl, (decimal_word a (omega (arith, c)), (refl, (refl, (refl, (name_word name q.0, (refl, (decimal_word point (small_below point q.1), (refl, labels_spaced (suc a) ls more (omega (arith, c)) p.1 m))))))))))

-- the values of a model
model_spaced : (v : ℕ) (bs : List Bool) (more : List Token) → v + length bs ≤ 2 ^ 64 → AreSpaced more → AreSpaced (model_text v bs ++ more)
model_spaced v [] more c m = m
model_spaced v (b ∷ bs) more c m = (signed_word b v (omega (arith, c)), (refl, model_spaced (suc v) bs more (omega (arith, c)) m))

-- what stands behind the verdict
ending_spaced : (n : ℕ) (e : Ending) → n < limit → is_ending n e ≡ true → AreSpaced (ending_text e)
ending_spaced n Holds few h = (refl, (refl, (refl, (refl, tt))))
ending_spaced n (Fails values) few h =
    let long = eqb-true (length values) n h in
    (refl, (refl, (refl, (refl, model_spaced 1 values (nought ∷ (lf ∷ (codes "end" ∷ (lf ∷ [])))) (omega (arith, long, few)) (refl, (refl, (refl, (refl, tt))))))))
ending_spaced n Undecided few h = (refl, (refl, (refl, (refl, tt))))

-- the rows of depths: one more than turns
depths_spaced : (n k : ℕ) → n < limit → k < limit → (rows : List (List Lit)) (more : List Token) → are_depths n k rows ≡ true → AreSpaced more → AreSpaced (rows_text (codes "depth") 0 rows ++ more)
depths_spaced n k few turns [] more e m = absurd cc
depths_spaced n k few turns (row ∷ rows) more e m =
    let p = and_parts ((nat_le 1 (length row) && nat_le (length row) 17) && (length rows == k)) (are_rows n (length row) (row ∷ rows)) e in
    let q = and_parts (nat_le 1 (length row) && nat_le (length row) 17) (length rows == k) p.0 in
    let wide = leb-true (length row) 17 (and_parts (nat_le 1 (length row)) (nat_le (length row) 17) q.0).1 in
    let long = eqb-true (length rows) k q.1 in
    rows_spaced n few (codes "depth") 0 (length row) (row ∷ rows) more refl (omega (arith, long, turns)) (omega (arith, wide)) p.1 m

-- the words of a certificate have gaps behind them
pub words_spaced : (c : Certificate) → is_certificate c ≡ true → AreSpaced (certificate_words c)
words_spaced c v =
    let n = c.variables in
    let R = are_lines n (length c.clauses + 2) c.log in
    let E = R && is_ending n c.ending in
    let Y = (length c.turn_lits == c.turns) && are_rows n (length c.labels) c.turn_lits in
    let D = are_depths n c.turns c.depth_lits && Y in
    let L = (is_small (length c.labels) && are_labels c.labels) && (D && E) in
    let G = is_clause_over n c.goal && L in
    let C = (is_small (length c.clauses) && are_within n c.clauses) && G in
    let p1 = and_parts (is_small c.turns) (is_small c.arrivals && (is_small c.budget && (within 1 limit n && C))) v in
    let p2 = and_parts (is_small c.arrivals) (is_small c.budget && (within 1 limit n && C)) p1.1 in
    let p3 = and_parts (is_small c.budget) (within 1 limit n && C) p2.1 in
    let p4 = and_parts (within 1 limit n) C p3.1 in
    let p5 = and_parts (is_small (length c.clauses) && are_within n c.clauses) G p4.1 in
    let p6 = and_parts (is_clause_over n c.goal) L p5.1 in
    let p7 = and_parts (is_small (length c.labels) && are_labels c.labels) (D && E) p6.1 in
    let p8 = and_parts D E p7.1 in
    let p9 = and_parts R (is_ending n c.ending) p8.1 in
    let cs = and_parts (is_small (length c.clauses)) (are_within n c.clauses) p5.0 in
    let goal = (and_parts (rises_above 0 c.goal) (is_within n c.goal) p6.0).1 in
    let ls = and_parts (is_small (length c.labels)) (are_labels c.labels) p7.0 in
    let ds = and_parts (are_depths n c.turns c.depth_lits) Y p8.0 in
    let ts = and_parts (length c.turn_lits == c.turns) (are_rows n (length c.labels) c.turn_lits) ds.1 in
    let rows = eqb-true (length c.turn_lits) c.turns ts.0 in
    let few : n < limit = ltb-true n limit (and_parts (nat_le 1 n) (nat_lt n limit) p4.0).1 in
    let turns : c.turns < limit = ltb-true c.turns limit (and_parts (nat_le 0 c.turns) (nat_lt c.turns limit) p1.0).1 in
    let labelled : length c.labels < limit = ltb-true (length c.labels) limit (and_parts (nat_le 0 (length c.labels)) (nat_lt (length c.labels) limit) ls.0).1 in
    let end_words : List Token = codes "verdict" ∷ (sp ∷ ending_text c.ending) in
    let log_words : List Token = codes "log" ∷ (lf ∷ (log_text c.log ++ end_words)) in
    let turn_words : List Token = rows_text (codes "turn") 1 c.turn_lits ++ log_words in
    let depth_words : List Token = rows_text (codes "depth") 0 c.depth_lits ++ turn_words in
    let label_words : List Token = labels_text 0 c.labels ++ depth_words in
    let count_words : List Token = numbered (codes "labels") (length c.labels) label_words in
    let goal_words : List Token = codes "goal" ∷ (sp ∷ (literals_text c.goal ++ (lf ∷ count_words))) in
    let ending : AreSpaced end_words = (refl, (refl, ending_spaced n c.ending few p9.1)) in
    let log : AreSpaced log_words = (refl, (refl, log_spaced n few (length c.clauses + 2) c.log end_words p9.0 ending)) in
    let turned : AreSpaced turn_words = rows_spaced n few (codes "turn") 1 (length c.labels) c.turn_lits log_words refl (omega (arith, rows, turns)) (omega (arith, labelled)) ts.1 log in
    let depths : AreSpaced depth_words = depths_spaced n c.turns few turns c.depth_lits turn_words ds.0 turned in
    let labels : AreSpaced label_words = labels_spaced 0 c.labels depth_words (omega (arith, labelled)) ls.1 depths in
    let counted : AreSpaced count_words = (refl, (refl, (decimal_word (length c.labels) (small_below (length c.labels) ls.0), (refl, labels)))) in
    let goals : AreSpaced goal_words = (refl, (refl, literals_spaced n few c.goal lf count_words goal refl counted)) in
    let lower : AreSpaced (lower_text c) = clauses_spaced n few c.clauses goal_words cs.1 goals in
    let clauses : AreSpaced (numbered (codes "clauses") (length c.clauses) (lower_text c)) = (refl, (refl, (decimal_word (length c.clauses) (small_below (length c.clauses) cs.0), (refl, lower)))) in
    let variables : AreSpaced (numbered (codes "variables") n (numbered (codes "clauses") (length c.clauses) (lower_text c))) = (refl, (refl, (decimal_word n (omega (arith, few)), (refl, clauses)))) in
    let budget : AreSpaced (numbered (codes "budget") c.budget (numbered (codes "variables") n (numbered (codes "clauses") (length c.clauses) (lower_text c)))) = (refl, (refl, (decimal_word c.budget (small_below c.budget p3.0), (refl, variables)))) in
    (refl, (refl, (refl, (refl, (refl, (refl, (refl, (refl, (decimal_word c.turns (small_below c.turns p1.0), (refl, (decimal_word c.arrivals (small_below c.arrivals p2.0), (refl, budget))))))))))))

-- the tokens of the text of a certificate are its words
pub certificate_tokens : (c : Certificate) → is_certificate c ≡ true → tokens (concat (certificate_words c)) ≡ certificate_words c
certificate_tokens c v = spaced_tokens (certificate_words c) (words_spaced c v)
