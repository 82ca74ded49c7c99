-- The certificates that the format has are those that are plainly certificates.
use Rattle.std.proofs.Common.{◌≡◌, ℕ, zero, suc, ◌+◌, ◌-◌, ◌≤◌, min, Bool, true, false, cond, ◌&&◌, ◌==◌, nat_lt, nat_le, List, [], ◌∷◌, length, refl, sym, subst, arith, codes}
use Rattle.std.proofs.lemmas.Bool.{and_parts, and_from}
use Rattle.std.proofs.lemmas.Bool.Decides.{nat_tests}
use Rattle.clause_form.specs.declared.lit.Lit.{Lit}
use Rattle.clause_form.specs.declared.line.Line.{Line}
use Rattle.clause_form.specs.Literals.{variable, rises_above, is_within, are_within}
use Rattle.format.specs.Format.{Format, never, mapped, pair, times, uncons, are_valid, option_valid}
use Rattle.format.proofs.Exact.{times_length}
use Rattle.cert_form.specs.Words.{Token, limit, within, word, spaced, lined, number, literal, value_token, is_name, name}
use Rattle.cert_form.specs.Certificate.{clause_from, clause, hints, log_line, log, Label, Idle, Arrive, Step, label_word, label, table_line, depth_line, turn_line, shifted_line, up_to_17, still, moving, no_rows, Tables, tables, Ending, Holds, Fails, Undecided, end_word, model, chosen, ending, Certificate, certificate}
use Rattle.cert_form.specs.IsCertificate.{is_small, is_label, are_labels, is_clause_over, are_rows, are_depths, are_hints, are_lines, is_ending, is_certificate}

-- each says the other
pub record Same (a b : Bool) : Type 0 where
  pub there : a ≡ true → b ≡ true
  pub back : b ≡ true → a ≡ true

same_and : (a b c d : Bool) → Same a c → Same b d → Same (a && b) (c && d)
same_and a b c d s t = record {
  there = λ e. let p = and_parts a b e in and_from c d (s.there p.0) (t.there p.1);
  back = λ e. let p = and_parts c d e in and_from a b (s.back p.0) (t.back p.1);
}

same : (a : Bool) → Same a a
same a = record { there = λ e. e; back = λ e. e }

-- a part that is always so
and_true : (a : Bool) → (a && true) ≡ a
and_true true = refl
and_true false = refl

drop_true : (a b : Bool) → Same a b → Same (a && true) b
drop_true a b s = subst (λ c. Same c b) (sym (and_true a)) s

-- ---- clauses

-- rising from above, and within
clause_there : (n above : ℕ) (ls : List Lit) → (clause_from n above).valid ls ≡ true → (rises_above above ls ≡ true) × (is_within n ls ≡ true)
unfolding clause_from literal word
clause_there n above [] v = (refl, refl)
clause_there n above (l ∷ ls) v =
    let B = nat_lt above (variable l) && nat_le (variable l) n in
    let p = and_parts (B && true) ((clause_from n (variable l)).valid ls) v in
    let q = and_parts B true p.0 in
    let r = and_parts (nat_lt above (variable l)) (nat_le (variable l) n) q.0 in
    let ih = clause_there n (variable l) ls p.1 in
    let z : nat_lt 0 (variable l) ≡ true = grind (arith, nat_tests, r.0) in
    (and_from (nat_lt above (variable l)) (rises_above (variable l) ls) r.0 ih.0, and_from (nat_lt 0 (variable l) && nat_le (variable l) n) (is_within n ls) (and_from (nat_lt 0 (variable l)) (nat_le (variable l) n) z r.1) ih.1)

clause_back : (n above : ℕ) (ls : List Lit) → rises_above above ls ≡ true → is_within n ls ≡ true → (clause_from n above).valid ls ≡ true
unfolding clause_from literal word
clause_back n above [] r w = refl
clause_back n above (l ∷ ls) r w =
    let p = and_parts (nat_lt above (variable l)) (rises_above (variable l) ls) r in
    let q = and_parts (nat_lt 0 (variable l) && nat_le (variable l) n) (is_within n ls) w in
    let s = and_parts (nat_lt 0 (variable l)) (nat_le (variable l) n) q.0 in
    let B = nat_lt above (variable l) && nat_le (variable l) n in
    and_from (B && true) ((clause_from n (variable l)).valid ls) (and_from B true (and_from (nat_lt above (variable l)) (nat_le (variable l) n) p.0 s.1) refl) (clause_back n (variable l) ls p.1 q.1)

clause_same : (n : ℕ) (ls : List Lit) → Same ((clause n).valid ls) (is_clause_over n ls)
clause_same n ls = record {
  there = λ v. let p = clause_there n 0 ls v in and_from (rises_above 0 ls) (is_within n ls) p.0 p.1;
  back = λ v. let p = and_parts (rises_above 0 ls) (is_within n ls) v in clause_back n 0 ls p.0 p.1;
}

clauses_same : (n i : ℕ) (cs : List (List Lit)) → Same ((times (λ _. lined (clause n)) i (length cs)).valid cs) (are_within n cs)
unfolding word
clauses_same n i [] = same true
clauses_same n i (c ∷ cs) = same_and ((clause n).valid c && true) ((times (λ _. lined (clause n)) (suc i) (length cs)).valid cs) (is_clause_over n c) (are_within n cs) (drop_true ((clause n).valid c) (is_clause_over n c) (clause_same n c)) (clauses_same n (suc i) cs)

-- ---- the log

hint_same : (own h : ℕ) → Same (within 1 (min own limit) h) ((nat_le 1 h && nat_lt h own) && is_small h)
hint_same own h = record {
  there = λ v.
      let p = and_parts (nat_le 1 h) (nat_lt h (min own limit)) v in
      let a : nat_lt h own ≡ true = grind (arith, nat_tests, p.1) in
      let b : is_small h ≡ true = grind (arith, nat_tests, p.1) in
      and_from (nat_le 1 h && nat_lt h own) (is_small h) (and_from (nat_le 1 h) (nat_lt h own) p.0 a) b;
  back = λ v.
      let p = and_parts (nat_le 1 h && nat_lt h own) (is_small h) v in
      let q = and_parts (nat_le 1 h) (nat_lt h own) p.0 in
      let a : nat_lt h (min own limit) ≡ true = grind (arith, nat_tests, p.1, q.1) in
      and_from (nat_le 1 h) (nat_lt h (min own limit)) q.0 a;
}

hints_same : (own : ℕ) (hs : List ℕ) → Same ((hints own).valid hs) (are_hints own hs)
unfolding hints number word
hints_same own [] = same true
hints_same own (h ∷ hs) = same_and (within 1 (min own limit) h && true) ((hints own).valid hs) ((nat_le 1 h && nat_lt h own) && is_small h) (are_hints own hs) (drop_true (within 1 (min own limit) h) ((nat_le 1 h && nat_lt h own) && is_small h) (hint_same own h)) (hints_same own hs)

line_same : (n own : ℕ) (l : Line) → Same ((log_line n own).valid l) (is_clause_over n l.clause && are_hints own l.hints)
unfolding log_line word
line_same n own l = same_and ((clause n).valid l.clause && true) ((hints own).valid l.hints && true) (is_clause_over n l.clause) (are_hints own l.hints) (drop_true ((clause n).valid l.clause) (is_clause_over n l.clause) (clause_same n l.clause)) (drop_true ((hints own).valid l.hints) (are_hints own l.hints) (hints_same own l.hints))

log_same : (n own : ℕ) (ls : List Line) → Same ((log n own).valid ls) (are_lines n own ls)
unfolding log
log_same n own [] = same true
log_same n own (l ∷ ls) = same_and ((log_line n own).valid l) ((log n (own + 1)).valid ls) (is_clause_over n l.clause && are_hints own l.hints) (are_lines n (own + 1) ls) (line_same n own l) (log_same n (own + 1) ls)

-- ---- labels

label_same : (a : ℕ) (l : Label) → Same ((label a).valid l) (is_label l)
unfolding label word label_word name number
label_same a Idle = same true
label_same a (Arrive x) = drop_true (is_name x) (is_name x) (same (is_name x))
label_same a (Step x p) = same_and (is_name x && true) (is_small p && true) (is_name x) (is_small p) (drop_true (is_name x) (is_name x) (same (is_name x))) (drop_true (is_small p) (is_small p) (same (is_small p)))

labels_same : (i : ℕ) (ls : List Label) → Same ((times label i (length ls)).valid ls) (are_labels ls)
labels_same i [] = same true
labels_same i (l ∷ ls) = same_and ((label i).valid l) ((times label (suc i) (length ls)).valid ls) (is_label l) (are_labels ls) (label_same i l) (labels_same (suc i) ls)

-- ---- rows

-- so many
sized_same : {A : Type 0} (item : ℕ → Format A Token) (i m : ℕ) (xs : List A) (P : Bool) → Same ((times item i (length xs)).valid xs) P → Same ((times item i m).valid xs) ((length xs == m) && P)
sized_same item i m xs P s = record {
  there = λ v.
      let e : length xs ≡ m = times_length item i m xs v in
      let t : (length xs == m) ≡ true = grind (arith, nat_tests) in
      and_from (length xs == m) P t (s.there (subst (λ k. (times item i k).valid xs ≡ true) (sym e) v));
  back = λ v.
      let p = and_parts (length xs == m) P v in
      let t = p.0 in
      let e : length xs ≡ m = grind (arith, nat_tests, t) in
      subst (λ k. (times item i k).valid xs ≡ true) e (s.back p.1);
}

abbrev is_one : ℕ → Lit → Bool
is_one n l = nat_lt 0 (variable l) && nat_le (variable l) n

row_same : (w : Token) (n t i : ℕ) (ls : List Lit) → Same ((times (table_line w n t) i (length ls)).valid ls) (is_within n ls)
unfolding table_line word literal
row_same w n t i [] = same true
row_same w n t i (l ∷ ls) = same_and (is_one n l && true) ((times (table_line w n t) (suc i) (length ls)).valid ls) (is_one n l) (is_within n ls) (drop_true (is_one n l) (is_one n l) (same (is_one n l))) (row_same w n t (suc i) ls)

rows_same : (w : Token) (n width i : ℕ) (rs : List (List Lit)) → Same ((times (λ t. times (table_line w n t) 0 width) i (length rs)).valid rs) (are_rows n width rs)
rows_same w n width i [] = same true
rows_same w n width i (r ∷ rs) = same_and ((times (table_line w n i) 0 width).valid r) ((times (λ t. times (table_line w n t) 0 width) (suc i) (length rs)).valid rs) ((length r == width) && is_within n r) (are_rows n width rs) (sized_same (table_line w n i) 0 width r (is_within n r) (row_same w n i 0 r)) (rows_same w n width (suc i) rs)

-- the first row
module _ (n : ℕ) (line : ℕ → Format Lit Token) (one : (d : ℕ) (l : Lit) → Same ((line d).valid l) (is_one n l)) where
  abbrev tail_valid : ℕ → List Lit → Bool
  tail_valid d ls = are_valid (λ d. cond (nat_lt d 17) (line d) never) (λ d l. suc d) d ls

  tail_there : (d : ℕ) (ls : List Lit) → d ≤ 17 → tail_valid d ls ≡ true → (d + length ls ≤ 17) × (is_within n ls ≡ true)
  tail_there d [] h v = (omega arith, refl)
  tail_there d (l ∷ ls) h v = go (λ lt w. tail_there (suc d) ls lt w) (nat_lt d 17) refl v
    where
      go : (suc d ≤ 17 → tail_valid (suc d) ls ≡ true → (suc d + length ls ≤ 17) × (is_within n ls ≡ true)) → (b : Bool) → nat_lt d 17 ≡ b → ((cond b (line d) never).valid l && tail_valid (suc d) ls) ≡ true → (d + suc (length ls) ≤ 17) × (is_within n (l ∷ ls) ≡ true)
      go ih true e v =
          let lt : suc d ≤ 17 = grind (arith, nat_tests) in
          let p = and_parts ((line d).valid l) (tail_valid (suc d) ls) v in
          let h = ih lt p.1 in
          let bound = h.0 in
          (omega (arith, bound), and_from (is_one n l) (is_within n ls) ((one d l).there p.0) h.1)
      go ih false e v = absurd cc

  tail_back : (d : ℕ) (ls : List Lit) → d + length ls ≤ 17 → is_within n ls ≡ true → tail_valid d ls ≡ true
  tail_back d [] h w = refl
  tail_back d (l ∷ ls) h w =
      let p = and_parts (is_one n l) (is_within n ls) w in
      let e : nat_lt d 17 ≡ true = grind (arith, nat_tests) in
      let ih = tail_back (suc d) ls (omega arith) p.1 in
      let v = (one d l).back p.0 in
      go (nat_lt d 17) e v ih
    where
      go : (b : Bool) → b ≡ true → (line d).valid l ≡ true → tail_valid (suc d) ls ≡ true → ((cond b (line d) never).valid l && tail_valid (suc d) ls) ≡ true
      go true e v ih = and_from ((line d).valid l) (tail_valid (suc d) ls) v ih
      go false e v ih = absurd cc

  pub first_there : (stop : Token) (r : List Lit) → (up_to_17 stop line).valid r ≡ true → ((1 ≤ length r) × (length r ≤ 17)) × (is_within n r ≡ true)
  first_there stop [] v = absurd cc
  first_there stop (l ∷ ls) v =
      let p = and_parts ((line 0).valid l) (tail_valid 1 ls) v in
      let t = tail_there 1 ls (omega arith) p.1 in
      let bound = t.0 in
      ((omega arith, omega (arith, bound)), and_from (is_one n l) (is_within n ls) ((one 0 l).there p.0) t.1)

  pub first_back : (stop : Token) (r : List Lit) → 1 ≤ length r → length r ≤ 17 → is_within n r ≡ true → (up_to_17 stop line).valid r ≡ true
  first_back stop [] some most w = absurd (omega arith)
  first_back stop (l ∷ ls) some most w =
      let p = and_parts (is_one n l) (is_within n ls) w in
      and_from ((line 0).valid l) (tail_valid 1 ls) ((one 0 l).back p.0) (tail_back 1 ls (omega arith) p.1)

depth_one : (n d : ℕ) (l : Lit) → Same ((depth_line n 0 d).valid l) (is_one n l)
unfolding table_line word literal
depth_one n d l = drop_true (is_one n l) (is_one n l) (same (is_one n l))

shifted_one : (n d : ℕ) (l : Lit) → Same ((shifted_line n d).valid l) (is_one n l)
unfolding shifted_line word literal
shifted_one n d l = drop_true ((is_one n l && true) && true) (is_one n l) (drop_true (is_one n l && true) (is_one n l) (drop_true (is_one n l) (is_one n l) (same (is_one n l))))

-- ---- the depths

same_length : (m : ℕ) → (m == m) ≡ true
same_length m = grind (arith, nat_tests)

still_there : (n : ℕ) (rows : List (List Lit)) → (still n).valid rows ≡ true → are_depths n 0 rows ≡ true
unfolding still
still_there n [] v = absurd cc
still_there n (r ∷ []) v =
    let f = first_there n (depth_line n 0) (depth_one n) (codes "log") r v in
    let some = f.0.0 in
    let most = f.0.1 in
    let a : nat_le 1 (length r) ≡ true = grind (arith, nat_tests, some) in
    let b : nat_le (length r) 17 ≡ true = grind (arith, nat_tests, most) in
    rw (a, b, same_length (length r), f.1) refl
still_there n (r ∷ (s ∷ rs)) v = absurd cc

still_back : (n : ℕ) (rows : List (List Lit)) → are_depths n 0 rows ≡ true → (still n).valid rows ≡ true
unfolding still
still_back n [] v = absurd cc
still_back n (r ∷ []) v =
    let sizes : Bool = nat_le 1 (length r) && nat_le (length r) 17 in
    let p = and_parts (sizes && true) (((length r == length r) && is_within n r) && true) v in
    let q = and_parts sizes true p.0 in
    let s = and_parts (nat_le 1 (length r)) (nat_le (length r) 17) q.0 in
    let w = and_parts ((length r == length r) && is_within n r) true p.1 in
    let u = and_parts (length r == length r) (is_within n r) w.0 in
    let s0 = s.0 in
    let s1 = s.1 in
    first_back n (depth_line n 0) (depth_one n) (codes "log") r (grind (arith, nat_tests, s0)) (grind (arith, nat_tests, s1)) u.1
still_back n (r ∷ (s ∷ rs)) v =
    let p = and_parts ((nat_le 1 (length r) && nat_le (length r) 17) && (length (s ∷ rs) == 0)) (are_rows n (length r) (r ∷ (s ∷ rs))) v in
    let q = and_parts (nat_le 1 (length r) && nat_le (length r) 17) (length (s ∷ rs) == 0) p.0 in
    let z = q.1 in
    absurd (grind (arith, nat_tests, z))

abbrev second_row : ℕ → ℕ → Format (List Lit) Token
second_row n m = mapped {B = List Lit} (λ p. p.0 ∷ p.1) uncons (pair (lined (literal 0 n)) (λ _. times (depth_line n 1) 1 (m - 1)))

second_same : (n m : ℕ) (s : List Lit) → 1 ≤ m → Same ((second_row n m).valid s) ((length s == m) && is_within n s)
unfolding word literal
second_same n m [] h = record { there = λ v. absurd cc; back = λ v. let p = and_parts (length {A = Lit} [] == m) true v in let z = p.0 in absurd (grind (arith, nat_tests, z, h)) }
second_same n m (y ∷ ys) h =
    let rest = sized_same (depth_line n 1) 1 (m - 1) ys (is_within n ys) (row_same (codes "depth") n 1 1 ys) in
    record {
      there = λ v.
          let p = and_parts (is_one n y && true) ((times (depth_line n 1) 1 (m - 1)).valid ys) v in
          let q = and_parts (is_one n y) true p.0 in
          let r = and_parts (length ys == m - 1) (is_within n ys) (rest.there p.1) in
          let z = r.0 in
          let e : (length (y ∷ ys) == m) ≡ true = grind (arith, nat_tests, z, h) in
          and_from (length (y ∷ ys) == m) (is_within n (y ∷ ys)) e (and_from (is_one n y) (is_within n ys) q.0 r.1);
      back = λ v.
          let p = and_parts (length (y ∷ ys) == m) (is_within n (y ∷ ys)) v in
          let q = and_parts (is_one n y) (is_within n ys) p.1 in
          let z = p.0 in
          let e : (length ys == m - 1) ≡ true = grind (arith, nat_tests, z, h) in
          and_from (is_one n y && true) ((times (depth_line n 1) 1 (m - 1)).valid ys) (and_from (is_one n y) true q.0 refl) (rest.back (and_from (length ys == m - 1) (is_within n ys) e q.1));
    }

later_same : (n m k : ℕ) (rs : List (List Lit)) → Same ((times (λ t. times (depth_line n t) 0 m) 2 k).valid rs) ((length rs == k) && are_rows n m rs)
later_same n m k rs = sized_same (λ t. times (depth_line n t) 0 m) 2 k rs (are_rows n m rs) (rows_same (codes "depth") n m 2 rs)

moving_there : (n k : ℕ) (rows : List (List Lit)) → (moving n k).valid rows ≡ true → are_depths n (suc k) rows ≡ true
unfolding moving word
moving_there n k [] v = absurd cc
moving_there n k (r ∷ []) v = absurd cc
moving_there n k (r ∷ (s ∷ rs)) v =
    let m = length r in
    let p = and_parts ((up_to_17 (49 ∷ []) (shifted_line n)).valid r) ((second_row n m).valid s && (times (λ t. times (depth_line n t) 0 m) 2 k).valid rs) v in
    let q = and_parts ((second_row n m).valid s) ((times (λ t. times (depth_line n t) 0 m) 2 k).valid rs) p.1 in
    let f = first_there n (shifted_line n) (shifted_one n) (49 ∷ []) r p.0 in
    let some = f.0.0 in
    let most = f.0.1 in
    let second = (second_same n m s some).there q.0 in
    let later = and_parts (length rs == k) (are_rows n m rs) ((later_same n m k rs).there q.1) in
    let z = later.0 in
    let a : nat_le 1 m ≡ true = grind (arith, nat_tests, some) in
    let b : nat_le m 17 ≡ true = grind (arith, nat_tests, most) in
    let e : (length (s ∷ rs) == suc k) ≡ true = grind (arith, nat_tests, z) in
    and_from ((nat_le 1 m && nat_le m 17) && (length (s ∷ rs) == suc k)) (are_rows n m (r ∷ (s ∷ rs)))
    (and_from (nat_le 1 m && nat_le m 17) (length (s ∷ rs) == suc k) (and_from (nat_le 1 m) (nat_le m 17) a b) e)
    (and_from ((length r == m) && is_within n r) (are_rows n m (s ∷ rs)) (and_from (length r == m) (is_within n r) (same_length m) f.1)
    (and_from ((length s == m) && is_within n s) (are_rows n m rs) second later.1))

moving_back : (n k : ℕ) (rows : List (List Lit)) → are_depths n (suc k) rows ≡ true → (moving n k).valid rows ≡ true
unfolding moving word
moving_back n k [] v = absurd cc
moving_back n k (r ∷ []) v =
    let p = and_parts ((nat_le 1 (length r) && nat_le (length r) 17) && (length {A = List Lit} [] == suc k)) (are_rows n (length r) (r ∷ [])) v in
    let q = and_parts (nat_le 1 (length r) && nat_le (length r) 17) (length {A = List Lit} [] == suc k) p.0 in
    let z = q.1 in
    absurd (grind (arith, nat_tests, z))
moving_back n k (r ∷ (s ∷ rs)) v =
    let m = length r in
    let p = and_parts ((nat_le 1 m && nat_le m 17) && (length (s ∷ rs) == suc k)) (are_rows n m (r ∷ (s ∷ rs))) v in
    let q = and_parts (nat_le 1 m && nat_le m 17) (length (s ∷ rs) == suc k) p.0 in
    let t = and_parts (nat_le 1 m) (nat_le m 17) q.0 in
    let w = and_parts ((length r == m) && is_within n r) (are_rows n m (s ∷ rs)) p.1 in
    let u = and_parts (length r == m) (is_within n r) w.0 in
    let x = and_parts ((length s == m) && is_within n s) (are_rows n m rs) w.1 in
    let t0 = t.0 in
    let t1 = t.1 in
    let z = q.1 in
    let some : 1 ≤ m = grind (arith, nat_tests, t0) in
    let most : m ≤ 17 = grind (arith, nat_tests, t1) in
    let e : (length rs == k) ≡ true = grind (arith, nat_tests, z) in
    and_from ((up_to_17 (49 ∷ []) (shifted_line n)).valid r) ((second_row n m).valid s && (times (λ t. times (depth_line n t) 0 m) 2 k).valid rs)
    (first_back n (shifted_line n) (shifted_one n) (49 ∷ []) r some most u.1)
    (and_from ((second_row n m).valid s) ((times (λ t. times (depth_line n t) 0 m) 2 k).valid rs) ((second_same n m s some).back x.0) ((later_same n m k rs).back (and_from (length rs == k) (are_rows n m rs) e x.1)))

-- ---- both tables

no_rows_same : (n q : ℕ) (ts : List (List Lit)) → Same (option_valid (λ _. true) (no_rows ts)) ((length ts == 0) && are_rows n q ts)
no_rows_same n q [] = same true
no_rows_same n q (t ∷ ts) = record {
  there = λ v. absurd cc;
  back = λ v. let p = and_parts (length (t ∷ ts) == 0) (are_rows n q (t ∷ ts)) v in let z = p.0 in absurd (grind (arith, nat_tests, z));
}

tables_same : (n q k : ℕ) (t : Tables) → Same ((tables n q k).valid t) (are_depths n k t.0 && ((length t.1 == k) && are_rows n q t.1))
unfolding tables word
tables_same n q zero t = same_and ((still n).valid t.0) (option_valid (λ _. true) (no_rows t.1)) (are_depths n 0 t.0) ((length t.1 == 0) && are_rows n q t.1) (record { there = still_there n t.0; back = still_back n t.0 }) (no_rows_same n q t.1)
tables_same n q (suc k) t =
    let turns = times (λ t. times (turn_line n t) 0 q) 1 (suc k) in
    same_and ((moving n k).valid t.0) ((turns.valid t.1 && true) && true) (are_depths n (suc k) t.0) ((length t.1 == suc k) && are_rows n q t.1)
    (record { there = moving_there n k t.0; back = moving_back n k t.0 })
    (drop_true (turns.valid t.1 && true) ((length t.1 == suc k) && are_rows n q t.1) (drop_true (turns.valid t.1) ((length t.1 == suc k) && are_rows n q t.1) (sized_same (λ t. times (turn_line n t) 0 q) 1 (suc k) t.1 (are_rows n q t.1) (rows_same (codes "turn") n q 1 t.1))))

-- ---- the end

values_valid : (i : ℕ) (bs : List Bool) → (times (λ v. spaced (value_token v)) i (length bs)).valid bs ≡ true
unfolding value_token word
values_valid i [] = refl
values_valid i (b ∷ bs) = values_valid (suc i) bs

ending_same : (n : ℕ) (e : Ending) → Same ((ending n).valid e) (is_ending n e)
unfolding ending chosen end_word model word
ending_same n Holds = same true
ending_same n Undecided = same true
ending_same n (Fails m) =
    let V = (times (λ v. spaced (value_token v)) 1 n).valid m in
    let P = length m == n in
    let base : Same V (P && true) = sized_same (λ v. spaced (value_token v)) 1 n m true (record { there = λ _. refl; back = λ _. values_valid 1 m }) in
    let plain : Same V P = subst (λ c. Same V c) (and_true P) base in
    drop_true (((V && true) && true) && true) P (drop_true ((V && true) && true) P (drop_true (V && true) P (drop_true V P plain)))

-- ---- the whole

pub certificate_same : (c : Certificate) → Same (certificate.valid c) (is_certificate c)
unfolding certificate word number
certificate_same c =
    let n = c.variables in
    let k = c.turns in
    let t : Tables = (c.depth_lits, c.turn_lits) in
    let C = (is_small (length c.clauses) && true) && (times (λ _. lined (clause n)) 0 (length c.clauses)).valid c.clauses in
    let C2 = is_small (length c.clauses) && are_within n c.clauses in
    let G = (clause n).valid c.goal && true in
    let G2 = is_clause_over n c.goal in
    let L = (is_small (length c.labels) && true) && (times label 0 (length c.labels)).valid c.labels in
    let L2 = is_small (length c.labels) && are_labels c.labels in
    let T = (tables n (length c.labels) k).valid t in
    let T2 = are_depths n k c.depth_lits && ((length c.turn_lits == k) && are_rows n (length c.labels) c.turn_lits) in
    let R = (log n (length c.clauses + 2)).valid c.log in
    let R2 = are_lines n (length c.clauses + 2) c.log in
    let E = (ending n).valid c.ending in
    let E2 = is_ending n c.ending in
    let s_small : (m : ℕ) → Same (is_small m && true) (is_small m) = λ m. drop_true (is_small m) (is_small m) (same (is_small m)) in
    let s_end = same_and R E R2 E2 (log_same n (length c.clauses + 2) c.log) (ending_same n c.ending) in
    let s_body = same_and T (R && E) T2 (R2 && E2) (tables_same n (length c.labels) k t) s_end in
    let s_label = same_and L (T && (R && E)) L2 (T2 && (R2 && E2)) (same_and (is_small (length c.labels) && true) ((times label 0 (length c.labels)).valid c.labels) (is_small (length c.labels)) (are_labels c.labels) (s_small (length c.labels)) (labels_same 0 c.labels)) s_body in
    let s_goal = same_and G (L && (T && (R && E))) G2 (L2 && (T2 && (R2 && E2))) (drop_true ((clause n).valid c.goal) G2 (clause_same n c.goal)) s_label in
    let s_clauses = same_and C (G && (L && (T && (R && E)))) C2 (G2 && (L2 && (T2 && (R2 && E2)))) (same_and (is_small (length c.clauses) && true) ((times (λ _. lined (clause n)) 0 (length c.clauses)).valid c.clauses) (is_small (length c.clauses)) (are_within n c.clauses) (s_small (length c.clauses)) (clauses_same n 0 c.clauses)) s_goal in
    let A = C && (G && (L && (T && (R && E)))) in
    let A2 = C2 && (G2 && (L2 && (T2 && (R2 && E2)))) in
    let s_variables = same_and (within 1 limit n && true) A (within 1 limit n) A2 (drop_true (within 1 limit n) (within 1 limit n) (same (within 1 limit n))) s_clauses in
    let s_budget = same_and (is_small c.budget && true) ((within 1 limit n && true) && A) (is_small c.budget) (within 1 limit n && A2) (s_small c.budget) s_variables in
    let s_arrivals = same_and (is_small c.arrivals && true) ((is_small c.budget && true) && ((within 1 limit n && true) && A)) (is_small c.arrivals) (is_small c.budget && (within 1 limit n && A2)) (s_small c.arrivals) s_budget in
    same_and (is_small k && true) ((is_small c.arrivals && true) && ((is_small c.budget && true) && ((within 1 limit n && true) && A))) (is_small k) (is_small c.arrivals && (is_small c.budget && (within 1 limit n && A2))) (s_small k) s_arrivals
