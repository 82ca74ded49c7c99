-- The format of certificates is exact.
use Rattle.std.proofs.Common.{◌≡◌, ℕ, zero, suc, ◌+◌, ◌-◌, ◌^◌, ◌<◌, ◌≤◌, min, Bool, true, false, cond, ◌&&◌, nat_le, nat_lt, List, [], ◌∷◌, ◌++◌, length, Option, Some, None, refl, sym, ap, subst, ◌∙◌, arith, codes}
use Rattle.std.proofs.lemmas.Bool.{and_parts}
use Rattle.std.proofs.lemmas.Bool.Decides.{nat_tests}
use Rattle.std.specs.Fmt.{decimal}
use Rattle.std.specs.Str.{bytes_eq}
use Rattle.clause_form.specs.declared.lit.Lit.{Lit}
use Rattle.clause_form.specs.declared.line.Line.{Line}
use Rattle.clause_form.specs.Literals.{variable}
use Rattle.format.specs.Format.{Format, never, pair, mapped, times, until, uncons, are_spelled}
use Rattle.format.specs.Exact.{IsExact, HasSome, IsSpelling, IsRenaming, Stops, BeginsApart}
use Rattle.format.proofs.Exact.{apart_append, one_exact, pair_exact, pair_some, mapped_exact, mapped_some, ended_exact, ended_some, times_exact, times_some, counted_exact, counted_some, until_exact, until_some, never_exact, uncons_renaming}
use Rattle.cert_form.specs.Words.{Token, sp, lf, limit, word, words, behind, spaced, lined, within, is_between, number_of, number, literal_token, literal_of, literal, value_token, name}
use Rattle.cert_form.specs.Certificate.{nought, any_number, clause, clause_from, hints, log_line, log, Label, Idle, Arrive, Step, LabelWord, IdleWord, ArriveWord, StepWord, label_token, label_word, word_of_label, as_idle, as_arrive, as_step, label_rest, label, table_line, depth_line, turn_line, shifted_line, up_to_17, single, still, as_rows, rows_after, moving, no_rows, tables, Ending, Holds, Fails, Undecided, EndWord, HoldsWord, FailsWord, UndecidedWord, end_token, end_word, word_of_end, as_holds, as_undecided, as_fails, model, end_rest, chosen, ending, labels, clauses, Body, body, after_clauses, Middle, after_variables, Upper, opening, upper, Certificate, certificate_from, parts_of, certificate}
use Rattle.cert_form.proofs.Words.{same_bytes, bytes_same, word_exact, word_some, words_exact, words_some, behind_exact, behind_some, number_exact, number_some, literal_exact, literal_some, value_exact, value_some, name_exact, name_some, number_of-decimal, literal_of-token, few, signed_variable}

pub stops_at : (w : Token) → Stops w (λ t. bytes_eq t w)
stops_at w = record { yes = bytes_same w; only = λ t e. same_bytes t w e }

pub spaced_exact : {A : Type 0} (F : Format A Token) → IsExact F → IsExact (spaced F)
spaced_exact F f = ended_exact F (word sp) f (word_exact sp) (word_some sp)

pub spaced_some : {A : Type 0} (F : Format A Token) → HasSome F → HasSome (spaced F)
spaced_some F s = ended_some F (word sp) s (word_some sp)

pub lined_exact : {A : Type 0} (F : Format A Token) → IsExact F → IsExact (lined F)
lined_exact F f = ended_exact F (word lf) f (word_exact lf) (word_some lf)

pub lined_some : {A : Type 0} (F : Format A Token) → HasSome F → HasSome (lined F)
lined_some F s = ended_some F (word lf) s (word_some lf)

pub any_exact : IsExact any_number
any_exact = number_exact 0 limit (omega arith)

pub any_some : HasSome any_number
any_some = number_some 0 limit (omega arith)

-- a token that tests apart, from a function that does
apart_by : {B : Type 0} (f : Token → Option B) (t w : Token) → (f t ≡ f w → ⊥) → bytes_eq t w ≡ false
apart_by f t w apart = go (bytes_eq t w) refl
  where
    go : (b : Bool) → bytes_eq t w ≡ b → b ≡ false
    go true e = absurd (apart (ap f (same_bytes t w e)))
    go false e = refl

-- ---- clauses

pub literal_first : (above n : ℕ) (l : Lit) (w : Token) → n < limit → is_between above n l ≡ true → (Some l ≡ literal_of w → ⊥) → BeginsApart (λ t. bytes_eq t w) ((literal above n).spell l)
unfolding literal
literal_first above n l w small v apart = apart_by literal_of (literal_token l) w (λ e. apart (sym (literal_of-token l (few above n l small v)) ∙ e))

literal_valid : (above n : ℕ) (l : Lit) → (literal above n).valid l ≡ true → is_between above n l ≡ true
unfolding literal
literal_valid above n l v = v

not_nought : (above n : ℕ) (l : Lit) → is_between above n l ≡ true → Some l ≡ literal_of nought → ⊥
not_nought above n l v e =
    let z : variable (record { 0 = 0 }) ≡ 0 = signed_variable true 0 in
    let same : l ≡ record { 0 = 0 } = cc in
    let q : variable l ≡ 0 = ap variable same ∙ z in
    let p = and_parts (nat_lt above (variable l)) (nat_le (variable l) n) v in
    grind (arith, nat_tests, p.0, q)

pub clause_apart : (n : ℕ) → n < limit → (above : ℕ) (l : Lit) → (spaced (literal above n)).valid l ≡ true → BeginsApart (λ t. bytes_eq t nought) ((spaced (literal above n)).spell l)
clause_apart n small above l v =
    let p = and_parts ((literal above n).valid l) ((word sp).valid tt) v in
    let b = literal_valid above n l p.0 in
    apart_append _ ((literal above n).spell l) ((word sp).spell tt) (literal_first above n l nought small b (not_nought above n l b))

pub clause_exact : (n : ℕ) → n < limit → IsExact (clause n)
unfolding clause_from
clause_exact n small = until_exact nought _ (λ above. spaced (literal above n)) (λ above l. variable l) (stops_at nought) (λ above. spaced_exact (literal above n) (literal_exact above n small)) (clause_apart n small) 0

pub clause_some : (n : ℕ) → HasSome (clause n)
unfolding clause_from
clause_some n = until_some nought _ (λ above. spaced (literal above n)) (λ above l. variable l) 0

clause_first : (n : ℕ) → n < limit → (ls : List Lit) (more : List Token) → (clause n).valid ls ≡ true → BeginsApart (λ t. bytes_eq t (codes "verdict")) ((clause n).spell ls ++ more)
unfolding clause_from
clause_first n small [] more v = refl
clause_first n small (l ∷ ls) more v =
    let rest : List Token = are_spelled nought (λ above. spaced (literal above n)) (λ above l. variable l) (variable l) ls in
    let v0 = (and_parts ((spaced (literal 0 n)).valid l) ((until nought (λ t. bytes_eq t nought) (λ above. spaced (literal above n)) (λ above l. variable l) (variable l)).valid ls) v).0 in
    let v1 = (and_parts ((literal 0 n).valid l) ((word sp).valid tt) v0).0 in
    let a = literal_first 0 n l (codes "verdict") small (literal_valid 0 n l v1) (λ e. cc) in
    apart_append _ (((literal 0 n).spell l ++ (word sp).spell tt) ++ rest) more (apart_append _ ((literal 0 n).spell l ++ (word sp).spell tt) rest (apart_append _ ((literal 0 n).spell l) ((word sp).spell tt) a))

-- ---- hints

number_first : (low high : ℕ) (h : ℕ) → high ≤ limit → 0 < low → (number low high).valid h ≡ true → BeginsApart (λ t. bytes_eq t nought) ((number low high).spell h)
unfolding number
number_first low high h small some v =
    let p = and_parts (nat_le low h) (nat_lt h high) v in
    let s : h < 2 ^ 64 = grind (arith, nat_tests, p.1) in
    let l : low ≤ h = grind (arith, nat_tests, p.0) in
    apart_by number_of (decimal h) nought (λ e. let q : Some h ≡ Some 0 = sym (number_of-decimal h s) ∙ e in let z : h ≡ 0 = cc in omega arith)

pub hints_apart : (own : ℕ) (h : ℕ) → (spaced (number 1 (min own limit))).valid h ≡ true → BeginsApart (λ t. bytes_eq t nought) ((spaced (number 1 (min own limit))).spell h)
hints_apart own h v = apart_append _ ((number 1 (min own limit)).spell h) ((word sp).spell tt) (number_first 1 (min own limit) h (omega arith) (omega arith) (and_parts ((number 1 (min own limit)).valid h) ((word sp).valid tt) v).0)

pub hints_exact : (own : ℕ) → IsExact (hints own)
unfolding hints
hints_exact own = until_exact nought _ (λ own. spaced (number 1 (min own limit))) (λ own h. own) (stops_at nought) (λ own. spaced_exact (number 1 (min own limit)) (number_exact 1 (min own limit) (omega arith))) hints_apart own

pub hints_some : (own : ℕ) → HasSome (hints own)
unfolding hints
hints_some own = until_some nought _ (λ own. spaced (number 1 (min own limit))) (λ own h. own) own

-- ---- lines

line_renaming : (valid : List Lit × List ℕ → Bool) → IsRenaming {B = Line} valid (λ p. record { clause = p.0; hints = p.1 }) (λ l. Some (l.clause, l.hints))
line_renaming valid = record { back = λ x v. refl; forth = forth }
  where
    forth : (y : Line) (x : List Lit × List ℕ) → Some (y.clause, y.hints) ≡ Some x → record { clause = x.0; hints = x.1 } ≡ y
    forth y x e = let p : (y.clause, y.hints) ≡ x = cc in ap {B = Line} (λ (q : List Lit × List ℕ). record { clause = q.0; hints = q.1 }) (sym p)

pub log_line_exact : (n own : ℕ) → n < limit → IsExact (log_line n own)
unfolding log_line
log_line_exact n own small = mapped_exact _ _ (pair (spaced (clause n)) (λ _. lined (hints own))) (line_renaming _) (pair_exact (spaced (clause n)) (λ _. lined (hints own)) (spaced_exact (clause n) (clause_exact n small)) (λ _ _. lined_exact (hints own) (hints_exact own)) (λ _ _. lined_some (hints own) (hints_some own)))

pub log_line_some : (n own : ℕ) → HasSome (log_line n own)
unfolding log_line
log_line_some n own = mapped_some _ _ (pair (spaced (clause n)) (λ _. lined (hints own))) (line_renaming _) (pair_some (spaced (clause n)) (λ _. lined (hints own)) (λ _ _. lined_some (hints own) (hints_some own)) (spaced_some (clause n) (clause_some n)))

pub log_line_apart : (n : ℕ) → n < limit → (own : ℕ) (l : Line) → (log_line n own).valid l ≡ true → BeginsApart (λ t. bytes_eq t (codes "verdict")) ((log_line n own).spell l)
unfolding log_line
log_line_apart n small own l v =
    let v0 = (and_parts ((spaced (clause n)).valid l.clause) ((lined (hints own)).valid l.hints) v).0 in
    let v1 = (and_parts ((clause n).valid l.clause) ((word sp).valid tt) v0).0 in
    apart_append _ ((clause n).spell l.clause ++ (word sp).spell tt) ((lined (hints own)).spell l.hints) (clause_first n small l.clause ((word sp).spell tt) v1)

pub log_exact : (n own : ℕ) → n < limit → IsExact (log n own)
unfolding log
log_exact n own small = until_exact (codes "verdict") _ (log_line n) (λ own l. own + 1) (stops_at (codes "verdict")) (λ own. log_line_exact n own small) (log_line_apart n small) own

pub log_some : (n own : ℕ) → HasSome (log n own)
unfolding log
log_some n own = until_some (codes "verdict") _ (log_line n) (λ own l. own + 1) own

-- ---- labels

-- one of three words
three : {K : Type 0} (token : K → Token) (a b c : K) → ((k : K) (P : K → Type 0) → P a → P b → P c → P k) → (bytes_eq (token b) (token a) ≡ false) → (bytes_eq (token c) (token a) ≡ false) → (bytes_eq (token c) (token b) ≡ false) → IsSpelling (λ _. true) token (λ t. cond (bytes_eq t (token a)) (Some a) (cond (bytes_eq t (token b)) (Some b) (cond (bytes_eq t (token c)) (Some c) None)))
three {K} token a b c all ba ca cb = record { means = λ x v. all x (λ x. cond (bytes_eq (token x) (token a)) (Some a) (cond (bytes_eq (token x) (token b)) (Some b) (cond (bytes_eq (token x) (token c)) (Some c) None)) ≡ Some x) (rw (bytes_same (token a)) refl) (rw (ba, bytes_same (token b)) refl) (rw (ca, cb, bytes_same (token c)) refl); spells = λ t x e. go t x (bytes_eq t (token a)) refl (bytes_eq t (token b)) refl (bytes_eq t (token c)) refl e }
  where
    at : (t : Token) (x y : K) → bytes_eq t (token y) ≡ true → Some y ≡ Some x → (true ≡ true) × (token x ≡ t)
    at t x y e p = let q : y ≡ x = cc in (refl, subst (λ (k : K). token k ≡ t) q (sym (same_bytes t (token y) e)))

    go : (t : Token) (x : K) (p : Bool) → bytes_eq t (token a) ≡ p → (q : Bool) → bytes_eq t (token b) ≡ q → (r : Bool) → bytes_eq t (token c) ≡ r → cond p (Some a) (cond q (Some b) (cond r (Some c) None)) ≡ Some x → (true ≡ true) × (token x ≡ t)
    go t x true e q f r g h = at t x a e h
    go t x false e true f r g h = at t x b f h
    go t x false e false f true g h = at t x c g h
    go t x false e false f false g h = absurd cc

label_words : (k : LabelWord) (P : LabelWord → Type 0) → P IdleWord → P ArriveWord → P StepWord → P k
label_words IdleWord P a b c = a
label_words ArriveWord P a b c = b
label_words StepWord P a b c = c

label_word_exact : IsExact label_word
unfolding label_word
label_word_exact = one_exact _ _ _ (three label_token IdleWord ArriveWord StepWord label_words refl refl refl)

label_word_some : HasSome label_word
unfolding label_word
label_word_some = record { value = IdleWord; valid = refl }

idle_renaming : (valid : Unit {0} → Bool) → IsRenaming {B = Label} valid (λ _. Idle) as_idle
idle_renaming valid = record { back = λ x v. refl; forth = forth }
  where
    forth : (y : Label) (x : Unit {0}) → as_idle y ≡ Some x → Idle ≡ y
    forth Idle x e = refl
    forth (Arrive a) x e = absurd cc
    forth (Step a p) x e = absurd cc

arrive_renaming : (valid : Token → Bool) → IsRenaming {B = Label} valid Arrive as_arrive
arrive_renaming valid = record { back = λ x v. refl; forth = forth }
  where
    forth : (y : Label) (x : Token) → as_arrive y ≡ Some x → Arrive x ≡ y
    forth Idle x e = absurd cc
    forth (Arrive a) x e = let p : a ≡ x = cc in ap Arrive (sym p)
    forth (Step a p) x e = absurd cc

step_renaming : (valid : Token × ℕ → Bool) → IsRenaming {B = Label} valid (λ p. Step p.0 p.1) as_step
step_renaming valid = record { back = λ x v. refl; forth = forth }
  where
    forth : (y : Label) (x : Token × ℕ) → as_step y ≡ Some x → Step x.0 x.1 ≡ y
    forth Idle x e = absurd cc
    forth (Arrive a) x e = absurd cc
    forth (Step a p) x e = let q : (a, p) ≡ x = cc in ap {B = Label} (λ (r : Token × ℕ). Step r.0 r.1) (sym q)

label_rest_exact : (w : LabelWord) → IsExact (label_rest w)
label_rest_exact IdleWord = mapped_exact _ _ (word lf) (idle_renaming _) (word_exact lf)
label_rest_exact ArriveWord = mapped_exact _ _ (words (sp ∷ []) (lined name)) (arrive_renaming _) (words_exact (sp ∷ []) (lined name) (lined_exact name name_exact) (lined_some name name_some))
label_rest_exact StepWord = mapped_exact _ _ (words (sp ∷ []) (pair (spaced name) (λ _. lined any_number))) (step_renaming _) (words_exact (sp ∷ []) (pair (spaced name) (λ _. lined any_number)) (pair_exact (spaced name) (λ _. lined any_number) (spaced_exact name name_exact) (λ _ _. lined_exact any_number any_exact) (λ _ _. lined_some any_number any_some)) (pair_some (spaced name) (λ _. lined any_number) (λ _ _. lined_some any_number any_some) (spaced_some name name_some)))

label_rest_some : (w : LabelWord) → HasSome (label_rest w)
label_rest_some IdleWord = mapped_some _ _ (word lf) (idle_renaming _) (word_some lf)
label_rest_some ArriveWord = mapped_some _ _ (words (sp ∷ []) (lined name)) (arrive_renaming _) (words_some (sp ∷ []) (lined name) (lined_some name name_some))
label_rest_some StepWord = mapped_some _ _ (words (sp ∷ []) (pair (spaced name) (λ _. lined any_number))) (step_renaming _) (words_some (sp ∷ []) (pair (spaced name) (λ _. lined any_number)) (pair_some (spaced name) (λ _. lined any_number) (λ _ _. lined_some any_number any_some) (spaced_some name name_some)))

label_kind : (w : LabelWord) (l : Label) → (label_rest w).valid l ≡ true → word_of_label l ≡ w
label_kind IdleWord Idle v = refl
label_kind IdleWord (Arrive a) v = absurd cc
label_kind IdleWord (Step a p) v = absurd cc
label_kind ArriveWord Idle v = absurd cc
label_kind ArriveWord (Arrive a) v = refl
label_kind ArriveWord (Step a p) v = absurd cc
label_kind StepWord Idle v = absurd cc
label_kind StepWord (Arrive a) v = absurd cc
label_kind StepWord (Step a p) v = refl

label_renaming : IsRenaming {A = LabelWord × Label} (pair label_word label_rest).valid (λ p. p.1) (λ l. Some (word_of_label l, l))
label_renaming = record { back = back; forth = forth }
  where
    back : (x : LabelWord × Label) → (label_word.valid x.0 && (label_rest x.0).valid x.1) ≡ true → Some (word_of_label x.1, x.1) ≡ Some x
    back x v = let p = and_parts (label_word.valid x.0) ((label_rest x.0).valid x.1) v in ap {B = Option (LabelWord × Label)} (λ (w : LabelWord). Some (w, x.1)) (label_kind x.0 x.1 p.1)

    forth : (y : Label) (x : LabelWord × Label) → Some (word_of_label y, y) ≡ Some x → x.1 ≡ y
    forth y x e = let p : (word_of_label y, y) ≡ x = cc in ap (λ (q : LabelWord × Label). q.1) (sym p)

label_inner_exact : IsExact (mapped (λ p. p.1) (λ l. Some (word_of_label l, l)) (pair label_word label_rest))
label_inner_exact = mapped_exact _ _ (pair label_word label_rest) label_renaming (pair_exact label_word label_rest label_word_exact (λ w _. label_rest_exact w) (λ w _. label_rest_some w))

label_inner_some : HasSome (mapped (λ p. p.1) (λ l. Some (word_of_label l, l)) (pair label_word label_rest))
label_inner_some = mapped_some _ _ (pair label_word label_rest) label_renaming (pair_some label_word label_rest (λ w _. label_rest_some w) label_word_some)

pub label_exact : (a : ℕ) → IsExact (label a)
unfolding label
label_exact a = words_exact (codes "label" ∷ sp ∷ decimal a ∷ sp ∷ []) _ label_inner_exact label_inner_some

pub label_some : (a : ℕ) → HasSome (label a)
unfolding label
label_some a = words_some (codes "label" ∷ sp ∷ decimal a ∷ sp ∷ []) _ label_inner_some

-- ---- depths and turns

lit_exact : (n : ℕ) → n < limit → IsExact (lined (literal 0 n))
lit_exact n small = lined_exact (literal 0 n) (literal_exact 0 n small)

lit_some : (n : ℕ) → 0 < n → HasSome (lined (literal 0 n))
lit_some n some = lined_some (literal 0 n) (literal_some n some)

pub depth_line_exact : (n t d : ℕ) → 0 < n → n < limit → IsExact (depth_line n t d)
unfolding table_line
depth_line_exact n t d some small = words_exact (codes "depth" ∷ sp ∷ decimal t ∷ sp ∷ decimal d ∷ sp ∷ []) (lined (literal 0 n)) (lit_exact n small) (lit_some n some)

pub depth_line_some : (n t d : ℕ) → 0 < n → HasSome (depth_line n t d)
unfolding table_line
depth_line_some n t d some = words_some (codes "depth" ∷ sp ∷ decimal t ∷ sp ∷ decimal d ∷ sp ∷ []) (lined (literal 0 n)) (lit_some n some)

pub turn_line_exact : (n t d : ℕ) → 0 < n → n < limit → IsExact (turn_line n t d)
unfolding table_line
turn_line_exact n t d some small = words_exact (codes "turn" ∷ sp ∷ decimal t ∷ sp ∷ decimal d ∷ sp ∷ []) (lined (literal 0 n)) (lit_exact n small) (lit_some n some)

pub turn_line_some : (n t d : ℕ) → 0 < n → HasSome (turn_line n t d)
unfolding table_line
turn_line_some n t d some = words_some (codes "turn" ∷ sp ∷ decimal t ∷ sp ∷ decimal d ∷ sp ∷ []) (lined (literal 0 n)) (lit_some n some)

pub shifted_line_exact : (n d : ℕ) → 0 < n → n < limit → IsExact (shifted_line n d)
unfolding shifted_line
shifted_line_exact n d some small = words_exact (nought ∷ sp ∷ decimal d ∷ sp ∷ []) (behind (lined (literal 0 n)) (codes "depth" ∷ sp ∷ [])) (behind_exact (lined (literal 0 n)) (codes "depth" ∷ sp ∷ []) (lit_exact n small)) (behind_some (lined (literal 0 n)) (codes "depth" ∷ sp ∷ []) (lit_some n some))

pub shifted_line_some : (n d : ℕ) → 0 < n → HasSome (shifted_line n d)
unfolding shifted_line
shifted_line_some n d some = words_some (nought ∷ sp ∷ decimal d ∷ sp ∷ []) (behind (lined (literal 0 n)) (codes "depth" ∷ sp ∷ [])) (behind_some (lined (literal 0 n)) (codes "depth" ∷ sp ∷ []) (lit_some n some))

word_first : {A : Type 0} (w stop : Token) (ws : List Token) (F : Format A Token) (x : A) → bytes_eq w stop ≡ false → BeginsApart (λ t. bytes_eq t stop) ((words (w ∷ ws) F).spell x)
unfolding word
word_first w stop ws F x e = e

pub depth_line_apart : (n t d : ℕ) (x : Lit) → BeginsApart (λ t. bytes_eq t (codes "log")) ((depth_line n t d).spell x)
unfolding table_line
depth_line_apart n t d x = word_first (codes "depth") (codes "log") (sp ∷ decimal t ∷ sp ∷ decimal d ∷ sp ∷ []) (lined (literal 0 n)) x refl

pub shifted_line_apart : (n d : ℕ) (x : Lit) → BeginsApart (λ t. bytes_eq t (49 ∷ [])) ((shifted_line n d).spell x)
unfolding shifted_line
shifted_line_apart n d x = word_first nought (49 ∷ []) (sp ∷ decimal d ∷ sp ∷ []) (behind (lined (literal 0 n)) (codes "depth" ∷ sp ∷ [])) x refl

module _ (stop : Token) (line : ℕ → Format Lit Token) (exact : (d : ℕ) → IsExact (line d)) (some : HasSome (line 0)) (apart : (d : ℕ) (x : Lit) → BeginsApart (λ t. bytes_eq t stop) ((line d).spell x)) where
  capped_exact : (d : ℕ) (b : Bool) → IsExact (cond b (line d) never)
  capped_exact d true = exact d
  capped_exact d false = never_exact

  capped_apart : (d : ℕ) (b : Bool) (x : Lit) → (cond b (line d) never).valid x ≡ true → BeginsApart (λ t. bytes_eq t stop) ((cond b (line d) never).spell x)
  capped_apart d true x v = apart d x
  capped_apart d false x v = absurd cc

  abbrev rest : Format (List Lit) Token
  rest = until stop (λ t. bytes_eq t stop) (λ d. cond (nat_lt d 17) (line d) never) (λ d l. suc d) 1

  rest_exact : IsExact rest
  rest_exact = until_exact stop _ (λ d. cond (nat_lt d 17) (line d) never) (λ d l. suc d) (stops_at stop) (λ d. capped_exact d (nat_lt d 17)) (λ d. capped_apart d (nat_lt d 17)) 1

  rest_some : HasSome rest
  rest_some = until_some stop _ (λ d. cond (nat_lt d 17) (line d) never) (λ d l. suc d) 1

  pub up_to_17_exact : IsExact (up_to_17 stop line)
  up_to_17_exact = mapped_exact _ _ (pair (line 0) (λ _. rest)) (uncons_renaming _) (pair_exact (line 0) (λ _. rest) (exact 0) (λ _ _. rest_exact) (λ _ _. rest_some))

  pub up_to_17_some : HasSome (up_to_17 stop line)
  up_to_17_some = mapped_some _ _ (pair (line 0) (λ _. rest)) (uncons_renaming _) (pair_some (line 0) (λ _. rest) (λ _ _. rest_some) some)

single_renaming : (valid : List Lit → Bool) → IsRenaming {B = List (List Lit)} valid (λ r. r ∷ []) single
single_renaming valid = record { back = λ x v. refl; forth = forth }
  where
    forth : (y : List (List Lit)) (x : List Lit) → single y ≡ Some x → x ∷ [] ≡ y
    forth [] x e = absurd cc
    forth (r ∷ []) x e = let p : r ≡ x = cc in ap {B = List (List Lit)} (λ (q : List Lit). q ∷ []) (sym p)
    forth (r ∷ (s ∷ rs)) x e = absurd cc

pub still_exact : (n : ℕ) → 0 < n → n < limit → IsExact (still n)
unfolding still
still_exact n some small = mapped_exact _ _ (up_to_17 (codes "log") (depth_line n 0)) (single_renaming _) (up_to_17_exact (codes "log") (depth_line n 0) (λ d. depth_line_exact n 0 d some small) (depth_line_some n 0 0 some) (λ d x. depth_line_apart n 0 d x))

pub still_some : (n : ℕ) → 0 < n → n < limit → HasSome (still n)
unfolding still
still_some n some small = mapped_some _ _ (up_to_17 (codes "log") (depth_line n 0)) (single_renaming _) (up_to_17_some (codes "log") (depth_line n 0) (λ d. depth_line_exact n 0 d some small) (depth_line_some n 0 0 some) (λ d x. depth_line_apart n 0 d x))

rows_renaming : (valid : List Lit × (List Lit × List (List Lit)) → Bool) → IsRenaming {B = List (List Lit)} valid (λ p. p.0 ∷ (p.1.0 ∷ p.1.1)) as_rows
rows_renaming valid = record { back = λ x v. refl; forth = forth }
  where
    forth : (y : List (List Lit)) (x : List Lit × (List Lit × List (List Lit))) → as_rows y ≡ Some x → x.0 ∷ (x.1.0 ∷ x.1.1) ≡ y
    forth [] x e = absurd cc
    forth (r ∷ []) x e = absurd cc
    forth (r ∷ (s ∷ rs)) x e = let p : (r, (s, rs)) ≡ x = cc in ap {B = List (List Lit)} (λ (q : List Lit × (List Lit × List (List Lit))). q.0 ∷ (q.1.0 ∷ q.1.1)) (sym p)

module _ (n : ℕ) (some : 0 < n) (small : n < limit) where
  depths_exact : (t i m : ℕ) → IsExact (times (depth_line n t) i m)
  depths_exact t i m = times_exact (depth_line n t) (λ d. depth_line_exact n t d some small) (λ d. depth_line_some n t d some) i m

  depths_some : (t i m : ℕ) → HasSome (times (depth_line n t) i m)
  depths_some t i m = times_some (depth_line n t) (λ d. depth_line_exact n t d some small) (λ d. depth_line_some n t d some) i m

  turns_exact : (t i m : ℕ) → IsExact (times (turn_line n t) i m)
  turns_exact t i m = times_exact (turn_line n t) (λ d. turn_line_exact n t d some small) (λ d. turn_line_some n t d some) i m

  turns_some : (t i m : ℕ) → HasSome (times (turn_line n t) i m)
  turns_some t i m = times_some (turn_line n t) (λ d. turn_line_exact n t d some small) (λ d. turn_line_some n t d some) i m

  abbrev second_row : ℕ → Format (List Lit) Token
  second_row m = mapped (λ p. p.0 ∷ p.1) uncons (pair (lined (literal 0 n)) (λ _. times (depth_line n 1) 1 m))

  second_exact : (m : ℕ) → IsExact (second_row m)
  second_exact m = mapped_exact _ _ (pair (lined (literal 0 n)) (λ _. times (depth_line n 1) 1 m)) (uncons_renaming _) (pair_exact (lined (literal 0 n)) (λ _. times (depth_line n 1) 1 m) (lit_exact n small) (λ _ _. depths_exact 1 1 m) (λ _ _. depths_some 1 1 m))

  second_some : (m : ℕ) → HasSome (second_row m)
  second_some m = mapped_some _ _ (pair (lined (literal 0 n)) (λ _. times (depth_line n 1) 1 m)) (uncons_renaming _) (pair_some (lined (literal 0 n)) (λ _. times (depth_line n 1) 1 m) (λ _ _. depths_some 1 1 m) (lit_some n some))

  abbrev more_rows : ℕ → ℕ → Format (List (List Lit)) Token
  more_rows m k = times (λ t. times (depth_line n t) 0 m) 2 k

  more_exact : (m k : ℕ) → IsExact (more_rows m k)
  more_exact m k = times_exact (λ t. times (depth_line n t) 0 m) (λ t. depths_exact t 0 m) (λ t. depths_some t 0 m) 2 k

  more_some : (m k : ℕ) → HasSome (more_rows m k)
  more_some m k = times_some (λ t. times (depth_line n t) 0 m) (λ t. depths_exact t 0 m) (λ t. depths_some t 0 m) 2 k

  rows_after_exact : (k : ℕ) (r : List Lit) → IsExact (rows_after n k r)
  rows_after_exact k r = words_exact (sp ∷ nought ∷ sp ∷ []) (pair (second_row (length r - 1)) (λ _. more_rows (length r) k)) (pair_exact (second_row (length r - 1)) (λ _. more_rows (length r) k) (second_exact (length r - 1)) (λ _ _. more_exact (length r) k) (λ _ _. more_some (length r) k)) (pair_some (second_row (length r - 1)) (λ _. more_rows (length r) k) (λ _ _. more_some (length r) k) (second_some (length r - 1)))

  rows_after_some : (k : ℕ) (r : List Lit) → HasSome (rows_after n k r)
  rows_after_some k r = words_some (sp ∷ nought ∷ sp ∷ []) (pair (second_row (length r - 1)) (λ _. more_rows (length r) k)) (pair_some (second_row (length r - 1)) (λ _. more_rows (length r) k) (λ _ _. more_some (length r) k) (second_some (length r - 1)))

  first_exact : IsExact (up_to_17 (49 ∷ []) (shifted_line n))
  first_exact = up_to_17_exact (49 ∷ []) (shifted_line n) (λ d. shifted_line_exact n d some small) (shifted_line_some n 0 some) (λ d x. shifted_line_apart n d x)

  first_some : HasSome (up_to_17 (49 ∷ []) (shifted_line n))
  first_some = up_to_17_some (49 ∷ []) (shifted_line n) (λ d. shifted_line_exact n d some small) (shifted_line_some n 0 some) (λ d x. shifted_line_apart n d x)

  pub moving_exact : (k : ℕ) → IsExact (moving n k)
  unfolding moving
  moving_exact k = mapped_exact _ _ (words (codes "depth" ∷ sp ∷ []) (pair (up_to_17 (49 ∷ []) (shifted_line n)) (rows_after n k))) (rows_renaming _) (words_exact (codes "depth" ∷ sp ∷ []) (pair (up_to_17 (49 ∷ []) (shifted_line n)) (rows_after n k)) (pair_exact (up_to_17 (49 ∷ []) (shifted_line n)) (rows_after n k) first_exact (λ r _. rows_after_exact k r) (λ r _. rows_after_some k r)) (pair_some (up_to_17 (49 ∷ []) (shifted_line n)) (rows_after n k) (λ r _. rows_after_some k r) first_some))

  pub moving_some : (k : ℕ) → HasSome (moving n k)
  unfolding moving
  moving_some k = mapped_some _ _ (words (codes "depth" ∷ sp ∷ []) (pair (up_to_17 (49 ∷ []) (shifted_line n)) (rows_after n k))) (rows_renaming _) (words_some (codes "depth" ∷ sp ∷ []) (pair (up_to_17 (49 ∷ []) (shifted_line n)) (rows_after n k)) (pair_some (up_to_17 (49 ∷ []) (shifted_line n)) (rows_after n k) (λ r _. rows_after_some k r) first_some))

no_rows_renaming : (valid : Unit {0} → Bool) → IsRenaming {B = List (List Lit)} valid (λ _. []) no_rows
no_rows_renaming valid = record { back = λ x v. refl; forth = forth }
  where
    forth : (y : List (List Lit)) (x : Unit {0}) → no_rows y ≡ Some x → [] ≡ y
    forth [] x e = refl
    forth (r ∷ rs) x e = absurd cc

module _ (n q : ℕ) (some : 0 < n) (small : n < limit) where
  abbrev no_turns : Format (List (List Lit)) Token
  no_turns = mapped (λ _. []) no_rows (word lf)

  no_turns_exact : IsExact no_turns
  no_turns_exact = mapped_exact _ _ (word lf) (no_rows_renaming _) (word_exact lf)

  no_turns_some : HasSome no_turns
  no_turns_some = mapped_some _ _ (word lf) (no_rows_renaming _) (word_some lf)

  abbrev turn_rows : ℕ → Format (List (List Lit)) Token
  turn_rows k = times (λ t. times (turn_line n t) 0 q) 1 k

  turn_rows_exact : (k : ℕ) → IsExact (turn_rows k)
  turn_rows_exact k = times_exact (λ t. times (turn_line n t) 0 q) (λ t. turns_exact n some small t 0 q) (λ t. turns_some n some small t 0 q) 1 k

  turn_rows_some : (k : ℕ) → HasSome (turn_rows k)
  turn_rows_some k = times_some (λ t. times (turn_line n t) 0 q) (λ t. turns_exact n some small t 0 q) (λ t. turns_some n some small t 0 q) 1 k

  pub tables_exact : (k : ℕ) → IsExact (tables n q k)
  unfolding tables
  tables_exact zero = pair_exact (still n) (λ _. no_turns) (still_exact n some small) (λ _ _. no_turns_exact) (λ _ _. no_turns_some)
  tables_exact (suc k) = pair_exact (moving n k) (λ _. behind (turn_rows (suc k)) (codes "log" ∷ lf ∷ [])) (moving_exact n some small k) (λ _ _. behind_exact (turn_rows (suc k)) (codes "log" ∷ lf ∷ []) (turn_rows_exact (suc k))) (λ _ _. behind_some (turn_rows (suc k)) (codes "log" ∷ lf ∷ []) (turn_rows_some (suc k)))

  pub tables_some : (k : ℕ) → HasSome (tables n q k)
  unfolding tables
  tables_some zero = pair_some (still n) (λ _. no_turns) (λ _ _. no_turns_some) (still_some n some small)
  tables_some (suc k) = pair_some (moving n k) (λ _. behind (turn_rows (suc k)) (codes "log" ∷ lf ∷ [])) (λ _ _. behind_some (turn_rows (suc k)) (codes "log" ∷ lf ∷ []) (turn_rows_some (suc k))) (moving_some n some small k)

-- ---- the end

end_words : (k : EndWord) (P : EndWord → Type 0) → P HoldsWord → P FailsWord → P UndecidedWord → P k
end_words HoldsWord P a b c = a
end_words FailsWord P a b c = b
end_words UndecidedWord P a b c = c

end_word_exact : IsExact end_word
unfolding end_word
end_word_exact = one_exact _ _ _ (three end_token HoldsWord FailsWord UndecidedWord end_words refl refl refl)

end_word_some : HasSome end_word
unfolding end_word
end_word_some = record { value = HoldsWord; valid = refl }

holds_renaming : (valid : Unit {0} → Bool) → IsRenaming {B = Ending} valid (λ _. Holds) as_holds
holds_renaming valid = record { back = λ x v. refl; forth = forth }
  where
    forth : (y : Ending) (x : Unit {0}) → as_holds y ≡ Some x → Holds ≡ y
    forth Holds x e = refl
    forth (Fails m) x e = absurd cc
    forth Undecided x e = absurd cc

undecided_renaming : (valid : Unit {0} → Bool) → IsRenaming {B = Ending} valid (λ _. Undecided) as_undecided
undecided_renaming valid = record { back = λ x v. refl; forth = forth }
  where
    forth : (y : Ending) (x : Unit {0}) → as_undecided y ≡ Some x → Undecided ≡ y
    forth Holds x e = absurd cc
    forth (Fails m) x e = absurd cc
    forth Undecided x e = refl

fails_renaming : (valid : List Bool → Bool) → IsRenaming {B = Ending} valid Fails as_fails
fails_renaming valid = record { back = λ x v. refl; forth = forth }
  where
    forth : (y : Ending) (x : List Bool) → as_fails y ≡ Some x → Fails x ≡ y
    forth Holds x e = absurd cc
    forth (Fails m) x e = let p : m ≡ x = cc in ap Fails (sym p)
    forth Undecided x e = absurd cc

values_exact : (i n : ℕ) → IsExact (times (λ v. spaced (value_token v)) i n)
values_exact i n = times_exact (λ v. spaced (value_token v)) (λ v. spaced_exact (value_token v) (value_exact v)) (λ v. spaced_some (value_token v) (value_some v)) i n

values_some : (i n : ℕ) → HasSome (times (λ v. spaced (value_token v)) i n)
values_some i n = times_some (λ v. spaced (value_token v)) (λ v. spaced_exact (value_token v) (value_exact v)) (λ v. spaced_some (value_token v) (value_some v)) i n

pub model_exact : (n : ℕ) → IsExact (model n)
unfolding model
model_exact n = words_exact (codes "model" ∷ sp ∷ []) (behind (times (λ v. spaced (value_token v)) 1 n) (nought ∷ lf ∷ [])) (behind_exact (times (λ v. spaced (value_token v)) 1 n) (nought ∷ lf ∷ []) (values_exact 1 n)) (behind_some (times (λ v. spaced (value_token v)) 1 n) (nought ∷ lf ∷ []) (values_some 1 n))

pub model_some : (n : ℕ) → HasSome (model n)
unfolding model
model_some n = words_some (codes "model" ∷ sp ∷ []) (behind (times (λ v. spaced (value_token v)) 1 n) (nought ∷ lf ∷ [])) (behind_some (times (λ v. spaced (value_token v)) 1 n) (nought ∷ lf ∷ []) (values_some 1 n))

end_rest_exact : (n : ℕ) (w : EndWord) → IsExact (end_rest n w)
end_rest_exact n HoldsWord = mapped_exact _ _ (word lf) (holds_renaming _) (word_exact lf)
end_rest_exact n FailsWord = mapped_exact _ _ (words (lf ∷ []) (model n)) (fails_renaming _) (words_exact (lf ∷ []) (model n) (model_exact n) (model_some n))
end_rest_exact n UndecidedWord = mapped_exact _ _ (word lf) (undecided_renaming _) (word_exact lf)

end_rest_some : (n : ℕ) (w : EndWord) → HasSome (end_rest n w)
end_rest_some n HoldsWord = mapped_some _ _ (word lf) (holds_renaming _) (word_some lf)
end_rest_some n FailsWord = mapped_some _ _ (words (lf ∷ []) (model n)) (fails_renaming _) (words_some (lf ∷ []) (model n) (model_some n))
end_rest_some n UndecidedWord = mapped_some _ _ (word lf) (undecided_renaming _) (word_some lf)

end_kind : (n : ℕ) (w : EndWord) (e : Ending) → (end_rest n w).valid e ≡ true → word_of_end e ≡ w
end_kind n HoldsWord Holds v = refl
end_kind n HoldsWord (Fails m) v = absurd cc
end_kind n HoldsWord Undecided v = absurd cc
end_kind n FailsWord Holds v = absurd cc
end_kind n FailsWord (Fails m) v = refl
end_kind n FailsWord Undecided v = absurd cc
end_kind n UndecidedWord Holds v = absurd cc
end_kind n UndecidedWord (Fails m) v = absurd cc
end_kind n UndecidedWord Undecided v = refl

end_renaming : (n : ℕ) → IsRenaming {A = EndWord × Ending} (pair end_word (end_rest n)).valid (λ p. p.1) (λ e. Some (word_of_end e, e))
end_renaming n = record { back = back; forth = forth }
  where
    back : (x : EndWord × Ending) → (end_word.valid x.0 && (end_rest n x.0).valid x.1) ≡ true → Some (word_of_end x.1, x.1) ≡ Some x
    back x v = let p = and_parts (end_word.valid x.0) ((end_rest n x.0).valid x.1) v in ap {B = Option (EndWord × Ending)} (λ (w : EndWord). Some (w, x.1)) (end_kind n x.0 x.1 p.1)

    forth : (y : Ending) (x : EndWord × Ending) → Some (word_of_end y, y) ≡ Some x → x.1 ≡ y
    forth y x e = let p : (word_of_end y, y) ≡ x = cc in ap (λ (q : EndWord × Ending). q.1) (sym p)

chosen_exact : (n : ℕ) → IsExact (chosen n)
unfolding chosen
chosen_exact n = mapped_exact _ _ (pair end_word (end_rest n)) (end_renaming n) (pair_exact end_word (end_rest n) end_word_exact (λ w _. end_rest_exact n w) (λ w _. end_rest_some n w))

chosen_some : (n : ℕ) → HasSome (chosen n)
unfolding chosen
chosen_some n = mapped_some _ _ (pair end_word (end_rest n)) (end_renaming n) (pair_some end_word (end_rest n) (λ w _. end_rest_some n w) end_word_some)

pub ending_exact : (n : ℕ) → IsExact (ending n)
unfolding ending
ending_exact n = words_exact (sp ∷ []) (behind (chosen n) (codes "end" ∷ lf ∷ [])) (behind_exact (chosen n) (codes "end" ∷ lf ∷ []) (chosen_exact n)) (behind_some (chosen n) (codes "end" ∷ lf ∷ []) (chosen_some n))

pub ending_some : (n : ℕ) → HasSome (ending n)
unfolding ending
ending_some n = words_some (sp ∷ []) (behind (chosen n) (codes "end" ∷ lf ∷ [])) (behind_some (chosen n) (codes "end" ∷ lf ∷ []) (chosen_some n))

-- ---- the whole

line_count_exact : IsExact (lined any_number)
line_count_exact = lined_exact any_number any_exact

line_count_some : HasSome (lined any_number)
line_count_some = lined_some any_number any_some

labels_exact : IsExact labels
labels_exact = counted_exact (lined any_number) label line_count_exact label_exact label_some

labels_some : HasSome labels
labels_some = counted_some (lined any_number) label line_count_exact label_exact label_some line_count_some

clauses_exact : (n : ℕ) → n < limit → IsExact (clauses n)
clauses_exact n small = counted_exact (lined any_number) (λ _. lined (clause n)) line_count_exact (λ _. lined_exact (clause n) (clause_exact n small)) (λ _. lined_some (clause n) (clause_some n))

clauses_some : (n : ℕ) → n < limit → HasSome (clauses n)
clauses_some n small = counted_some (lined any_number) (λ _. lined (clause n)) line_count_exact (λ _. lined_exact (clause n) (clause_exact n small)) (λ _. lined_some (clause n) (clause_some n)) line_count_some

module _ (n : ℕ) (some : 0 < n) (small : n < limit) where
  body_exact : (c q k : ℕ) → IsExact (body n c q k)
  body_exact c q k = pair_exact (tables n q k) (λ _. pair (log n (c + 2)) (λ _. ending n)) (tables_exact n q some small k) (λ _ _. pair_exact (log n (c + 2)) (λ _. ending n) (log_exact n (c + 2) small) (λ _ _. ending_exact n) (λ _ _. ending_some n)) (λ _ _. pair_some (log n (c + 2)) (λ _. ending n) (λ _ _. ending_some n) (log_some n (c + 2)))

  body_some : (c q k : ℕ) → HasSome (body n c q k)
  body_some c q k = pair_some (tables n q k) (λ _. pair (log n (c + 2)) (λ _. ending n)) (λ _ _. pair_some (log n (c + 2)) (λ _. ending n) (λ _ _. ending_some n) (log_some n (c + 2))) (tables_some n q some small k)

  abbrev label_part : ℕ → ℕ → Format (List Label × Body) Token
  label_part k c = words (codes "labels" ∷ sp ∷ []) (pair labels (λ ls. body n c (length ls) k))

  label_part_some : (k c : ℕ) → HasSome (label_part k c)
  label_part_some k c = words_some (codes "labels" ∷ sp ∷ []) (pair labels (λ ls. body n c (length ls) k)) (pair_some labels (λ ls. body n c (length ls) k) (λ ls _. body_some c (length ls) k) labels_some)

  label_part_exact : (k c : ℕ) → IsExact (label_part k c)
  label_part_exact k c = words_exact (codes "labels" ∷ sp ∷ []) (pair labels (λ ls. body n c (length ls) k)) (pair_exact labels (λ ls. body n c (length ls) k) labels_exact (λ ls _. body_exact c (length ls) k) (λ ls _. body_some c (length ls) k)) (pair_some labels (λ ls. body n c (length ls) k) (λ ls _. body_some c (length ls) k) labels_some)

  after_clauses_some : (k : ℕ) (cs : List (List Lit)) → HasSome (after_clauses n k cs)
  after_clauses_some k cs = words_some (codes "goal" ∷ sp ∷ []) (pair (lined (clause n)) (λ _. label_part k (length cs))) (pair_some (lined (clause n)) (λ _. label_part k (length cs)) (λ _ _. label_part_some k (length cs)) (lined_some (clause n) (clause_some n)))

  after_clauses_exact : (k : ℕ) (cs : List (List Lit)) → IsExact (after_clauses n k cs)
  after_clauses_exact k cs = words_exact (codes "goal" ∷ sp ∷ []) (pair (lined (clause n)) (λ _. label_part k (length cs))) (pair_exact (lined (clause n)) (λ _. label_part k (length cs)) (lined_exact (clause n) (clause_exact n small)) (λ _ _. label_part_exact k (length cs)) (λ _ _. label_part_some k (length cs))) (pair_some (lined (clause n)) (λ _. label_part k (length cs)) (λ _ _. label_part_some k (length cs)) (lined_some (clause n) (clause_some n)))

  after_variables_some : (k : ℕ) → HasSome (after_variables k n)
  after_variables_some k = words_some (codes "clauses" ∷ sp ∷ []) (pair (clauses n) (after_clauses n k)) (pair_some (clauses n) (after_clauses n k) (λ cs _. after_clauses_some k cs) (clauses_some n small))

  after_variables_exact : (k : ℕ) → IsExact (after_variables k n)
  after_variables_exact k = words_exact (codes "clauses" ∷ sp ∷ []) (pair (clauses n) (after_clauses n k)) (pair_exact (clauses n) (after_clauses n k) (clauses_exact n small) (λ cs _. after_clauses_exact k cs) (λ cs _. after_clauses_some k cs)) (pair_some (clauses n) (after_clauses n k) (λ cs _. after_clauses_some k cs) (clauses_some n small))

-- the number of variables is from 1
variables_within : (n : ℕ) → (lined (number 1 limit)).valid n ≡ true → (0 < n) × (n < limit)
unfolding number
variables_within n v =
    let p = and_parts (within 1 limit n) ((word lf).valid tt) v in
    let q = and_parts (nat_le 1 n) (nat_lt n limit) p.0 in
    (grind (arith, nat_tests, q.0), grind (arith, nat_tests, q.1))

variables_exact : IsExact (lined (number 1 limit))
variables_exact = lined_exact (number 1 limit) (number_exact 1 limit (omega arith))

variables_some : HasSome (lined (number 1 limit))
variables_some = lined_some (number 1 limit) (number_some 1 limit (omega arith))

module _ (k : ℕ) where
  abbrev variable_part : Format (ℕ × Middle) Token
  variable_part = words (codes "variables" ∷ sp ∷ []) (pair (lined (number 1 limit)) (after_variables k))

  sized_exact : (n : ℕ) → (lined (number 1 limit)).valid n ≡ true → IsExact (after_variables k n)
  sized_exact n v = let w = variables_within n v in after_variables_exact n w.0 w.1 k

  sized_some : (n : ℕ) → (lined (number 1 limit)).valid n ≡ true → HasSome (after_variables k n)
  sized_some n v = let w = variables_within n v in after_variables_some n w.0 w.1 k

  variable_part_some : HasSome variable_part
  variable_part_some = words_some (codes "variables" ∷ sp ∷ []) (pair (lined (number 1 limit)) (after_variables k)) (pair_some (lined (number 1 limit)) (after_variables k) sized_some variables_some)

  variable_part_exact : IsExact variable_part
  variable_part_exact = words_exact (codes "variables" ∷ sp ∷ []) (pair (lined (number 1 limit)) (after_variables k)) (pair_exact (lined (number 1 limit)) (after_variables k) variables_exact sized_exact sized_some) (pair_some (lined (number 1 limit)) (after_variables k) sized_some variables_some)

  abbrev budget_part : Format (ℕ × (ℕ × Middle)) Token
  budget_part = words (codes "budget" ∷ sp ∷ []) (pair (lined any_number) (λ _. variable_part))

  budget_part_some : HasSome budget_part
  budget_part_some = words_some (codes "budget" ∷ sp ∷ []) (pair (lined any_number) (λ _. variable_part)) (pair_some (lined any_number) (λ _. variable_part) (λ _ _. variable_part_some) line_count_some)

  budget_part_exact : IsExact budget_part
  budget_part_exact = words_exact (codes "budget" ∷ sp ∷ []) (pair (lined any_number) (λ _. variable_part)) (pair_exact (lined any_number) (λ _. variable_part) line_count_exact (λ _ _. variable_part_exact) (λ _ _. variable_part_some)) (pair_some (lined any_number) (λ _. variable_part) (λ _ _. variable_part_some) line_count_some)

  abbrev arrival_part : Format (ℕ × (ℕ × (ℕ × Middle))) Token
  arrival_part = pair (lined any_number) (λ _. budget_part)

  arrival_part_some : HasSome arrival_part
  arrival_part_some = pair_some (lined any_number) (λ _. budget_part) (λ _ _. budget_part_some) line_count_some

  arrival_part_exact : IsExact arrival_part
  arrival_part_exact = pair_exact (lined any_number) (λ _. budget_part) line_count_exact (λ _ _. budget_part_exact) (λ _ _. budget_part_some)

upper_inner_some : HasSome (pair (spaced any_number) arrival_part)
upper_inner_some = pair_some (spaced any_number) arrival_part (λ k _. arrival_part_some k) (spaced_some any_number any_some)

upper_exact : IsExact upper
upper_exact = words_exact opening (pair (spaced any_number) arrival_part) (pair_exact (spaced any_number) arrival_part (spaced_exact any_number any_exact) (λ k _. arrival_part_exact k) (λ k _. arrival_part_some k)) upper_inner_some

certificate_renaming : (valid : Upper → Bool) → IsRenaming {A = Upper} {B = Certificate} valid certificate_from (λ c. Some (parts_of c))
certificate_renaming valid = record { back = λ x v. refl; forth = forth }
  where
    forth : (y : Certificate) (x : Upper) → Some (parts_of y) ≡ Some x → certificate_from x ≡ y
    forth y x e = let p : parts_of y ≡ x = cc in ap certificate_from (sym p)

pub certificate_exact : IsExact certificate
unfolding certificate
certificate_exact = mapped_exact certificate_from _ upper (certificate_renaming _) upper_exact

pub certificate_some : HasSome certificate
unfolding certificate
certificate_some = mapped_some certificate_from _ upper (certificate_renaming _) (words_some opening (pair (spaced any_number) arrival_part) upper_inner_some)
