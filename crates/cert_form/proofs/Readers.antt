-- What the readers of one token, and of several, rest on.
use Rattle.std.proofs.Common.{◌≡◌, ℕ, suc, ◌+◌, ◌-◌, ◌*◌, ◌<◌, ◌≤◌, min, Bool, true, false, cond, ◌&&◌, List, [], ◌∷◌, ◌++◌, length, drop, drop-cons, get_or, nat_le, nat_lt, eqb, Option, Some, None, refl, sym, ap, subst, ◌∙◌, arith, codes}
use Rattle.std.proofs.lemmas.Bool.{and_parts, and_from}
use Rattle.std.proofs.lemmas.Bool.Decides.{nat_tests}
use Rattle.std.proofs.lemmas.List.{append-nil}
use Rattle.std.specs.Fmt.{decimal}
use Rattle.std.specs.Str.{bytes_eq}
use Rattle.format.specs.Format.{Answer, Got, Stuck, Format, read_one}
use Rattle.clause_form.specs.declared.lit.Lit.{Lit}
use Rattle.clause_form.specs.declared.line.Line.{Line}
use Rattle.clause_form.specs.Literals.{variable, is_within, last_variable}
use Rattle.format.specs.Format.{turn, map_some, ahead, and_then, mapped, pair, times}
use Rattle.format.proofs.Exact.{so_far_stop, so_far_more, so_far_stuck, ahead_none, ahead_more}
use Rattle.cert_form.specs.Words.{Token, value_after, is_number, number_of, in_range, within, limit, word, number, spaced, lined, signed, option_signed, literal_of, between, is_between, literal, value_token}
use Rattle.cert_form.specs.Certificate.{HoldsWord, FailsWord, UndecidedWord, end_word, nought, clause, clause_from, clause_turn, hints, hint_turn, log_line, log, log_turn, chosen, EndWord, Ending, end_rest}
use Rattle.cert_form.proofs.Certificate.{stops_at, spaced_exact, clause_apart, hints_apart, log_line_exact, log_line_apart}
use Rattle.std.specs.Prelude.{Err, Ok, Result}
use denote.Ref.{Bor}
use Rattle.cert_form.specs.Verdicts.{value_of}
use Rattle.cert_form.specs.Texts.{tokens, starts, Gives, GivesBy}
use Rattle.cert_form.specs.declared.one_token.ReadError.{ReadError}
use Rattle.cert_form.specs.declared.one_token.ReadError.TheVariants.{Memory, At}
use Rattle.cert_form.proofs.Words.{bytes_same, same_bytes, signed_variable, literal_exact, number_exact, number_of-decimal, decimal-number_of}
use Rattle.cert_form.proofs.Texts.{value_after-le}

pub tokens_empty : (text : List ℕ) → length text ≡ 0 → tokens text ≡ []
unfolding tokens
tokens_empty [] e = refl
tokens_empty (b ∷ bs) e = absurd (omega arith)

module _ {A : Type 0} (meaning : Token → Option A) where
  pub one_empty : (text : List ℕ) → length text ≡ 0 → read_one meaning (tokens text) ≡ Stuck (tokens text)
  one_empty text e = rw (tokens_empty text e) refl

  pub one_got : (text : List ℕ) (t : Token) (rest : List ℕ) (x : A) → tokens text ≡ t ∷ tokens rest → meaning t ≡ Some x → read_one meaning (tokens text) ≡ Got x (tokens rest)
  one_got text t rest x e m = rw (e, m) refl

  pub one_stuck : (text : List ℕ) (t : Token) (rest : List ℕ) → tokens text ≡ t ∷ tokens rest → meaning t ≡ None → read_one meaning (tokens text) ≡ Stuck (tokens text)
  one_stuck text t rest e m = rw (e, m) refl

pub word_empty : (w : Token) (text : List ℕ) → length text ≡ 0 → (word w).read (tokens text) ≡ Stuck (tokens text)
unfolding word
word_empty w text e = one_empty _ text e

pub word_fits : (w : Token) (text : List ℕ) (t : Token) (rest : List ℕ) → tokens text ≡ t ∷ tokens rest → bytes_eq t w ≡ true → (word w).read (tokens text) ≡ Got tt (tokens rest)
unfolding word
word_fits w text t rest e m = one_got _ text t rest tt e (rw m refl)

pub word_differs : (w : Token) (text : List ℕ) (t : Token) (rest : List ℕ) → tokens text ≡ t ∷ tokens rest → bytes_eq t w ≡ false → (word w).read (tokens text) ≡ Stuck (tokens text)
unfolding word
word_differs w text t rest e m = one_stuck _ text t rest e (rw m refl)

pub number_empty : (low high : ℕ) (text : List ℕ) → length text ≡ 0 → (number low high).read (tokens text) ≡ Stuck (tokens text)
unfolding number
number_empty low high text e = one_empty _ text e

pub number_got : (low high : ℕ) (text : List ℕ) (t : Token) (rest : List ℕ) (x : ℕ) → tokens text ≡ t ∷ tokens rest → in_range low high (number_of t) ≡ Some x → (number low high).read (tokens text) ≡ Got x (tokens rest)
unfolding number
number_got low high text t rest x e m = one_got _ text t rest x e m

pub number_stuck : (low high : ℕ) (text : List ℕ) (t : Token) (rest : List ℕ) → tokens text ≡ t ∷ tokens rest → in_range low high (number_of t) ≡ None → (number low high).read (tokens text) ≡ Stuck (tokens text)
unfolding number
number_stuck low high text t rest e m = one_stuck _ text t rest e m

-- a number below the limit, in a narrower range
pub range_narrows : (low high n : ℕ) (o : Option ℕ) → high ≤ limit → in_range 0 limit o ≡ Some n → in_range low high o ≡ cond (within low high n) (Some n) None
range_narrows low high n None h e = absurd cc
range_narrows low high n (Some m) h e = go (within 0 limit m) e
  where
    go : (b : Bool) → cond b (Some m) None ≡ Some n → cond (within low high m) (Some m) None ≡ cond (within low high n) (Some n) None
    go true p = let q : m ≡ n = cc in ap (λ (k : ℕ). cond (within low high k) (Some k) None) q
    go false p = absurd cc

pub range_none : (low high : ℕ) (o : Option ℕ) → high ≤ limit → in_range 0 limit o ≡ None → in_range low high o ≡ None
range_none low high None h e = refl
range_none low high (Some m) h e = go (within low high m) refl
  where
    go : (b : Bool) → within low high m ≡ b → cond b (Some m) None ≡ None
    go true p =
        let q = and_parts (nat_le low m) (nat_lt m high) p in
        let w : within 0 limit m ≡ true = grind (arith, nat_tests, q.1) in
        let f : in_range 0 limit (Some m) ≡ Some m = rw w refl in
        absurd cc
    go false p = refl

none_large : (v : ℕ) → in_range 0 limit (Some v) ≡ None → limit ≤ v
none_large v e = go (within 0 limit v) refl e
  where
    go : (b : Bool) → within 0 limit v ≡ b → cond b (Some v) None ≡ None → limit ≤ v
    go true p q = absurd cc
    go false p q = grind (arith, nat_tests)

large_none : (v : ℕ) → limit ≤ v → in_range 0 limit (Some v) ≡ None
large_none v h = let f : within 0 limit v ≡ false = grind (arith, nat_tests) in rw f refl

pub too_large : (w : List ℕ) (i value b : ℕ) → is_number w ≡ true → i < length w → value_after value (drop i w) ≡ value_after 0 w → get_or w i 0 ≡ b → in_range 0 limit (Some (10 * value + (b - 48))) ≡ None → in_range 0 limit (number_of w) ≡ None
too_large w i value b n lt same at large =
    let d : drop i w ≡ get_or w i 0 ∷ drop (suc i) w = drop-cons w i 0 lt in
    let v : value_after value (get_or w i 0 ∷ drop (suc i) w) ≡ value_after 0 w = subst (λ (t : List ℕ). value_after value t ≡ value_after 0 w) d same in
    let m = value_after-le (10 * value + (get_or w i 0 - 48)) (drop (suc i) w) in
    let l : limit ≤ 10 * value + (b - 48) = none_large (10 * value + (b - 48)) large in
    let q : limit ≤ value_after 0 w = omega (arith, v, at, m, l) in
    rw n (large_none (value_after 0 w) q)

-- ---- literals

pub literal_empty : (above n : ℕ) (text : List ℕ) → length text ≡ 0 → (literal above n).read (tokens text) ≡ Stuck (tokens text)
unfolding literal
literal_empty above n text e = one_empty _ text e

pub literal_got : (above n : ℕ) (text : List ℕ) (t : Token) (rest : List ℕ) (x : Lit) → tokens text ≡ t ∷ tokens rest → between above n (literal_of t) ≡ Some x → (literal above n).read (tokens text) ≡ Got x (tokens rest)
unfolding literal
literal_got above n text t rest x e m = one_got _ text t rest x e m

pub literal_stuck : (above n : ℕ) (text : List ℕ) (t : Token) (rest : List ℕ) → tokens text ≡ t ∷ tokens rest → between above n (literal_of t) ≡ None → (literal above n).read (tokens text) ≡ Stuck (tokens text)
unfolding literal
literal_stuck above n text t rest e m = one_stuck _ text t rest e m

between_signed : (above n : ℕ) (b : Bool) (o : Option ℕ) → between above n (option_signed b o) ≡ option_signed b (in_range (above + 1) (n + 1) o)
between_signed above n b None = refl
between_signed above n b (Some v) =
    let e : is_between above n (signed b v) ≡ within (above + 1) (n + 1) v = let s = signed_variable b v in rw s (grind (arith, nat_tests)) in
    rw e (go (within (above + 1) (n + 1) v))
  where
    go : (t : Bool) → cond t (Some (signed b v)) None ≡ option_signed b (cond t (Some v) None)
    go true = refl
    go false = refl

pub literal_nothing : (above n : ℕ) (w : Token) → length w ≡ 0 → between above n (literal_of w) ≡ None
literal_nothing above n [] e = refl
literal_nothing above n (c ∷ cs) e = absurd (omega arith)

pub literal_minus : (above n : ℕ) (w : Token) → 0 < length w → get_or w 0 0 ≡ 45 → between above n (literal_of w) ≡ option_signed false (in_range (above + 1) (n + 1) (number_of (drop 1 w)))
literal_minus above n [] h e = absurd (omega arith)
literal_minus above n (c ∷ cs) h e = rw e (between_signed above n false (number_of cs))

pub literal_plain : (above n : ℕ) (w : Token) → 0 < length w → (get_or w 0 0 ≡ 45 → ⊥) → between above n (literal_of w) ≡ option_signed true (in_range (above + 1) (n + 1) (number_of w))
literal_plain above n [] h e = absurd (omega arith)
literal_plain above n (c ∷ cs) h e =
    let f : eqb c 45 ≡ false = grind (arith, nat_tests, e) in
    rw f (between_signed above n true (number_of (c ∷ cs)))

-- ---- turns of a loop

pub starts_empty : (w : Token) (text : List ℕ) → length text ≡ 0 → starts w (tokens text) ≡ false
starts_empty w text e = rw (tokens_empty text e) refl

pub starts_first : (w : Token) (text : List ℕ) (t : Token) (rest : List ℕ) → tokens text ≡ t ∷ tokens rest → starts w (tokens text) ≡ bytes_eq t w
starts_first w text t rest e = rw e refl

pub turn_stop : {A : Type 0} (F : Format A Token) (w : Token) (ts rest : List Token) → ts ≡ w ∷ rest → turn (λ t. bytes_eq t w) F ts ≡ Got None rest
turn_stop F w ts rest e = rw (e, bytes_same w) refl

pub starts_word : (w : Token) (text : List ℕ) (t : Token) (rest : List ℕ) → tokens text ≡ t ∷ tokens rest → bytes_eq t w ≡ true → tokens text ≡ w ∷ tokens rest
starts_word w text t rest e s = e ∙ ap (λ (u : Token). u ∷ tokens rest) (same_bytes t w s)

pub turn_else : {A : Type 0} (F : Format A Token) (w : Token) (ts : List Token) → F.read [] ≡ Stuck [] → starts w ts ≡ false → turn (λ t. bytes_eq t w) F ts ≡ map_some (F.read ts)
turn_else F w [] z s = rw z refl
turn_else F w (t ∷ ts) z s = rw s refl

literal_end : (above n : ℕ) → (spaced (literal above n)).read [] ≡ Stuck []
unfolding literal
literal_end above n = refl

pub clause_turn_stop : (n above : ℕ) (ts rest : List Token) → ts ≡ nought ∷ rest → clause_turn n above ts ≡ Got None rest
unfolding clause_turn
clause_turn_stop n above ts rest e = turn_stop (spaced (literal above n)) nought ts rest e

pub clause_turn_else : (n above : ℕ) (ts : List Token) → starts nought ts ≡ false → clause_turn n above ts ≡ map_some ((spaced (literal above n)).read ts)
unfolding clause_turn
clause_turn_else n above ts s = turn_else (spaced (literal above n)) nought ts (literal_end above n) s

pub clause_starts : (n : ℕ) (ts : List Token) → (clause n).read ts ≡ ahead [] ((clause_from n 0).read ts)
clause_starts n ts = ahead_none ((clause n).read ts)

module _ (n : ℕ) (small : n < limit) (whole : Answer (List Lit) Token) (xs : List Lit) (above : ℕ) (ts : List Token) (h : whole ≡ ahead xs ((clause_from n above).read ts)) where
  pub clause_stop : (rest : List Token) → clause_turn n above ts ≡ Got None rest → whole ≡ Got xs rest
  unfolding clause_from clause_turn
  clause_stop rest e = so_far_stop nought _ (λ above. spaced (literal above n)) (λ above l. variable l) (stops_at nought) (λ above. spaced_exact (literal above n) (literal_exact above n small)) (clause_apart n small) whole xs above ts rest e h

  pub clause_more : (rest : List Token) (l : Lit) → clause_turn n above ts ≡ Got (Some l) rest → whole ≡ ahead (xs ++ l ∷ []) ((clause_from n (variable l)).read rest)
  unfolding clause_from clause_turn
  clause_more rest l e = so_far_more nought _ (λ above. spaced (literal above n)) (λ above l. variable l) (stops_at nought) (λ above. spaced_exact (literal above n) (literal_exact above n small)) (clause_apart n small) whole xs above ts rest l e h

  pub clause_stuck : (left : List Token) → clause_turn n above ts ≡ Stuck left → whole ≡ Stuck left
  unfolding clause_from clause_turn
  clause_stuck left e = so_far_stuck nought _ (λ above. spaced (literal above n)) (λ above l. variable l) (stops_at nought) (λ above. spaced_exact (literal above n) (literal_exact above n small)) (clause_apart n small) whole xs above ts left e h

-- ---- hints

hint_end : (own : ℕ) → (spaced (number 1 (min own limit))).read [] ≡ Stuck []
unfolding number
hint_end own = refl

pub hint_turn_stop : (own : ℕ) (ts rest : List Token) → ts ≡ nought ∷ rest → hint_turn own ts ≡ Got None rest
unfolding hint_turn
hint_turn_stop own ts rest e = turn_stop (spaced (number 1 (min own limit))) nought ts rest e

pub hint_turn_else : (own : ℕ) (ts : List Token) → starts nought ts ≡ false → hint_turn own ts ≡ map_some ((spaced (number 1 (min own limit))).read ts)
unfolding hint_turn
hint_turn_else own ts s = turn_else (spaced (number 1 (min own limit))) nought ts (hint_end own) s

pub hints_start : (own : ℕ) (ts : List Token) → (hints own).read ts ≡ ahead [] ((hints own).read ts)
hints_start own ts = ahead_none ((hints own).read ts)

module _ (own : ℕ) (whole : Answer (List ℕ) Token) (xs : List ℕ) (ts : List Token) (h : whole ≡ ahead xs ((hints own).read ts)) where
  pub hint_stop : (rest : List Token) → hint_turn own ts ≡ Got None rest → whole ≡ Got xs rest
  unfolding hints hint_turn
  hint_stop rest e = so_far_stop nought _ (λ own. spaced (number 1 (min own limit))) (λ own h. own) (stops_at nought) (λ own. spaced_exact (number 1 (min own limit)) (number_exact 1 (min own limit) (omega arith))) hints_apart whole xs own ts rest e h

  pub hint_more : (rest : List Token) (k : ℕ) → hint_turn own ts ≡ Got (Some k) rest → whole ≡ ahead (xs ++ k ∷ []) ((hints own).read rest)
  unfolding hints hint_turn
  hint_more rest k e = so_far_more nought _ (λ own. spaced (number 1 (min own limit))) (λ own h. own) (stops_at nought) (λ own. spaced_exact (number 1 (min own limit)) (number_exact 1 (min own limit) (omega arith))) hints_apart whole xs own ts rest k e h

  pub hint_stuck : (left : List Token) → hint_turn own ts ≡ Stuck left → whole ≡ Stuck left
  unfolding hints hint_turn
  hint_stuck left e = so_far_stuck nought _ (λ own. spaced (number 1 (min own limit))) (λ own h. own) (stops_at nought) (λ own. spaced_exact (number 1 (min own limit)) (number_exact 1 (min own limit) (omega arith))) hints_apart whole xs own ts left e h

-- ---- the log

line_end : (n own : ℕ) → (log_line n own).read [] ≡ Stuck []
unfolding log_line clause_from
line_end n own = refl

pub log_turn_stop : (n own : ℕ) (ts rest : List Token) → ts ≡ codes "verdict" ∷ rest → log_turn n own ts ≡ Got None rest
unfolding log_turn
log_turn_stop n own ts rest e = turn_stop (log_line n own) (codes "verdict") ts rest e

pub log_turn_else : (n own : ℕ) (ts : List Token) → starts (codes "verdict") ts ≡ false → log_turn n own ts ≡ map_some ((log_line n own).read ts)
unfolding log_turn
log_turn_else n own ts s = turn_else (log_line n own) (codes "verdict") ts (line_end n own) s

abbrev pub line_read : ℕ → ℕ → List Token → Answer Line Token
line_read n own ts = (mapped {B = Line} (λ p. record { clause = p.0; hints = p.1 }) (λ l. Some (l.clause, l.hints)) (pair (spaced (clause n)) (λ _. lined (hints own)))).read ts

pub log_line_opened : (n own : ℕ) (ts : List Token) → (log_line n own).read ts ≡ line_read n own ts
unfolding log_line
log_line_opened n own ts = refl

pub log_start : (n own : ℕ) (ts : List Token) → (log n own).read ts ≡ ahead [] ((log n own).read ts)
log_start n own ts = ahead_none ((log n own).read ts)

module _ (n : ℕ) (small : n < limit) (whole : Answer (List Line) Token) (xs : List Line) (own : ℕ) (ts : List Token) (h : whole ≡ ahead xs ((log n own).read ts)) where
  pub log_stop : (rest : List Token) → log_turn n own ts ≡ Got None rest → whole ≡ Got xs rest
  unfolding log log_turn
  log_stop rest e = so_far_stop (codes "verdict") _ (log_line n) (λ own l. own + 1) (stops_at (codes "verdict")) (λ own. log_line_exact n own small) (log_line_apart n small) whole xs own ts rest e h

  pub log_more : (rest : List Token) (l : Line) → log_turn n own ts ≡ Got (Some l) rest → whole ≡ ahead (xs ++ l ∷ []) ((log n (own + 1)).read rest)
  unfolding log log_turn
  log_more rest l e = so_far_more (codes "verdict") _ (log_line n) (λ own l. own + 1) (stops_at (codes "verdict")) (λ own. log_line_exact n own small) (log_line_apart n small) whole xs own ts rest l e h

  pub log_stuck : (left : List Token) → log_turn n own ts ≡ Stuck left → whole ≡ Stuck left
  unfolding log log_turn
  log_stuck left e = so_far_stuck (codes "verdict") _ (log_line n) (λ own l. own + 1) (stops_at (codes "verdict")) (λ own. log_line_exact n own small) (log_line_apart n small) whole xs own ts left e h

-- ---- faults that are passed on

pub err_of : {X Y : Type 0} (e : ReadError) (F : Format X Token) (read : List Token → Answer Y Token) (text rest : List ℕ) → ((left : List Token) → read (tokens rest) ≡ Stuck left → F.read (tokens text) ≡ Stuck left) → GivesBy {V = Y × Bor (List ℕ)} read (λ x. x.0) (λ x. x.1.now) (Err e) rest → Gives {V = X × Bor (List ℕ)} F (λ x. x.0) (λ x. x.1.now) (Err e) text
err_of Memory F read text rest k h = tt
err_of (At r) F read text rest k h = k (tokens r.now) h

pub err_by : {X Y : Type 0} {V W : Type 0} (e : ReadError) (whole : List Token → Answer X Token) (read : List Token → Answer Y Token) (text rest : List ℕ) (x : V → X) (x_left : V → List ℕ) (y : W → Y) (y_left : W → List ℕ) → ((left : List Token) → read (tokens rest) ≡ Stuck left → whole (tokens text) ≡ Stuck left) → GivesBy {V = W} read y y_left (Err e) rest → GivesBy {V = V} whole x x_left (Err e) text
err_by Memory whole read text rest x x_left y y_left k h = tt
err_by (At r) whole read text rest x x_left y y_left k h = k (tokens r.now) h

-- what is read last
module _ (whole last : List Token → Answer (Unit {0}) Token) (text rest : List ℕ) (same : whole (tokens text) ≡ last (tokens rest)) where
  pub gives_last : (e : Result (Bor (List ℕ)) ReadError) → GivesBy last (λ _. tt) (λ r. r.now) e rest → GivesBy whole (λ _. tt) (λ r. r.now) e text
  gives_last (Ok r) h = same ∙ h
  gives_last (Err Memory) h = tt
  gives_last (Err (At r)) h = same ∙ h

-- ---- clauses as they grow

pub last_variable_append : (k : ℕ) (ls : List Lit) (l : Lit) → last_variable k (ls ++ l ∷ []) ≡ variable l
last_variable_append k [] l = refl
last_variable_append k (x ∷ xs) l = last_variable_append (variable x) xs l

pub is_within_append : (n : ℕ) (ls : List Lit) (l : Lit) → is_within n ls ≡ true → 0 < variable l → variable l ≤ n → is_within n (ls ++ l ∷ []) ≡ true
is_within_append n [] l h some most = grind (arith, nat_tests)
is_within_append n (x ∷ xs) l h some most =
    let p = and_parts (nat_lt 0 (variable x) && nat_le (variable x) n) (is_within n xs) h in
    and_from (nat_lt 0 (variable x) && nat_le (variable x) n) (is_within n (xs ++ l ∷ [])) p.0 (is_within_append n xs l p.1 some most)

pub between_parts : (above n : ℕ) (l : Lit) (o : Option Lit) → between above n o ≡ Some l → (above < variable l) × (variable l ≤ n)
between_parts above n l None e = absurd cc
between_parts above n l (Some m) e = go (is_between above n m) refl e
  where
    go : (b : Bool) → is_between above n m ≡ b → cond b (Some m) None ≡ Some l → (above < variable l) × (variable l ≤ n)
    go true w q =
        let same : m ≡ l = cc in
        let p = and_parts (nat_lt above (variable m)) (nat_le (variable m) n) w in
        let a : above < variable m = grind (arith, nat_tests, p.0) in
        let z : variable m ≤ n = grind (arith, nat_tests, p.1) in
        (subst (λ (k : Lit). above < variable k) same a, subst (λ (k : Lit). variable k ≤ n) same z)
    go false w q = absurd cc

-- ---- a given number

range_some : (t : Token) (n : ℕ) → in_range 0 limit (number_of t) ≡ Some n → (number_of t ≡ Some n) × (n < limit)
range_some t n e = go (number_of t) refl e
  where
    test : (o : Option ℕ) (m : ℕ) (b : Bool) → o ≡ Some m → within 0 limit m ≡ b → cond b (Some m) None ≡ Some n → (o ≡ Some n) × (n < limit)
    test o m true q w p =
        let same : m ≡ n = cc in
        let l : m < limit = grind (arith, nat_tests, (and_parts (nat_le 0 m) (nat_lt m limit) w).1) in
        (q ∙ ap Some same, omega (arith, l, same))
    test o m false q w p = absurd cc

    go : (o : Option ℕ) → number_of t ≡ o → in_range 0 limit o ≡ Some n → (number_of t ≡ Some n) × (n < limit)
    go None q p = absurd cc
    go (Some m) q p = test (number_of t) m (within 0 limit m) q refl p

range_decimal : (a : ℕ) → a < limit → in_range 0 limit (number_of (decimal a)) ≡ Some a
range_decimal a small =
    let w : within 0 limit a ≡ true = grind (arith, nat_tests) in
    rw (number_of-decimal a (omega arith), w) refl

pub fixed_some : (t : Token) (n a : ℕ) → a < limit → in_range 0 limit (number_of t) ≡ Some n → eqb n a ≡ bytes_eq t (decimal a)
fixed_some t n a small e = go (eqb n a) refl (bytes_eq t (decimal a)) refl
  where
    go : (x : Bool) → eqb n a ≡ x → (y : Bool) → bytes_eq t (decimal a) ≡ y → x ≡ y
    go true p true q = refl
    go false p false q = refl
    go true p false q =
        let same : n ≡ a = grind (arith, nat_tests) in
        let r = range_some t n e in
        let d : decimal n ≡ t = decimal-number_of t n r.0 (omega (arith, r.1)) in
        let z : bytes_eq (decimal a) (decimal a) ≡ true = bytes_same (decimal a) in
        let y : bytes_eq t (decimal a) ≡ true = subst (λ (w : Token). bytes_eq w (decimal a) ≡ true) (ap decimal (sym same) ∙ d) z in
        absurd cc
    go false p true q =
        let d : t ≡ decimal a = same_bytes t (decimal a) q in
        let m : in_range 0 limit (number_of (decimal a)) ≡ Some n = subst (λ (w : Token). in_range 0 limit (number_of w) ≡ Some n) d e in
        let k = range_decimal a small in
        let same : n ≡ a = cc in
        absurd (grind (arith, nat_tests, p, same))

pub fixed_none : (t : Token) (a : ℕ) → a < limit → in_range 0 limit (number_of t) ≡ None → false ≡ bytes_eq t (decimal a)
fixed_none t a small e = go (bytes_eq t (decimal a)) refl
  where
    go : (y : Bool) → bytes_eq t (decimal a) ≡ y → false ≡ y
    go false q = refl
    go true q =
        let d : t ≡ decimal a = same_bytes t (decimal a) q in
        let m : in_range 0 limit (number_of (decimal a)) ≡ None = subst (λ (w : Token). in_range 0 limit (number_of w) ≡ None) d e in
        let k = range_decimal a small in
        absurd cc

-- ---- so many of something

module _ {A : Type 0} (item : ℕ → Format A Token) where
  pub times_start : (count : ℕ) (ts : List Token) → (times item 0 count).read ts ≡ ahead [] ((times item 0 (count - 0)).read ts)
  times_start count ts = let e : count - 0 ≡ count = omega arith in rw e (ahead_none ((times item 0 count).read ts))

  pub times_unrolled : (i m : ℕ) (ts : List Token) (x : A) (rest : List Token) → (item i).read ts ≡ Got x rest → (times item i (suc m)).read ts ≡ and_then ((times item (suc i) m).read rest) (λ xs more. Got (x ∷ xs) more)
  times_unrolled i m ts x rest e = rw e (go ((times item (suc i) m).read rest))
    where
      go : (o : Answer (List A) Token) → and_then (and_then o (λ y more. Got (x, y) more)) (λ (p : A × List A) r. Got (p.0 ∷ p.1) r) ≡ and_then o (λ xs more. Got (x ∷ xs) more)
      go (Got y r) = refl
      go (Stuck l) = refl

  pub times_more : (whole : Answer (List A) Token) (xs : List A) (i count : ℕ) (ts rest : List Token) (x : A) → i < count → whole ≡ ahead xs ((times item i (count - i)).read ts) → (item i).read ts ≡ Got x rest → whole ≡ ahead (xs ++ x ∷ []) ((times item (i + 1) (count - (i + 1))).read rest)
  times_more whole xs i count ts rest x lt h e =
      let m : count - i ≡ suc (count - (i + 1)) = omega arith in
      let k : ahead xs ((times item i (count - i)).read ts) ≡ ahead xs ((times item i (suc (count - (i + 1)))).read ts) = ap (λ (n : ℕ). ahead xs ((times item i n).read ts)) m in
      let one : suc i ≡ i + 1 = omega arith in
      h ∙ k ∙ ap (ahead xs) (times_unrolled i (count - (i + 1)) ts x rest e) ∙ ahead_more xs x ((times item (suc i) (count - (i + 1))).read rest) ∙ ap (λ (n : ℕ). ahead (xs ++ x ∷ []) ((times item n (count - (i + 1))).read rest)) one

  pub times_stuck : (whole : Answer (List A) Token) (xs : List A) (i count : ℕ) (ts left : List Token) → i < count → whole ≡ ahead xs ((times item i (count - i)).read ts) → (item i).read ts ≡ Stuck left → whole ≡ Stuck left
  times_stuck whole xs i count ts left lt h e =
      let m : count - i ≡ suc (count - (i + 1)) = omega arith in
      let k : ahead xs ((times item i (count - i)).read ts) ≡ ahead xs ((times item i (suc (count - (i + 1)))).read ts) = ap (λ (n : ℕ). ahead xs ((times item i n).read ts)) m in
      h ∙ k ∙ rw e refl

  pub times_done : (whole : Answer (List A) Token) (xs : List A) (i count : ℕ) (ts : List Token) → count ≤ i → whole ≡ ahead xs ((times item i (count - i)).read ts) → whole ≡ Got xs ts
  times_done whole xs i count ts le h =
      let m : count - i ≡ 0 = omega arith in
      h ∙ ap (λ (n : ℕ). ahead xs ((times item i n).read ts)) m ∙ ap (λ (w : List A). Got w ts) (append-nil xs)

-- ---- the word of a verdict

pub end_holds : (ts rest : List Token) → ts ≡ codes "holds" ∷ rest → end_word.read ts ≡ Got HoldsWord rest
unfolding end_word
end_holds ts rest e = rw e refl

pub end_fails : (ts rest : List Token) → ts ≡ codes "fails" ∷ rest → end_word.read ts ≡ Got FailsWord rest
unfolding end_word
end_fails ts rest e = rw e refl

pub end_undecided : (ts rest : List Token) → ts ≡ codes "undecided" ∷ rest → end_word.read ts ≡ Got UndecidedWord rest
unfolding end_word
end_undecided ts rest e = rw e refl

pub end_stuck : (ts : List Token) → starts (codes "holds") ts ≡ false → starts (codes "fails") ts ≡ false → starts (codes "undecided") ts ≡ false → end_word.read ts ≡ Stuck ts
unfolding end_word
end_stuck [] a b c = refl
end_stuck (t ∷ ts) a b c = rw (a, b, c) refl

-- ---- the values of a model

pub value_empty : (v : ℕ) (text : List ℕ) → length text ≡ 0 → (value_token v).read (tokens text) ≡ Stuck (tokens text)
unfolding value_token
value_empty v text e = one_empty _ text e

pub value_got : (v : ℕ) (text : List ℕ) (t : Token) (rest : List ℕ) (x : Bool) → tokens text ≡ t ∷ tokens rest → value_of v t ≡ Some x → (value_token v).read (tokens text) ≡ Got x (tokens rest)
unfolding value_token
value_got v text t rest x e m = one_got _ text t rest x e m

pub value_stuck : (v : ℕ) (text : List ℕ) (t : Token) (rest : List ℕ) → tokens text ≡ t ∷ tokens rest → value_of v t ≡ None → (value_token v).read (tokens text) ≡ Stuck (tokens text)
unfolding value_token
value_stuck v text t rest e m = one_stuck _ text t rest e m

pub minus_none : (ds w : Token) → length w ≡ 0 → bytes_eq w (45 ∷ ds) ≡ false
minus_none ds [] e = refl
minus_none ds (c ∷ cs) e = absurd (omega arith)

pub minus_word : (ds w : Token) → 0 < length w → get_or w 0 0 ≡ 45 → bytes_eq w (45 ∷ ds) ≡ bytes_eq (drop 1 w) ds
minus_word ds [] h e = absurd (omega arith)
minus_word ds (c ∷ cs) h e = rw e refl

pub minus_other : (ds w : Token) → 0 < length w → (get_or w 0 0 ≡ 45 → ⊥) → bytes_eq w (45 ∷ ds) ≡ false
minus_other ds [] h e = absurd (omega arith)
minus_other ds (c ∷ cs) h e = let f : eqb c 45 ≡ false = grind (arith, nat_tests, e) in rw f refl

pub values_start : (n : ℕ) (ts : List Token) → (times (λ v. spaced (value_token v)) 1 n).read ts ≡ ahead [] ((times (λ v. spaced (value_token v)) 1 (n + 1 - 1)).read ts)
values_start n ts = let e : n + 1 - 1 ≡ n = omega arith in rw e (ahead_none ((times (λ v. spaced (value_token v)) 1 n).read ts))

pub chosen_opened : (n : ℕ) (w : EndWord) (ts rest : List Token) → end_word.read ts ≡ Got w rest → (chosen n).read ts ≡ (end_rest n w).read rest
unfolding chosen
chosen_opened n w ts rest e = rw e (same ((end_rest n w).read rest))
  where
    same : (a : Answer Ending Token) → and_then (and_then a (λ y more. Got (w, y) more)) (λ (p : EndWord × Ending) r. Got p.1 r) ≡ a
    same (Got y r) = refl
    same (Stuck l) = refl

pub chosen_stuck : (n : ℕ) (ts left : List Token) → end_word.read ts ≡ Stuck left → (chosen n).read ts ≡ Stuck left
unfolding chosen
chosen_stuck n ts left e = rw e refl
