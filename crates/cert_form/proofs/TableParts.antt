-- What the readers of depths and turns rest on.
use Rattle.std.proofs.Common.{◌≡◌, ℕ, zero, suc, ◌+◌, ◌-◌, ◌<◌, ◌≤◌, Bool, true, false, cond, nat_lt, Option, Some, None, List, [], ◌∷◌, length, refl, sym, ap, ◌∙◌, arith, codes}
use Rattle.std.proofs.lemmas.Bool.Decides.{nat_tests}
use Rattle.std.specs.Fmt.{decimal}
use Rattle.std.specs.Str.{bytes_eq}
use Rattle.clause_form.specs.declared.lit.Lit.{Lit}
use Rattle.format.specs.Exact.{IsExact, BeginsApart}
use Rattle.format.specs.Format.{Answer, Got, Stuck, Format, and_then, mapped, pair, times, until, turn, map_some, uncons, nothing, never, map_got}
use Rattle.format.proofs.Exact.{never_exact, loop_stop, loop_more, loop_stuck, map_got_of, map_got_stuck}
use Rattle.cert_form.specs.Words.{Token, sp, lf, limit, word, words, behind, lined, literal}
use Rattle.cert_form.specs.Certificate.{nought, table_line, depth_line, turn_line, shifted_line, up_to_17, single, still, as_rows, rows_after, moving, no_rows, tables}
use Rattle.cert_form.specs.Texts.{starts}
use Rattle.cert_form.specs.Parts.{passed, literal_read, line_read, row_read, rows_read, first_stop, first_line, first_line_read}
use Rattle.cert_form.specs.Parts.{is_some, first_turn, first_rest_read, first_row_read, second_row_read, after_width_read, moving_read, tables_read}
use Rattle.cert_form.proofs.Readers.{turn_stop, turn_else}
use Rattle.cert_form.proofs.Certificate.{stops_at, depth_line_exact, shifted_line_exact, depth_line_apart, shifted_line_apart}
use Rattle.cert_form.proofs.Kept.{and_same, kept_twice, mapped_kept, pair_kept, words_front, ended_kept, behind_kept, passes_more, passes_stuck, passes_done}

pub literal_opened : (n : ℕ) (ts : List Token) → literal_read n ts ≡ and_then (passed ((literal 0 n).read ts)) (λ y r. and_then ((word lf).read r) (λ _ r2. Got y r2))
unfolding literal_read
literal_opened n ts = ended_kept (λ _. tt) (literal 0 n) (word lf) ts

pub line_opened : (w : Token) (n t i : ℕ) (ts : List Token) → line_read w n t i ts ≡ and_then ((words (w ∷ (sp ∷ (decimal t ∷ (sp ∷ [])))) nothing).read ts) (λ _ r. and_then ((words (decimal i ∷ (sp ∷ [])) nothing).read r) (λ _ r2. literal_read n r2))
unfolding line_read literal_read table_line
line_opened w n t i ts =
    words_front (λ _. tt) (w ∷ (sp ∷ (decimal t ∷ (sp ∷ [])))) (decimal i ∷ (sp ∷ [])) (lined (literal 0 n)) ts
    ∙ and_same ((words (w ∷ (sp ∷ (decimal t ∷ (sp ∷ [])))) nothing).read ts)
    (λ _ r. passed ((words (decimal i ∷ (sp ∷ [])) (lined (literal 0 n))).read r))
    (λ _ r. and_then ((words (decimal i ∷ (sp ∷ [])) nothing).read r) (λ _ r2. passed ((lined (literal 0 n)).read r2)))
    (λ _ r. words_front (λ _. tt) (decimal i ∷ (sp ∷ [])) [] (lined (literal 0 n)) r)

-- ---- so many lines

pub row_start : (w : Token) (n t first count : ℕ) (ts : List Token) → row_read w n t first count ts ≡ row_read w n t first (first + count - first) ts
row_start w n t first count ts = let e : count ≡ first + count - first = omega arith in ap (λ m. row_read w n t first m ts) e

module _ (w : Token) (n t : ℕ) where
  pub row_more : (whole : Answer (Unit {0}) Token) (i end : ℕ) (ts rest : List Token) → i < end → whole ≡ row_read w n t i (end - i) ts → line_read w n t i ts ≡ Got tt rest → whole ≡ row_read w n t (i + 1) (end - (i + 1)) rest
  unfolding row_read line_read
  row_more = passes_more (table_line w n t)

  pub row_stuck : (whole : Answer (Unit {0}) Token) (i end : ℕ) (ts left : List Token) → i < end → whole ≡ row_read w n t i (end - i) ts → line_read w n t i ts ≡ Stuck left → whole ≡ Stuck left
  unfolding row_read line_read
  row_stuck = passes_stuck (table_line w n t)

  pub row_done : (whole : Answer (Unit {0}) Token) (i end : ℕ) (ts : List Token) → end ≤ i → whole ≡ row_read w n t i (end - i) ts → whole ≡ Got tt ts
  unfolding row_read
  row_done = passes_done (table_line w n t)

pub rows_start : (w : Token) (n width first count : ℕ) (ts : List Token) → rows_read w n width first count ts ≡ rows_read w n width first (first + count - first) ts
rows_start w n width first count ts = let e : count ≡ first + count - first = omega arith in ap (λ m. rows_read w n width first m ts) e

module _ (w : Token) (n width : ℕ) where
  pub rows_more : (whole : Answer (Unit {0}) Token) (i end : ℕ) (ts rest : List Token) → i < end → whole ≡ rows_read w n width i (end - i) ts → row_read w n i 0 width ts ≡ Got tt rest → whole ≡ rows_read w n width (i + 1) (end - (i + 1)) rest
  unfolding rows_read row_read
  rows_more = passes_more (λ t. times (table_line w n t) 0 width)

  pub rows_stuck : (whole : Answer (Unit {0}) Token) (i end : ℕ) (ts left : List Token) → i < end → whole ≡ rows_read w n width i (end - i) ts → row_read w n i 0 width ts ≡ Stuck left → whole ≡ Stuck left
  unfolding rows_read row_read
  rows_stuck = passes_stuck (λ t. times (table_line w n t) 0 width)

  pub rows_done : (whole : Answer (Unit {0}) Token) (i end : ℕ) (ts : List Token) → end ≤ i → whole ≡ rows_read w n width i (end - i) ts → whole ≡ Got tt ts
  unfolding rows_read
  rows_done = passes_done (λ t. times (table_line w n t) 0 width)

-- ---- the first row

pub shifted_opened : (n d : ℕ) (ts : List Token) → first_line_read true n d ts ≡ and_then ((words (nought ∷ (sp ∷ (decimal d ∷ (sp ∷ [])))) nothing).read ts) (λ _ r. and_then (literal_read n r) (λ y r2. and_then ((words (codes "depth" ∷ (sp ∷ [])) nothing).read r2) (λ _ r3. Got y r3)))
unfolding first_line_read first_line shifted_line literal_read
shifted_opened n d ts =
    words_front (λ _. tt) (nought ∷ (sp ∷ (decimal d ∷ (sp ∷ [])))) [] (behind (lined (literal 0 n)) (codes "depth" ∷ (sp ∷ []))) ts
    ∙ and_same ((words (nought ∷ (sp ∷ (decimal d ∷ (sp ∷ [])))) nothing).read ts)
    (λ _ r. passed ((behind (lined (literal 0 n)) (codes "depth" ∷ (sp ∷ []))).read r))
    (λ _ r. and_then (passed ((lined (literal 0 n)).read r)) (λ y r2. and_then ((words (codes "depth" ∷ (sp ∷ [])) nothing).read r2) (λ _ r3. Got y r3)))
    (λ _ r. behind_kept (λ _. tt) (lined (literal 0 n)) (codes "depth" ∷ (sp ∷ [])) r)

pub first_line_alone : (n d : ℕ) (ts : List Token) → first_line_read false n d ts ≡ line_read (codes "depth") n 0 d ts
unfolding first_line_read first_line line_read
first_line_alone n d ts = refl

first_line_end : (more : Bool) (n d : ℕ) → (first_line more n d).read [] ≡ Stuck []
unfolding first_line shifted_line table_line word
first_line_end true n d = refl
first_line_end false n d = refl

pub first_turn_stop : (more : Bool) (n d : ℕ) (ts r : List Token) → ts ≡ first_stop more ∷ r → first_turn more n d ts ≡ Got false r
unfolding first_turn
first_turn_stop more n d ts r e = ap (map_got is_some) (turn_stop (cond (nat_lt d 17) (first_line more n d) never) (first_stop more) ts r e)

turn_capped : (more : Bool) (n d : ℕ) (b : Bool) → nat_lt d 17 ≡ b → (ts : List Token) → starts (first_stop more) ts ≡ false → first_turn more n d ts ≡ map_got is_some (map_some ((cond b (first_line more n d) never).read ts))
unfolding first_turn
turn_capped more n d b e ts s =
    ap (λ c. map_got is_some (turn (λ t. bytes_eq t (first_stop more)) (cond c (first_line more n d) never) ts)) e
    ∙ ap (map_got is_some) (turn_else (cond b (first_line more n d) never) (first_stop more) ts (end b) s)
  where
    end : (b : Bool) → (cond b (first_line more n d) never).read [] ≡ Stuck []
    end true = first_line_end more n d
    end false = refl

pub first_turn_line : (more : Bool) (n d : ℕ) (ts : List Token) → d < 17 → starts (first_stop more) ts ≡ false → first_turn more n d ts ≡ and_then (first_line_read more n d ts) (λ _ r. Got true r)
unfolding first_line_read
first_turn_line more n d ts lt s = turn_capped more n d true (grind (arith, nat_tests)) ts s ∙ go ((first_line more n d).read ts)
  where
    go : (a : Answer Lit Token) → map_got is_some (map_some a) ≡ and_then (passed a) (λ _ r. Got true r)
    go (Got x r) = refl
    go (Stuck l) = refl

pub first_turn_never : (more : Bool) (n d : ℕ) (ts : List Token) → 17 ≤ d → starts (first_stop more) ts ≡ false → first_turn more n d ts ≡ Stuck ts
first_turn_never more n d ts le s = turn_capped more n d false (grind (arith, nat_tests)) ts s

none_of : {A : Type 0} (o : Option A) → is_some o ≡ false → o ≡ None
none_of None e = refl
none_of (Some x) e = absurd cc

some_of : {A : Type 0} (o : Option A) → is_some o ≡ true → (x : A) × (o ≡ Some x)
some_of None e = absurd cc
some_of (Some x) e = (x, refl)

module _ (more : Bool) (n : ℕ) (known : 0 < n) (small : n < limit) where
  line_exact : (b : Bool) (d : ℕ) → IsExact (cond b (shifted_line n d) (depth_line n 0 d))
  line_exact true d = shifted_line_exact n d known small
  line_exact false d = depth_line_exact n 0 d known small

  line_apart : (b : Bool) (d : ℕ) (x : Lit) → BeginsApart (λ t. bytes_eq t (first_stop b)) ((cond b (shifted_line n d) (depth_line n 0 d)).spell x)
  line_apart true d x = shifted_line_apart n d x
  line_apart false d x = depth_line_apart n 0 d x

  abbrev item : ℕ → Format Lit Token
  item d = cond (nat_lt d 17) (first_line more n d) never

  item_exact : (d : ℕ) → IsExact (item d)
  unfolding first_line
  item_exact d = go (nat_lt d 17)
    where
      go : (b : Bool) → IsExact (cond b (cond more (shifted_line n d) (depth_line n 0 d)) never)
      go true = line_exact more d
      go false = never_exact

  item_apart : (d : ℕ) (x : Lit) → (item d).valid x ≡ true → BeginsApart (λ t. bytes_eq t (first_stop more)) ((item d).spell x)
  unfolding first_line
  item_apart d x v = go (nat_lt d 17) v
    where
      go : (b : Bool) → (cond b (cond more (shifted_line n d) (depth_line n 0 d)) never).valid x ≡ true → BeginsApart (λ t. bytes_eq t (first_stop more)) ((cond b (cond more (shifted_line n d) (depth_line n 0 d)) never).spell x)
      go true v = line_apart more d x
      go false v = absurd cc

  pub first_rest_stop : (whole : Answer ℕ Token) (d : ℕ) (ts r : List Token) → first_turn more n d ts ≡ Got false r → whole ≡ first_rest_read more n d ts → whole ≡ Got d r
  unfolding first_turn first_rest_read
  first_rest_stop whole d ts r e h =
      let t = map_got_of is_some (turn (λ t. bytes_eq t (first_stop more)) (item d) ts) false r e in
      let stopped : turn (λ t. bytes_eq t (first_stop more)) (item d) ts ≡ Got None r = t.1 ∙ ap (λ o. Got o r) (none_of t.0 t.2) in
      let z : d + 0 ≡ d = omega arith in
      h
      ∙ ap (map_got (λ ls. d + length ls)) (loop_stop (first_stop more) (λ t. bytes_eq t (first_stop more)) item (λ d l. suc d) (stops_at (first_stop more)) item_exact item_apart d ts r stopped)
      ∙ ap (λ k. Got k r) z

  pub first_rest_more : (whole : Answer ℕ Token) (d : ℕ) (ts r : List Token) → first_turn more n d ts ≡ Got true r → whole ≡ first_rest_read more n d ts → whole ≡ first_rest_read more n (d + 1) r
  unfolding first_turn first_rest_read
  first_rest_more whole d ts r e h =
      let t = map_got_of is_some (turn (λ t. bytes_eq t (first_stop more)) (item d) ts) true r e in
      let x = some_of t.0 t.2 in
      let one : turn (λ t. bytes_eq t (first_stop more)) (item d) ts ≡ Got (Some x.0) r = t.1 ∙ ap (λ o. Got o r) x.1 in
      let same : suc d ≡ d + 1 = omega arith in
      h
      ∙ ap (map_got (λ ls. d + length ls)) (loop_more (first_stop more) (λ t. bytes_eq t (first_stop more)) item (λ d l. suc d) (stops_at (first_stop more)) item_exact item_apart d ts r x.0 one)
      ∙ go x.0 ((until (first_stop more) (λ t. bytes_eq t (first_stop more)) item (λ d l. suc d) (suc d)).read r)
      ∙ ap (λ k. map_got (λ ls. k + length ls) ((until (first_stop more) (λ t. bytes_eq t (first_stop more)) item (λ d l. suc d) k).read r)) same
    where
      go : (x : Lit) (a : Answer (List Lit) Token) → map_got (λ ls. d + length ls) (and_then a (λ xs more. Got (x ∷ xs) more)) ≡ map_got (λ ls. suc d + length ls) a
      go x (Got xs r) = let e : d + suc (length xs) ≡ suc d + length xs = omega arith in ap (λ k. Got k r) e
      go x (Stuck l) = refl

  pub first_rest_stuck : (whole : Answer ℕ Token) (d : ℕ) (ts left : List Token) → first_turn more n d ts ≡ Stuck left → whole ≡ first_rest_read more n d ts → whole ≡ Stuck left
  unfolding first_turn first_rest_read
  first_rest_stuck whole d ts left e h =
      let t = map_got_stuck is_some (turn (λ t. bytes_eq t (first_stop more)) (item d) ts) left e in
      h ∙ ap (map_got (λ ls. d + length ls)) (loop_stuck (first_stop more) (λ t. bytes_eq t (first_stop more)) item (λ d l. suc d) (stops_at (first_stop more)) item_exact item_apart d ts left t)

pub first_row_opened : (more : Bool) (n : ℕ) (ts : List Token) → first_row_read more n ts ≡ and_then (first_line_read more n 0 ts) (λ _ r. first_rest_read more n 1 r)
unfolding first_row_read first_line_read first_rest_read
first_row_opened more n ts =
    let F = first_line more n 0 in
    let rest = until (first_stop more) (λ t. bytes_eq t (first_stop more)) (λ d. cond (nat_lt d 17) (first_line more n d) never) (λ d l. suc d) 1 in
    mapped_kept {B = List Lit} length (λ p. p.0 ∷ p.1) uncons (pair F (λ _. rest)) ts
    ∙ pair_kept (λ p. length (p.0 ∷ p.1)) (λ _. tt) (λ _ ls. 1 + length ls) F (λ _. rest) (λ _. rest) (λ _ _. refl) (λ x ls. let e : suc (length ls) ≡ 1 + length ls = omega arith in e) ts

-- ---- all depths, and all turns

abbrev second_row : ℕ → ℕ → Format (List Lit) Token
second_row n m = mapped {B = List Lit} (λ p. p.0 ∷ p.1) uncons (pair (lined (literal 0 n)) (λ _. times (depth_line n 1) 1 (m - 1)))

abbrev later_rows : ℕ → ℕ → ℕ → Format (List (List Lit)) Token
later_rows n m k = times (λ t. times (depth_line n t) 0 m) 2 k

abbrev after_width : ℕ → ℕ → ℕ → Format (List Lit × List (List Lit)) Token
after_width n k m = words (sp ∷ (nought ∷ (sp ∷ []))) (pair (second_row n m) (λ _. later_rows n m k))

pub second_row_opened : (n m : ℕ) (ts : List Token) → second_row_read n m ts ≡ and_then (literal_read n ts) (λ _ r. row_read (codes "depth") n 1 1 (m - 1) r)
unfolding second_row_read
second_row_opened n m ts = refl

pub after_width_split : (n k m : ℕ) (ts : List Token) → after_width_read n k m ts ≡ and_then ((words (sp ∷ (nought ∷ (sp ∷ []))) nothing).read ts) (λ _ r. and_then (second_row_read n m r) (λ _ r. rows_read (codes "depth") n m 2 k r))
unfolding after_width_read
after_width_split n k m ts = refl

after_width_opened : (n k m : ℕ) (ts : List Token) → passed ((after_width n k m).read ts) ≡ after_width_read n k m ts
unfolding literal_read row_read rows_read second_row_read after_width_read
after_width_opened n k m ts =
    words_front (λ _. tt) (sp ∷ (nought ∷ (sp ∷ []))) [] (pair (second_row n m) (λ _. later_rows n m k)) ts
    ∙ and_same ((words (sp ∷ (nought ∷ (sp ∷ []))) nothing).read ts)
    (λ _ r. passed ((pair (second_row n m) (λ _. later_rows n m k)).read r))
    (λ _ r. and_then (and_then (literal_read n r) (λ _ r. row_read (codes "depth") n 1 1 (m - 1) r)) (λ _ r. rows_read (codes "depth") n m 2 k r))
    (λ _ r. both r)
  where
    second : (r : List Token) → passed ((second_row n m).read r) ≡ and_then (literal_read n r) (λ _ r. row_read (codes "depth") n 1 1 (m - 1) r)
    second r =
        mapped_kept {B = List Lit} (λ _. tt) (λ p. p.0 ∷ p.1) uncons (pair (lined (literal 0 n)) (λ _. times (depth_line n 1) 1 (m - 1))) r
        ∙ pair_kept (λ _. tt) (λ _. tt) (λ _ _. tt) (lined (literal 0 n)) (λ _. times (depth_line n 1) 1 (m - 1)) (λ _. times (depth_line n 1) 1 (m - 1)) (λ _ _. refl) (λ _ _. refl) r

    both : (r : List Token) → passed ((pair (second_row n m) (λ _. later_rows n m k)).read r) ≡ and_then (and_then (literal_read n r) (λ _ r. row_read (codes "depth") n 1 1 (m - 1) r)) (λ _ r. rows_read (codes "depth") n m 2 k r)
    both r =
        pair_kept (λ _. tt) (λ _. tt) (λ _ _. tt) (second_row n m) (λ _. later_rows n m k) (λ _. later_rows n m k) (λ _ _. refl) (λ _ _. refl) r
        ∙ ap (λ a. and_then a (λ _ r. passed ((later_rows n m k).read r))) (second r)

pub moving_opened : (n k : ℕ) (ts : List Token) → moving_read n k ts ≡ and_then ((words (codes "depth" ∷ (sp ∷ [])) nothing).read ts) (λ _ r. and_then (first_row_read true n r) (λ m r. after_width_read n k m r))
unfolding moving_read moving first_row_read first_line
moving_opened n k ts =
    let U = up_to_17 (49 ∷ []) (shifted_line n) in
    let P = pair U (rows_after n k) in
    mapped_kept {B = List (List Lit)} (λ _. tt) (λ p. p.0 ∷ (p.1.0 ∷ p.1.1)) as_rows (words (codes "depth" ∷ (sp ∷ [])) P) ts
    ∙ words_front (λ _. tt) (codes "depth" ∷ (sp ∷ [])) [] P ts
    ∙ and_same ((words (codes "depth" ∷ (sp ∷ [])) nothing).read ts) (λ _ r. passed (P.read r)) (λ _ r. and_then (map_got length (U.read r)) (λ m r. after_width_read n k m r))
    (λ _ r.
    pair_kept (λ _. tt) length (λ _ _. tt) U (rows_after n k) (after_width n k) (λ _ _. refl) (λ _ _. refl) r
    ∙ and_same (map_got length (U.read r)) (λ m r. passed ((after_width n k m).read r)) (λ m r. after_width_read n k m r) (λ m r. after_width_opened n k m r))

and_passed : {A B : Type 0} (a : Answer A Token) (k : List Token → Answer B Token) → and_then (passed a) (λ _ r. k r) ≡ and_then a (λ _ r. k r)
and_passed (Got x r) k = refl
and_passed (Stuck l) k = refl

pub tables_still : (n q k : ℕ) (ts : List Token) → k ≡ 0 → tables_read n q k ts ≡ and_then (first_row_read false n ts) (λ _ r. passed ((word lf).read r))
unfolding tables_read tables still first_row_read first_line
tables_still n q zero ts e =
    let U = up_to_17 (codes "log") (depth_line n 0) in
    let no_turns = mapped {B = List (List Lit)} (λ _. []) no_rows (word lf) in
    pair_kept (λ _. tt) (λ _. tt) (λ _ _. tt) (still n) (λ _. no_turns) (λ _. no_turns) (λ _ _. refl) (λ _ _. refl) ts
    ∙ ap (λ a. and_then a (λ _ r. passed (no_turns.read r))) (mapped_kept {B = List (List Lit)} (λ _. tt) (λ r. r ∷ []) single U ts ∙ sym (kept_twice (λ _. tt) length (U.read ts)))
    ∙ and_passed (map_got length (U.read ts)) (λ r. passed (no_turns.read r))
    ∙ and_same (map_got length (U.read ts)) (λ _ r. passed (no_turns.read r)) (λ _ r. passed ((word lf).read r)) (λ _ r. mapped_kept {B = List (List Lit)} (λ _. tt) (λ _. []) no_rows (word lf) r)
tables_still n q (suc k) ts e = absurd (omega arith)

pub tables_moving : (n q k : ℕ) (ts : List Token) → 1 ≤ k → tables_read n q k ts ≡ and_then (moving_read n (k - 1) ts) (λ _ r. and_then (rows_read (codes "turn") n q 1 k r) (λ y r. and_then ((words (codes "log" ∷ (lf ∷ [])) nothing).read r) (λ _ r. Got y r)))
unfolding tables_read tables moving_read rows_read
tables_moving n q zero ts h = absurd (omega arith)
tables_moving n q (suc k) ts h =
    let turns = times (λ t. times (turn_line n t) 0 q) 1 (suc k) in
    let B = behind turns (codes "log" ∷ (lf ∷ [])) in
    let e : k ≡ suc k - 1 = omega arith in
    pair_kept (λ _. tt) (λ _. tt) (λ _ _. tt) (moving n k) (λ _. B) (λ _. B) (λ _ _. refl) (λ _ _. refl) ts
    ∙ and_same (passed ((moving n k).read ts)) (λ _ r. passed (B.read r)) (λ _ r. and_then (passed (turns.read r)) (λ y r. and_then ((words (codes "log" ∷ (lf ∷ [])) nothing).read r) (λ _ r. Got y r))) (λ _ r. behind_kept (λ _. tt) turns (codes "log" ∷ (lf ∷ [])) r)
    ∙ ap (λ j. and_then (passed ((moving n j).read ts)) (λ _ r. and_then (passed (turns.read r)) (λ y r. and_then ((words (codes "log" ∷ (lf ∷ [])) nothing).read r) (λ _ r. Got y r)))) e
