-- The demands of a turn together are what it allows.
use Rattle.std.proofs.Common.{◌≡◌, ℕ, suc, zero, ◌+◌, ◌-◌, ◌*◌, ◌^◌, ◌<◌, ◌≤◌, Bool, true, false, not, ◌&&◌, ◌||◌, List, [], ◌∷◌, refl, sym, ◌∙◌, ap, subst, arith, if◌then◌else◌, length, ◌==◌, nat_le, nat_lt, get_or, Option, Some, None, inl, inr, ◌⊎◌}
use Rattle.std.proofs.Math.Path.{fun_ext}
use Rattle.std.proofs.lemmas.Bool.{and_parts, and_from}
use Rattle.std.proofs.lemmas.Bool.Decides.{nat_tests}
use Rattle.chk_base.specs.declared.word.Width.{Width}
use Rattle.chk_base.specs.declared.word.Width.TheVariants.{W1, W8, W16, W32}
use Rattle.chk_base.specs.Operators.{one_if}
use Rattle.chk_base.specs.Widths.{bits_of, limit_of}
use Rattle.clause_form.specs.declared.lit.Lit.{Lit}
use Rattle.clause_form.specs.ClauseTruth.{Values, is_lit_true}
use Rattle.guard_prog.specs.declared.draft.Draft.{Draft}
use Rattle.guard_prog.specs.Drafts.{program_of}
use Rattle.guard_prog.specs.GuardedRun.{PlainAlternative, Program, alternative_with, enabled_of, takes_word}
use Rattle.bit_circuit.specs.BusValue.{bit, number}
use Rattle.turn_law.specs.Building.{HasRoom, is_no, picks}
use Rattle.turn_law.specs.Padded.{Phase}
use Rattle.turn_law.specs.Sight.{Allows, IsDark, IsOffered, Means, MeansStack, Offer, Pick, Reads, Sight, any, is_all, is_end, is_push, open_offers}
use Rattle.turn_law.specs.Symbol.{Row, nth, no, row_true, sight, trues}
use Rattle.turn_law.proofs.Taking.{Hits, hits_none, untaken_dark, untaken_unlabelled}
use Rattle.turn_law.proofs.Turning.{hits_open, reads_at, reads_dark}
use Rattle.turn_law.proofs.Freedom.{no_false, same_no}
use Rattle.turn_unroll.specs.declared.turn.State.{State}
use Rattle.turn_unroll.specs.declared.ways.Way.{Way}
use Rattle.turn_unroll.specs.declared.ways.Side.TheVariants.{Label}
use Rattle.turn_unroll.specs.Cells.{cell_in, is_open_in, width_in}
use Rattle.turn_unroll.specs.Demands.{all_imply, is_lone}
use Rattle.turn_unroll.specs.Labels.{all_offered}
use Rattle.turn_unroll.specs.Places.{bits_below}
use Rattle.turn_unroll.specs.Stack.{has_room}
use Rattle.turn_unroll.specs.Turns.{HasFree, symbol_of}
use Rattle.turn_unroll.specs.Ways.{AreOpen, any_way, choice_of, choices_of, input_bits, names, offered_choices, wider}
use Rattle.turn_unroll.specs.Words.{are_bits_taken, is_word_taken}
use Rattle.turn_unroll.proofs.Demanding.{each_at, each_of, implies_from, implies_to}
use Rattle.turn_unroll.proofs.Joining.{offer_is, offers_any, open_is}
use Rattle.turn_unroll.proofs.Showing.{Under, cases_below, past_false, under_any}
use Rattle.turn_unroll.proofs.Wording.{HasTakers, Worded, words_from, words_to}

-- ---- labels
pub once_from : (t : ℕ) → nat_le t 1 ≡ true → one_if (not (nat_lt 0 t)) + t ≡ 1
once_from zero e = refl
once_from (suc zero) e = refl
once_from (suc (suc t)) e = absurd (let f : nat_le (suc (suc t)) 1 ≡ false = grind (arith, nat_tests) in cc)

pub once_to : (t : ℕ) → one_if (not (nat_lt 0 t)) + t ≡ 1 → nat_le t 1 ≡ true
once_to zero e = refl
once_to (suc zero) e = refl
once_to (suc (suc t)) e = absurd (omega arith)

-- some alternative, or none, is taken
pub record OneHit (at label : ℕ → Bool) (os : List Offer) : Type 0 where
  pub hit : Option PlainAlternative
  pub hits : Hits at label os hit

pub one_hit : (p : Program) (os : List Offer) (s : Sight) (x : Pick) (c : ℕ × ℕ) (ph : Phase) → IsOffered p os → Means p s ph → Reads x c → OneHit s.at x.label (open_offers p os s)
one_hit p os s x c ph k m r = go ph.state.stack ph.is_over (c.0 == 0) refl m.stack
  where
    go : (stack : List ℕ) (over zeroed : Bool) → (c.0 == 0) ≡ zeroed → MeansStack p.depth s stack over → OneHit s.at x.label (open_offers p os s)
    go [] over z e m = absurd m
    go (t ∷ ts) over true e m = record { hit = None; hits = hits_none s.at x.label (open_offers p os s) (untaken_unlabelled s.at x.label (open_offers p os s) (reads_dark x c r e)) }
    go (t ∷ ts) true false e m = record { hit = None; hits = hits_none s.at x.label (open_offers p os s) (untaken_dark s.at x.label (open_offers p os s) m.2) }
    go (t ∷ ts) false false e m = record { hit = alternative_with c.0 (enabled_of p.width s.cells (p.points t)); hits = hits_open p os s x.label t c.0 k m.2.0 (reads_at x c r e) }

-- ---- the word
wide_same : (from i : ℕ) → (from ≡ 0 → i < 1) → (from ≡ 1 → i < 8) → (from ≡ 8 → i < 16) → (from ≡ 16 → i < 32) → from ≤ i → (from ≡ 0) ⊎ ((from ≡ 1) ⊎ ((from ≡ 8) ⊎ (from ≡ 16))) → (a : PlainAlternative) → wider from a ≡ wider i a
wide_same from i h0 h1 h8 h16 le one a = go a.input one
  where
    go : (o : Option Width) → (from ≡ 0) ⊎ ((from ≡ 1) ⊎ ((from ≡ 8) ⊎ (from ≡ 16))) → nat_lt from (input_bits o) ≡ nat_lt i (input_bits o)
    go None one = grind (arith, nat_tests)
    go (Some W1) (inl e) = let f = h0 e in grind (arith, nat_tests)
    go (Some W1) (inr (inl e)) = let f = h1 e in grind (arith, nat_tests)
    go (Some W1) (inr (inr (inl e))) = let f = h8 e in grind (arith, nat_tests)
    go (Some W1) (inr (inr (inr e))) = let f = h16 e in grind (arith, nat_tests)
    go (Some W8) (inl e) = let f = h0 e in grind (arith, nat_tests)
    go (Some W8) (inr (inl e)) = let f = h1 e in grind (arith, nat_tests)
    go (Some W8) (inr (inr (inl e))) = let f = h8 e in grind (arith, nat_tests)
    go (Some W8) (inr (inr (inr e))) = let f = h16 e in grind (arith, nat_tests)
    go (Some W16) (inl e) = let f = h0 e in grind (arith, nat_tests)
    go (Some W16) (inr (inl e)) = let f = h1 e in grind (arith, nat_tests)
    go (Some W16) (inr (inr (inl e))) = let f = h8 e in grind (arith, nat_tests)
    go (Some W16) (inr (inr (inr e))) = let f = h16 e in grind (arith, nat_tests)
    go (Some W32) (inl e) = let f = h0 e in grind (arith, nat_tests)
    go (Some W32) (inr (inl e)) = let f = h1 e in grind (arith, nat_tests)
    go (Some W32) (inr (inr (inl e))) = let f = h8 e in grind (arith, nat_tests)
    go (Some W32) (inr (inr (inr e))) = let f = h16 e in grind (arith, nat_tests)

class_same : (from n i : ℕ) (v : Values) (ways : List Way) → (from ≡ 0) × (n ≡ 1) ⊎ ((from ≡ 1) × (n ≡ 7) ⊎ ((from ≡ 8) × (n ≡ 8) ⊎ (from ≡ 16) × (n ≡ 16))) → from ≤ i → i < from + n → any_way v (wider from) ways ≡ any_way v (wider i) ways
class_same from n i v ways k le lt = ap (λ g. any_way v g ways) (fun_ext (λ (a : PlainAlternative). go k a))
  where
    go : (from ≡ 0) × (n ≡ 1) ⊎ ((from ≡ 1) × (n ≡ 7) ⊎ ((from ≡ 8) × (n ≡ 8) ⊎ (from ≡ 16) × (n ≡ 16))) → (a : PlainAlternative) → wider from a ≡ wider i a
    go (inl e) a = wide_same from i (λ f. omega (arith, e.1)) (λ f. absurd (omega (arith, e.0))) (λ f. absurd (omega (arith, e.0))) (λ f. absurd (omega (arith, e.0))) le (inl e.0) a
    go (inr (inl e)) a = wide_same from i (λ f. absurd (omega (arith, e.0))) (λ f. omega (arith, e.1)) (λ f. absurd (omega (arith, e.0))) (λ f. absurd (omega (arith, e.0))) le (inr (inl e.0)) a
    go (inr (inr (inl e))) a = wide_same from i (λ f. absurd (omega (arith, e.0))) (λ f. absurd (omega (arith, e.0))) (λ f. omega (arith, e.1)) (λ f. absurd (omega (arith, e.0))) le (inr (inr (inl e.0))) a
    go (inr (inr (inr e))) a = wide_same from i (λ f. absurd (omega (arith, e.0))) (λ f. absurd (omega (arith, e.0))) (λ f. absurd (omega (arith, e.0))) (λ f. omega (arith, e.1)) le (inr (inr (inr e.0))) a

class_from : (from n : ℕ) (v : Values) (word : List Lit) (ways : List Way) → (from ≡ 0) × (n ≡ 1) ⊎ ((from ≡ 1) × (n ≡ 7) ⊎ ((from ≡ 8) × (n ≡ 8) ⊎ (from ≡ 16) × (n ≡ 16))) → are_bits_taken v word ways from n ≡ true → (i : ℕ) → from ≤ i → i < from + n → row_true v word i ≡ true → any_way v (wider i) ways ≡ true
class_from from n v word ways k e i le lt f =
    let s : from + (i - from) ≡ i = omega arith in
    let h = each_at (λ j. not (row_true v word j) || any_way v (wider from) ways) from n e (i - from) (omega arith) in
    let g : (not (row_true v word i) || any_way v (wider from) ways) ≡ true = ap (λ j. not (row_true v word j) || any_way v (wider from) ways) (sym s) ∙ h in
    sym (class_same from n i v ways k le lt) ∙ implies_from (row_true v word i) (any_way v (wider from) ways) g f

class_to : (from n : ℕ) (v : Values) (word : List Lit) (ways : List Way) → (from ≡ 0) × (n ≡ 1) ⊎ ((from ≡ 1) × (n ≡ 7) ⊎ ((from ≡ 8) × (n ≡ 8) ⊎ (from ≡ 16) × (n ≡ 16))) → ((i : ℕ) → i < from + n → row_true v word i ≡ true → any_way v (wider i) ways ≡ true) → are_bits_taken v word ways from n ≡ true
class_to from n v word ways k h = each_of (λ j. not (row_true v word j) || any_way v (wider from) ways) from n (λ i lt. implies_to (row_true v word (from + i)) (any_way v (wider from) ways) (λ f. class_same from n (from + i) v ways k (omega arith) (omega arith) ∙ h (from + i) (omega arith) f))

both : (a b : Bool) → (a && b) ≡ true → (a ≡ true) × (b ≡ true)
both a b e = and_parts a b e

word_takers : (v : Values) (word : List Lit) (ways : List Way) → is_word_taken v word ways ≡ true → (i : ℕ) → i < 32 → row_true v word i ≡ true → any_way v (wider i) ways ≡ true
word_takers v word ways e i h f =
    let p = both ((are_bits_taken v word ways 0 1 && are_bits_taken v word ways 1 7) && are_bits_taken v word ways 8 8) (are_bits_taken v word ways 16 16) e in
    let q = both (are_bits_taken v word ways 0 1 && are_bits_taken v word ways 1 7) (are_bits_taken v word ways 8 8) p.0 in
    let r = both (are_bits_taken v word ways 0 1) (are_bits_taken v word ways 1 7) q.0 in
    go p q r (cases_below i 1) (cases_below i 8) (cases_below i 16)
  where
    go : (are_bits_taken v word ways 0 1 && are_bits_taken v word ways 1 7 && are_bits_taken v word ways 8 8 ≡ true) × (are_bits_taken v word ways 16 16 ≡ true) → ((are_bits_taken v word ways 0 1 && are_bits_taken v word ways 1 7) ≡ true) × (are_bits_taken v word ways 8 8 ≡ true) → (are_bits_taken v word ways 0 1 ≡ true) × (are_bits_taken v word ways 1 7 ≡ true) → (i < 1) ⊎ (1 ≤ i) → (i < 8) ⊎ (8 ≤ i) → (i < 16) ⊎ (16 ≤ i) → any_way v (wider i) ways ≡ true
    go p q r (inl a) b c = class_from 0 1 v word ways (inl (refl, refl)) r.0 i (omega arith) (omega arith) f
    go p q r (inr a) (inl b) c = class_from 1 7 v word ways (inr (inl (refl, refl))) r.1 i a (omega arith) f
    go p q r (inr a) (inr b) (inl c) = class_from 8 8 v word ways (inr (inr (inl (refl, refl)))) q.1 i b (omega arith) f
    go p q r (inr a) (inr b) (inr c) = class_from 16 16 v word ways (inr (inr (inr (refl, refl)))) p.1 i c (omega arith) f

takers_word : (v : Values) (word : List Lit) (ways : List Way) → ((i : ℕ) → i < 32 → row_true v word i ≡ true → any_way v (wider i) ways ≡ true) → is_word_taken v word ways ≡ true
takers_word v word ways h =
    let a = class_to 0 1 v word ways (inl (refl, refl)) (λ i lt. h i (omega arith)) in
    let b = class_to 1 7 v word ways (inr (inl (refl, refl))) (λ i lt. h i (omega arith)) in
    let c = class_to 8 8 v word ways (inr (inr (inl (refl, refl)))) (λ i lt. h i (omega arith)) in
    let d = class_to 16 16 v word ways (inr (inr (inr (refl, refl)))) (λ i lt. h i (omega arith)) in
    rw (a, b, c, d) refl

-- ---- free literals
some_way : (v : Values) (g : PlainAlternative → Bool) (labels : List Lit) (l : ℕ) (ws : List Way) → v 1 ≡ true → ((a : PlainAlternative) → g a ≡ true → a.label ≡ l + 1) → HasFree labels ws → any_way v g ws ≡ true → is_no (nth labels l) ≡ false
some_way v g labels l [] o h f e = absurd (cc)
some_way v g labels l (w ∷ ws) o h f e = go (is_lit_true v w.taken) refl (g (choice_of w)) refl e (some_way v g labels l ws o h f.1)
  where
    free : is_lit_true v w.taken ≡ true → is_no w.taken ≡ false
    free t = here (is_no w.taken) refl
      where
        here : (b : Bool) → is_no w.taken ≡ b → b ≡ false
        here true q = absurd (let x : is_lit_true v w.taken ≡ false = ap (is_lit_true v) (same_no w.taken q) ∙ no_false v o in cc)
        here false q = refl

    go : (a : Bool) → is_lit_true v w.taken ≡ a → (b : Bool) → g (choice_of w) ≡ b → ((a && b) || any_way v g ws) ≡ true → (any_way v g ws ≡ true → is_no (nth labels l) ≡ false) → is_no (nth labels l) ≡ false
    go true p true q e again = f.0 (free p) l (h (choice_of w) q)
    go true p false q e again = again e
    go false p b q e again = again e

room_way : (v : Values) (g : PlainAlternative → Bool) (row : List Lit) (n word : ℕ) (ws : List Way) → v 1 ≡ true → ((a : PlainAlternative) → g a ≡ true → takes_word a.input word ≡ true) → bits_below ws n → ((i : ℕ) → i < n → is_no (nth row i) ≡ false) → any_way v g ws ≡ true → HasRoom row word
room_way v g row n word [] o h b f e = absurd (cc)
room_way v g row n word (w ∷ ws) o h b f e = go (is_lit_true v w.taken) refl (g (choice_of w)) refl e (room_way v g row n word ws o h b.1 f)
  where
    free : is_lit_true v w.taken ≡ true → (w.taken.0 == 3) ≡ false
    free t = here (is_no w.taken) refl
      where
        here : (b : Bool) → is_no w.taken ≡ b → b ≡ false
        here true q = absurd (let x : is_lit_true v w.taken ≡ false = ap (is_lit_true v) (same_no w.taken q) ∙ no_false v o in cc)
        here false q = refl

    fits : (o : Option Width) → takes_word o word ≡ true → word < 2 ^ input_bits o
    fits None t = let e : word ≡ 0 = grind (arith, nat_tests) in omega arith
    fits (Some x) t = grind (arith, nat_tests)

    go : (a : Bool) → is_lit_true v w.taken ≡ a → (b : Bool) → g (choice_of w) ≡ b → ((a && b) || any_way v g ws) ≡ true → (any_way v g ws ≡ true → HasRoom row word) → HasRoom row word
    go true p true q e again = record { bits = input_bits (choice_of w).input; fits = fits (choice_of w).input (h (choice_of w) q); free = λ i k. f i (omega (arith, b.0 (free p))) }
    go true p false q e again = again e
    go false p b q e again = again e

-- the labels that are offered have free literals
pub label_free : (d : Draft) (os : List Offer) (v : Values) (before : State) (labels : List Lit) (opened : List Way) (l : ℕ) → v 1 ≡ true → length d.widths ≡ length before.cells → AreOpen v (row_true v before.at) (is_open_in d.widths before.cells v) opened os → choices_of opened ≡ offered_choices os → HasFree labels opened → any (sight v (symbol_of before)).at (λ i. i == suc l) is_all (open_offers (program_of d) os (sight v (symbol_of before))) ≡ true → is_no (nth labels l) ≡ false
label_free d os v before labels opened l o c a s f e =
    some_way v (names Label (suc l)) labels l opened o (λ x g. same x g) f (offer_is v (row_true v before.at) (is_open_in d.widths before.cells v) (width_in d.widths) (cell_in v before.cells) (suc l) opened os (λ x. open_is v d.widths before.cells x c) a s ∙ e)
  where
    same : (x : PlainAlternative) → (suc l == x.label) ≡ true → x.label ≡ l + 1
    same x g = grind (arith, nat_tests)

-- and the words that fit an input have room
pub word_room : (d : Draft) (os : List Offer) (v : Values) (before : State) (row : List Lit) (opened : List Way) (n l word : ℕ) → v 1 ≡ true → length d.widths ≡ length before.cells → AreOpen v (row_true v before.at) (is_open_in d.widths before.cells v) opened os → choices_of opened ≡ offered_choices os → bits_below opened n → ((i : ℕ) → i < n → is_no (nth row i) ≡ false) → any (sight v (symbol_of before)).at (λ i. i == l) (λ a. takes_word a.input word) (open_offers (program_of d) os (sight v (symbol_of before))) ≡ true → HasRoom row word
word_room d os v before row opened n l word o c a s b f e =
    room_way v (λ x. names Label l x && takes_word x.input word) row n word opened o (λ x g. (both (names Label l x) (takes_word x.input word) g).1) b f
    (offers_any v (row_true v before.at) (is_open_in d.widths before.cells v) (width_in d.widths) (cell_in v before.cells) l (λ x. takes_word x.input word) opened os (λ x. open_is v d.widths before.cells x c) a s ∙ e)

-- ---- what the demands say
pub record Demanded (d : Draft) (v : Values) (before : State) (labels bits : List Lit) (opened ways : List Way) (push : Lit) : Type 0 where
  pub offered : all_offered v labels opened 1 (length labels - 1) ≡ true
  pub word : is_word_taken v bits ways ≡ true
  pub room : has_room v before.depth d.depth ways push ≡ true

apart_from : (a b : Bool) → not (a && b) ≡ true → (a && b) ≡ false
apart_from true true e = absurd (cc)
apart_from true false e = refl
apart_from false b e = refl

pub demanded_allows : (d : Draft) (os : List Offer) (v : Values) (before : State) (r : Row) (opened ways : List Way) (push : Lit) (c : ℕ × ℕ) (ph : Phase) → IsOffered (program_of d) os → Means (program_of d) (sight v (symbol_of before)) ph → Reads (picks v r) c → 0 < length r.labels → length r.word ≡ 32 → is_lit_true v push ≡ any_way v (λ a. is_push a.control) ways → Under d os v before r.labels opened ways → Demanded d v before r.labels r.word opened ways push → Allows (program_of d) os (sight v (symbol_of before)) (picks v r)
demanded_allows d os v before r opened ways push c ph k m q some bits pu u g = record {
  offered = offered;
  room = ap (λ x. x && row_true v before.depth d.depth) (sym (taken_push)) ∙ apart_from (is_lit_true v push) (row_true v before.depth d.depth) parts.0;
  ends = ap (λ x. x && row_true v before.depth 0) (sym (under_any d os v before r opened ways (λ a. is_end a.control) u)) ∙ apart_from (any_way v (λ a. is_end a.control) ways) (row_true v before.depth 0) parts.1;
  word = words.word;
  unused = words.unused;
}
  where
    parts : (not (is_lit_true v push && row_true v before.depth d.depth) ≡ true) × (not (any_way v (λ a. is_end a.control) ways && row_true v before.depth 0) ≡ true)
    parts = and_parts (not (is_lit_true v push && row_true v before.depth d.depth)) (not (any_way v (λ a. is_end a.control) ways && row_true v before.depth 0)) g.room

    taken_push : is_lit_true v push ≡ any (sight v (symbol_of before)).at (picks v r).label (λ a. is_push a.control) (open_offers (program_of d) os (sight v (symbol_of before)))
    taken_push = pu ∙ under_any d os v before r opened ways (λ a. is_push a.control) u

    hit : OneHit (sight v (symbol_of before)).at (picks v r).label (open_offers (program_of d) os (sight v (symbol_of before)))
    hit = one_hit (program_of d) os (sight v (symbol_of before)) (picks v r) c ph k m q

    words : Worded v r.word (sight v (symbol_of before)).at (picks v r).label (open_offers (program_of d) os (sight v (symbol_of before)))
    words = words_from v r.word (sight v (symbol_of before)).at (picks v r).label (open_offers (program_of d) os (sight v (symbol_of before))) hit.hit hit.hits
        (record { taker = λ i h e. sym (under_any d os v before r opened ways (wider i) u) ∙ word_takers v r.word ways g.word i (omega arith) e })

    offered : (l : ℕ) → (picks v r).label l ≡ true → any (sight v (symbol_of before)).at (λ i. i == l) is_all (open_offers (program_of d) os (sight v (symbol_of before))) ≡ true
    offered l e = go l (both (not (l == 0)) (row_true v r.labels l) e) (cases_below l (length r.labels))
      where
        go : (l : ℕ) → (not (l == 0) ≡ true) × (row_true v r.labels l ≡ true) → (l < length r.labels) ⊎ (length r.labels ≤ l) → any (sight v (symbol_of before)).at (λ i. i == l) is_all (open_offers (program_of d) os (sight v (symbol_of before))) ≡ true
        go zero e b = absurd (let f = e.0 in cc)
        go (suc l) e (inr h) = absurd (let f = past_false v r.labels (suc l) u.one h in let x = e.1 in cc)
        go (suc l) e (inl h) =
            let f = each_at (λ i. not (row_true v r.labels i) || any_way v (names Label i) opened) 1 (length r.labels - 1) g.offered l (omega arith) in
            let s : 1 + l ≡ suc l = omega arith in
            let j : (not (row_true v r.labels (suc l)) || any_way v (names Label (suc l)) opened) ≡ true = ap (λ i. not (row_true v r.labels i) || any_way v (names Label i) opened) (sym s) ∙ f in
            sym (offer_is v (row_true v before.at) (is_open_in d.widths before.cells v) (width_in d.widths) (cell_in v before.cells) (suc l) opened os (λ x. open_is v d.widths before.cells x u.cells) u.opens u.same)
            ∙ implies_from (row_true v r.labels (suc l)) (any_way v (names Label (suc l)) opened) j e.1

apart_to : (a b : Bool) → (a && b) ≡ false → not (a && b) ≡ true
apart_to a b e = ap not e

pub allows_demanded : (d : Draft) (os : List Offer) (v : Values) (before : State) (r : Row) (opened ways : List Way) (push : Lit) (c : ℕ × ℕ) (ph : Phase) → IsOffered (program_of d) os → Means (program_of d) (sight v (symbol_of before)) ph → Reads (picks v r) c → length r.word ≡ 32 → is_lit_true v push ≡ any_way v (λ a. is_push a.control) ways → Under d os v before r.labels opened ways → Allows (program_of d) os (sight v (symbol_of before)) (picks v r) → Demanded d v before r.labels r.word opened ways push
allows_demanded d os v before r opened ways push c ph k m q bits pu u a = record {
  offered = each_of (λ i. not (row_true v r.labels i) || any_way v (names Label i) opened) 1 (length r.labels - 1) (λ i h. implies_to (row_true v r.labels (1 + i)) (any_way v (names Label (1 + i)) opened) (λ f. offered (1 + i) (omega arith) f));
  word = takers_word v r.word ways (λ i h e. under_any d os v before r opened ways (wider i) u ∙ takers.taker i (omega arith) e);
  room = and_from (not (is_lit_true v push && row_true v before.depth d.depth)) (not (any_way v (λ a. is_end a.control) ways && row_true v before.depth 0))
      (apart_to (is_lit_true v push) (row_true v before.depth d.depth) (ap (λ x. x && row_true v before.depth d.depth) (pu ∙ under_any d os v before r opened ways (λ a. is_push a.control) u) ∙ a.room))
      (apart_to (any_way v (λ a. is_end a.control) ways) (row_true v before.depth 0) (ap (λ x. x && row_true v before.depth 0) (under_any d os v before r opened ways (λ a. is_end a.control) u) ∙ a.ends));
}
  where
    hit : OneHit (sight v (symbol_of before)).at (picks v r).label (open_offers (program_of d) os (sight v (symbol_of before)))
    hit = one_hit (program_of d) os (sight v (symbol_of before)) (picks v r) c ph k m q

    takers : HasTakers v r.word (sight v (symbol_of before)).at (picks v r).label (open_offers (program_of d) os (sight v (symbol_of before)))
    takers = words_to v r.word (sight v (symbol_of before)).at (picks v r).label (open_offers (program_of d) os (sight v (symbol_of before))) hit.hit hit.hits (record { word = a.word; unused = a.unused })

    offered : (l : ℕ) → 0 < l → row_true v r.labels l ≡ true → any_way v (names Label l) opened ≡ true
    offered l h f =
        let e : (l == 0) ≡ false = grind (arith, nat_tests) in
        let g : (picks v r).label l ≡ true = rw (e, f) refl in
        offer_is v (row_true v before.at) (is_open_in d.widths before.cells v) (width_in d.widths) (cell_in v before.cells) l opened os (λ x. open_is v d.widths before.cells x u.cells) u.opens u.same ∙ a.offered l g
