-- The alternatives that are open, one by one.
use Rattle.std.proofs.Common.{◌≡◌, ℕ, suc, zero, ◌+◌, ◌-◌, ◌*◌, ◌<◌, ◌≤◌, Bool, true, false, not, ◌&&◌, ◌||◌, List, [], ◌∷◌, ◌++◌, take, drop, refl, sym, ◌∙◌, ap, subst, arith, if◌then◌else◌, length, ◌==◌, get_or, set, Option, Some, None, replicate, length-append, max, nat_lt, inl, inr, ◌⊎◌, ◌≢◌}
use Rattle.std.proofs.lemmas.Bool.{cases_eq}
use Rattle.std.proofs.lemmas.Bool.Decides.{nat_tests}
use Rattle.std.proofs.lemmas.List.{length-set, get_or-set_same, get_or-set_other}
use Rattle.chk_base.specs.declared.expr.Expr.{Expr}
use Rattle.chk_base.specs.declared.expr.UnOp.TheVariants as un
use Rattle.chk_base.specs.declared.word.Width.{Width}
use Rattle.chk_base.specs.declared.word.Width.TheVariants.{W1, W8, W16, W32}
use Rattle.chk_base.specs.Operators.{one_if, truth, unary_value}
use Rattle.chk_base.specs.Term.{term_of}
use Rattle.chk_base.specs.WordValue.{IsWithin}
use Rattle.clause_form.specs.declared.lit.Lit.{Lit}
use Rattle.clause_form.specs.ClauseTruth.{Values, is_lit_true}
use Rattle.clause_form.specs.Literals.{AreOf, IsOf}
use Rattle.bit_circuit.specs.declared.bus.Bus.{Bus}
use Rattle.bit_circuit.specs.BusValue.{MakesBus, bit, number}
use Rattle.bit_circuit.specs.Extension.{PlainFormula, IsModel, Makes}
use Rattle.bit_circuit.proofs.Growth.{extends_refl, extends_trans, kept}
use Rattle.turn_law.specs.Building.{HasTruth}
use Rattle.turn_law.specs.Symbol.{no}
use Rattle.turn_law.proofs.Freedom.{no_false}
use Rattle.turn_unroll.specs.declared.offers.Offered.{Offered}
use Rattle.turn_unroll.specs.declared.ways.Way.{Way}
use Rattle.turn_unroll.specs.Cells.{AreFit, term_in}
use Rattle.turn_unroll.specs.Places.{AreMarked, HasMarks, IsMarkedWord, bits_below, labels_below}
use Rattle.turn_unroll.specs.Rows.{GivesLit}
use Rattle.turn_unroll.specs.Ways.{choice_of, choices_of, input_bits, offer_of, offered_choices, offers_of}
use Rattle.turn_unroll.proofs.Making.{AreOf-get, lent_back, never_of, take_more, take_whole}

-- ---- one alternative
low_true : (v : Values) (ls : List Lit) (d : Lit) (b : Bool) → 0 < length ls → number v ls ≡ one_if b → is_lit_true v (get_or ls 0 d) ≡ b
low_true v [] d b h e = absurd (omega arith)
low_true v (l ∷ ls) d b h e = go (is_lit_true v l) b e
  where
    go : (a b : Bool) → one_if a + 2 * number v ls ≡ one_if b → a ≡ b
    go true true e = refl
    go true false e = absurd (omega arith)
    go false true e = absurd (omega arith)
    go false false e = refl

pub nonzero_made : (s new : PlainFormula) (bus r : List Lit) (d : Lit) → MakesBus s new r (λ v. unary_value un.Bool (number v bus)) 65536 → GivesLit s new (get_or r 0 d) (λ v. truth (number v bus))
nonzero_made s new bus r d m = record {
  extends = m.extends;
  inside = AreOf-get new.variables r 0 d m.inside (omega (arith, m.width));
  equal = λ v k. low_true v r d (truth (number v bus)) (omega (arith, m.width)) (m.equal v k);
}

pub open_never : (s : PlainFormula) (at : Lit) (widths : List Width) (cells : List Bus) (guard : Expr) → HasTruth s → at ≡ no → GivesLit s s no (λ v. is_lit_true v at && truth (term_in v widths cells (term_of guard)))
open_never s at widths cells guard t e = record { extends = extends_refl s; inside = never_of s t; equal = λ v m. let f : is_lit_true v at ≡ false = ap (is_lit_true v) e ∙ no_false v (t.one v m) in no_false v (t.one v m) ∙ sym (rw f refl) }

pub open_made : (s s1 s2 new : PlainFormula) (at : Lit) (value : List Lit) (g r : Lit) (widths : List Width) (cells : List Bus) (guard : Expr) (n : ℕ) → MakesBus s s1 value (λ v. term_in v widths cells (term_of guard)) n → GivesLit s1 s2 g (λ v. truth (number v value)) → Makes s2 new r (λ v. is_lit_true v at && is_lit_true v g) 1 → GivesLit s new r (λ v. is_lit_true v at && truth (term_in v widths cells (term_of guard)))
open_made s s1 s2 new at value g r widths cells guard n p q m = record {
  extends = extends_trans s s2 new (extends_trans s s1 s2 p.extends q.extends) m.extends;
  inside = m.inside;
  equal = λ v k.
      let k2 = kept m.extends v k in
      m.equal v k ∙ rw (q.equal v k2, p.equal v (kept q.extends v k2)) refl;
}

pub guard_at : (points : ℕ) (widths : List Width) (n : ℕ) (os : List Offered) (i : ℕ) (o : Offered) → o ≡ get_or os i o → i < length os → length widths ≡ n → AreFit points widths (offered_choices (offers_of os)) → IsWithin n (offer_of o).choice.guard
guard_at points widths n os i o e h l f = subst (λ k. IsWithin k (offer_of o).choice.guard) l (subst (λ x. IsWithin (length widths) (offer_of x).choice.guard) (sym e) (go os i h f))
  where
    go : (os : List Offered) (i : ℕ) → i < length os → AreFit points widths (offered_choices (offers_of os)) → IsWithin (length widths) (offer_of (get_or os i o)).choice.guard
    go [] i h f = absurd (omega arith)
    go (x ∷ os) zero h f = f.0.guard
    go (x ∷ os) (suc i) h f = go os i (omega arith) f.1

-- ---- the places of labels
marks_append : (places : List Bool) (ws : List Way) (w : Way) → HasMarks places ws → ((w.taken.0 == 3) ≡ false → get_or places ((choice_of w).label - 1) false ≡ true) → HasMarks places (ws ++ w ∷ [])
marks_append places [] w h k = (k, tt)
marks_append places (u ∷ ws) w h k = (h.0, marks_append places ws w h.1 k)

marks_set : (places : List Bool) (ws : List Way) (j : ℕ) → j < length places → HasMarks places ws → HasMarks (set places j true) ws
marks_set places [] j h k = tt
marks_set places (w ∷ ws) j h k = (λ e. still ((choice_of w).label - 1) (k.0 e), marks_set places ws j h k.1)
  where
    still : (i : ℕ) → get_or places i false ≡ true → get_or (set places j true) i false ≡ true
    still i e = go (i == j) refl
      where
        go : (b : Bool) → (i == j) ≡ b → get_or (set places j true) i false ≡ true
        go true q = let s : i ≡ j = grind (arith, nat_tests) in ap (λ n. get_or (set places j true) n false) s ∙ get_or-set_same places j true false h
        go false q = get_or-set_other places j i true false (λ s. absurd (let x : (i == j) ≡ true = grind (arith, nat_tests) in cc)) ∙ e

pub marked_none : (places : List Bool) (n : ℕ) (ws : List Way) → places ≡ replicate n false → AreMarked n (take 0 ws) places
marked_none places n ws e = record { count = ap length e ∙ length-replicate n; marks = go ws }
  where
    length-replicate : (n : ℕ) → length (replicate n false) ≡ n
    length-replicate zero = refl
    length-replicate (suc n) = ap suc (length-replicate n)

    go : (ws : List Way) → HasMarks places (take 0 ws)
    go [] = tt
    go (w ∷ ws) = tt

pub marked_skip : (places : List Bool) (n : ℕ) (ws : List Way) (i : ℕ) (w : Way) → w ≡ get_or ws i w → i < length ws → (w.taken.0 == 3) ≡ true → AreMarked n (take i ws) places → AreMarked n (take (i + 1) ws) places
marked_skip places n ws i w e h q m = subst (λ xs. AreMarked n xs places) (ap (λ x. take i ws ++ x ∷ []) e ∙ sym (take_more ws i w h)) (record { count = m.count; marks = marks_append places (take i ws) w m.marks (λ f. absurd (cc)) })

pub marked_more : (places : List Bool) (n j : ℕ) (ws : List Way) (i : ℕ) (w : Way) → w ≡ get_or ws i w → i < length ws → j ≡ (choice_of w).label - 1 → j < n → AreMarked n (take i ws) places → AreMarked n (take (i + 1) ws) (set places j true)
marked_more places n j ws i w e h q l m =
    let k : j < length places = omega (arith, m.count) in
    subst (λ xs. AreMarked n xs (set places j true)) (ap (λ x. take i ws ++ x ∷ []) e ∙ sym (take_more ws i w h)) (record {
      count = length-set places j true ∙ m.count;
      marks = marks_append (set places j true) (take i ws) w (marks_set places (take i ws) j k m.marks) (λ f. ap (λ x. get_or (set places j true) x false) (sym q) ∙ get_or-set_same places j true false k);
    })

pub marked_step : (lent places new : List Bool) (n : ℕ) (ws : List Way) (i : ℕ) (w : Way) → w ≡ get_or ws i w → i < length ws → 0 < (choice_of w).label → (choice_of w).label ≤ n → lent ≡ places → new ≡ (if w.taken.0 == 3 then lent else set lent ((choice_of w).label - 1) true) → AreMarked n (take i ws) places → AreMarked n (take (i + 1) ws) new
marked_step lent places new n ws i w e h a b r f m = go (w.taken.0 == 3) refl (f ∙ ap (λ x. if w.taken.0 == 3 then x else set x ((choice_of w).label - 1) true) r)
  where
    go : (t : Bool) → (w.taken.0 == 3) ≡ t → new ≡ (if t then places else set places ((choice_of w).label - 1) true) → AreMarked n (take (i + 1) ws) new
    go true q f = rw f (marked_skip places n ws i w e h q m)
    go false q f = rw f (marked_more places n ((choice_of w).label - 1) ws i w e h refl (omega arith) m)

pub marked_back : (lent places new ys : List Bool) (n m : ℕ) (ws : List Way) (i : ℕ) (w : Way) → w ≡ get_or ws i w → i < length ws → 0 < (choice_of w).label → (choice_of w).label ≤ n → lent ≡ places → length lent ≡ m → new ≡ (if w.taken.0 == 3 then lent else set lent ((choice_of w).label - 1) true) → AreMarked n (take i ws) places → AreMarked n (take (i + 1) ws) (take m (new ++ drop (length new) ys))
marked_back lent places new ys n m ws i w e h a b r l f k = subst (AreMarked n (take (i + 1) ws)) (sym (lent_back m new ys (ap length f ∙ size (w.taken.0 == 3) ∙ l))) (marked_step lent places new n ws i w e h a b r f k)
  where
    size : (t : Bool) → length (if t then lent else set lent ((choice_of w).label - 1) true) ≡ length lent
    size true = refl
    size false = length-set lent ((choice_of w).label - 1) true

pub marked_all : (places : List Bool) (n : ℕ) (ws : List Way) (i : ℕ) → i ≡ length ws → AreMarked n (take i ws) places → AreMarked n ws places
marked_all places n ws i e m = subst (λ xs. AreMarked n xs places) (take_whole ws i e) m

pub label_at : (n : ℕ) (ws : List Way) (i : ℕ) (w : Way) → w ≡ get_or ws i w → i < length ws → labels_below n (choices_of ws) → (0 < (choice_of w).label) × ((choice_of w).label ≤ n)
label_at n ws i w e h f = subst (λ x. (0 < (choice_of x).label) × ((choice_of x).label ≤ n)) (sym e) (go ws i h f)
  where
    go : (ws : List Way) (i : ℕ) → i < length ws → labels_below n (choices_of ws) → (0 < (choice_of (get_or ws i w)).label) × ((choice_of (get_or ws i w)).label ≤ n)
    go [] i h f = absurd (omega arith)
    go (x ∷ ws) zero h f = (f.0, f.1)
    go (x ∷ ws) (suc i) h f = go ws i (omega arith) f.2

-- ---- the bits of a word
bits_more : (ws : List Way) (n m : ℕ) → n ≤ m → bits_below ws n → bits_below ws m
bits_more [] n m h b = tt
bits_more (w ∷ ws) n m h b = (λ e. omega (arith, b.0 e), bits_more ws n m h b.1)

bits_append : (ws : List Way) (w : Way) (n : ℕ) → bits_below ws n → ((w.taken.0 == 3) ≡ false → input_bits (choice_of w).input ≤ n) → bits_below (ws ++ w ∷ []) n
bits_append [] w n b h = (h, tt)
bits_append (u ∷ ws) w n b h = (b.0, bits_append ws w n b.1 h)

pub bits_none : (ws : List Way) (n : ℕ) → bits_below (take 0 ws) n
bits_none [] n = tt
bits_none (w ∷ ws) n = tt

pub bits_read : (ws : List Way) (i n m : ℕ) (w : Way) → w ≡ get_or ws i w → i < length ws → n ≤ m → ((w.taken.0 == 3) ≡ false → input_bits (choice_of w).input ≤ m) → bits_below (take i ws) n → bits_below (take (i + 1) ws) m
bits_read ws i n m w e h l k b = subst (λ xs. bits_below xs m) (ap (λ x. take i ws ++ x ∷ []) e ∙ sym (take_more ws i w h)) (bits_append (take i ws) w m (bits_more (take i ws) n m l b) k)

pub bits_few : (o : Option Width) → input_bits o ≤ 32
bits_few None = omega arith
bits_few (Some W1) = omega arith
bits_few (Some W8) = omega arith
bits_few (Some W16) = omega arith
bits_few (Some W32) = omega arith

pub bits_step : (ws : List Way) (i n m : ℕ) (w : Way) → w ≡ get_or ws i w → i < length ws → m ≡ (if w.taken.0 == 3 then n else max n (input_bits (choice_of w).input)) → n ≤ 32 → bits_below (take i ws) n → bits_below (take (i + 1) ws) m × (m ≤ 32)
bits_step ws i n m w e h f few b = go (w.taken.0 == 3) refl f
  where
    go : (t : Bool) → (w.taken.0 == 3) ≡ t → m ≡ (if t then n else max n (input_bits (choice_of w).input)) → bits_below (take (i + 1) ws) m × (m ≤ 32)
    go true q f = (bits_read ws i n m w e h (omega arith) (λ k. absurd (cc)) b, omega arith)
    go false q f = let l = bits_few (choice_of w).input in (bits_read ws i n m w e h (omega arith) (λ k. omega arith) b, omega arith)

pub bits_all : (ws : List Way) (i n : ℕ) → i ≡ length ws → bits_below (take i ws) n → bits_below ws n
bits_all ws i n e b = subst (λ xs. bits_below xs n) (take_whole ws i e) b

-- ---- the places of a word
pub length-push : (was new : List Bool) (b : Bool) (i : ℕ) → new ≡ was ++ b ∷ [] → length was ≡ i → length new ≡ i + 1
length-push was new b i e h = ap length e ∙ length-append was (b ∷ []) ∙ ap (λ n. n + 1) h

pub marks_more : (was new : List Bool) (bits i : ℕ) → new ≡ was ++ nat_lt i bits ∷ [] → length was ≡ i → ((k : ℕ) → k < i → k < bits → get_or was k false ≡ true) → (k : ℕ) → k < i + 1 → k < bits → get_or new k false ≡ true
marks_more was new bits i e h f k l m = subst (λ x. get_or x k false ≡ true) (sym e) (go (cases_eq k i))
  where
    left : (xs : List Bool) (b : Bool) (k : ℕ) → k < length xs → get_or (xs ++ b ∷ []) k false ≡ get_or xs k false
    left [] b k h = absurd (omega arith)
    left (x ∷ xs) b zero h = refl
    left (x ∷ xs) b (suc k) h = left xs b k (omega arith)

    last : (xs : List Bool) (b : Bool) (k : ℕ) → k ≡ length xs → get_or (xs ++ b ∷ []) k false ≡ b
    last [] b zero h = refl
    last [] b (suc k) h = absurd (omega arith)
    last (x ∷ xs) b zero h = absurd (omega arith)
    last (x ∷ xs) b (suc k) h = last xs b k (omega arith)

    go : (k ≡ i) ⊎ (k ≢ i) → get_or (was ++ nat_lt i bits ∷ []) k false ≡ true
    go (inl q) = let b : nat_lt i bits ≡ true = grind (arith, nat_tests) in last was (nat_lt i bits) k (q ∙ sym h) ∙ b
    go (inr q) = left was (nat_lt i bits) k (omega arith) ∙ f k (omega arith) m

pub bits_marked : (ways : List Way) (places : List Bool) (bits i : ℕ) → i ≡ 32 → length places ≡ i → bits_below ways bits → bits ≤ 32 → ((k : ℕ) → k < i → k < bits → get_or places k false ≡ true) → IsMarkedWord ways places
bits_marked ways places bits i e h b l f = record { count = h ∙ e; bits = bits; most = b; marks = λ k m. f k (omega arith) m }
