-- From literals of alternatives to the alternatives of the program that are open and taken.
use Rattle.std.proofs.Common.{◌≡◌, ℕ, suc, zero, ◌+◌, ◌<◌, ◌≤◌, Bool, true, false, not, ◌&&◌, ◌||◌, List, [], ◌∷◌, refl, sym, ◌∙◌, ap, subst, arith, if◌then◌else◌, length, ◌==◌, get_or, Option, Some, None, slice_get, unwrap_or}
use Rattle.std.proofs.Math.Path.{fun_ext}
use Rattle.std.proofs.lemmas.Bool.Decides.{nat_tests}
use Rattle.chk_base.specs.declared.word.Width.{Width}
use Rattle.chk_base.specs.declared.word.Width.TheVariants.{W32}
use Rattle.chk_base.specs.Operators.{truth}
use Rattle.chk_base.specs.Widths.{PlainWord, zero_word}
use Rattle.chk_base.specs.WordValue.{value, word_at, word_or}
use Rattle.clause_form.specs.declared.lit.Lit.{Lit}
use Rattle.clause_form.specs.ClauseTruth.{Values, is_lit_true}
use Rattle.guard_prog.specs.GuardedRun.{PlainAlternative, Program, value_in}
use Rattle.bit_circuit.specs.declared.bus.Bus.{Bus}
use Rattle.bit_circuit.specs.BusValue.{number}
use Rattle.bit_circuit.specs.Selection.{numbers, words_of}
use Rattle.turn_law.specs.Sight.{Sight, Pick, Offer, any, is_all, value_after, enabled_offers, set_of, set_to}
use Rattle.turn_unroll.specs.declared.ways.Way.{Way}
use Rattle.turn_unroll.specs.declared.ways.Side.TheVariants.{Label}
use Rattle.turn_unroll.specs.Cells.{cell_after_ways, cell_in, is_open_in, set_by, sets_in, term_in, width_in}
use Rattle.turn_unroll.specs.Ways.{AreLabelledBy, AreOpen, any_way, choice_of, choices_of, names, offered_choices}

-- ---- values over the cells
words_are : (v : Values) (ws : List Width) (bs : List Bus) (q : ℕ) → length ws ≡ length bs → word_at (words_of v ws bs) q ≡ record { width = width_in ws q; bits = cell_in v bs q }
words_are v [] [] q e = refl
words_are v [] (b ∷ bs) q e = absurd (omega arith)
words_are v (w ∷ ws) [] q e = absurd (omega arith)
words_are v (w ∷ ws) (b ∷ bs) zero e = refl
words_are v (w ∷ ws) (b ∷ bs) (suc q) e = words_are v ws bs q (omega arith)

pub terms_are : (v : Values) (ws : List Width) (bs : List Bus) → length ws ≡ length bs → word_at (words_of v ws bs) ≡ (λ q. record { width = width_in ws q; bits = cell_in v bs q })
terms_are v ws bs e = fun_ext (λ q. words_are v ws bs q e)

pub open_is : (v : Values) (ws : List Width) (bs : List Bus) (a : PlainAlternative) → length ws ≡ length bs → is_open_in ws bs v a ≡ truth (value_in (width_in ws) (cell_in v bs) a.guard)
open_is v ws bs a e = ap (λ f. truth (value a.guard f)) (terms_are v ws bs e)

-- ---- what is taken
-- each label is above 0
abbrev pub AreNumbered : List PlainAlternative → Type 0
AreNumbered [] = Unit {0}
AreNumbered (a ∷ as') = (0 < a.label) × AreNumbered as'

head_same : (x y : PlainAlternative) (xs ys : List PlainAlternative) → x ∷ xs ≡ y ∷ ys → x ≡ y
head_same x y xs ys e = cc

tail_same : (x y : PlainAlternative) (xs ys : List PlainAlternative) → x ∷ xs ≡ y ∷ ys → xs ≡ ys
tail_same x y xs ys e = cc

table_true : (a l g r : Bool) → ((((a && true) && l) && g) || r) ≡ (((a && l) && g) || r)
table_true true l g r = refl
table_true false l g r = refl

table_false : (a l g r : Bool) → ((((a && false) && l) && g) || r) ≡ r
table_false true l g r = refl
table_false false l g r = refl

pub any_is : (v : Values) (at label lab : ℕ → Bool) (f : PlainAlternative → Bool) (width : ℕ → Width) (cells : ℕ → ℕ) (g : PlainAlternative → Bool) (opened ways : List Way) (os : List Offer)
    → ((a : PlainAlternative) → f a ≡ truth (value_in width cells a.guard))
    → ((l : ℕ) → 0 < l → lab l ≡ label l)
    → AreOpen v at f opened os → AreLabelledBy v lab opened ways
    → choices_of opened ≡ offered_choices os → choices_of ways ≡ choices_of opened → AreNumbered (offered_choices os)
    → any_way v g ways ≡ any at label g (enabled_offers width cells os)
any_is v at label lab f width cells g [] [] [] h k o b e d n = refl
any_is v at label lab f width cells g [] [] (q ∷ os) h k o b e d n = absurd o
any_is v at label lab f width cells g [] (u ∷ ways) os h k o b e d n = absurd b
any_is v at label lab f width cells g (w ∷ opened) [] os h k o b e d n = absurd b
any_is v at label lab f width cells g (w ∷ opened) (u ∷ ways) [] h k o b e d n = absurd o
any_is v at label lab f width cells g (w ∷ opened) (u ∷ ways) (q ∷ os) h k o b e d n =
    let c1 = head_same (choice_of w) q.choice (choices_of opened) (offered_choices os) e in
    let c2 = head_same (choice_of u) (choice_of w) (choices_of ways) (choices_of opened) d in
    let rest = any_is v at label lab f width cells g opened ways os h k o.1 b.1 (tail_same (choice_of w) q.choice (choices_of opened) (offered_choices os) e) (tail_same (choice_of u) (choice_of w) (choices_of ways) (choices_of opened) d) n.1 in
    let lit : is_lit_true v u.taken ≡ ((at q.point && f q.choice) && label q.choice.label) =
    b.0 ∙ ap (λ x. x && lab (choice_of w).label) o.0 ∙ ap (λ c. (at q.point && f q.choice) && lab c.label) c1 ∙ ap (λ x. (at q.point && f q.choice) && x) (k q.choice.label n.0) in
    let both = c2 ∙ c1 in
    go (truth (value_in width cells q.choice.guard)) refl (h q.choice) lit both rest
  where
    go : (t : Bool) → truth (value_in width cells q.choice.guard) ≡ t → f q.choice ≡ truth (value_in width cells q.choice.guard) → is_lit_true v u.taken ≡ ((at q.point && f q.choice) && label q.choice.label) → choice_of u ≡ q.choice → any_way v g ways ≡ any at label g (enabled_offers width cells os) → ((is_lit_true v u.taken && g (choice_of u)) || any_way v g ways) ≡ any at label g (if t then q ∷ enabled_offers width cells os else enabled_offers width cells os)
    go true t i lit both rest = rw (lit, both, rest, i, t) (table_true (at q.point) (label q.choice.label) (g q.choice) (any at label g (enabled_offers width cells os)))
    go false t i lit both rest = rw (lit, both, rest, i, t) (table_false (at q.point) (label q.choice.label) (g q.choice) (any at label g (enabled_offers width cells os)))

-- ---- what is open with a label
label_true : (a e g r : Bool) → (((a && true) && (e && g)) || r) ≡ (((a && e) && g) || r)
label_true true e g r = refl
label_true false e g r = refl

label_false : (a e r : Bool) → (((a && false) && e) || r) ≡ r
label_false true e r = refl
label_false false e r = refl

turned : (a b : ℕ) → (a == b) ≡ (b == a)
turned a b = grind (arith, nat_tests)

pub offers_any : (v : Values) (at : ℕ → Bool) (f : PlainAlternative → Bool) (width : ℕ → Width) (cells : ℕ → ℕ) (l : ℕ) (g : PlainAlternative → Bool) (opened : List Way) (os : List Offer)
    → ((a : PlainAlternative) → f a ≡ truth (value_in width cells a.guard))
    → AreOpen v at f opened os → choices_of opened ≡ offered_choices os
    → any_way v (λ a. names Label l a && g a) opened ≡ any at (λ i. i == l) g (enabled_offers width cells os)
offers_any v at f width cells l g [] [] h o e = refl
offers_any v at f width cells l g [] (q ∷ os) h o e = absurd o
offers_any v at f width cells l g (w ∷ opened) [] h o e = absurd o
offers_any v at f width cells l g (w ∷ opened) (q ∷ os) h o e =
    go (truth (value_in width cells q.choice.guard)) refl (h q.choice) (head_same (choice_of w) q.choice (choices_of opened) (offered_choices os) e) (offers_any v at f width cells l g opened os h o.1 (tail_same (choice_of w) q.choice (choices_of opened) (offered_choices os) e))
  where
    go : (t : Bool) → truth (value_in width cells q.choice.guard) ≡ t → f q.choice ≡ truth (value_in width cells q.choice.guard) → choice_of w ≡ q.choice → any_way v (λ a. names Label l a && g a) opened ≡ any at (λ i. i == l) g (enabled_offers width cells os) → ((is_lit_true v w.taken && ((l == (choice_of w).label) && g (choice_of w))) || any_way v (λ a. names Label l a && g a) opened) ≡ any at (λ i. i == l) g (if t then q ∷ enabled_offers width cells os else enabled_offers width cells os)
    go true t i c rest = ap (λ (a : PlainAlternative). (is_lit_true v w.taken && ((l == a.label) && g a)) || any_way v (λ a. names Label l a && g a) opened) c ∙ rw (o.0, rest, i, t, turned l q.choice.label) (label_true (at q.point) (q.choice.label == l) (g q.choice) (any at (λ i. i == l) g (enabled_offers width cells os)))
    go false t i c rest = ap (λ (a : PlainAlternative). (is_lit_true v w.taken && ((l == a.label) && g a)) || any_way v (λ a. names Label l a && g a) opened) c ∙ rw (o.0, rest, i, t) (label_false (at q.point) ((l == q.choice.label) && g q.choice) (any at (λ i. i == l) g (enabled_offers width cells os)))

and_true : (b : Bool) → (b && true) ≡ b
and_true true = refl
and_true false = refl

pub offer_is : (v : Values) (at : ℕ → Bool) (f : PlainAlternative → Bool) (width : ℕ → Width) (cells : ℕ → ℕ) (l : ℕ) (opened : List Way) (os : List Offer)
    → ((a : PlainAlternative) → f a ≡ truth (value_in width cells a.guard))
    → AreOpen v at f opened os → choices_of opened ≡ offered_choices os
    → any_way v (names Label l) opened ≡ any at (λ i. i == l) is_all (enabled_offers width cells os)
offer_is v at f width cells l opened os h o e =
    ap (λ k. any_way v k opened) (fun_ext (λ (a : PlainAlternative). sym (and_true (names Label l a)))) ∙ offers_any v at f width cells l is_all opened os h o e

-- ---- cells
pub value_is : (v : Values) (p : Program) (s : Sight) (x : Pick) (lab : ℕ → Bool) (f : PlainAlternative → Bool) (widths : List Width) (cells : List Bus) (word q : ℕ) (opened ways : List Way) (os : List Offer) (old : ℕ)
    → p.width ≡ width_in widths → s.cells ≡ cell_in v cells → x.word ≡ word
    → ((a : PlainAlternative) → f a ≡ truth (value_in p.width s.cells a.guard))
    → ((l : ℕ) → 0 < l → lab l ≡ x.label l)
    → AreOpen v s.at f opened os → AreLabelledBy v lab opened ways
    → choices_of opened ≡ offered_choices os → choices_of ways ≡ choices_of opened → AreNumbered (offered_choices os)
    → cell_after_ways v widths cells word ways q old ≡ value_after s.at x.label (set_to p s x q) (enabled_offers p.width s.cells os) old
value_is v p s x lab f widths cells word q [] [] [] old ew ec ex h k o b e d n = refl
value_is v p s x lab f widths cells word q [] [] (r ∷ os) old ew ec ex h k o b e d n = absurd o
value_is v p s x lab f widths cells word q [] (u ∷ ways) os old ew ec ex h k o b e d n = absurd b
value_is v p s x lab f widths cells word q (w ∷ opened) [] os old ew ec ex h k o b e d n = absurd b
value_is v p s x lab f widths cells word q (w ∷ opened) (u ∷ ways) [] old ew ec ex h k o b e d n = absurd o
value_is v p s x lab f widths cells word q (w ∷ opened) (u ∷ ways) (r ∷ os) old ew ec ex h k o b e d n =
    let c1 = head_same (choice_of w) r.choice (choices_of opened) (offered_choices os) e in
    let c2 = head_same (choice_of u) (choice_of w) (choices_of ways) (choices_of opened) d in
    let lit : is_lit_true v u.taken ≡ ((s.at r.point && f r.choice) && x.label r.choice.label) =
    b.0 ∙ ap (λ y. y && lab (choice_of w).label) o.0 ∙ ap (λ c. (s.at r.point && f r.choice) && lab c.label) c1 ∙ ap (λ y. (s.at r.point && f r.choice) && y) (k r.choice.label n.0) in
    go (truth (value_in p.width s.cells r.choice.guard)) refl (h r.choice) lit (c2 ∙ c1)
    (λ now. value_is v p s x lab f widths cells word q opened ways os now ew ec ex h k o.1 b.1 (tail_same (choice_of w) r.choice (choices_of opened) (offered_choices os) e) (tail_same (choice_of u) (choice_of w) (choices_of ways) (choices_of opened) d) n.1)
  where
    first : (a l : Bool) (new : ℕ) → (if (a && true) && l then new else old) ≡ (if a && l then new else old)
    first true l new = refl
    first false l new = refl

    none : (a l : Bool) (new : ℕ) → (if (a && false) && l then new else old) ≡ old
    none true l new = refl
    none false l new = refl

    set_same : set_of (width_in widths) (cell_in v cells) word r.choice.input r.choice.sets q ≡ set_of p.width s.cells x.word r.choice.input r.choice.sets q
    set_same = rw (ew, ec, ex) refl

    go : (t : Bool) → truth (value_in p.width s.cells r.choice.guard) ≡ t → f r.choice ≡ truth (value_in p.width s.cells r.choice.guard) → is_lit_true v u.taken ≡ ((s.at r.point && f r.choice) && x.label r.choice.label) → choice_of u ≡ r.choice → ((now : ℕ) → cell_after_ways v widths cells word ways q now ≡ value_after s.at x.label (set_to p s x q) (enabled_offers p.width s.cells os) now) → cell_after_ways v widths cells word ways q (sets_in v u.taken (set_by v widths cells word (choice_of u) q) old) ≡ value_after s.at x.label (set_to p s x q) (if t then r ∷ enabled_offers p.width s.cells os else enabled_offers p.width s.cells os) old
    go true t i lit both rest =
        ap (λ (a : PlainAlternative). cell_after_ways v widths cells word ways q (sets_in v u.taken (set_by v widths cells word a q) old)) both
        ∙ ap (λ now. cell_after_ways v widths cells word ways q now) (rw (lit, i, t, set_same) (first (s.at r.point) (x.label r.choice.label) (unwrap_or (set_of p.width s.cells x.word r.choice.input r.choice.sets q) old)))
        ∙ rest (if s.at r.point && x.label r.choice.label then set_to p s x q r.choice old else old)
    go false t i lit both rest =
        ap (λ (a : PlainAlternative). cell_after_ways v widths cells word ways q (sets_in v u.taken (set_by v widths cells word a q) old)) both
        ∙ ap (λ now. cell_after_ways v widths cells word ways q now) (rw (lit, i, t) (none (s.at r.point) (x.label r.choice.label) (unwrap_or (set_by v widths cells word r.choice q) old)))
        ∙ rest old
