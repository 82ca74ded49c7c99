-- The literals of the state after a turn show the next state.
use Rattle.std.proofs.Common.{◌≡◌, ℕ, suc, zero, ◌+◌, ◌-◌, ◌<◌, ◌≤◌, Bool, true, false, not, ◌&&◌, ◌||◌, List, [], ◌∷◌, refl, sym, ◌∙◌, ap, subst, arith, if◌then◌else◌, length, ◌==◌, nat_le, nat_lt, get_or, Option, Some, None, inl, inr, ◌⊎◌}
use Rattle.std.proofs.Math.Path.{fun_ext}
use Rattle.std.proofs.lemmas.Bool.Decides.{nat_tests}
use Rattle.std.proofs.lemmas.List.{get_or_past}
use Rattle.clause_form.specs.declared.lit.Lit.{Lit}
use Rattle.clause_form.specs.ClauseTruth.{Values, Agree, is_lit_true}
use Rattle.clause_form.specs.Literals.{AreOf, IsOf}
use Rattle.clause_form.proofs.Agreement.{is_lit_true-agree}
use Rattle.guard_prog.specs.declared.draft.Control.{Control}
use Rattle.guard_prog.specs.declared.draft.Control.TheVariants.{Goto, Push, Pop, PopPush, Fail}
use Rattle.guard_prog.specs.declared.draft.Draft.{Draft}
use Rattle.guard_prog.specs.Drafts.{program_of}
use Rattle.guard_prog.specs.GuardedRun.{PlainAlternative, value_in}
use Rattle.chk_base.specs.Operators.{truth}
use Rattle.bit_circuit.specs.declared.bus.Bus.{Bus}
use Rattle.bit_circuit.specs.BusValue.{number}
use Rattle.bit_circuit.specs.Extension.{PlainFormula, IsModel}
use Rattle.bit_circuit.specs.Selection.{AreInside, numbers}
use Rattle.turn_law.specs.Building.{IsSymbolOf, picks}
use Rattle.turn_law.specs.Description.{AreRowsWithin}
use Rattle.turn_law.specs.Sight.{Offer, Sight, any, is_end, is_pop, is_push, leads_to, leaves, next, next_at, next_cell, next_depth, next_slots, one_deeper, open_offers, popped, taken_any}
use Rattle.turn_law.specs.Symbol.{Row, Symbol, nth, no, row_true, sight}
use Rattle.turn_law.proofs.Freedom.{no_false}
use Rattle.turn_law.proofs.Induction.{number_same}
use Rattle.turn_unroll.specs.declared.stack.Moves.{Moves}
use Rattle.turn_unroll.specs.declared.turn.State.{State}
use Rattle.turn_unroll.specs.declared.ways.Way.{Way}
use Rattle.turn_unroll.specs.declared.ways.Side.TheVariants.{Top, Below}
use Rattle.turn_unroll.specs.Cells.{AreFit, IsFit, cell_after_ways, cell_in, is_open_in, width_in}
use Rattle.turn_unroll.specs.Rows.{depth_made}
use Rattle.turn_unroll.specs.Stack.{popped_by}
use Rattle.turn_unroll.specs.Turns.{IsState, StatesBy, symbol_of}
use Rattle.turn_unroll.specs.Ways.{AreLabelledBy, AreOpen, IsBelow, any_way, below_of, choice_of, choices_of, is_here, names, offered_choices, top_of}
use Rattle.turn_unroll.proofs.Joining.{AreNumbered, any_is, open_is, value_is}
use Rattle.turn_unroll.proofs.Making.{never_of, row_within}

-- ---- rows beyond their ends
pub past_false : (v : Values) (ls : List Lit) (i : ℕ) → v 1 ≡ true → length ls ≤ i → row_true v ls i ≡ false
past_false v ls i o h = ap (is_lit_true v) (get_or_past ls i no h) ∙ no_false v o

split : (i n : ℕ) → (i < n) ⊎ (n ≤ i)
split zero zero = inr (omega arith)
split zero (suc n) = inl (omega arith)
split (suc i) zero = inr (omega arith)
split (suc i) (suc n) = go (split i n)
  where
    go : (i < n) ⊎ (n ≤ i) → (suc i < suc n) ⊎ (suc n ≤ suc i)
    go (inl h) = inl (omega arith)
    go (inr h) = inr (omega arith)

pub cases_below : (i n : ℕ) → (i < n) ⊎ (n ≤ i)
cases_below i n = split i n

-- ---- the points that alternatives name
top_is : (i : ℕ) (c : Control) → is_here (top_of c) i ≡ leads_to i c
top_is i (Goto q) = refl
top_is i (Push below start) = refl
top_is i Pop = refl
top_is i (PopPush q) = refl
top_is i Fail = refl

below_is : (i : ℕ) (c : Control) → is_here (below_of c) i ≡ leaves i c
below_is i (Goto q) = refl
below_is i (Push below start) = refl
below_is i Pop = refl
below_is i (PopPush q) = refl
below_is i Fail = refl

far : (o : Option ℕ) (n i : ℕ) → IsBelow o n → n ≤ i → is_here o i ≡ false
far None n i b h = refl
far (Some q) n i b h = grind (arith, nat_tests)

and_false : (b : Bool) → (b && false) ≡ false
and_false true = refl
and_false false = refl

top_far : (v : Values) (points i : ℕ) (d : Draft) (ws : List Way) → AreFit points d.widths (choices_of ws) → points ≤ i → any_way v (names Top i) ws ≡ false
top_far v points i d [] f h = refl
top_far v points i d (w ∷ ws) f h = let e = far (top_of (choice_of w).control) points i f.0.top h in rw (e, top_far v points i d ws f.1 h, and_false (is_lit_true v w.taken)) refl

below_far : (v : Values) (points i : ℕ) (d : Draft) (ws : List Way) → AreFit points d.widths (choices_of ws) → points ≤ i → any_way v (names Below i) ws ≡ false
below_far v points i d [] f h = refl
below_far v points i d (w ∷ ws) f h = let e = far (below_of (choice_of w).control) points i f.0.below h in rw (e, below_far v points i d ws f.1 h, and_false (is_lit_true v w.taken)) refl

-- ---- what is below the top
popped_is : (v : Values) (s : Sight) (pop : Lit) (depth : List Lit) (slots : List (List Lit)) (i n : ℕ) → s.depth ≡ row_true v depth → s.slots ≡ (λ d. row_true v (get_or slots d [])) → popped_by v pop depth slots i n ≡ (is_lit_true v pop && popped s i n)
popped_is v s pop depth slots i zero e f = sym (and_false (is_lit_true v pop))
popped_is v s pop depth slots i (suc n) e f =
    let q : n + 1 ≡ suc n = omega arith in
    ap (λ b. ((is_lit_true v pop && row_true v depth (n + 1)) && row_true v (get_or slots n []) i) || b) (popped_is v s pop depth slots i n e f)
    ∙ ap (λ k. ((is_lit_true v pop && row_true v depth k) && row_true v (get_or slots n []) i) || (is_lit_true v pop && popped s i n)) q
    ∙ table (is_lit_true v pop) (row_true v depth (suc n)) (row_true v (get_or slots n []) i) (popped s i n)
    ∙ ap (λ b. is_lit_true v pop && ((b && row_true v (get_or slots n []) i) || popped s i n)) (sym (ap (λ g. g (suc n)) e))
    ∙ ap (λ b. is_lit_true v pop && ((s.depth (suc n) && b) || popped s i n)) (sym (ap (λ g. g n i) f))
  where
    table : (a b c r : Bool) → (((a && b) && c) || (a && r)) ≡ (a && ((b && c) || r))
    table true b c r = refl
    table false b c r = refl

popped_far : (v : Values) (pop : Lit) (depth : List Lit) (slots : List (List Lit)) (i n : ℕ) → ((d : ℕ) → d < n → row_true v (get_or slots d []) i ≡ false) → popped_by v pop depth slots i n ≡ false
popped_far v pop depth slots i zero h = refl
popped_far v pop depth slots i (suc n) h = rw (h n (omega arith), popped_far v pop depth slots i n (λ d g. h d (omega arith)), and_false (is_lit_true v pop && row_true v depth (n + 1))) refl

-- ---- the facts of a turn under one assignment
pub record Under (d : Draft) (os : List Offer) (v : Values) (before : State) (labels : List Lit) (opened ways : List Way) : Type 0 where
  pub one : v 1 ≡ true
  pub cells : length d.widths ≡ length before.cells
  pub opens : AreOpen v (row_true v before.at) (is_open_in d.widths before.cells v) opened os
  pub labelled : AreLabelledBy v (row_true v labels) opened ways
  pub same : choices_of opened ≡ offered_choices os
  pub taken : choices_of ways ≡ choices_of opened
  pub numbered : AreNumbered (offered_choices os)

label_is : (v : Values) (r : Row) (l : ℕ) → 0 < l → row_true v r.labels l ≡ (picks v r).label l
label_is v r l h = let e : (l == 0) ≡ false = grind (arith, nat_tests) in rw e refl

pub under_any : (d : Draft) (os : List Offer) (v : Values) (before : State) (r : Row) (opened ways : List Way) (g : PlainAlternative → Bool) → Under d os v before r.labels opened ways → any_way v g ways ≡ any (sight v (symbol_of before)).at (picks v r).label g (open_offers (program_of d) os (sight v (symbol_of before)))
under_any d os v before r opened ways g u = any_is v (row_true v before.at) (picks v r).label (row_true v r.labels) (is_open_in d.widths before.cells v) (width_in d.widths) (cell_in v before.cells) g opened ways os (λ a. open_is v d.widths before.cells a u.cells) (label_is v r) u.opens u.labelled u.same u.taken u.numbered

sights_same : (a b : Sight) → a.at ≡ b.at → a.depth ≡ b.depth → a.slots ≡ b.slots → a.cells ≡ b.cells → a ≡ b
sights_same a b e f g h = λ i. record { at = e i; depth = f i; slots = g i; cells = h i }

-- the next state is shown
pub shows : (d : Draft) (os : List Offer) (old s new gates : PlainFormula) (v : Values) (before after : State) (r : Row) (opened ways : List Way) (moves : Moves) → IsModel v new → IsState d old before → AreFit (length d.points) d.widths (choices_of ways) → StatesBy d s new before ways r.word moves after
    → is_lit_true v moves.push ≡ any_way v (λ a. is_push a.control) ways → is_lit_true v moves.pop ≡ any_way v (λ a. is_pop a.control) ways
    → Under d os v before r.labels opened ways → sight v (symbol_of after) ≡ next (program_of d) os (sight v (symbol_of before)) (picks v r)
shows d os old s new gates v before after r opened ways moves m b f st push pop u =
    sights_same (sight v (symbol_of after)) (next (program_of d) os (sight v (symbol_of before)) (picks v r)) (fun_ext at) (fun_ext depth) (fun_ext (λ k. fun_ext (slots k))) (fun_ext cells)
  where
    x : Sight
    x = sight v (symbol_of before)

    es : List Offer
    es = open_offers (program_of d) os x

    taken : (g : Control → Bool) → any_way v (λ a. g a.control) ways ≡ taken_any x (picks v r) es g
    taken g = under_any d os v before r opened ways (λ a. g a.control) u

    push_is : is_lit_true v moves.push ≡ taken_any x (picks v r) es is_push
    push_is = push ∙ taken is_push

    pop_is : is_lit_true v moves.pop ≡ taken_any x (picks v r) es is_pop
    pop_is = pop ∙ taken is_pop

    lead_is : (i : ℕ) → any_way v (names Top i) ways ≡ taken_any x (picks v r) es (leads_to i)
    lead_is i = ap (λ g. any_way v g ways) (fun_ext (λ (a : PlainAlternative). top_is i a.control)) ∙ taken (leads_to i)

    leave_is : (i : ℕ) → any_way v (names Below i) ways ≡ taken_any x (picks v r) es (leaves i)
    leave_is i = ap (λ g. any_way v g ways) (fun_ext (λ (a : PlainAlternative). below_is i a.control)) ∙ taken (leaves i)

    slot_past : (k i : ℕ) → length d.points ≤ i → row_true v (get_or before.slots k []) i ≡ false
    slot_past k i h = go (cases_below k d.depth)
      where
        go : (k < d.depth) ⊎ (d.depth ≤ k) → row_true v (get_or before.slots k []) i ≡ false
        go (inl g) = past_false v (get_or before.slots k []) i u.one (omega (arith, b.slots_widths k g))
        go (inr g) = ap (λ row. row_true v row i) (get_or_past before.slots k [] (omega (arith, b.slots_count))) ∙ past_false v [] i u.one (omega arith)

    at_made : (i : ℕ) → row_true v after.at i ≡ (any_way v (names Top i) ways || popped_by v moves.pop before.depth before.slots i (length before.slots))
    at_made i = go (cases_below i (length d.points))
      where
        go : (i < length d.points) ⊎ (length d.points ≤ i) → row_true v after.at i ≡ (any_way v (names Top i) ways || popped_by v moves.pop before.depth before.slots i (length before.slots))
        go (inl h) = st.tops.equal v m i h
        go (inr h) =
            past_false v after.at i u.one (omega (arith, st.tops.count))
            ∙ sym (rw (top_far v (length d.points) i d ways f h, popped_far v moves.pop before.depth before.slots i (length before.slots) (λ k g. slot_past k i h)) refl)

    at : (i : ℕ) → row_true v after.at i ≡ next_at (program_of d) es x (picks v r) i
    at i = at_made i ∙ rw (lead_is i, b.slots_count, popped_is v x moves.pop before.depth before.slots i d.depth refl refl, pop_is) refl

    depth : (k : ℕ) → row_true v after.depth k ≡ next_depth (program_of d) es x (picks v r) k
    depth k = go (cases_below k (length before.depth))
      where
        go : (k < length before.depth) ⊎ (length before.depth ≤ k) → row_true v after.depth k ≡ next_depth (program_of d) es x (picks v r) k
        go (inl h) = let e : nat_le k d.depth ≡ true = grind (arith, nat_tests, b.depth_count) in st.depth v m k h ∙ rw (e, push_is, pop_is) refl
        go (inr h) = let e : nat_le k d.depth ≡ false = grind (arith, nat_tests, b.depth_count) in past_false v after.depth k u.one (omega (arith, st.depth_count)) ∙ sym (rw e refl)

    slots : (k i : ℕ) → row_true v (get_or after.slots k []) i ≡ next_slots (program_of d) es x (picks v r) k i
    slots k i = go (cases_below k d.depth) (cases_below i (length d.points))
      where
        none : (b c : Bool) → (if b && c then false else false) ≡ false
        none true true = refl
        none true false = refl
        none false c = refl

        shut : (b : Bool) (y z : Bool) → z ≡ (if b && false then y else z)
        shut true y z = refl
        shut false y z = refl

        go : (k < d.depth) ⊎ (d.depth ≤ k) → (i < length d.points) ⊎ (length d.points ≤ i) → row_true v (get_or after.slots k []) i ≡ next_slots (program_of d) es x (picks v r) k i
        go (inl h) (inl g) = let e : nat_lt k d.depth ≡ true = grind (arith, nat_tests) in st.slots.equal v m k i (omega (arith, b.slots_count)) g ∙ rw (e, push_is, leave_is i) refl
        go (inl h) (inr g) =
            let e : nat_lt k d.depth ≡ true = grind (arith, nat_tests) in
            past_false v (get_or after.slots k []) i u.one (omega (arith, st.slots.widths k (omega (arith, b.slots_count))))
            ∙ sym (rw (e, sym (leave_is i) ∙ below_far v (length d.points) i d ways f g, slot_past k i g) (none (taken_any x (picks v r) es is_push) (row_true v before.depth k)))
        go (inr h) g =
            let e : nat_lt k d.depth ≡ false = grind (arith, nat_tests) in
            let y : row_true v (get_or after.slots k []) i ≡ false = ap (λ row. row_true v row i) (get_or_past after.slots k [] (omega (arith, st.slots.count, b.slots_count))) ∙ past_false v [] i u.one (omega arith) in
            let z : row_true v (get_or before.slots k []) i ≡ false = ap (λ row. row_true v row i) (get_or_past before.slots k [] (omega (arith, b.slots_count))) ∙ past_false v [] i u.one (omega arith) in
            y ∙ sym z ∙ rw e (shut (taken_any x (picks v r) es is_push) (taken_any x (picks v r) es (leaves i)) (row_true v (get_or before.slots k []) i))

    cells : (q : ℕ) → cell_in v after.cells q ≡ next_cell (program_of d) es x (picks v r) q
    cells q = st.cells v m q ∙ value_is v (program_of d) x (picks v r) (row_true v r.labels) (is_open_in d.widths before.cells v) d.widths before.cells (number v r.word) q opened ways os (cell_in v before.cells q) refl refl refl (λ a. open_is v d.widths before.cells a u.cells) (label_is v r) u.opens u.labelled u.same u.taken u.numbered

-- ---- assignments that agree show the same
nth_same : (n : ℕ) (v w : Values) (ls : List Lit) (i : ℕ) → Agree n v w → IsOf n no → AreOf n ls → row_true v ls i ≡ row_true w ls i
nth_same n v w [] i a o h = is_lit_true-agree n v w no o a
nth_same n v w (l ∷ ls) zero a o h = is_lit_true-agree n v w l h.0 a
nth_same n v w (l ∷ ls) (suc i) a o h = nth_same n v w ls i a o h.1

numbers_same : (n : ℕ) (v w : Values) (bs : List Bus) → Agree n v w → AreInside n bs → numbers v bs ≡ numbers w bs
numbers_same n v w [] a h = refl
numbers_same n v w (b ∷ bs) a h = let e = number_same n v w b.lits h.0 a in let f = numbers_same n v w bs a h.1 in cc

pub symbol_same : (d : Draft) (s : PlainFormula) (state : State) → IsState d s state → IsSymbolOf s.variables (symbol_of state)
symbol_same d s state b = record {
  same = λ v w a.
      sights_same (sight v (symbol_of state)) (sight w (symbol_of state))
      (fun_ext (λ i. nth_same s.variables v w state.at i a (never_of s b.truth) b.at_inside))
      (fun_ext (λ i. nth_same s.variables v w state.depth i a (never_of s b.truth) b.depth_inside))
      (fun_ext (λ k. fun_ext (λ i. nth_same s.variables v w (get_or state.slots k []) i a (never_of s b.truth) (row_within s.variables state.slots k b.slots_inside))))
      (ap (λ ns. λ q. get_or ns q 0) (numbers_same s.variables v w state.cells a b.cells.inside));
}
