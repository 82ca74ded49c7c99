-- The start, from constants.
use Rattle.std.proofs.Common.{◌≡◌, ◌≢◌, ℕ, suc, zero, ◌+◌, ◌-◌, ◌*◌, ◌/◌, ◌%◌, ◌^◌, ◌<◌, ◌≤◌, Bool, true, false, not, ◌&&◌, ◌||◌, List, [], ◌∷◌, ◌++◌, take, reverse, refl, sym, ◌∙◌, ap, subst, arith, if◌then◌else◌, length, ◌==◌, nat_le, nat_lt, get_or, Option, Some, None, slice_get, unwrap_or, length-append, inl, inr, ◌⊎◌}
use Rattle.std.specs.List.{list_all, zip}
use Rattle.std.proofs.Math.Path.{fun_ext}
use Rattle.std.proofs.lemmas.Bool.{and_parts, cases_eq}
use Rattle.std.proofs.lemmas.Bool.Decides.{nat_tests}
use Rattle.std.proofs.lemmas.List.{length-reverse, reverse-append}
use Rattle.chk_base.specs.declared.word.Width.{Width}
use Rattle.chk_base.specs.declared.word.Width.TheVariants.{W32}
use Rattle.chk_base.specs.Widths.{limit_of}
use Rattle.clause_form.specs.declared.lit.Lit.{Lit}
use Rattle.clause_form.specs.ClauseTruth.{Values, is_lit_true}
use Rattle.clause_form.specs.Literals.{AreOf, IsOf, literal}
use Rattle.clause_form.proofs.Negations.{is_lit_true-literal, variable-literal}
use Rattle.guard_prog.specs.declared.draft.Draft.{Draft}
use Rattle.guard_prog.specs.Drafts.{program_of}
use Rattle.guard_prog.specs.WellShaped.{IsWellShaped, begins_idle, first_fits, sizes_fit, starts_fit}
use Rattle.guard_prog.proofs.Cells.{Starts, starts_are}
use Rattle.bit_circuit.specs.declared.bus.Bus.{Bus}
use Rattle.bit_circuit.specs.BusValue.{number}
use Rattle.bit_circuit.specs.Extension.{IsModel, formula}
use Rattle.bit_circuit.specs.Selection.{AreInside, AreNarrow, numbers}
use Rattle.bit_circuit.proofs.Growth.{circuit_new}
use Rattle.turn_law.specs.Building.{HasTruth}
use Rattle.turn_law.specs.Description.{AreRowsWithin}
use Rattle.turn_law.specs.Padded.{beginning}
use Rattle.turn_law.specs.Sight.{Below, IsAt, Means, MeansStack}
use Rattle.turn_law.specs.Symbol.{nth, no as never, row_true, sight}
use Rattle.turn_law.proofs.Freedom.{no_false}
use Rattle.turn_unroll.specs.declared.turn.State.{State}
use Rattle.turn_unroll.specs.Cells.{cell_in, width_in}
use Rattle.turn_unroll.specs.Starts.{AreConstants, AreRowsAt, IsConstantBus, IsKnown, IsRowAt, IsStartOf}
use Rattle.turn_unroll.specs.Turns.{IsState, symbol_of}
use Rattle.bit_circuit.specs.BusValue.{MakesBus}
use Rattle.bit_circuit.specs.Extension.{Makes}
use Rattle.bit_circuit.proofs.Composition.{made_here}
use Rattle.turn_unroll.proofs.Making.{AreOf-push, never_within, nth-last, nth-left, row-last, row-left, take_more, take_whole}
use Rattle.turn_unroll.proofs.Showing.{cases_below, past_false}
use Rattle.turn_unroll.proofs.Setting.{cells_narrow}

-- ---- the circuit of variable 1
one_truth : HasTruth (formula 1 ((literal 1 ∷ []) ∷ []))
one_truth = record { starts = omega arith; one = circuit_new.circuit.one }

-- ---- stacks
below_of : (slots : ℕ → ℕ → Bool) (ys : List ℕ) (d : ℕ) → ((k : ℕ) → k < length ys → IsAt (slots k) (get_or (reverse ys) k d)) → Below slots ys
below_of slots [] d h = tt
below_of slots (u ∷ us) d h =
    let r : reverse (u ∷ us) ≡ reverse us ++ u ∷ [] = reverse-append (u ∷ []) us in
    let n = length-reverse us in (
      subst (λ x. IsAt (slots (length us)) x) (ap (λ xs. get_or xs (length us) d) r ∙ last (reverse us) (length us) n) (h (length us) (omega arith)),
      below_of slots us d (λ k g. subst (λ x. IsAt (slots k) x) (ap (λ xs. get_or xs k d) r ∙ front (reverse us) k (omega (arith, n))) (h k (omega arith))),
    )
  where
    last : (xs : List ℕ) (k : ℕ) → length xs ≡ k → get_or (xs ++ u ∷ []) k d ≡ u
    last [] zero e = refl
    last [] (suc k) e = absurd (omega arith)
    last (x ∷ xs) zero e = absurd (omega arith)
    last (x ∷ xs) (suc k) e = last xs k (omega arith)

    front : (xs : List ℕ) (k : ℕ) → k < length xs → get_or (xs ++ u ∷ []) k d ≡ get_or xs k d
    front [] k e = absurd (omega arith)
    front (x ∷ xs) zero e = refl
    front (x ∷ xs) (suc k) e = front xs k (omega arith)

-- a stack with the bottom first, seen with the top first
pub stack_means : (most points : ℕ) (at depth : ℕ → Bool) (slots : ℕ → ℕ → Bool) (cells : ℕ → ℕ) (first : List ℕ) → 0 < length first → length first ≤ most + 1 → IsAt at (get_or first (length first - 1) points) → IsAt depth (length first - 1) → ((k : ℕ) → k < length first - 1 → IsAt (slots k) (get_or first k points)) → MeansStack most (record { at = at; depth = depth; slots = slots; cells = cells }) (reverse first) false
stack_means most points at depth slots cells first h l a b s = go (reverse first) refl
  where
    again : (ys : List ℕ) → reverse first ≡ ys → first ≡ reverse ys
    again ys e = sym (twice first) ∙ ap reverse e
      where
        twice : (xs : List ℕ) → reverse (reverse xs) ≡ xs
        twice [] = refl
        twice (x ∷ xs) = ap reverse (reverse-append (x ∷ []) xs) ∙ reverse-append (reverse xs) (x ∷ []) ∙ ap (λ ys. x ∷ ys) (twice xs)

    last : (xs : List ℕ) (u k : ℕ) → length xs ≡ k → get_or (xs ++ u ∷ []) k points ≡ u
    last [] u zero e = refl
    last [] u (suc k) e = absurd (omega arith)
    last (x ∷ xs) u zero e = absurd (omega arith)
    last (x ∷ xs) u (suc k) e = last xs u k (omega arith)

    front : (xs : List ℕ) (u k : ℕ) → k < length xs → get_or (xs ++ u ∷ []) k points ≡ get_or xs k points
    front [] u k e = absurd (omega arith)
    front (x ∷ xs) u zero e = refl
    front (x ∷ xs) u (suc k) e = front xs u k (omega arith)

    go : (ys : List ℕ) → reverse first ≡ ys → MeansStack most (record { at = at; depth = depth; slots = slots; cells = cells }) ys false
    go [] e = absurd (let n = length-reverse first in let m = ap length e in omega arith)
    go (t ∷ ts) e =
        let f : first ≡ reverse ts ++ t ∷ [] = again (t ∷ ts) e ∙ reverse-append (t ∷ []) ts in
        let n : length first ≡ suc (length ts) = sym (length-reverse first) ∙ ap length e in
        let r = length-reverse ts in
        let top : get_or first (length first - 1) points ≡ t = ap (λ xs. get_or xs (length first - 1) points) f ∙ last (reverse ts) t (length first - 1) (omega arith) in
        let d : length first - 1 ≡ length ts = omega arith in (
          omega arith,
          subst (IsAt depth) d b,
          (
            subst (IsAt at) top a,
            below_of slots ts points (λ k g. subst (IsAt (slots k)) (ap (λ xs. get_or xs k points) f ∙ front (reverse ts) t k (omega arith)) (s k (omega arith))),
          ),
        )

-- ---- rows of constants
known_true : (v : Values) (b : Bool) (l : Lit) → v 1 ≡ true → IsKnown b l → is_lit_true v l ≡ b
known_true v true l o e = ap (is_lit_true v) e ∙ is_lit_true-literal v 1 ∙ o
known_true v false l o e = ap (is_lit_true v) e ∙ no_false v o

known_within : (b : Bool) (l : Lit) → IsKnown b l → IsOf 1 l
known_within true l e = rw e (record { least = rw (variable-literal 1) (omega arith); most = rw (variable-literal 1) (omega arith) })
known_within false l e = rw e (never_within 1 (omega arith))

pub record IsRowTo (n at : ℕ) (row : List Lit) : Type 0 where
  pub count : length row ≡ n
  pub within : AreOf 1 row
  pub only : (v : Values) → v 1 ≡ true → (i : ℕ) → i < n → row_true v row i ≡ (i == at)

pub row_none : (at : ℕ) (row : List Lit) → row ≡ [] → IsRowTo 0 at row
row_none at row e = rw e (record { count = refl; within = tt; only = λ v o i h. absurd (omega arith) })

pub row_more : (n at : ℕ) (row now : List Lit) (l : Lit) → IsRowTo n at row → IsKnown (n == at) l → now ≡ row ++ l ∷ [] → IsRowTo (n + 1) at now
row_more n at row now l r k e = rw e (record {
  count = length-append row (l ∷ []) ∙ ap (λ m. m + 1) r.count;
  within = AreOf-push 1 row l r.within (known_within (n == at) l k);
  only = λ v o i h. go v o i h (cases_eq i n);
})
  where
    go : (v : Values) → v 1 ≡ true → (i : ℕ) → i < n + 1 → (i ≡ n) ⊎ (i ≢ n) → row_true v (row ++ l ∷ []) i ≡ (i == at)
    go v o i h (inl q) = ap (is_lit_true v) (nth-last row l i (q ∙ sym r.count)) ∙ known_true v (n == at) l o k ∙ ap (λ m. m == at) (sym q)
    go v o i h (inr q) = ap (is_lit_true v) (nth-left row l i (omega (arith, r.count))) ∙ r.only v o i (omega arith)

pub row_all : (n m at : ℕ) (row : List Lit) → m ≡ n → IsRowTo m at row → IsRowAt n at row
row_all n m at row e r = record {
  count = r.count ∙ e;
  within = r.within;
  only = λ v o i. go v o i (cases_below i n);
}
  where
    go : (v : Values) → v 1 ≡ true → (i : ℕ) → (i < n) ⊎ (n ≤ i) → row_true v row i ≡ (nat_lt at n && (i == at))
    go v o i (inl h) = r.only v o i (omega arith) ∙ grind (arith, nat_tests)
    go v o i (inr h) = past_false v row i o (omega (arith, r.count)) ∙ grind (arith, nat_tests)

pub rows_none : (first : List ℕ) (points : ℕ) (rows : List (List Lit)) → rows ≡ [] → AreRowsAt first points 0 rows
rows_none first points rows e = record { count = ap length e; each = λ d h. absurd (omega arith) }

pub rows_more_at : (first : List ℕ) (points d at : ℕ) (rows now : List (List Lit)) (row : List Lit) → AreRowsAt first points d rows → at ≡ get_or first d points → IsRowAt points at row → now ≡ rows ++ row ∷ [] → AreRowsAt first points (d + 1) now
rows_more_at first points d at rows now row r q k e = rw e (record {
  count = length-append rows (row ∷ []) ∙ ap (λ m. m + 1) r.count;
  each = λ i h. go i h (cases_eq i d);
})
  where
    go : (i : ℕ) → i < d + 1 → (i ≡ d) ⊎ (i ≢ d) → IsRowAt points (get_or first i points) (get_or (rows ++ row ∷ []) i [])
    go i h (inl x) = subst (λ n. IsRowAt points n (get_or (rows ++ row ∷ []) i [])) (q ∙ ap (λ n. get_or first n points) (sym x)) (subst (IsRowAt points at) (sym (row-last rows row i (x ∙ sym r.count))) k)
    go i h (inr x) = subst (IsRowAt points (get_or first i points)) (sym (row-left rows row i (omega (arith, r.count)))) (r.each i (omega arith))

-- ---- constants
one_model : (v : Values) → v 1 ≡ true → IsModel v (formula 1 ((literal 1 ∷ []) ∷ []))
one_model v o = record { holds = rw (is_lit_true-literal v 1, o) refl }

pub known_made : (b : Bool) (l : Lit) → IsKnown b l → Makes (formula 1 ((literal 1 ∷ []) ∷ [])) (formula 1 ((literal 1 ∷ []) ∷ [])) l (λ v. b) 0
known_made b l e = made_here (formula 1 ((literal 1 ∷ []) ∷ [])) l (λ v. b) 0 (known_within b l e) (λ v m. known_true v b l (circuit_new.circuit.one v m) e)

pub constant_made : (n : ℕ) (ls : List Lit) → MakesBus (formula 1 ((literal 1 ∷ []) ∷ [])) (formula 1 ((literal 1 ∷ []) ∷ [])) ls (λ v. n) 0 → IsConstantBus n ls
constant_made n ls m = record { within = m.inside; value = λ v o. m.equal v (one_model v o) }

pub cells_none : (starts : List ℕ) (cells : List Bus) → cells ≡ [] → AreConstants (take 0 starts) cells
cells_none [] cells e = rw e tt
cells_none (n ∷ starts) cells e = rw e tt

constants_push : (ns : List ℕ) (bs : List Bus) (n : ℕ) (b : Bus) → AreConstants ns bs → IsConstantBus n b.lits → AreConstants (ns ++ n ∷ []) (bs ++ b ∷ [])
constants_push [] [] n b c k = (k, tt)
constants_push [] (x ∷ bs) n b c k = absurd c
constants_push (m ∷ ns) [] n b c k = absurd c
constants_push (m ∷ ns) (x ∷ bs) n b c k = (c.0, constants_push ns bs n b c.1 k)

pub cells_push : (starts : List ℕ) (i : ℕ) (cells now : List Bus) (n : ℕ) (b : Bus) → i < length starts → n ≡ get_or starts i n → AreConstants (take i starts) cells → IsConstantBus n b.lits → now ≡ cells ++ b ∷ [] → AreConstants (take (i + 1) starts) now
cells_push starts i cells now n b h q c k e = rw e (subst (λ ns. AreConstants ns (cells ++ b ∷ [])) (ap (λ x. take i starts ++ x ∷ []) q ∙ sym (take_more starts i n h)) (constants_push (take i starts) cells n b c k))

pub cells_whole : (starts : List ℕ) (i : ℕ) (cells : List Bus) → i ≡ length starts → AreConstants (take i starts) cells → AreConstants starts cells
cells_whole starts i cells e c = subst (λ ns. AreConstants ns cells) (take_whole starts i e) c

-- ---- the state at the start
constants_cell : (v : Values) (starts : List ℕ) (cells : List Bus) (q : ℕ) → v 1 ≡ true → AreConstants starts cells → cell_in v cells q ≡ unwrap_or (slice_get starts q) 0
constants_cell v [] [] q o c = refl
constants_cell v [] (b ∷ cells) q o c = absurd c
constants_cell v (n ∷ starts) [] q o c = absurd c
constants_cell v (n ∷ starts) (b ∷ cells) zero o c = c.0.value v o
constants_cell v (n ∷ starts) (b ∷ cells) (suc q) o c = constants_cell v starts cells q o c.1

constants_count : (starts : List ℕ) (cells : List Bus) → AreConstants starts cells → length starts ≡ length cells
constants_count [] [] c = refl
constants_count [] (b ∷ cells) c = absurd c
constants_count (n ∷ starts) [] c = absurd c
constants_count (n ∷ starts) (b ∷ cells) c = ap suc (constants_count starts cells c.1)

constants_inside : (starts : List ℕ) (cells : List Bus) → AreConstants starts cells → AreInside 1 cells
constants_inside [] [] c = tt
constants_inside [] (b ∷ cells) c = absurd c
constants_inside (n ∷ starts) [] c = absurd c
constants_inside (n ∷ starts) (b ∷ cells) c = (c.0.within, constants_inside starts cells c.1)

rows_within : (n points : ℕ) (rows : List (List Lit)) (first : List ℕ) → AreRowsAt first points n rows → AreRowsWithin 1 rows
rows_within n points rows first r = go rows (λ d h. (r.each d (omega (arith, r.count))).within)
  where
    go : (rows : List (List Lit)) → ((d : ℕ) → d < length rows → AreOf 1 (get_or rows d [])) → AreRowsWithin 1 rows
    go [] h = tt
    go (x ∷ rows) h = (h 0 (omega arith), go rows (λ d k. h (suc d) (omega arith)))

row_is_at : (v : Values) (n at : ℕ) (row : List Lit) → v 1 ≡ true → at < n → IsRowAt n at row → IsAt (row_true v row) at
row_is_at v n at row o h r = record { only = λ i. let e : nat_lt at n ≡ true = grind (arith, nat_tests) in r.only v o i ∙ rw e refl }

both : (a b : Bool) → (a && b) ≡ true → (a ≡ true) × (b ≡ true)
both a b e = and_parts a b e

pub start_made : (d : Draft) (state : State) (points above most : ℕ) → IsWellShaped d → points ≡ length d.points → most ≡ d.depth → above + 1 ≡ length d.first → IsRowAt points (get_or d.first above points) state.at → IsRowAt (most + 1) above state.depth → AreRowsAt d.first points most state.slots → AreConstants d.starts state.cells → IsStartOf d state
start_made d state points above most w ep em ea at depth slots cells = record {
  state = record {
    truth = one_truth;
    at_inside = at.within;
    at_count = at.count ∙ ep;
    depth_inside = depth.within;
    depth_count = depth.count ∙ ap (λ n. n + 1) em;
    slots_inside = rows_within most points state.slots d.first slots;
    slots_count = slots.count ∙ em;
    slots_widths = λ i h. (slots.each i (omega (arith, em))).count ∙ ep;
    cells = record {
      same_length = starts.as_many ∙ constants_count d.starts state.cells cells;
      inside = constants_inside d.starts state.cells cells;
      narrow = λ v m. cells_narrow v d.widths state.cells (λ q. subst (λ n. n < limit_of (width_in d.widths q)) (sym (constants_cell v d.starts state.cells q (circuit_new.circuit.one v m) cells)) (starts.within q));
    };
  };
  means = λ v o. record {
    stack = stack_means d.depth points (row_true v state.at) (row_true v state.depth) (λ k. row_true v (get_or state.slots k [])) (λ q. cell_in v state.cells q) d.first (omega (arith, ea)) most_first
        (subst (λ n. IsAt (row_true v state.at) (get_or d.first n points)) top (row_is_at v points (get_or d.first above points) state.at o (point_below above (omega (arith, ea))) at))
        (subst (IsAt (row_true v state.depth)) top (row_is_at v (most + 1) above state.depth o (omega (arith, ea, em, most_first)) depth))
        (λ k h. row_is_at v points (get_or d.first k points) (get_or state.slots k []) o (point_below k (omega arith)) (slots.each k (omega (arith, em, most_first))));
    cells = λ f q. constants_cell v d.starts state.cells q o cells;
    unfailed = λ f. refl;
  };
}
  where
    parts : (begins_idle d.first ≡ true) × ((list_all (λ q. nat_lt q (length d.points)) d.first && nat_le (length d.first) (d.depth + 1)) ≡ true)
    parts = both (begins_idle d.first) (list_all (λ q. nat_lt q (length d.points)) d.first && nat_le (length d.first) (d.depth + 1)) w.first

    rest : (list_all (λ q. nat_lt q (length d.points)) d.first ≡ true) × (nat_le (length d.first) (d.depth + 1) ≡ true)
    rest = both (list_all (λ q. nat_lt q (length d.points)) d.first) (nat_le (length d.first) (d.depth + 1)) parts.1

    most_first : length d.first ≤ d.depth + 1
    most_first = let e = rest.1 in grind (arith, nat_tests)

    top : above ≡ length d.first - 1
    top = omega (arith, ea)

    sizes : (nat_lt (length d.widths) (2 ^ 16) && starts_fit d.widths d.starts) ≡ true
    sizes = (both (nat_le (length d.points) (2 ^ 16)) (nat_lt (length d.widths) (2 ^ 16) && starts_fit d.widths d.starts) (both (nat_le 1 (length d.points)) _ w.sizes).1).1

    starts : Starts d.widths d.starts
    starts = starts_are d.widths d.starts (both (nat_lt (length d.widths) (2 ^ 16)) (starts_fit d.widths d.starts) sizes).1

    point_below : (k : ℕ) → k < length d.first → get_or d.first k points < points
    point_below k h = subst (λ n. get_or d.first k points < n) (sym ep) (go d.first k h rest.0)
      where
        go : (xs : List ℕ) (k : ℕ) → k < length xs → list_all (λ q. nat_lt q (length d.points)) xs ≡ true → get_or xs k points < length d.points
        go [] k h e = absurd (omega arith)
        go (x ∷ xs) zero h e = let p = (both (nat_lt x (length d.points)) (list_all (λ q. nat_lt q (length d.points)) xs) e).0 in grind (arith, nat_tests)
        go (x ∷ xs) (suc k) h e = go xs k (omega arith) (both (nat_lt x (length d.points)) (list_all (λ q. nat_lt q (length d.points)) xs) e).1

pub get_same : (xs : List ℕ) (i d : ℕ) → i < length xs → get_or xs i d ≡ get_or xs i (get_or xs i d)
get_same [] i d h = absurd (omega arith)
get_same (x ∷ xs) zero d h = refl
get_same (x ∷ xs) (suc i) d h = get_same xs i d (omega arith)

pub first_some : (d : Draft) → IsWellShaped d → 0 < length d.first
first_some d w = go d.first (both (begins_idle d.first) (list_all (λ q. nat_lt q (length d.points)) d.first && nat_le (length d.first) (d.depth + 1)) w.first).0
  where
    go : (first : List ℕ) → begins_idle first ≡ true → 0 < length first
    go [] e = absurd (cc)
    go (x ∷ xs) e = omega arith
