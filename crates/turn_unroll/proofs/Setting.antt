-- Cells that are set one by one.
use Rattle.std.proofs.Common.{◌≡◌, ◌≢◌, ℕ, suc, zero, ◌+◌, ◌-◌, ◌*◌, ◌%◌, ◌^◌, ◌<◌, ◌≤◌, Bool, true, false, not, ◌&&◌, ◌||◌, List, [], ◌∷◌, ◌++◌, map, take, drop, refl, sym, ◌∙◌, ap, subst, arith, if◌then◌else◌, length, ◌==◌, get_or, set, Option, Some, None, slice_get, unwrap_or, inl, inr, ◌⊎◌, replicate}
use Rattle.std.proofs.Math.Nat.{mod-eq_of_lt}
use Rattle.std.proofs.lemmas.Bool.{cases_eq, cases_lt}
use Rattle.std.proofs.lemmas.Bool.Decides.{nat_tests}
use Rattle.std.proofs.lemmas.List.{ext_get_or, get_or-set_other, get_or-set_same, get_or_past, length-set}
use Rattle.chk_base.specs.declared.sets.Set.{Set}
use Rattle.chk_base.specs.declared.word.Width.{Width}
use Rattle.chk_base.specs.declared.expr.UnOp.TheVariants as un
use Rattle.chk_base.specs.declared.word.Width.TheVariants.{W1, W8, W16, W32}
use Rattle.chk_base.specs.Operators.{unary_value}
use Rattle.chk_base.specs.Term.{Term, term_of}
use Rattle.chk_base.specs.Widths.{bits_of, limit_of}
use Rattle.chk_base.specs.WordValue.{IsWithin, value}
use Rattle.clause_form.specs.declared.lit.Lit.{Lit}
use Rattle.clause_form.specs.ClauseTruth.{Values, is_lit_true}
use Rattle.clause_form.specs.Literals.{AreOf, IsOf}
use Rattle.clause_form.proofs.Rising.{AreOf-more}
use Rattle.guard_prog.specs.Drafts.{plain_sets}
use Rattle.guard_prog.specs.GuardedRun.{PlainAlternative, value_in, value_set}
use Rattle.bit_circuit.specs.declared.bus.Bus.{Bus}
use Rattle.bit_circuit.specs.BusValue.{MakesBus, number}
use Rattle.bit_circuit.specs.Extension.{PlainFormula, IsModel, Extends}
use Rattle.bit_circuit.specs.Selection.{AreCells, AreFalseFrom, AreInside, AreNarrow, numbers}
use Rattle.bit_circuit.proofs.Choosing.{AreInside-more, narrow_number, number_narrow}
use Rattle.bit_circuit.proofs.Buses.{bus_here}
use Rattle.bit_circuit.proofs.Numbers.{number-lt}
use Rattle.bit_circuit.proofs.Growth.{extends_refl, extends_trans, kept}
use Rattle.turn_law.specs.Building.{HasTruth}
use Rattle.turn_law.specs.Sight.{set_of}
use Rattle.turn_law.specs.Symbol.{no as never, nth}
use Rattle.turn_law.proofs.Freedom.{no_false}
use Rattle.turn_unroll.specs.declared.ways.Way.{Way}
use Rattle.turn_unroll.specs.Cells.{AreBelowLimits, AreFit, AreSetsWithin, FitsInput, IsFit, SetsCells, cell_after_ways, cell_in, put_in, set_by, sets_in, term_in, width_in}
use Rattle.turn_unroll.specs.Ways.{choice_of, choices_of}
use Rattle.turn_unroll.proofs.Joining.{terms_are}
use Rattle.turn_unroll.proofs.Making.{never_within, take_more, take_whole}

-- ---- lists of buses
pub inside-get : (n : ℕ) (bs : List Bus) (i : ℕ) (d : Bus) → AreInside n bs → i < length bs → AreOf n (get_or bs i d).lits
inside-get n [] i d o h = absurd (omega arith)
inside-get n (b ∷ bs) zero d o h = o.0
inside-get n (b ∷ bs) (suc i) d o h = inside-get n bs i d o.1 (omega arith)

pub inside-set : (n : ℕ) (bs : List Bus) (i : ℕ) (b : Bus) → AreInside n bs → AreOf n b.lits → AreInside n (set bs i b)
inside-set n [] i b o h = tt
inside-set n (x ∷ bs) zero b o h = (h, o.1)
inside-set n (x ∷ bs) (suc i) b o h = (o.0, inside-set n bs i b o.1 h)

cell-get : (v : Values) (bs : List Bus) (i : ℕ) (d : Bus) → i < length bs → number v (get_or bs i d).lits ≡ cell_in v bs i
cell-get v [] i d h = absurd (omega arith)
cell-get v (b ∷ bs) zero d h = refl
cell-get v (b ∷ bs) (suc i) d h = cell-get v bs i d (omega arith)

cell-set : (v : Values) (bs : List Bus) (i q : ℕ) (b : Bus) → i < length bs → cell_in v (set bs i b) q ≡ (if i == q then number v b.lits else cell_in v bs q)
cell-set v [] i q b h = absurd (omega arith)
cell-set v (x ∷ bs) zero zero b h = refl
cell-set v (x ∷ bs) zero (suc q) b h = let e : (0 == suc q) ≡ false = grind (arith, nat_tests) in rw e refl
cell-set v (x ∷ bs) (suc i) zero b h = let e : (suc i == 0) ≡ false = grind (arith, nat_tests) in rw e refl
cell-set v (x ∷ bs) (suc i) (suc q) b h = let e : (suc i == suc q) ≡ (i == q) = grind (arith, nat_tests) in cell-set v bs i q b (omega arith) ∙ rw e refl

-- ---- one cell
pub put_made : (old s new : PlainFormula) (next : List Bus) (taken : Lit) (cell : ℕ) (d rest r : Bus) (f : Values → ℕ) (n m : ℕ) → cell < length next → AreInside old.variables next
    → MakesBus old s rest.lits f n → MakesBus s new r.lits (λ v. if is_lit_true v taken then number v rest.lits else number v (get_or next cell d).lits) m
    → SetsCells old new next (set next cell r) (λ v. put_in v taken cell (f v) next)
put_made old s new next taken cell d rest r f n m h o p q = record {
  extends = extends_trans old s new p.extends q.extends;
  count = length-set next cell r;
  inside = inside-set new.variables next cell r (AreInside-more old.variables new.variables next (omega (arith, p.extends.grows, q.extends.grows)) o) q.inside;
  equal = λ v k c. cell-set v next cell c r h ∙ go v c (cell == c) refl (q.equal v k ∙ rw (p.equal v (kept q.extends v k), cell-get v next cell d h) refl);
}
  where
    go : (v : Values) (c : ℕ) (b : Bool) → (cell == c) ≡ b → number v r.lits ≡ (if is_lit_true v taken then f v else cell_in v next cell) → (if b then number v r.lits else cell_in v next c) ≡ (if is_lit_true v taken && b then f v else cell_in v next c)
    go v c true e g =
        let same : cell ≡ c = grind (arith, nat_tests) in
        g ∙ ap (λ x. if is_lit_true v taken then f v else cell_in v next x) same ∙ table (is_lit_true v taken)
      where
        table : (b : Bool) → (if b then f v else cell_in v next c) ≡ (if b && true then f v else cell_in v next c)
        table true = refl
        table false = refl
    go v c false e g = table (is_lit_true v taken)
      where
        table : (b : Bool) → cell_in v next c ≡ (if b && false then f v else cell_in v next c)
        table true = refl
        table false = refl

pub cells_as : (old new : PlainFormula) (was now : List Bus) (f g : Values → ℕ → ℕ) → SetsCells old new was now f → ((v : Values) → IsModel v new → (q : ℕ) → f v q ≡ g v q) → SetsCells old new was now g
cells_as old new was now f g p e = record { extends = p.extends; count = p.count; inside = p.inside; equal = λ v m q. p.equal v m q ∙ e v m q }

pub cells_same : (s : PlainFormula) (cells : List Bus) (f : Values → ℕ → ℕ) → AreInside s.variables cells → ((v : Values) → IsModel v s → (q : ℕ) → cell_in v cells q ≡ f v q) → SetsCells s s cells cells f
cells_same s cells f o e = record { extends = extends_refl s; count = refl; inside = o; equal = e }

-- one change after another
pub cells_then : (old s new : PlainFormula) (was between now : List Bus) (f g h : Values → ℕ → ℕ) → SetsCells old s was between f → SetsCells s new between now g → ((v : Values) → IsModel v new → ((q : ℕ) → cell_in v between q ≡ f v q) → (q : ℕ) → g v q ≡ h v q) → SetsCells old new was now h
cells_then old s new was between now f g h p q e = record {
  extends = extends_trans old s new p.extends q.extends;
  count = q.count ∙ p.count;
  inside = q.inside;
  equal = λ v m c. q.equal v m c ∙ e v m (p.equal v (kept q.extends v m)) c;
}

-- ---- the sets of an alternative
put_front : (t : Bool) (b : Bool) (x old : ℕ) (o : Option ℕ) → (if t && b then x else (if t then unwrap_or o old else old)) ≡ (if t then unwrap_or (if b then Some x else o) old else old)
put_front true true x old o = refl
put_front true false x old o = refl
put_front false b x old o = refl

pub sets_none : (s : PlainFormula) (widths : List Width) (cells next : List Bus) (taken : Lit) (sets : List Set) → AreInside s.variables next → SetsCells s s next next (λ v q. sets_in v taken (value_set (width_in widths) (cell_in v cells) (plain_sets (drop (length sets) sets)) q) (cell_in v next q))
sets_none s widths cells next taken sets o = cells_same s next _ o (λ v m q. go v q sets)
  where
    kept_old : (b : Bool) (old : ℕ) → old ≡ (if b then old else old)
    kept_old true old = refl
    kept_old false old = refl

    go : (v : Values) (q : ℕ) (ss : List Set) → cell_in v next q ≡ sets_in v taken (value_set (width_in widths) (cell_in v cells) (plain_sets (drop (length ss) ss)) q) (cell_in v next q)
    go v q [] = kept_old (is_lit_true v taken) (cell_in v next q)
    go v q (x ∷ ss) = go v q ss

pub sets_more : (old s new : PlainFormula) (widths : List Width) (cells first was now : List Bus) (taken : Lit) (set : Set) (rest : List Set) → length widths ≡ length cells
    → SetsCells old s first was (λ v q. sets_in v taken (value_set (width_in widths) (cell_in v cells) (plain_sets rest) q) (cell_in v first q))
    → SetsCells s new was now (λ v. put_in v taken set.cell (term_in v widths cells (term_of set.value) % limit_of (width_in widths set.cell)) was)
    → SetsCells old new first now (λ v q. sets_in v taken (value_set (width_in widths) (cell_in v cells) (plain_sets (set ∷ rest)) q) (cell_in v first q))
sets_more old s new widths cells first was now taken set rest l p q = cells_then old s new first was now _ _ _ p q (λ v m e c. go v e c (set.cell == c) refl)
  where
    go : (v : Values) → ((q : ℕ) → cell_in v was q ≡ sets_in v taken (value_set (width_in widths) (cell_in v cells) (plain_sets rest) q) (cell_in v first q)) → (c : ℕ) (b : Bool) → (set.cell == c) ≡ b
        → (if is_lit_true v taken && b then term_in v widths cells (term_of set.value) % limit_of (width_in widths set.cell) else cell_in v was c) ≡ sets_in v taken (if b then Some (value_in (width_in widths) (cell_in v cells) (term_of set.value) % limit_of (width_in widths c)) else value_set (width_in widths) (cell_in v cells) (plain_sets rest) c) (cell_in v first c)
    go v e c true g =
        let same : set.cell ≡ c = grind (arith, nat_tests) in
        let x : term_in v widths cells (term_of set.value) ≡ value_in (width_in widths) (cell_in v cells) (term_of set.value) = ap (value (term_of set.value)) (terms_are v widths cells l) in
        rw (e c, x, same) (put_front (is_lit_true v taken) true (value_in (width_in widths) (cell_in v cells) (term_of set.value) % limit_of (width_in widths c)) (cell_in v first c) (value_set (width_in widths) (cell_in v cells) (plain_sets rest) c))
    go v e c false g = rw (e c) (put_front (is_lit_true v taken) false (term_in v widths cells (term_of set.value) % limit_of (width_in widths set.cell)) (cell_in v first c) (value_set (width_in widths) (cell_in v cells) (plain_sets rest) c))

-- the first set takes the word
pub input_more : (old s new : PlainFormula) (widths : List Width) (cells first was now : List Bus) (taken : Lit) (set : Set) (rest : List Set) (input : Width) (word : List Lit)
    → SetsCells old s first was (λ v q. sets_in v taken (value_set (width_in widths) (cell_in v cells) (plain_sets rest) q) (cell_in v first q))
    → SetsCells s new was now (λ v. put_in v taken set.cell (number v word % limit_of input) was)
    → SetsCells old new first now (λ v q. sets_in v taken (set_of (width_in widths) (cell_in v cells) (number v word) (Some input) (plain_sets (set ∷ rest)) q) (cell_in v first q))
input_more old s new widths cells first was now taken set rest input word p q = cells_then old s new first was now _ _ _ p q (λ v m e c. rw (e c) (put_front (is_lit_true v taken) (set.cell == c) (number v word % limit_of input) (cell_in v first c) (value_set (width_in widths) (cell_in v cells) (plain_sets rest) c)))

pub input_none : (s : PlainFormula) (widths : List Width) (cells next : List Bus) (taken : Lit) (sets : List Set) (input : Width) (word : List Lit) → sets ≡ [] → AreInside s.variables next → SetsCells s s next next (λ v q. sets_in v taken (set_of (width_in widths) (cell_in v cells) (number v word) (Some input) (plain_sets sets) q) (cell_in v next q))
input_none s widths cells next taken sets input word e o = rw e (cells_same s next _ o (λ v m q. go (is_lit_true v taken) (cell_in v next q)))
  where
    go : (b : Bool) (old : ℕ) → old ≡ (if b then old else old)
    go true old = refl
    go false old = refl

-- an alternative that is never taken
pub untaken_cells : (s : PlainFormula) (next : List Bus) (taken : Lit) (f : Values → ℕ → Option ℕ) → ((v : Values) → IsModel v s → is_lit_true v taken ≡ false) → AreInside s.variables next → SetsCells s s next next (λ v q. sets_in v taken (f v q) (cell_in v next q))
untaken_cells s next taken f e o = cells_same s next _ o (λ v m q. rw (e v m) refl)

-- ---- all alternatives
after-append : (v : Values) (widths : List Width) (cells : List Bus) (word : ℕ) (ws : List Way) (w : Way) (q old : ℕ) → cell_after_ways v widths cells word (ws ++ w ∷ []) q old ≡ sets_in v w.taken (set_by v widths cells word (choice_of w) q) (cell_after_ways v widths cells word ws q old)
after-append v widths cells word [] w q old = refl
after-append v widths cells word (u ∷ ws) w q old = after-append v widths cells word ws w q (sets_in v u.taken (set_by v widths cells word (choice_of u) q) old)

pub ways_none : (s : PlainFormula) (widths : List Width) (cells next : List Bus) (word : List Lit) (ws : List Way) → AreInside s.variables next → SetsCells s s next next (λ v q. cell_after_ways v widths cells (number v word) (take 0 ws) q (cell_in v next q))
ways_none s widths cells next word ws o = cells_same s next _ o (λ v m q. go v q ws)
  where
    go : (v : Values) (q : ℕ) (ws : List Way) → cell_in v next q ≡ cell_after_ways v widths cells (number v word) (take 0 ws) q (cell_in v next q)
    go v q [] = refl
    go v q (w ∷ ws) = refl

pub ways_more : (old s new : PlainFormula) (widths : List Width) (cells first was now : List Bus) (word : List Lit) (ws : List Way) (i : ℕ) (d : Way) → i < length ws
    → SetsCells old s first was (λ v q. cell_after_ways v widths cells (number v word) (take i ws) q (cell_in v first q))
    → SetsCells s new was now (λ v q. sets_in v (get_or ws i d).taken (set_by v widths cells (number v word) (choice_of (get_or ws i d)) q) (cell_in v was q))
    → SetsCells old new first now (λ v q. cell_after_ways v widths cells (number v word) (take (i + 1) ws) q (cell_in v first q))
ways_more old s new widths cells first was now word ws i d h p q =
    cells_then old s new first was now _ _ _ p q (λ v m e c.
    ap (sets_in v (get_or ws i d).taken (set_by v widths cells (number v word) (choice_of (get_or ws i d)) c)) (e c)
    ∙ sym (ap (λ xs. cell_after_ways v widths cells (number v word) xs c (cell_in v first c)) (take_more ws i d h) ∙ after-append v widths cells (number v word) (take i ws) (get_or ws i d) c (cell_in v first c)))

pub ways_all : (old s : PlainFormula) (widths : List Width) (cells first was : List Bus) (word : List Lit) (ws : List Way) (i : ℕ) → i ≡ length ws
    → SetsCells old s first was (λ v q. cell_after_ways v widths cells (number v word) (take i ws) q (cell_in v first q))
    → SetsCells old s first was (λ v q. cell_after_ways v widths cells (number v word) ws q (cell_in v first q))
ways_all old s widths cells first was word ws i e p = subst (λ xs. SetsCells old s first was (λ v q. cell_after_ways v widths cells (number v word) xs q (cell_in v first q))) (take_whole ws i e) p

-- ---- cells stay below the limits of their widths
power_pos : (k : ℕ) → 0 < 2 ^ k
power_pos zero = omega arith
power_pos (suc k) = let e : 2 ^ suc k ≡ 2 * 2 ^ k = omega arith in omega (arith, e, power_pos k)

rest_below : (n : ℕ) (w : Width) → n % limit_of w < limit_of w
rest_below n w = let p = power_pos (bits_of w) in mod_below n (limit_of w) p
  where
    mod_below : (n m : ℕ) → 0 < m → n % m < m
    mod_below n m h = omega arith

abbrev IsSmall : ℕ → Option ℕ → Type 0
IsSmall limit None = Unit {0}
IsSmall limit (Some n) = n < limit

set_small : (width : ℕ → Width) (cells : ℕ → ℕ) (sets : List (ℕ × Term)) (q : ℕ) → IsSmall (limit_of (width q)) (value_set width cells sets q)
set_small width cells [] q = tt
set_small width cells (s ∷ others) q = go (s.0 == q) (set_small width cells others q)
  where
    go : (b : Bool) → IsSmall (limit_of (width q)) (value_set width cells others q) → IsSmall (limit_of (width q)) (if b then Some (value_in width cells s.1 % limit_of (width q)) else value_set width cells others q)
    go true h = rest_below (value_in width cells s.1) (width q)
    go false h = h

by_small : (widths : List Width) (cells : ℕ → ℕ) (word : ℕ) (input : Option Width) (sets : List (ℕ × Term)) (q : ℕ) → FitsInput widths input sets → IsSmall (limit_of (width_in widths q)) (set_of (width_in widths) cells word input sets q)
by_small widths cells word None sets q f = set_small (width_in widths) cells sets q
by_small widths cells word (Some w) [] q f = tt
by_small widths cells word (Some w) (s ∷ others) q f = go (s.0 == q) refl
  where
    go : (b : Bool) → (s.0 == q) ≡ b → IsSmall (limit_of (width_in widths q)) (if b then Some (word % limit_of w) else value_set (width_in widths) cells others q)
    go true e =
        let same : s.0 ≡ q = grind (arith, nat_tests) in
        let l : limit_of w ≡ limit_of (width_in widths q) = f ∙ ap (λ n. limit_of (width_in widths n)) same in
        subst (λ n. word % limit_of w < n) l (rest_below word w)
    go false e = set_small (width_in widths) cells others q

pub after_small : (v : Values) (points : ℕ) (widths : List Width) (cells : List Bus) (word : ℕ) (ws : List Way) (q old : ℕ) → AreFit points widths (choices_of ws) → old < limit_of (width_in widths q) → cell_after_ways v widths cells word ws q old < limit_of (width_in widths q)
after_small v points widths cells word [] q old f h = h
after_small v points widths cells word (w ∷ ws) q old f h =
    after_small v points widths cells word ws q (sets_in v w.taken (set_by v widths cells word (choice_of w) q) old) f.1 (go (is_lit_true v w.taken) (set_by v widths cells word (choice_of w) q) (by_small widths (cell_in v cells) word (choice_of w).input (choice_of w).sets q f.0.input))
  where
    go : (b : Bool) (o : Option ℕ) → IsSmall (limit_of (width_in widths q)) o → (if b then unwrap_or o old else old) < limit_of (width_in widths q)
    go true None s = h
    go true (Some n) s = s
    go false o s = h

-- ---- cells as the circuit sees them
pub cells_small : (v : Values) (ws : List Width) (bs : List Bus) (q : ℕ) → length ws ≡ length bs → AreNarrow v ws bs → cell_in v bs q < limit_of (width_in ws q)
cells_small v [] [] q l n = power_pos 32
cells_small v [] (b ∷ bs) q l n = absurd (omega arith)
cells_small v (w ∷ ws) [] q l n = absurd (omega arith)
cells_small v (w ∷ ws) (b ∷ bs) zero l n = number_narrow v b.lits (bits_of w) n.0
cells_small v (w ∷ ws) (b ∷ bs) (suc q) l n = cells_small v ws bs q (omega arith) n.1

pub cells_narrow : (v : Values) (ws : List Width) (bs : List Bus) → ((q : ℕ) → cell_in v bs q < limit_of (width_in ws q)) → AreNarrow v ws bs
cells_narrow v [] bs h = tt
cells_narrow v (w ∷ ws) [] h = tt
cells_narrow v (w ∷ ws) (b ∷ bs) h = (narrow_number v b.lits (bits_of w) (h 0), cells_narrow v ws bs (λ q. h (suc q)))

-- ---- lists that are filled
pub filled_more : (lits row : List Lit) (i : ℕ) (l : Lit) → i < length lits → l ≡ nth row i → ((k : ℕ) → k < i → nth lits k ≡ nth row k) → (k : ℕ) → k < i + 1 → nth (set lits i l) k ≡ nth row k
filled_more lits row i l h e f k g = go (cases_eq k i)
  where
    go : (k ≡ i) ⊎ (k ≢ i) → nth (set lits i l) k ≡ nth row k
    go (inl q) = ap (nth (set lits i l)) q ∙ get_or-set_same lits i l never h ∙ e ∙ ap (nth row) (sym q)
    go (inr q) = get_or-set_other lits i k l never q ∙ f k (omega arith)

pub filled_all : (lits row : List Lit) (i : ℕ) → length lits ≤ i → length lits ≡ length row → ((k : ℕ) → k < i → nth lits k ≡ nth row k) → lits ≡ row
filled_all lits row i h l f = ext_get_or never lits row l (λ k g. go k g)
  where
    go : (k : ℕ) → k < length lits → get_or lits k never ≡ get_or row k never
    go k g = here (cases_lt k i)
      where
        here : (k < i) ⊎ (i ≤ k) → get_or lits k never ≡ get_or row k never
        here (inl q) = f k q
        here (inr q) = absurd (omega (arith, g, q, h))

-- ---- numbers that are masked
number-dark : (v : Values) (n : ℕ) → v 1 ≡ true → number v (replicate n never) ≡ 0
number-dark v zero o = refl
number-dark v (suc n) o = let e = number-dark v n o in let f = no_false v o in rw (f, e) refl

pub lowest_number : (v : Values) (ls : List Lit) (d : Lit) → v 1 ≡ true → 0 < length ls → number v (set (replicate 32 never) 0 (get_or ls 0 d)) ≡ number v ls % 2
lowest_number v [] d o h = absurd (omega arith)
lowest_number v (l ∷ ls) d o h = let e = number-dark v 31 o in rw e (go (is_lit_true v l))
  where
    go : (b : Bool) → (if b then 1 else 0) + 2 * 0 ≡ ((if b then 1 else 0) + 2 * number v ls) % 2
    go true = omega arith
    go false = omega arith

pub lowest_inside : (n : ℕ) (ls : List Lit) (d : Lit) → 1 ≤ n → 0 < length ls → AreOf n ls → AreOf n (set (replicate 32 never) 0 (get_or ls 0 d))
lowest_inside n [] d h k o = absurd (omega arith)
lowest_inside n (l ∷ ls) d h k o = (o.0, dark_within n 31 h)
  where
    dark_within : (n k : ℕ) → 1 ≤ n → AreOf n (replicate k never)
    dark_within n zero h = tt
    dark_within n (suc k) h = (never_within n h, dark_within n k h)

pub masked_lowest : (s : PlainFormula) (bus r : List Lit) (w : Width) → w ≡ W1 → length r ≡ 32 → HasTruth s → AreOf s.variables r → ((v : Values) → v 1 ≡ true → number v r ≡ number v bus % 2) → MakesBus s s r (λ v. number v bus % limit_of w) 65536
masked_lowest s bus r w e n t o h = rw e (bus_here s r _ 65536 n o (λ v m. h v (t.one v m)))

pub masked_part8 : (s new : PlainFormula) (bus r : List Lit) (w : Width) → w ≡ W8 → MakesBus s new r (λ v. unary_value un.Low8 (number v bus)) 65536 → MakesBus s new r (λ v. number v bus % limit_of w) 65536
masked_part8 s new bus r w e m = rw e m

pub masked_part16 : (s new : PlainFormula) (bus r : List Lit) (w : Width) → w ≡ W16 → MakesBus s new r (λ v. unary_value un.Low16 (number v bus)) 65536 → MakesBus s new r (λ v. number v bus % limit_of w) 65536
masked_part16 s new bus r w e m = rw e m

pub masked_whole : (s : PlainFormula) (bus : List Lit) (w : Width) → w ≡ W32 → length bus ≡ 32 → AreOf s.variables bus → MakesBus s s bus (λ v. number v bus % limit_of w) 65536
masked_whole s bus w e n o = rw e (bus_here s bus _ 65536 n o (λ v m. sym (mod-eq_of_lt (subst (λ k. number v bus < 2 ^ k) n (number-lt v bus)))))

-- ---- steps
pub sets_whole : (old s : PlainFormula) (widths : List Width) (cells first now : List Bus) (taken : Lit) (sets : List Set) (i : ℕ) → i ≡ 0
    → SetsCells old s first now (λ v q. sets_in v taken (value_set (width_in widths) (cell_in v cells) (plain_sets (drop i sets)) q) (cell_in v first q))
    → SetsCells old s first now (λ v q. sets_in v taken (value_set (width_in widths) (cell_in v cells) (plain_sets sets) q) (cell_in v first q))
sets_whole old s widths cells first now taken sets i e p = subst (λ k. SetsCells old s first now (λ v q. sets_in v taken (value_set (width_in widths) (cell_in v cells) (plain_sets (drop k sets)) q) (cell_in v first q))) e p

pub put_after : (old s new : PlainFormula) (was now : List Bus) (taken : Lit) (cell : ℕ) (value : List Lit) (f : Values → ℕ) (n : ℕ) (w : Width) (limit : Width) → w ≡ limit → MakesBus old s value f n → SetsCells s new was now (λ v. put_in v taken cell (number v value % limit_of w) was) → SetsCells old new was now (λ v. put_in v taken cell (f v % limit_of limit) was)
put_after old s new was now taken cell value f n w limit e p q = record {
  extends = extends_trans old s new p.extends q.extends;
  count = q.count;
  inside = q.inside;
  equal = λ v m c. q.equal v m c ∙ rw (p.equal v (kept q.extends v m), e) refl;
}

pub set_within : (n : ℕ) (sets : List Set) (i : ℕ) (set : Set) → set ≡ get_or sets i set → i < length sets → AreSetsWithin n (plain_sets sets) → (set.cell < n) × IsWithin n (term_of set.value)
set_within n sets i set e h f = subst (λ (x : Set). (x.cell < n) × IsWithin n (term_of x.value)) (sym e) (go sets i h f)
  where
    go : (ss : List Set) (i : ℕ) → i < length ss → AreSetsWithin n (plain_sets ss) → let x : Set = get_or ss i set in (x.cell < n) × IsWithin n (term_of x.value)
    go [] i h f = absurd (omega arith)
    go (x ∷ ss) zero h f = (f.0, f.1)
    go (x ∷ ss) (suc i) h f = go ss i (omega arith) f.2

pub never_cells : (s : PlainFormula) (next : List Bus) (taken : Lit) (f : Values → ℕ → Option ℕ) → HasTruth s → taken ≡ never → AreInside s.variables next → SetsCells s s next next (λ v q. sets_in v taken (f v q) (cell_in v next q))
never_cells s next taken f t e o = untaken_cells s next taken f (λ v m. ap (is_lit_true v) e ∙ no_false v (t.one v m)) o

pub sets_of_way : (points : ℕ) (widths : List Width) (n : ℕ) (ws : List Way) (i : ℕ) (w : Way) → w ≡ get_or ws i w → i < length ws → length widths ≡ n → AreFit points widths (choices_of ws) → AreSetsWithin n (choice_of w).sets
sets_of_way points widths n ws i w e h l f = subst (λ k. AreSetsWithin k (choice_of w).sets) l (subst (λ x. AreSetsWithin (length widths) (choice_of x).sets) (sym e) (go ws i h f))
  where
    go : (ws : List Way) (i : ℕ) → i < length ws → AreFit points widths (choices_of ws) → AreSetsWithin (length widths) (choice_of (get_or ws i w)).sets
    go [] i h f = absurd (omega arith)
    go (x ∷ ws) zero h f = f.0.sets
    go (x ∷ ws) (suc i) h f = go ws i (omega arith) f.1

pub ways_read : (old s new : PlainFormula) (widths : List Width) (cells first was now : List Bus) (word : List Lit) (ws : List Way) (i : ℕ) (w : Way) → w ≡ get_or ws i w → i < length ws
    → SetsCells old s first was (λ v q. cell_after_ways v widths cells (number v word) (take i ws) q (cell_in v first q))
    → SetsCells s new was now (λ v q. sets_in v w.taken (set_by v widths cells (number v word) (choice_of w) q) (cell_in v was q))
    → SetsCells old new first now (λ v q. cell_after_ways v widths cells (number v word) (take (i + 1) ws) q (cell_in v first q))
ways_read old s new widths cells first was now word ws i w e h p q = ways_more old s new widths cells first was now word ws i w h p (subst (λ x. SetsCells s new was now (λ v c. sets_in v x.taken (set_by v widths cells (number v word) (choice_of x) c) (cell_in v was c))) e q)

pub next_made : (old new : PlainFormula) (widths : List Width) (cells first now back lent result : List Bus) (word lits : List Lit) (ws : List Way) → first ≡ cells → back ≡ now → lent ≡ back → result ≡ lent → lits ≡ word
    → SetsCells old new first now (λ v q. cell_after_ways v widths cells (number v lits) ws q (cell_in v first q))
    → SetsCells old new cells result (λ v q. cell_after_ways v widths cells (number v word) ws q (cell_in v cells q))
next_made old new widths cells first now back lent result word lits ws ef eb el er ew p =
    subst (λ w. SetsCells old new cells result (λ v q. cell_after_ways v widths cells (number v w) ws q (cell_in v cells q))) ew
    (subst (λ r. SetsCells old new cells r (λ v q. cell_after_ways v widths cells (number v lits) ws q (cell_in v cells q))) (sym (er ∙ el ∙ eb))
    (subst (λ f. SetsCells old new f now (λ v q. cell_after_ways v widths cells (number v lits) ws q (cell_in v f q))) ef p))
