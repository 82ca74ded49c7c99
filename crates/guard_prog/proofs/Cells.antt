-- Words in cells, and expressions over them.
use Rattle.std.proofs.Common.{◌≡◌, ◌≢◌, ℕ, suc, zero, ◌+◌, ◌%◌, ◌<◌, ◌≤◌, Bool, true, false, ◌&&◌, if◌then◌else◌, ◌==◌, nat_lt, nat_le, List, [], ◌∷◌, length, map, set, get_or, slice_get, unwrap_or, refl, sym, ◌∙◌, ap, subst, arith, get_or-set_same, get_or-set_other}
use Rattle.std.proofs.Math.Path.{fun_ext}
use Rattle.std.proofs.Math.Nat.{mod-eq_of_lt}
use Rattle.std.proofs.Math.Seq.{map-set_same}
use Rattle.std.proofs.lemmas.Bool.{and_parts}
use Rattle.std.proofs.lemmas.List.{length-map, get_or_past}
use Rattle.std.proofs.lemmas.Option.{unwrap_or-slice_get}
use Rattle.std.specs.List.{list_all, zip}
use Rattle.std.proofs.lemmas.Bool.Decides.{nat_tests}
use Rattle.chk_base.specs.declared.word.Width.{Width}
use Rattle.chk_base.specs.declared.word.Width.TheVariants.{W32}
use Rattle.chk_base.specs.Term.{Term, Const, Cell, Pick, Un, Bin, Choose, term_of}
use Rattle.chk_base.specs.Widths.{PlainWord, zero_word, limit_of}
use Rattle.chk_base.specs.WordValue.{word_at, IsWithin}
use Rattle.guard_prog.specs.declared.draft.Alternative.{Alternative}
use Rattle.guard_prog.specs.declared.draft.Draft.{Draft}
use Rattle.guard_prog.specs.Drafts.{program_of}
use Rattle.guard_prog.specs.Executions.{width_at, bits_at, widths_of, is_takeable}
use Rattle.guard_prog.specs.WellShaped.{names_cells, sets_name_cells, starts_fit, sets_fit, input_fits, are_distinct_by}

-- equal numbers
pub same_number : (a b : ℕ) → (a == b) ≡ true → a ≡ b
same_number a b e = grind (arith, nat_tests, e)

-- an expression that names cells among the first n is within them
pub within : (n : ℕ) (t : Term) → names_cells n t ≡ true → IsWithin n t
within n (Const k) e = tt
within n (Cell at s) e = grind (arith, nat_tests, e)
within n (Pick base len s index) e =
    let f = and_parts (nat_le 1 len) (nat_le (base + len) n && names_cells n index) e in
    let g = and_parts (nat_le (base + len) n) (names_cells n index) f.1 in
    let h : base + len ≤ n = grind (arith, nat_tests, g.0) in
    (h, within n index g.1)
within n (Un op a) e = within n a e
within n (Bin op a b) e = let f = and_parts (names_cells n a) (names_cells n b) e in (within n a f.0, within n b f.1)
within n (Choose c a b) e =
    let f = and_parts (names_cells n c) (names_cells n a && names_cells n b) e in
    let g = and_parts (names_cells n a) (names_cells n b) f.1 in
    (within n c f.0, within n a g.0, within n b g.1)

-- the width of a cell, by the list of widths
pub width_at-widths : (cells : List PlainWord) (q : ℕ) → width_at cells q ≡ unwrap_or (slice_get (widths_of cells) q) W32
width_at-widths [] q = refl
width_at-widths (w ∷ cells) zero = refl
width_at-widths (w ∷ cells) (suc q) = width_at-widths cells q

-- cells with the same list of widths have the same width everywhere
pub same_width_at : (cells others : List PlainWord) (q : ℕ) → widths_of cells ≡ widths_of others → width_at cells q ≡ width_at others q
same_width_at cells others q e =
    width_at-widths cells q ∙ ap (λ ws. unwrap_or (slice_get ws q) W32) e ∙ sym (width_at-widths others q)

-- the word of a cell is what the list has there
pub word_at-get_or : (cells : List PlainWord) (q : ℕ) → word_at cells q ≡ get_or cells q (zero_word W32)
word_at-get_or [] q = refl
word_at-get_or (w ∷ cells) zero = refl
word_at-get_or (w ∷ cells) (suc q) = word_at-get_or cells q

-- a word of the same width in a cell's place keeps the widths
pub widths_of-set : (cells : List PlainWord) (at : ℕ) (w : PlainWord) → w.width ≡ width_at cells at → widths_of (set cells at w) ≡ widths_of cells
widths_of-set cells at w e =
    map-set_same (λ (x : PlainWord). x.width) cells at w (zero_word W32) (e ∙ ap (λ (x : PlainWord). x.width) (word_at-get_or cells at))

-- the value of a cell after one of them is set
pub bits_at-set : (cells : List PlainWord) (at q n : ℕ) (w : PlainWord) → at < length cells → w.bits ≡ n % limit_of (width_at cells at) → bits_at (set cells at w) q ≡ (if at == q then n % limit_of (width_at cells q) else bits_at cells q)
bits_at-set cells at q n w lt e = go (at == q) refl
  where
    go : (b : Bool) → (at == q) ≡ b → bits_at (set cells at w) q ≡ (if b then n % limit_of (width_at cells q) else bits_at cells q)
    go true f =
        let same = same_number at q f in
        let there : get_or (set cells at w) q (zero_word W32) ≡ w = subst (λ k. get_or (set cells at w) k (zero_word W32) ≡ w) same (get_or-set_same cells at w (zero_word W32) lt) in
        ap (λ (x : PlainWord). x.bits) (word_at-get_or (set cells at w) q ∙ there) ∙ e ∙ ap (λ k. n % limit_of (width_at cells k)) same
    go false f =
        let other : q ≢ at = grind (arith, nat_tests, f) in
        ap (λ (x : PlainWord). x.bits) (word_at-get_or (set cells at w) q ∙ get_or-set_other cells at q w (zero_word W32) other ∙ sym (word_at-get_or cells q))

-- there are as many widths as cells
pub length-widths_of : (cells : List PlainWord) → length (widths_of cells) ≡ length cells
length-widths_of cells = length-map cells (λ (w : PlainWord). w.width)

-- what an alternative that can be taken owes
pub record Takeable (cells : List PlainWord) (a : Alternative) : Type 0 where
  pub guard : IsWithin (length cells) (term_of a.guard)
  pub sets : sets_name_cells (length cells) a.sets ≡ true
  pub input : input_fits (widths_of cells) a.sets a.input ≡ true

pub takeable : (cells : List PlainWord) (a : Alternative) → is_takeable (widths_of cells) a ≡ true → Takeable cells a
takeable cells a e =
    let n = length (widths_of cells) in
    let f = and_parts (names_cells n (term_of a.guard) && sets_fit n a.sets) (input_fits (widths_of cells) a.sets a.input) e in
    let g = and_parts (names_cells n (term_of a.guard)) (sets_fit n a.sets) f.0 in
    let h = and_parts (are_distinct_by (λ s. s.cell) a.sets) (sets_name_cells n a.sets) g.1 in
    record {
      guard = within (length cells) (term_of a.guard) (subst (λ k. names_cells k (term_of a.guard) ≡ true) (length-widths_of cells) g.0);
      sets = subst (λ k. sets_name_cells k a.sets ≡ true) (length-widths_of cells) h.1;
      input = f.1;
    }

pub guard_within : (cells : List PlainWord) (a : Alternative) → is_takeable (widths_of cells) a ≡ true → IsWithin (length cells) (term_of a.guard)
guard_within cells a e = (takeable cells a e).guard

-- the widths of a program's cells
pub width_at-program : (d : Draft) (cells : List PlainWord) → widths_of cells ≡ d.widths → width_at cells ≡ (program_of d).width
width_at-program d cells e = fun_ext (λ q. width_at-widths cells q ∙ ap (λ ws. unwrap_or (slice_get ws q) W32) e)

-- a start value is below 2 to its width, and 0 where there is no cell
pub start_within : (widths : List Width) (starts : List ℕ) (q : ℕ) → length widths ≡ length starts → list_all (λ p. nat_lt p.1 (limit_of p.0)) (zip widths starts) ≡ true → unwrap_or (slice_get starts q) 0 < limit_of (unwrap_or (slice_get widths q) W32)
start_within [] [] q e all = omega arith
start_within [] (v ∷ starts) q e all = absurd (omega (arith, e))
start_within (w ∷ widths) [] q e all = absurd (omega (arith, e))
start_within (w ∷ widths) (v ∷ starts) zero e all =
    let f = and_parts (nat_lt v (limit_of w)) (list_all (λ p. nat_lt p.1 (limit_of p.0)) (zip widths starts)) all in
    grind (arith, nat_tests, f.0)
start_within (w ∷ widths) (v ∷ starts) (suc q) e all =
    let f = and_parts (nat_lt v (limit_of w)) (list_all (λ p. nat_lt p.1 (limit_of p.0)) (zip widths starts)) all in
    start_within widths starts q (omega (arith, e)) f.1

-- start values that fit
pub record Starts (widths : List Width) (starts : List ℕ) : Type 0 where
  pub as_many : length widths ≡ length starts
  pub within : (q : ℕ) → unwrap_or (slice_get starts q) 0 < limit_of (unwrap_or (slice_get widths q) W32)

pub starts_are : (widths : List Width) (starts : List ℕ) → starts_fit widths starts ≡ true → Starts widths starts
starts_are widths starts e =
    let f = and_parts (length widths == length starts) (list_all (λ p. nat_lt p.1 (limit_of p.0)) (zip widths starts)) e in
    let g = same_number (length widths) (length starts) f.0 in
    record { as_many = g; within = λ q. start_within widths starts q g f.1 }

-- the word 0 of each width
pub widths_of-zero : (widths : List Width) → widths_of (map zero_word widths) ≡ widths
widths_of-zero [] = refl
widths_of-zero (w ∷ widths) = ap (λ ws. w ∷ ws) (widths_of-zero widths)

pub bits_at-zero : (widths : List Width) (q : ℕ) → bits_at (map zero_word widths) q ≡ 0
bits_at-zero [] q = refl
bits_at-zero (w ∷ widths) zero = refl
bits_at-zero (w ∷ widths) (suc q) = bits_at-zero widths q

-- the cells before this one have their start values, and the others are 0
pub record StartedBelow (starts : List ℕ) (bits : ℕ → ℕ) (q : ℕ) : Type 0 where
  pub done : (k : ℕ) → k < q → bits k ≡ get_or starts k 0
  pub ahead : (k : ℕ) → q ≤ k → bits k ≡ 0

-- one more cell has its start value
pub started_more : (widths : List Width) (starts : List ℕ) (cells : List PlainWord) (new : ℕ → ℕ) (q v : ℕ) → Starts widths starts → widths_of cells ≡ widths → StartedBelow starts (bits_at cells) q → v ≡ get_or starts q 0 → ((k : ℕ) → new k ≡ (if q == k then v % limit_of (width_at cells k) else bits_at cells k)) → StartedBelow starts new (q + 1)
started_more widths starts cells new q v right same below e set =
    record {
      done = λ k lt. set k ∙ go k lt (q == k) refl;
      ahead = λ k le. set k ∙ on k le (q == k) refl;
    }
  where
    go : (k : ℕ) → k < q + 1 → (b : Bool) → (q == k) ≡ b → (if b then v % limit_of (width_at cells k) else bits_at cells k) ≡ get_or starts k 0
    go k lt true f =
        let is : v ≡ get_or starts k 0 = e ∙ ap (λ i. get_or starts i 0) (same_number q k f) in
        let low : get_or starts k 0 < limit_of (width_at cells k) = subst (λ n. n < limit_of (width_at cells k)) (unwrap_or-slice_get starts k 0) (subst (λ w. unwrap_or (slice_get starts k) 0 < limit_of w) (ap (λ ws. unwrap_or (slice_get ws k) W32) (sym same) ∙ sym (width_at-widths cells k)) (right.within k)) in
        ap (λ n. n % limit_of (width_at cells k)) is ∙ mod-eq_of_lt low
    go k lt false f = let other : q ≢ k = grind (arith, nat_tests, f) in below.done k (omega arith)

    on : (k : ℕ) → q + 1 ≤ k → (b : Bool) → (q == k) ≡ b → (if b then v % limit_of (width_at cells k) else bits_at cells k) ≡ 0
    on k le true f = absurd (let g = same_number q k f in omega arith)
    on k le false f = below.ahead k (omega arith)

-- all cells have their start values
pub started_all : (starts : List ℕ) (bits : ℕ → ℕ) (n : ℕ) → length starts ≤ n → n ≤ length starts → StartedBelow starts bits n → (q : ℕ) → bits q ≡ unwrap_or (slice_get starts q) 0
started_all starts bits n le ge below q = go (nat_lt q n) refl ∙ sym (unwrap_or-slice_get starts q 0)
  where
    go : (b : Bool) → nat_lt q n ≡ b → bits q ≡ get_or starts q 0
    go true e = below.done q (grind (arith, nat_tests, e))
    go false e =
        let past : n ≤ q = grind (arith, nat_tests, e) in
        let over : length starts ≤ q = omega arith in
        below.ahead q past ∙ sym (get_or_past starts q 0 over)
