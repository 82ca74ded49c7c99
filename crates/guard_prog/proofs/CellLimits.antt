-- The values of cells stay within their widths.
use Rattle.std.proofs.Common.{◌≡◌, ℕ, ◌%◌, ◌^◌, ◌<◌, ◌&&◌, length, nat_le, Bool, true, false, if◌then◌else◌, ◌==◌, nat_lt, List, [], ◌∷◌, Option, Some, None, unwrap_or, slice_get, refl, sym, ap, subst, arith}
use Rattle.std.proofs.Math.Nat.{mod-lt}
use Rattle.std.proofs.lemmas.Bool.{and_parts}
use Rattle.std.proofs.lemmas.Bool.Decides.{nat_tests}
use Rattle.chk_base.specs.declared.sets.Set.{Set}
use Rattle.chk_base.specs.declared.word.Width.{Width}
use Rattle.chk_base.specs.declared.word.Width.TheVariants.{W1, W8, W16, W32}
use Rattle.chk_base.specs.Term.{Term}
use Rattle.chk_base.specs.Widths.{bits_of, limit_of}
use Rattle.guard_prog.specs.declared.draft.Draft.{Draft}
use Rattle.guard_prog.specs.Drafts.{plain_sets, point_of, program_of}
use Rattle.guard_prog.specs.GuardedRun.{PlainAlternative, State, alternative_with, alternatives_at, cell_after_input, cell_after_sets, cells_after, enabled_of, is_fail, start_of, takes_word, value_in, value_set}
use Rattle.guard_prog.specs.Laws.{CellsStayWithin}
use Rattle.guard_prog.specs.WellShaped.{IsWellShaped, input_fits, is_width, starts_fit}
use Rattle.guard_prog.proofs.Bottoms.{origin}
use Rattle.guard_prog.proofs.Cells.{same_number, starts_are}
use Rattle.guard_prog.proofs.Runs.{kept, taken}

-- a width has values
some_value : (w : Width) → 0 < limit_of w
some_value W1 = omega arith
some_value W8 = omega arith
some_value W16 = omega arith
some_value W32 = omega arith

-- sets keep the cells within their widths
sets_within : (width : ℕ → Width) (cells : ℕ → ℕ) (sets : List (ℕ × Term)) (q : ℕ) → cells q < limit_of (width q) → cell_after_sets width cells sets q < limit_of (width q)
sets_within width cells [] q lt = lt
sets_within width cells (s ∷ others) q lt = go (s.0 == q) (sets_within width cells others q lt)
  where
    go : (b : Bool) → cell_after_sets width cells others q < limit_of (width q) → unwrap_or (if b then Some (value_in width cells s.1 % limit_of (width q)) else value_set width cells others q) (cells q) < limit_of (width q)
    go true rest = mod-lt (value_in width cells s.1) (some_value (width q))
    go false rest = rest

-- a width that is this one has its limit
same_limit : (o : Option Width) (w : Width) → is_width o w ≡ true → limit_of w ≡ limit_of (unwrap_or o W32)
same_limit None w e = absurd (cc)
same_limit (Some v) w e = ap (λ n. 2 ^ n) (sym (same_number (bits_of v) (bits_of w) e))

-- so does a word of the input's width
input_within : (d : Draft) (cells : ℕ → ℕ) (word : ℕ) (w : Width) (sets : List Set) (q : ℕ) → input_fits d.widths sets (Some w) ≡ true → word < limit_of w → cells q < limit_of ((program_of d).width q) → cell_after_input (program_of d).width cells word (plain_sets sets) q < limit_of ((program_of d).width q)
input_within d cells word w [] q fits small lt = lt
input_within d cells word w (s ∷ others) q fits small lt = go (s.cell == q) refl
  where
    go : (b : Bool) → (s.cell == q) ≡ b → (if b then word else cell_after_sets (program_of d).width cells (plain_sets others) q) < limit_of ((program_of d).width q)
    go true e =
        let at = same_number s.cell q e in
        let same = same_limit (slice_get d.widths s.cell) w fits in
        subst (λ i. word < limit_of (unwrap_or (slice_get d.widths i) W32)) at (subst (λ n. word < n) same small)
    go false e = sets_within (program_of d).width cells (plain_sets others) q lt

-- and so does what an alternative sets
after_within : (d : Draft) (cells : ℕ → ℕ) (word : ℕ) (input : Option Width) (sets : List Set) (q : ℕ) → input_fits d.widths sets input ≡ true → takes_word input word ≡ true → cells q < limit_of ((program_of d).width q) → cells_after (program_of d).width cells word input (plain_sets sets) q < limit_of ((program_of d).width q)
after_within d cells word None sets q fits takes lt = sets_within (program_of d).width cells (plain_sets sets) q lt
after_within d cells word (Some w) sets q fits takes lt = input_within d cells word w sets q fits (grind (arith, nat_tests, takes)) lt

-- a turn of a well-shaped draft keeps the cells within their widths
keeps_within : (d : Draft) → IsWellShaped d → (cells : ℕ → ℕ) (label word : ℕ) (stack : List ℕ) (a : PlainAlternative) (q : ℕ) → alternative_with label (enabled_of (program_of d).width cells (alternatives_at (program_of d) stack)) ≡ Some a → takes_word a.input word ≡ true → cells q < limit_of ((program_of d).width q) → (if is_fail a.control then cells else cells_after (program_of d).width cells word a.input a.sets) q < limit_of ((program_of d).width q)
keeps_within d shaped cells label word [] a q found takes lt = absurd (cc)
keeps_within d shaped cells label word (top ∷ below) a q found takes lt = go (is_fail a.control)
  where
    set : cells_after (program_of d).width cells word a.input a.sets q < limit_of ((program_of d).width q)
    set =
        let o = origin (λ x. input_fits d.widths x.sets x.input) (program_of d).width cells label (point_of d top) a (shaped.inputs top) found in
        subst (λ (x : PlainAlternative). cells_after (program_of d).width cells word x.input x.sets q < limit_of ((program_of d).width q)) o.plain
        (after_within d cells word o.alternative.input o.alternative.sets q o.passes (subst (λ (x : PlainAlternative). takes_word x.input word ≡ true) (sym o.plain) takes) lt)

    go : (b : Bool) → (if b then cells else cells_after (program_of d).width cells word a.input a.sets) q < limit_of ((program_of d).width q)
    go true = lt
    go false = set

-- the start values of a well-shaped draft fit
starts_right : (d : Draft) → IsWellShaped d → starts_fit d.widths d.starts ≡ true
starts_right d shaped =
    let f = and_parts (nat_le 1 (length d.points)) (nat_le (length d.points) (2 ^ 16) && (nat_lt (length d.widths) (2 ^ 16) && starts_fit d.widths d.starts)) shaped.sizes in
    let g = and_parts (nat_le (length d.points) (2 ^ 16)) (nat_lt (length d.widths) (2 ^ 16) && starts_fit d.widths d.starts) f.1 in
    (and_parts (nat_lt (length d.widths) (2 ^ 16)) (starts_fit d.widths d.starts) g.1).1

-- each cell's value stays below 2 to its width
pub cells : CellsStayWithin
cells d pairs s shaped r =
    kept (program_of d) (λ (x : State). (q : ℕ) → x.cells q < limit_of ((program_of d).width q))
    (λ from after pair e h q.
    let t = taken (program_of d) from after pair e in
    subst (λ (cs : ℕ → ℕ). cs q < limit_of ((program_of d).width q)) t.cells
    (keeps_within d shaped from.cells pair.0 pair.1 from.stack t.alternative q t.found t.word (h q)))
    pairs (start_of (program_of d)) s r.is
    (λ q. (starts_are d.widths d.starts (starts_right d shaped)).within q)
