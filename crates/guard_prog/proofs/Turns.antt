-- Alternatives and sets, one after another.
use Rattle.std.proofs.Common.{◌≡◌, ℕ, suc, ◌-◌, ◌%◌, ◌<◌, Bool, true, false, ◌&&◌, if◌then◌else◌, ◌==◌, List, [], ◌∷◌, length, drop, get_or, drop-cons, Option, Some, unwrap_or, refl, sym, ◌∙◌, ap, subst, arith}
use Rattle.std.proofs.Math.Path.{fun_ext}
use Rattle.std.specs.List.{list_all}
use Rattle.std.proofs.lemmas.Bool.{and_parts}
use Rattle.std.proofs.lemmas.List.Folds.{list_all_at}
use Rattle.chk_base.specs.declared.sets.Set.{Set}
use Rattle.chk_base.specs.declared.word.Width.{Width}
use Rattle.chk_base.specs.Term.{term_of}
use Rattle.chk_base.specs.Widths.{limit_of}
use Rattle.chk_base.specs.Widths.{PlainWord}
use Rattle.guard_prog.specs.declared.draft.Alternative.{Alternative}
use Rattle.guard_prog.specs.declared.draft.Draft.{Draft}
use Rattle.guard_prog.specs.Drafts.{plain_sets, program_of, point_of}
use Rattle.guard_prog.specs.Executions.{bits_at, width_at, widths_of, is_takeable}
use Rattle.guard_prog.specs.GuardedRun.{PlainAlternative, State, alternative_with, alternatives_at, cell_after_sets, cells_after, enabled_of, is_fail, stack_after, takes_word, turn, turn_by, value_set, value_in}
use Rattle.guard_prog.specs.WellShaped.{IsWellShaped, input_fits, names_cells, sets_fit}
use Rattle.guard_prog.proofs.Cells.{width_at-program}

-- an alternative that isn't enabled, or has another label, is passed over
pub passed_over : (label : ℕ) (b : Bool) (a : PlainAlternative) (others : List PlainAlternative) → (b && (a.label == label)) ≡ false → alternative_with label (if b then a ∷ others else others) ≡ alternative_with label others
passed_over label true a others e = rw e refl
passed_over label false a others e = refl

-- an enabled alternative with the label is the one
pub found_first : (label : ℕ) (b : Bool) (a : PlainAlternative) (others : List PlainAlternative) → b ≡ true → (a.label == label) ≡ true → alternative_with label (if b then a ∷ others else others) ≡ Some a
found_first label b a others e f = rw (e, f) refl

-- one more set, in front of those that are done
pub set_in_front : (width : ℕ → Width) (bits old new : ℕ → ℕ) (s : Set) (others : List Set) (number : ℕ) → number ≡ value_in width bits (term_of s.value) → ((q : ℕ) → old q ≡ cell_after_sets width bits (plain_sets others) q) → ((q : ℕ) → new q ≡ (if s.cell == q then number % limit_of (width q) else old q)) → (q : ℕ) → new q ≡ cell_after_sets width bits (plain_sets (s ∷ others)) q
set_in_front width bits old new s others number e before after q = after q ∙ go (s.cell == q)
  where
    go : (b : Bool) → (if b then number % limit_of (width q) else old q) ≡ unwrap_or (if b then Some (value_in width bits (term_of s.value) % limit_of (width q)) else value_set width bits (plain_sets others) q) (bits q)
    go true = ap (λ k. k % limit_of (width q)) e
    go false = before q

-- each member of a list passes a test that all pass
pub passes_at : {X : Type 0} (test : X → Bool) (xs : List X) (i : ℕ) (x : X) → i < length xs → x ≡ get_or xs i x → list_all test xs ≡ true → test x ≡ true
passes_at test xs i x lt is all = go (test (get_or xs i x)) refl
  where
    go : (b : Bool) → test (get_or xs i x) ≡ b → test x ≡ true
    go true e = ap test is ∙ e
    go false e = absurd (let f = list_all_at test xs i x lt e in cc)

-- the rest of a list from the place before this one
pub drop_before : {X : Type 0} (xs : List X) (i : ℕ) (x : X) → 0 < i → i - 1 < length xs → x ≡ get_or xs (i - 1) x → drop (i - 1) xs ≡ x ∷ drop i xs
drop_before xs i x some lt is =
    let next : suc (i - 1) ≡ i = omega arith in
    drop-cons xs (i - 1) x lt ∙ ap (λ k. get_or xs (i - 1) x ∷ drop k xs) next ∙ ap (λ y. y ∷ drop i xs) (sym is)

-- what passes two tests passes both
pub list_all_both : {X : Type 0} (one other : X → Bool) (xs : List X) → list_all one xs ≡ true → list_all other xs ≡ true → list_all (λ x. one x && other x) xs ≡ true
list_all_both one other [] e f = refl
list_all_both one other (x ∷ xs) e f =
    let g = and_parts (one x) (list_all one xs) e in
    let h = and_parts (other x) (list_all other xs) f in
    rw (g.0, h.0) (list_all_both one other xs g.1 h.1)

-- the alternatives of a well-shaped draft can be taken
pub takeable_point : (d : Draft) (i : ℕ) → IsWellShaped d → list_all (is_takeable d.widths) (point_of d i) ≡ true
takeable_point d i shaped =
    list_all_both (λ (a : Alternative). names_cells (length d.widths) (term_of a.guard) && sets_fit (length d.widths) a.sets) (λ a. input_fits d.widths a.sets a.input) (point_of d i) (shaped.cells i) (shaped.inputs i)

-- an alternative that is taken, in terms of the cells
pub turn_by_taken : (d : Draft) (cells after : List PlainWord) (stack above : List ℕ) (a : PlainAlternative) (word : ℕ) (failed : Bool) → widths_of cells ≡ d.widths → takes_word a.input word ≡ true → stack_after d.depth a.control stack ≡ Some above → ((q : ℕ) → bits_at after q ≡ (if is_fail a.control then bits_at cells q else cells_after (width_at cells) (bits_at cells) word a.input a.sets q)) → turn_by (program_of d) (record { cells = bits_at cells; stack = stack; is_failed = failed }) word (Some a) ≡ Some (record { cells = bits_at after; stack = above; is_failed = is_fail a.control })
turn_by_taken d cells after stack above a word failed widths takes moves bits =
    rw (takes, moves) (ap (λ (cs : ℕ → ℕ). let s : State = record { cells = cs; stack = above; is_failed = is_fail a.control } in Some s) (fun_ext values))
  where
    go : (q : ℕ) (b : Bool) (width : ℕ → Width) → (if b then bits_at cells else cells_after width (bits_at cells) word a.input a.sets) q ≡ (if b then bits_at cells q else cells_after width (bits_at cells) word a.input a.sets q)
    go q true width = refl
    go q false width = refl

    values : (q : ℕ) → (if is_fail a.control then bits_at cells else cells_after (program_of d).width (bits_at cells) word a.input a.sets) q ≡ bits_at after q
    values q =
        subst (λ width. (if is_fail a.control then bits_at cells else cells_after width (bits_at cells) word a.input a.sets) q ≡ bits_at after q) (width_at-program d cells widths)
        (go q (is_fail a.control) (width_at cells) ∙ sym (bits q))

-- a turn, in terms of the cells
pub turn_by_found : (d : Draft) (cells : List PlainWord) (stack : List ℕ) (point : List PlainAlternative) (label word : ℕ) (o : Option PlainAlternative) (failed : Bool) → failed ≡ false → widths_of cells ≡ d.widths → point ≡ alternatives_at (program_of d) stack → o ≡ alternative_with label (enabled_of (width_at cells) (bits_at cells) point) → turn_by (program_of d) (record { cells = bits_at cells; stack = stack; is_failed = failed }) word o ≡ turn (program_of d) (record { cells = bits_at cells; stack = stack; is_failed = failed }) (label, word)
turn_by_found d cells stack point label word o true e widths top found = absurd (cc)
turn_by_found d cells stack point label word o false e widths top found =
    ap (turn_by (program_of d) (record { cells = bits_at cells; stack = stack; is_failed = false }) word)
    (found ∙ ap (λ width. alternative_with label (enabled_of width (bits_at cells) point)) (width_at-program d cells widths) ∙ ap (λ ps. alternative_with label (enabled_of (program_of d).width (bits_at cells) ps)) top)
