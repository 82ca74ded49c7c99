-- The bottom of the stack stays point 0.
use Rattle.std.proofs.Common.{◌≡◌, ℕ, ◌+◌, Bool, true, false, not, ◌&&◌, ◌||◌, if◌then◌else◌, ◌==◌, nat_lt, nat_le, List, [], ◌∷◌, ◌++◌, length, reverse, Some, None, refl, sym, ◌∙◌, ap, subst}
use Rattle.std.specs.List.{list_all}
use Rattle.std.proofs.lemmas.Bool.{and_parts, and_from}
use Rattle.std.proofs.lemmas.List.{reverse-append}
use Rattle.std.proofs.lemmas.List.Folds.{list_all-append}
use Rattle.chk_base.specs.declared.word.Width.{Width}
use Rattle.chk_base.specs.Operators.{truth}
use Rattle.chk_base.specs.Term.{term_of}
use Rattle.guard_prog.specs.declared.draft.Alternative.{Alternative}
use Rattle.guard_prog.specs.declared.draft.Control.{Control}
use Rattle.guard_prog.specs.declared.draft.Control.TheVariants.{Goto, Push, Pop, PopPush, Fail}
use Rattle.guard_prog.specs.declared.draft.Draft.{Draft}
use Rattle.guard_prog.specs.Drafts.{plain_of, plain_alternatives, point_of, program_of}
use Rattle.guard_prog.specs.GuardedRun.{PlainAlternative, State, alternative_with, alternatives_at, enabled_of, stack_after, start_of, value_in}
use Rattle.guard_prog.specs.Laws.{BottomStaysIdle, ends_idle}
use Rattle.guard_prog.specs.WellShaped.{IsWellShaped, begins_idle, is_idle_control, may_name, named_points}
use Rattle.guard_prog.proofs.Cells.{same_number}
use Rattle.guard_prog.proofs.Runs.{kept, taken}

-- an alternative of a draft's point, as it stands there, that passes a test
pub record Origin (test : Alternative → Bool) (a : PlainAlternative) : Type 0 where
  pub alternative : Alternative
  pub plain : plain_of alternative ≡ a
  pub passes : test alternative ≡ true

-- the alternative that is taken is one of the point's
pub origin : (test : Alternative → Bool) (width : ℕ → Width) (cells : ℕ → ℕ) (label : ℕ) (point : List Alternative) (a : PlainAlternative) → list_all test point ≡ true → alternative_with label (enabled_of width cells (plain_alternatives point)) ≡ Some a → Origin test a
origin test width cells label [] a all e = absurd (cc)
origin test width cells label (x ∷ others) a all e =
    let f = and_parts (test x) (list_all test others) all in
    go (truth (value_in width cells (term_of x.guard))) f.0 (λ h. origin test width cells label others a f.1 h) e
  where
    pick : (l : Bool) → test x ≡ true → (alternative_with label (enabled_of width cells (plain_alternatives others)) ≡ Some a → Origin test a) → (if l then Some (plain_of x) else alternative_with label (enabled_of width cells (plain_alternatives others))) ≡ Some a → Origin test a
    pick true p rest h = record { alternative = x; plain = cc; passes = p }
    pick false p rest h = rest h

    go : (b : Bool) → test x ≡ true → (alternative_with label (enabled_of width cells (plain_alternatives others)) ≡ Some a → Origin test a) → alternative_with label (if b then plain_of x ∷ enabled_of width cells (plain_alternatives others) else enabled_of width cells (plain_alternatives others)) ≡ Some a → Origin test a
    go true p rest h = pick (x.label == label) p rest h
    go false p rest h = rest h

-- at a point other than 0 no control names point 0
names_above : (n i : ℕ) (points : List ℕ) → (i == 0) ≡ false → list_all (may_name n i) points ≡ true → list_all (λ q. not (q == 0)) points ≡ true
names_above n i [] e all = refl
names_above n i (q ∷ points) e all =
    let f = and_parts (may_name n i q) (list_all (may_name n i) points) all in
    let g = and_parts (nat_lt q n) ((i == 0) || not (q == 0)) f.0 in
    and_from (not (q == 0)) (list_all (λ q. not (q == 0)) points) (go (i == 0) e g.1) (names_above n i points e f.1)
  where
    go : (b : Bool) → b ≡ false → (b || not (q == 0)) ≡ true → not (q == 0) ≡ true
    go true e h = absurd (cc)
    go false e h = h

-- a turn at the bottom alone
at_bottom : (depth : ℕ) (control : Control) (top : ℕ) (after : List ℕ) → is_idle_control control ≡ true → (top == 0) ≡ true → stack_after depth control (top ∷ []) ≡ Some after → ends_idle after ≡ true
at_bottom depth (Goto q) top after idle zero e = let f : q ∷ [] ≡ after = cc in subst (λ xs. ends_idle xs ≡ true) f idle
at_bottom depth (Push under start) top after idle zero e = go (nat_le 1 depth) e
  where
    go : (b : Bool) → (if b then Some (start ∷ under ∷ []) else None) ≡ Some after → ends_idle after ≡ true
    go true e =
        let f : start ∷ under ∷ [] ≡ after = cc in
        let g = and_parts (under == 0) (not (start == 0)) idle in
        subst (λ xs. ends_idle xs ≡ true) f (and_from (not (start == 0)) (under == 0) g.1 g.0)
    go false e = absurd (cc)
at_bottom depth Pop top after idle zero e = absurd (cc)
at_bottom depth (PopPush q) top after idle zero e = absurd (cc)
at_bottom depth Fail top after idle zero e = let f : top ∷ [] ≡ after = cc in subst (λ xs. ends_idle xs ≡ true) f zero

-- a turn above the bottom
above_bottom : (depth : ℕ) (control : Control) (top next : ℕ) (below after : List ℕ) → list_all (λ q. not (q == 0)) (named_points control) ≡ true → ends_idle (top ∷ next ∷ below) ≡ true → stack_after depth control (top ∷ next ∷ below) ≡ Some after → ends_idle after ≡ true
above_bottom depth (Goto q) top next below after names h e =
    let f : q ∷ next ∷ below ≡ after = cc in
    let g = and_parts (not (top == 0)) (ends_idle (next ∷ below)) h in
    let k = and_parts (not (q == 0)) true names in
    subst (λ xs. ends_idle xs ≡ true) f (and_from (not (q == 0)) (ends_idle (next ∷ below)) k.0 g.1)
above_bottom depth (Push under start) top next below after names h e = go (nat_le (length (top ∷ next ∷ below)) depth) e
  where
    go : (b : Bool) → (if b then Some (start ∷ under ∷ next ∷ below) else None) ≡ Some after → ends_idle after ≡ true
    go true e =
        let f : start ∷ under ∷ next ∷ below ≡ after = cc in
        let g = and_parts (not (top == 0)) (ends_idle (next ∷ below)) h in
        let k = and_parts (not (under == 0)) (not (start == 0) && true) names in
        let m = and_parts (not (start == 0)) true k.1 in
        subst (λ xs. ends_idle xs ≡ true) f (and_from (not (start == 0)) (not (under == 0) && ends_idle (next ∷ below)) m.0 (and_from (not (under == 0)) (ends_idle (next ∷ below)) k.0 g.1))
    go false e = absurd (cc)
above_bottom depth Pop top next below after names h e =
    let f : next ∷ below ≡ after = cc in
    let g = and_parts (not (top == 0)) (ends_idle (next ∷ below)) h in
    subst (λ xs. ends_idle xs ≡ true) f g.1
above_bottom depth (PopPush q) top next below after names h e =
    let f : q ∷ next ∷ below ≡ after = cc in
    let g = and_parts (not (top == 0)) (ends_idle (next ∷ below)) h in
    let k = and_parts (not (q == 0)) true names in
    subst (λ xs. ends_idle xs ≡ true) f (and_from (not (q == 0)) (ends_idle (next ∷ below)) k.0 g.1)
above_bottom depth Fail top next below after names h e =
    let f : top ∷ next ∷ below ≡ after = cc in subst (λ xs. ends_idle xs ≡ true) f h

-- what holds where a negation holds
isnt : (b : Bool) → not b ≡ true → b ≡ false
isnt true e = absurd (cc)
isnt false e = refl

-- a turn of a well-shaped draft keeps the bottom
keeps_bottom : (d : Draft) → IsWellShaped d → (cells : ℕ → ℕ) (label : ℕ) (stack after : List ℕ) (a : PlainAlternative) → alternative_with label (enabled_of (program_of d).width cells (alternatives_at (program_of d) stack)) ≡ Some a → stack_after d.depth a.control stack ≡ Some after → ends_idle stack ≡ true → ends_idle after ≡ true
keeps_bottom d shaped cells label [] after a found moves h = absurd (cc)
keeps_bottom d shaped cells label (top ∷ []) after a found moves h =
    let zero = same_number top 0 h in
    let all = subst (λ i. list_all (λ (x : Alternative). is_idle_control x.control) (point_of d i) ≡ true) (sym zero) shaped.idle in
    let o = origin (λ x. is_idle_control x.control) (program_of d).width cells label (point_of d top) a all found in
    at_bottom d.depth a.control top after (ap (λ (x : PlainAlternative). is_idle_control x.control) (sym o.plain) ∙ o.passes) h moves
keeps_bottom d shaped cells label (top ∷ next ∷ below) after a found moves h =
    let g = and_parts (not (top == 0)) (ends_idle (next ∷ below)) h in
    let o = origin (λ x. list_all (may_name (length d.points) top) (named_points x.control)) (program_of d).width cells label (point_of d top) a (shaped.controls top) found in
    let names = ap (λ (x : PlainAlternative). list_all (may_name (length d.points) top) (named_points x.control)) (sym o.plain) ∙ o.passes in
    above_bottom d.depth a.control top next below after (names_above (length d.points) top (named_points a.control) (isnt (top == 0) g.0) names) h moves

-- a list whose members pass a test, in the other order
list_all-reverse : (test : ℕ → Bool) (xs : List ℕ) → list_all test xs ≡ true → list_all test (reverse xs) ≡ true
list_all-reverse test [] all = refl
list_all-reverse test (x ∷ xs) all =
    let f = and_parts (test x) (list_all test xs) all in
    subst (λ ys. list_all test ys ≡ true) (sym (reverse-append (x ∷ []) xs))
    (list_all-append test (reverse xs) (x ∷ []) ∙ and_from (list_all test (reverse xs)) (test x && true) (list_all-reverse test xs f.1) (and_from (test x) true f.0 refl))

-- points that aren't 0 over point 0
over_bottom : (above : List ℕ) (bottom : ℕ) → list_all (λ q. not (q == 0)) above ≡ true → (bottom == 0) ≡ true → ends_idle (above ++ bottom ∷ []) ≡ true
over_bottom [] bottom all zero = zero
over_bottom (q ∷ []) bottom all zero = and_from (not (q == 0)) (bottom == 0) (and_parts (not (q == 0)) true all).0 zero
over_bottom (q ∷ next ∷ above) bottom all zero =
    let f = and_parts (not (q == 0)) (list_all (λ q. not (q == 0)) (next ∷ above)) all in
    and_from (not (q == 0)) (ends_idle (next ∷ above ++ bottom ∷ [])) f.0 (over_bottom (next ∷ above) bottom f.1 zero)

-- a stack that begins with point 0, top first
reversed_idle : (stack : List ℕ) → begins_idle stack ≡ true → ends_idle (reverse stack) ≡ true
reversed_idle [] e = absurd (cc)
reversed_idle (bottom ∷ above) e =
    let f = and_parts (bottom == 0) (list_all (λ q. not (q == 0)) above) e in
    subst (λ xs. ends_idle xs ≡ true) (sym (reverse-append (bottom ∷ []) above)) (over_bottom (reverse above) bottom (list_all-reverse (λ q. not (q == 0)) above f.1) f.0)

-- the bottom of the stack stays point 0
pub bottoms : BottomStaysIdle
bottoms d pairs s shaped r =
    kept (program_of d) (λ (x : State). ends_idle x.stack ≡ true)
    (λ from after pair e h. let t = taken (program_of d) from after pair e in keeps_bottom d shaped from.cells pair.0 from.stack after.stack t.alternative t.found t.stack h)
    pairs (start_of (program_of d)) s r.is
    (reversed_idle d.first (and_parts (begins_idle d.first) (list_all (λ q. nat_lt q (length d.points)) d.first && nat_le (length d.first) (d.depth + 1)) shaped.first).0)
