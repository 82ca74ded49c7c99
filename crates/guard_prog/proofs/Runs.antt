-- Runs turn by turn: prefixes, failures, and what each turn keeps.
use Rattle.std.proofs.Common.{◌≡◌, ℕ, ◌+◌, ◌≤◌, Bool, true, false, if◌then◌else◌, List, [], ◌∷◌, ◌++◌, length, Option, Some, None, refl, sym, ◌∙◌, ap, subst, nat_le, nat_lt, ◌&&◌, arith}
use Rattle.std.specs.List.{list_all}
use Rattle.std.proofs.lemmas.Bool.{and_parts}
use Rattle.std.proofs.lemmas.Bool.Decides.{nat_tests}
use Rattle.std.proofs.lemmas.List.{length-reverse}
use Rattle.guard_prog.specs.declared.draft.Control.{Control}
use Rattle.guard_prog.specs.declared.draft.Control.TheVariants.{Goto, Push, Pop, PopPush, Fail}
use Rattle.guard_prog.specs.declared.draft.Draft.{Draft}
use Rattle.guard_prog.specs.Drafts.{program_of}
use Rattle.guard_prog.specs.WellShaped.{IsWellShaped, begins_idle}
use Rattle.guard_prog.specs.GuardedRun.{Program, State, PlainAlternative, alternative_with, alternatives_at, cells_after, enabled_of, run, run_on, start_of, state_after, stack_after, takes_word, turn, turn_by, is_fail}
use Rattle.guard_prog.specs.Laws.{PrefixesAreRuns, FailureEndsRuns, DepthStaysWithin}

-- a run of two parts: the state between them
record Parts (p : Program) (pairs more : List (ℕ × ℕ)) (from last : State) : Type 0 where
  between : State
  here : run p pairs from ≡ Some between
  there : run p more between ≡ Some last

parts : (p : Program) (pairs more : List (ℕ × ℕ)) (from last : State) → run p (pairs ++ more) from ≡ Some last → Parts p pairs more from last
parts p [] more from last e = record { between = from; here = refl; there = e }
parts p (pair ∷ pairs) more from last e = go (turn p from pair) refl e (λ mid f. parts p pairs more mid last f)
  where
    go : (o : Option State) → turn p from pair ≡ o → run_on (run p (pairs ++ more)) o ≡ Some last → ((mid : State) → run p (pairs ++ more) mid ≡ Some last → Parts p pairs more mid last) → Parts p (pair ∷ pairs) more from last
    go None f g rest = absurd (cc)
    go (Some mid) f g rest = let r = rest mid g in record { between = r.between; here = rw f r.here; there = r.there }

-- a prefix of a run is a run
pub prefixes : PrefixesAreRuns
prefixes p pairs more r =
    let s = parts p pairs more (start_of p) r.state r.is.is in
    record { state = s.between; is = record { is = s.here } }

-- no turn starts after a failure
stops : (p : Program) (s : State) (pair : ℕ × ℕ) → s.is_failed ≡ true → turn p s pair ≡ None
stops p s pair e = rw e refl

-- after a failure no turn follows
pub failures : FailureEndsRuns
failures p pairs more pair s r failed longer =
    let t = parts p pairs (pair ∷ more) (start_of p) longer.state longer.is.is in
    let e : Some t.between ≡ Some s = sym t.here ∙ r.is in
    let f : t.between ≡ s = cc in
    let g = stops p t.between pair (ap (λ (x : State). x.is_failed) f ∙ failed) in
    absurd (let h : None ≡ Some longer.state = sym (ap (run_on (run p more)) g) ∙ t.there in cc)

-- what each turn keeps holds after a run
pub kept : (p : Program) (Holds : State → Type 0) → ((s after : State) (pair : ℕ × ℕ) → turn p s pair ≡ Some after → Holds s → Holds after) → (pairs : List (ℕ × ℕ)) (from last : State) → run p pairs from ≡ Some last → Holds from → Holds last
kept p Holds keeps [] from last e h = let f : from ≡ last = cc in subst Holds f h
kept p Holds keeps (pair ∷ pairs) from last e h = go (turn p from pair) refl e (λ mid f g. kept p Holds keeps pairs mid last g (keeps from mid pair f h))
  where
    go : (o : Option State) → turn p from pair ≡ o → run_on (run p pairs) o ≡ Some last → ((mid : State) → turn p from pair ≡ Some mid → run p pairs mid ≡ Some last → Holds last) → Holds last
    go None f g rest = absurd (cc)
    go (Some mid) f g rest = rest mid f g

-- what a turn did: the alternative that was taken, its word, the stack and the cells
pub record Taken (p : Program) (s after : State) (pair : ℕ × ℕ) : Type 0 where
  pub alternative : PlainAlternative
  pub found : alternative_with pair.0 (enabled_of p.width s.cells (alternatives_at p s.stack)) ≡ Some alternative
  pub word : takes_word alternative.input pair.1 ≡ true
  pub stack : stack_after p.depth alternative.control s.stack ≡ Some after.stack
  pub cells : (if is_fail alternative.control then s.cells else cells_after p.width s.cells pair.1 alternative.input alternative.sets) ≡ after.cells

pub taken : (p : Program) (s after : State) (pair : ℕ × ℕ) → turn p s pair ≡ Some after → Taken p s after pair
taken p s after pair e = unfailed s.is_failed refl e
  where
    stacked : (a : PlainAlternative) → alternative_with pair.0 (enabled_of p.width s.cells (alternatives_at p s.stack)) ≡ Some a → takes_word a.input pair.1 ≡ true → (o : Option (List ℕ)) → stack_after p.depth a.control s.stack ≡ o → state_after p s a pair.1 o ≡ Some after → Taken p s after pair
    stacked a f w None g e = absurd (cc)
    stacked a f w (Some stack) g e =
        let new : State = record { cells = if is_fail a.control then s.cells else cells_after p.width s.cells pair.1 a.input a.sets; stack = stack; is_failed = is_fail a.control } in
        let h : new ≡ after = cc in
        record {
          alternative = a;
          found = f;
          word = w;
          stack = g ∙ ap {B = Option (List ℕ)} (λ (x : State). Some x.stack) h;
          cells = ap (λ (x : State). x.cells) h;
        }

    worded : (a : PlainAlternative) → alternative_with pair.0 (enabled_of p.width s.cells (alternatives_at p s.stack)) ≡ Some a → (b : Bool) → takes_word a.input pair.1 ≡ b → (if b then state_after p s a pair.1 (stack_after p.depth a.control s.stack) else None) ≡ Some after → Taken p s after pair
    worded a f true w e = stacked a f w (stack_after p.depth a.control s.stack) refl e
    worded a f false w e = absurd (cc)

    chosen : (o : Option PlainAlternative) → alternative_with pair.0 (enabled_of p.width s.cells (alternatives_at p s.stack)) ≡ o → turn_by p s pair.1 o ≡ Some after → Taken p s after pair
    chosen None f e = absurd (cc)
    chosen (Some a) f e = worded a f (takes_word a.input pair.1) refl e

    unfailed : (b : Bool) → s.is_failed ≡ b → (if b then None else turn_by p s pair.1 (alternative_with pair.0 (enabled_of p.width s.cells (alternatives_at p s.stack)))) ≡ Some after → Taken p s after pair
    unfailed true f e = absurd (cc)
    unfailed false f e = chosen (alternative_with pair.0 (enabled_of p.width s.cells (alternatives_at p s.stack))) refl e

-- a list with an end that passes the test is longer than another by what was put on it
pub stack_within : (depth : ℕ) (control : Control) (stack after : List ℕ) → stack_after depth control stack ≡ Some after → length stack ≤ depth + 1 → length after ≤ depth + 1
stack_within depth (Goto q) [] after e le = absurd (cc)
stack_within depth (Goto q) (top ∷ below) after e le = let f : q ∷ below ≡ after = cc in subst (λ xs. length xs ≤ depth + 1) f le
stack_within depth (Push under start) [] after e le = absurd (cc)
stack_within depth (Push under start) (top ∷ below) after e le = go (nat_le (length (top ∷ below)) depth) refl e
  where
    go : (b : Bool) → nat_le (length (top ∷ below)) depth ≡ b → (if b then Some (start ∷ under ∷ below) else None) ≡ Some after → length after ≤ depth + 1
    go true f e =
        let g : start ∷ under ∷ below ≡ after = cc in
        let h : length (top ∷ below) ≤ depth = grind (arith, nat_tests, f) in
        subst (λ xs. length xs ≤ depth + 1) g (omega arith)
    go false f e = absurd (cc)
stack_within depth Pop [] after e le = absurd (cc)
stack_within depth Pop (top ∷ []) after e le = absurd (cc)
stack_within depth Pop (top ∷ next ∷ below) after e le = let f : next ∷ below ≡ after = cc in subst (λ xs. length xs ≤ depth + 1) f (omega (arith, le))
stack_within depth (PopPush q) [] after e le = absurd (cc)
stack_within depth (PopPush q) (top ∷ []) after e le = absurd (cc)
stack_within depth (PopPush q) (top ∷ next ∷ below) after e le = let f : q ∷ next ∷ below ≡ after = cc in subst (λ xs. length xs ≤ depth + 1) f le
stack_within depth Fail [] after e le = absurd (cc)
stack_within depth Fail (top ∷ below) after e le = let f : top ∷ below ≡ after = cc in subst (λ xs. length xs ≤ depth + 1) f le

-- the stack at the start has as many points as the draft says
first_within : (d : Draft) → IsWellShaped d → length d.first ≤ d.depth + 1
first_within d shaped =
    let f = and_parts (begins_idle d.first) (list_all (λ q. nat_lt q (length d.points)) d.first && nat_le (length d.first) (d.depth + 1)) shaped.first in
    let g = and_parts (list_all (λ q. nat_lt q (length d.points)) d.first) (nat_le (length d.first) (d.depth + 1)) f.1 in
    grind (arith, nat_tests, g.1)

-- the stack stays within the depth
pub depths : DepthStaysWithin
depths d pairs s shaped r =
    kept (program_of d) (λ (x : State). length x.stack ≤ d.depth + 1)
    (λ from after pair e le. let t = taken (program_of d) from after pair e in stack_within d.depth t.alternative.control from.stack after.stack t.stack le)
    pairs (start_of (program_of d)) s r.is
    (let f = first_within d shaped in let g = length-reverse d.first in omega arith)
