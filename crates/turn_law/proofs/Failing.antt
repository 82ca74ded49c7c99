-- The goal as the clause of the failure literals of all turns.
use Rattle.std.proofs.Common.{◌≡◌, ℕ, suc, zero, ◌<◌, ◌≤◌, Bool, true, false, not, ◌&&◌, ◌||◌, List, [], ◌∷◌, refl, sym, ◌∙◌, ap, subst, inl, inr, ◌⊎◌, arith, if◌then◌else◌, length, Option, Some, None, ◌==◌, nat_lt, take}
use Rattle.std.proofs.lemmas.Bool.Decides.{nat_tests}
use Rattle.clause_form.specs.declared.lit.Lit.{Lit}
use Rattle.clause_form.specs.ClauseTruth.{Values, is_lit_true, is_clause_true}
use Rattle.clause_form.specs.Literals.{AreOf, IsOf, has}
use Rattle.clause_form.proofs.Negations.{same_lit}
use Rattle.clause_form.proofs.Sets.{Each, each_has, each_at, has_self}
use Rattle.guard_prog.specs.GuardedRun.{Program, State, run, run_on, turn}
use Rattle.turn_law.specs.Padded.{Phase, trimmed}
use Rattle.turn_law.specs.Symbol.{Row, row_true, first_true, chosen, choices, AreRowsOf, Follows}
use Rattle.turn_law.specs.Unrolled.{AreLabelled, failures_of, failed_in, IsGoal}
use Rattle.turn_law.proofs.Padding.{Pads, Acts, step_cases, is_turn}

pub length-failures : (rs : List Row) → length (failures_of rs) ≡ length rs
length-failures [] = refl
length-failures (r ∷ rs) = ap suc (length-failures rs)

-- in the padding no turn fails
pads_on : (p : Program) (v : Values) (ph : Phase) (rs : List Row) (after : Phase) → ph.is_over ≡ true → Follows p v ph rs after → (t : ℕ) → t < length rs → row_true v (failures_of rs) t ≡ false
pads_on p v ph [] after o f t h = absurd (omega (arith, h))
pads_on p v ph (r ∷ rs) after o f t h = go t h (step_cases p ph (chosen v r) f.0 f.1.stepped) (λ e n l. pads_on p v f.0 rs after e f.2 n l)
  where
    go : (t : ℕ) → t < suc (length rs) → Pads ph (chosen v r) f.0 ⊎ Acts p ph (chosen v r) f.0 → (f.0.is_over ≡ true → (n : ℕ) → n < length rs → row_true v (failures_of rs) n ≡ false) → row_true v (failures_of (r ∷ rs)) t ≡ false
    go t h (inr k) rest = absurd (let x = k.lives in cc)
    go zero h (inl k) rest = f.1.unfailed (ap (λ c. c.0) k.pair)
    go (suc n) h (inl k) rest = rest (ap (λ q. q.is_over) k.ends) n (omega (arith, h))

lt_none : (a : ℕ) → nat_lt a 0 ≡ false
lt_none a = grind (arith, nat_tests)

lt_some : (b : ℕ) → nat_lt 0 (suc b) ≡ true
lt_some b = grind (arith, nat_tests)

lt_suc : (a b : ℕ) → nat_lt (suc a) (suc b) ≡ nat_lt a b
lt_suc a b = go (nat_lt a b) refl
  where
    go : (c : Bool) → nat_lt a b ≡ c → nat_lt (suc a) (suc b) ≡ c
    go true e = grind (arith, nat_tests, e)
    go false e = grind (arith, nat_tests, e)

-- a turn's failure literal is true exactly where the run has that turn and fails in it
pub fails_at : (p : Program) → AreLabelled p → (v : Values) (ph : Phase) (rs : List Row) (after : Phase) → Follows p v ph rs after → (t : ℕ) → t < length rs → (end : State) → run p (take (suc t) (trimmed (choices v rs))) ph.state ≡ Some end → row_true v (failures_of rs) t ≡ (nat_lt t (length (trimmed (choices v rs))) && end.is_failed)
fails_at p a v ph [] after f t h end e = absurd (omega (arith, h))
fails_at p a v ph (r ∷ rs) after f t h end e = go t h e (step_cases p ph (chosen v r) f.0 f.1.stepped) (λ n l d. fails_at p a v f.0 rs after f.2 n l end d)
  where
    at : (cs : List (ℕ × ℕ)) → ℕ → Bool
    at cs t = nat_lt t (length cs) && end.is_failed

    rest_of : List (ℕ × ℕ)
    rest_of = trimmed (choices v rs)

    here : (k : Acts p ph (chosen v r) f.0) → Some f.0.state ≡ Some end → is_lit_true v r.failure ≡ end.is_failed
    here k e =
        let i : f.0.state ≡ end = cc in
        let u = (is_turn p a ph.state f.0.state (chosen v r) k.turns).unfailed in
        (ap (λ b. b || is_lit_true v r.failure) (sym u)) ∙ f.1.failure ∙ ap (λ s. s.is_failed) i

    acts : (t : ℕ) → t < suc (length rs) → (k : Acts p ph (chosen v r) f.0) → run_on (run p (take t rest_of)) (Some f.0.state) ≡ Some end → ((n : ℕ) → n < length rs → run p (take (suc n) rest_of) f.0.state ≡ Some end → row_true v (failures_of rs) n ≡ at rest_of n) → row_true v (failures_of (r ∷ rs)) t ≡ at (chosen v r ∷ rest_of) t
    acts zero h k e rest = here k e ∙ ap (λ b. b && end.is_failed) (sym (lt_some (length rest_of)))
    acts (suc n) h k e rest = rest n (omega (arith, h)) e ∙ ap (λ b. b && end.is_failed) (sym (lt_suc n (length rest_of)))

    go : (t : ℕ) → t < suc (length rs) → run p (take (suc t) (if (chosen v r).0 == 0 then [] else chosen v r ∷ rest_of)) ph.state ≡ Some end → Pads ph (chosen v r) f.0 ⊎ Acts p ph (chosen v r) f.0 → ((n : ℕ) → n < length rs → run p (take (suc n) rest_of) f.0.state ≡ Some end → row_true v (failures_of rs) n ≡ at rest_of n) → row_true v (failures_of (r ∷ rs)) t ≡ at (if (chosen v r).0 == 0 then [] else chosen v r ∷ rest_of) t
    go t h e (inl k) rest =
        let z : ((chosen v r).0 == 0) ≡ true = ap (λ q. q.0 == 0) k.pair in
        rw z (padded t h k ∙ ap (λ b. b && end.is_failed) (sym (lt_none t)))
      where
        padded : (t : ℕ) → t < suc (length rs) → Pads ph (chosen v r) f.0 → row_true v (failures_of (r ∷ rs)) t ≡ false
        padded zero h k = f.1.unfailed (ap (λ c. c.0) k.pair)
        padded (suc n) h k = pads_on p v f.0 rs after (ap (λ q. q.is_over) k.ends) f.2 n (omega (arith, h))
    go t h e (inr k) rest =
        let d : run p (take (suc t) (chosen v r ∷ rest_of)) ph.state ≡ Some end = subst (λ b. run p (take (suc t) (if b then [] else chosen v r ∷ rest_of)) ph.state ≡ Some end) k.label e in
        let g : run_on (run p (take t rest_of)) (Some f.0.state) ≡ Some end = ap (run_on (run p (take t rest_of))) (sym k.turns) ∙ d in
        rw k.label (acts t h k g rest)

-- ---- clauses with the same literals
clause_at : (v : Values) (ls : List Lit) (l : Lit) → has ls l ≡ true → is_lit_true v l ≡ true → is_clause_true v ls ≡ true
clause_at v [] l h t = absurd (cc)
clause_at v (x ∷ xs) l h t = go (x.0 == l.0) refl (clause_at v xs l)
  where
    or_true : (b : Bool) → (b || true) ≡ true
    or_true true = refl
    or_true false = refl

    go : (b : Bool) → (x.0 == l.0) ≡ b → (has xs l ≡ true → is_lit_true v l ≡ true → is_clause_true v xs ≡ true) → (is_lit_true v x || is_clause_true v xs) ≡ true
    go true e rest = rw (ap (is_lit_true v) (same_lit x l (grind (arith, nat_tests, e))) ∙ t) refl
    go false e rest = rw (rest (grind (arith, nat_tests, e, h)) t) (or_true (is_lit_true v x))

clause_part : (v : Values) (a b : List Lit) → Each (λ l. is_lit_true v l ≡ true → is_clause_true v b ≡ true) a → is_clause_true v a ≡ true → is_clause_true v b ≡ true
clause_part v [] b h t = absurd (cc)
clause_part v (l ∷ ls) b h t = go (is_lit_true v l) refl t (clause_part v ls b h.1)
  where
    go : (c : Bool) → is_lit_true v l ≡ c → (c || is_clause_true v ls) ≡ true → (is_clause_true v ls ≡ true → is_clause_true v b ≡ true) → is_clause_true v b ≡ true
    go true e t rest = h.0 e
    go false e t rest = rest t

-- clauses with the same literals have the same truth
clause_same : (v : Values) (a b : List Lit) → ((l : Lit) → has a l ≡ has b l) → is_clause_true v a ≡ is_clause_true v b
clause_same v a b h = go (is_clause_true v a) (is_clause_true v b) there back
  where
    there : is_clause_true v a ≡ true → is_clause_true v b ≡ true
    there = clause_part v a b (each_has (λ l. is_lit_true v l ≡ true → is_clause_true v b ≡ true) a (λ l i. clause_at v b l (sym (h l) ∙ i)))

    back : is_clause_true v b ≡ true → is_clause_true v a ≡ true
    back = clause_part v b a (each_has (λ l. is_lit_true v l ≡ true → is_clause_true v a ≡ true) b (λ l i. clause_at v a l (h l ∙ i)))

    go : (x y : Bool) → (x ≡ true → y ≡ true) → (y ≡ true → x ≡ true) → x ≡ y
    go true y f g = sym (f refl)
    go false true f g = g refl
    go false false f g = refl

-- ---- what the goal has
failures_true : (v : Values) (rs : List Row) → is_clause_true v (failures_of rs) ≡ failed_in v rs
failures_true v [] = refl
failures_true v (r ∷ rs) = ap (λ b. is_lit_true v r.failure || b) (failures_true v rs)

-- it is true exactly where a turn fails
pub goal_fails : (v : Values) (rs : List Row) (goal : List Lit) → IsGoal rs goal → is_clause_true v goal ≡ failed_in v rs
goal_fails v rs goal g = clause_same v goal (failures_of rs) g.same ∙ failures_true v rs

failures_inside : (n : ℕ) (rs : List Row) → AreRowsOf n rs → Each (IsOf n) (failures_of rs)
failures_inside n [] o = tt
failures_inside n (r ∷ rs) o = (o.0.failure, failures_inside n rs o.1)

are_each : (n : ℕ) (ls : List Lit) → Each (IsOf n) ls → AreOf n ls
are_each n [] e = tt
are_each n (l ∷ ls) e = (e.0, are_each n ls e.1)

-- its variables are the formula's
pub goal_inside : (n : ℕ) (rs : List Row) (goal : List Lit) → AreRowsOf n rs → IsGoal rs goal → AreOf n goal
goal_inside n rs goal o g =
    are_each n goal (each_has (IsOf n) goal (λ l i. each_at (IsOf n) (failures_of rs) (failures_inside n rs o) l (sym (g.same l) ∙ i)))

-- and it has one, where there is a turn
pub goal_some : (rs : List Row) (goal : List Lit) → 0 < length rs → IsGoal rs goal → 0 < length goal
goal_some [] goal h g = absurd (omega (arith, h))
goal_some (r ∷ rs) [] h g = absurd (let x = has_self r.failure (failures_of rs) in let y = g.same r.failure in cc)
goal_some (r ∷ rs) (l ∷ ls) h g = omega arith
