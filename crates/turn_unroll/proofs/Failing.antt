-- The failure literals of the turns, and the goal made of them.
use Rattle.std.proofs.Common.{◌≡◌, ℕ, suc, zero, ◌+◌, ◌<◌, ◌≤◌, Bool, true, false, not, ◌&&◌, ◌||◌, List, [], ◌∷◌, ◌++◌, refl, sym, ◌∙◌, ap, subst, arith, if◌then◌else◌, length, ◌==◌, nat_lt, take, drop}
use Rattle.std.proofs.lemmas.Bool.Decides.{nat_tests}
use Rattle.std.proofs.lemmas.List.{append_assoc, append-nil}
use Rattle.std.proofs.Math.ListN.{drop_of_length-le}
use Rattle.std.proofs.Math.Seq.{drop-cons}
use Rattle.clause_form.specs.declared.lit.Lit.{Lit}
use Rattle.clause_form.specs.ClauseTruth.{Values, is_lit_true}
use Rattle.clause_form.specs.Literals.{IsOf, has, last_variable, rises_above, variable}
use Rattle.clause_form.proofs.Agreement.{is_lit_true-agree}
use Rattle.clause_form.proofs.Negations.{same_lit}
use Rattle.clause_form.proofs.Rising.{last_variable-push, rises_above-push}
use Rattle.clause_form.proofs.Sets.{has-append}
use Rattle.guard_prog.specs.GuardedRun.{Program}
use Rattle.bit_circuit.specs.Extension.{IsModel, PlainFormula}
use Rattle.turn_law.specs.Building.{HasTruth, free_of, is_no}
use Rattle.turn_law.specs.Padded.{ended}
use Rattle.turn_law.specs.Symbol.{MakesTurn, Row, Symbol, Unrolls, first_true, no, nth}
use Rattle.turn_law.specs.Unrolled.{IsGoal, failures_of}
use Rattle.turn_law.proofs.Freedom.{no_false}
use Rattle.turn_unroll.specs.Goals.{failure_with, front_of, goal_of, last_with}
use Rattle.turn_unroll.proofs.Making.{never_variable, never_within, take_more, take_whole}

-- ---- a failure of an older variable is never true
failure_old : (p : Program) (old new : PlainFormula) (before after : Symbol) (rows : List Row) (r : Row) → Unrolls p old before rows → MakesTurn p old new before after r → variable r.failure ≤ old.variables → (v : Values) → IsModel v new → is_lit_true v r.failure ≡ false
failure_old p old new before after rows r u t h v m =
    let q = u.reached v (t.keeps v m) in
    let g = t.goes_on v (t.keeps v m) q.phase q.means (0, 0) (ended q.phase) refl in
    let w = u.reached g.values (t.keeps g.values g.model) in
    let k = t.taken g.values g.model w.phase w.means in
    let z : first_true g.values r.labels ≡ 0 = ap (λ c. c.0) g.chooses in
    is_lit_true-agree old.variables v g.values r.failure (record { least = t.inside.failure.least; most = h }) g.agree ∙ k.takes.unfailed z

-- the row with another failure literal
abbrev pub with_failure : Row → Lit → Row
with_failure r l = record { labels = r.labels; word = r.word; depth = r.depth; failure = l }

-- a turn's failure literal may be any of the same truth
makes_with : (p : Program) (old new : PlainFormula) (before after : Symbol) (r : Row) (l : Lit) → MakesTurn p old new before after r → IsOf new.variables l → ((v : Values) → IsModel v new → is_lit_true v l ≡ is_lit_true v r.failure) → MakesTurn p old new before after (with_failure r l)
makes_with p old new before after r l t o e = record {
  grows = t.grows;
  keeps = t.keeps;
  inside = record { labels = t.inside.labels; word = t.inside.word; depth = t.inside.depth; failure = o };
  taken = λ v m ph k.
      let q = t.taken v m ph k in
      record {
        after = q.after;
        takes = record { once = q.takes.once; stepped = q.takes.stepped; depth = q.takes.depth; failure = ap (λ b. ph.state.is_failed || b) (e v m) ∙ q.takes.failure; unfailed = λ z. e v m ∙ q.takes.unfailed z };
        means = q.means;
      };
  goes_on = λ v m ph k c next s.
      let g = t.goes_on v m ph k c next s in
      record { values = g.values; agree = g.agree; model = g.model; chooses = g.chooses; only = g.only };
}

-- the turn with the literal that is taken for its failure
pub makes_failure : (p : Program) (old new : PlainFormula) (before after : Symbol) (rows : List Row) (r : Row) (last : ℕ) → HasTruth old → last ≤ old.variables → Unrolls p old before rows → MakesTurn p old new before after r → MakesTurn p old new before after (with_failure r (failure_with last r.failure))
makes_failure p old new before after rows r last k h u t = go (nat_lt last (variable r.failure)) refl
  where
    go : (b : Bool) → nat_lt last (variable r.failure) ≡ b → MakesTurn p old new before after (with_failure r (if b then r.failure else no))
    go true e = makes_with p old new before after r r.failure t t.inside.failure (λ v m. refl)
    go false e =
        let old_one : variable r.failure ≤ old.variables = grind (arith, nat_tests, h, e) in
        makes_with p old new before after r no t (never_within new.variables (omega (arith, k.starts, t.grows))) (λ v m. no_false v (k.one v (t.keeps v m)) ∙ sym (failure_old p old new before after rows r u t old_one v m))

-- ---- the literals that aren't constantly false
above_free : (l : Lit) → 1 < variable l → is_no l ≡ false
unfolding variable
above_free l h = grind (arith, nat_tests, h)

free_append : (xs ys : List Lit) → free_of (xs ++ ys) ≡ free_of xs ++ free_of ys
free_append [] ys = refl
free_append (x ∷ xs) ys = go (is_no x) (free_append xs ys)
  where
    go : (b : Bool) → free_of (xs ++ ys) ≡ free_of xs ++ free_of ys → (if b then free_of (xs ++ ys) else x ∷ free_of (xs ++ ys)) ≡ (if b then free_of xs else x ∷ free_of xs) ++ free_of ys
    go true e = e
    go false e = ap (λ zs. x ∷ zs) e

last_least : (k : ℕ) (ls : List Lit) → rises_above k ls ≡ true → k ≤ last_variable k ls
last_least k [] r = omega arith
last_least k (l ∷ ls) r =
    let a : k < variable l = grind (arith, nat_tests, r) in
    let b : rises_above (variable l) ls ≡ true = grind (arith, nat_tests, r) in
    omega (arith, a, last_least (variable l) ls b)

-- with one more failure literal
pub record Grown (now : List Lit) (new : ℕ) : Type 0 where
  pub rises : rises_above 1 (free_of now) ≡ true
  pub ends : last_variable 1 (free_of now) ≡ new

pub failures_more : (failures now : List Lit) (last new : ℕ) (l failure : Lit) → rises_above 1 (free_of failures) ≡ true → last_variable 1 (free_of failures) ≡ last → l ≡ failure_with last failure → now ≡ failures ++ l ∷ [] → new ≡ last_with last failure → Grown now new
failures_more failures now last new l failure r e f g h = rw (g, f, h) (go (nat_lt last (variable failure)) refl)
  where
    least : 1 ≤ last
    least = let k = last_least 1 (free_of failures) r in omega (arith, k, e)

    go : (b : Bool) → nat_lt last (variable failure) ≡ b → Grown (failures ++ (if b then failure else no) ∷ []) (if b then variable failure else last)
    go true i =
        let up : last < variable failure = grind (arith, nat_tests, i) in
        let n : is_no failure ≡ false = above_free failure (omega (arith, up, least)) in
        let one : free_of (failure ∷ []) ≡ failure ∷ [] = rw n refl in
        let s : free_of (failures ++ failure ∷ []) ≡ free_of failures ++ failure ∷ [] = free_append failures (failure ∷ []) ∙ ap (λ xs. free_of failures ++ xs) one in
        record {
          rises = rw s (rises_above-push 1 (free_of failures) failure r (omega (arith, e, up)));
          ends = rw s (last_variable-push 1 (free_of failures) failure);
        }
    go false i =
        let s : free_of (failures ++ no ∷ []) ≡ free_of failures = free_append failures (no ∷ []) ∙ append-nil (free_of failures) in
        record { rises = rw s r; ends = rw s e }

-- ---- the goal
rises_less : (ls : List Lit) → rises_above 1 ls ≡ true → rises_above 0 ls ≡ true
rises_less [] r = refl
rises_less (l ∷ ls) r = grind (arith, nat_tests, r)

goal_rises : (failures : List Lit) → rises_above 1 (free_of failures) ≡ true → rises_above 0 (goal_of failures) ≡ true
goal_rises failures r = go (has failures no)
  where
    go : (b : Bool) → rises_above 0 ((if b then no ∷ [] else []) ++ free_of failures) ≡ true
    go true = subst (λ n. (nat_lt 0 n && rises_above n (free_of failures)) ≡ true) (sym never_variable) r
    go false = rises_less (free_of failures) r

has_free : (ls : List Lit) (l : Lit) → has (free_of ls) l ≡ (has ls l && not (l.0 == 3))
has_free [] l = refl
has_free (x ∷ xs) l = go (is_no x) refl (has_free xs l)
  where
    go : (b : Bool) → is_no x ≡ b → has (free_of xs) l ≡ (has xs l && not (l.0 == 3)) → has (if b then free_of xs else x ∷ free_of xs) l ≡ (((x.0 == l.0) || has xs l) && not (l.0 == 3))
    go true e ih = grind (arith, nat_tests, e, ih)
    go false e ih = grind (arith, nat_tests, e, ih)

has_no : (ls : List Lit) (l : Lit) → (l.0 == 3) ≡ true → has ls no ≡ has ls l
has_no ls l e = ap (has ls) (same_lit no l (grind (arith, nat_tests, e)))

goal_same : (failures : List Lit) (l : Lit) → has (goal_of failures) l ≡ has failures l
goal_same failures l = has-append (front_of failures) (free_of failures) l ∙ go (l.0 == 3) refl (has failures no) refl
  where
    go : (z : Bool) → (l.0 == 3) ≡ z → (b : Bool) → has failures no ≡ b → (has (if b then no ∷ [] else []) l || has (free_of failures) l) ≡ has failures l
    go true e true f = let h = has_no failures l e in let i = has_free failures l in grind (arith, nat_tests, e, f, h, i)
    go true e false f = let h = has_no failures l e in let i = has_free failures l in grind (arith, nat_tests, e, f, h, i)
    go false e true f = let i = has_free failures l in grind (arith, nat_tests, e, f, i)
    go false e false f = let i = has_free failures l in grind (arith, nat_tests, e, f, i)

pub is_goal : (rows : List Row) (failures goal : List Lit) → failures ≡ failures_of rows → rises_above 1 (free_of failures) ≡ true → goal ≡ goal_of failures → IsGoal rows goal
is_goal rows failures goal e r g = rw g (record { rises = goal_rises failures r; same = λ l. goal_same failures l ∙ ap (λ ls. has ls l) e })

-- ---- the goal as it is made
front_last : (failures ls : List Lit) → last_variable 0 (front_of failures ++ ls) ≤ last_variable 1 ls
front_last failures ls = go (has failures no)
  where
    less : (ls : List Lit) → last_variable 0 ls ≤ last_variable 1 ls
    less [] = omega arith
    less (x ∷ xs) = omega arith

    go : (b : Bool) → last_variable 0 ((if b then no ∷ [] else []) ++ ls) ≤ last_variable 1 ls
    go true = subst (λ n. last_variable n ls ≤ last_variable 1 ls) (sym never_variable) (omega arith)
    go false = less ls

pub front_begins : (goal : List Lit) → goal ≡ [] → last_variable 0 goal < variable no
front_begins goal e = subst (λ g. last_variable 0 g < variable no) (sym e) (subst (λ n. 0 < n) (sym never_variable) (omega arith))

rises_at : (k : ℕ) (ls : List Lit) (i : ℕ) → i < length ls → rises_above k (free_of ls) ≡ true → is_no (nth ls i) ≡ false → last_variable k (free_of (take i ls)) < variable (nth ls i)
rises_at k [] i h r e = absurd (omega (arith, h))
rises_at k (x ∷ xs) zero h r e = go (is_no x) e r
  where
    go : (b : Bool) → b ≡ false → rises_above k (if b then free_of xs else x ∷ free_of xs) ≡ true → k < variable x
    go true e r = absurd (cc)
    go false e r = grind (arith, nat_tests, r)
rises_at k (x ∷ xs) (suc i) h r e = go (is_no x) r (λ n s. rises_at n xs i (omega (arith, h)) s e)
  where
    go : (b : Bool) → rises_above k (if b then free_of xs else x ∷ free_of xs) ≡ true → ((n : ℕ) → rises_above n (free_of xs) ≡ true → last_variable n (free_of (take i xs)) < variable (nth xs i)) → last_variable k (if b then free_of (take i xs) else x ∷ free_of (take i xs)) < variable (nth xs i)
    go true r rest = rest k r
    go false r rest = rest (variable x) (grind (arith, nat_tests, r))

pub put_fits : (failures goal : List Lit) (i : ℕ) (l : Lit) → i < length failures → rises_above 1 (free_of failures) ≡ true → goal ≡ front_of failures ++ free_of (take i failures) → l ≡ nth failures i → is_no l ≡ false → last_variable 0 goal < variable l
put_fits failures goal i l h r g e f =
    let a = rises_at 1 failures i h r (ap is_no (sym e) ∙ f) in
    let b = front_last failures (free_of (take i failures)) in
    rw (g, e) (omega (arith, a, b))

pub goal_none : (failures : List Lit) → front_of failures ≡ front_of failures ++ free_of (take 0 failures)
goal_none [] = refl
goal_none (x ∷ xs) = sym (append-nil (front_of (x ∷ xs)))

pub goal_more : (failures goal now : List Lit) (i : ℕ) (l : Lit) → i < length failures → goal ≡ front_of failures ++ free_of (take i failures) → l ≡ nth failures i → now ≡ goal ++ free_of (l ∷ []) → now ≡ front_of failures ++ free_of (take (i + 1) failures)
goal_more failures goal now i l h g e n =
    n ∙ ap (λ xs. xs ++ free_of (l ∷ [])) g ∙ append_assoc (front_of failures) (free_of (take i failures)) (free_of (l ∷ []))
    ∙ ap (λ xs. front_of failures ++ xs) (sym (free_append (take i failures) (l ∷ [])) ∙ ap free_of (ap (λ x. take i failures ++ x ∷ []) e ∙ sym (take_more failures i no h)))

pub goal_all : (failures goal : List Lit) (i : ℕ) → i ≡ length failures → goal ≡ front_of failures ++ free_of (take i failures) → goal ≡ goal_of failures
goal_all failures goal i e g = g ∙ ap (λ xs. front_of failures ++ free_of xs) (take_whole failures i e)

-- ---- whether the literal that is false is one of them
pub no_here : (ls : List Lit) (i : ℕ) (l : Lit) → i < length ls → has (drop i ls) no ≡ has ls no → l ≡ nth ls i → (l.0 == 3) ≡ true → has ls no ≡ true
no_here ls i l h e f g =
    let d : drop i ls ≡ l ∷ drop (suc i) ls = drop-cons ls i no h ∙ ap (λ x. x ∷ drop (suc i) ls) (sym f) in
    sym e ∙ ap (λ xs. has xs no) d ∙ ap (λ b. b || has (drop (suc i) ls) no) g

pub no_later : (ls : List Lit) (i : ℕ) (l : Lit) → i < length ls → has (drop i ls) no ≡ has ls no → l ≡ nth ls i → (l.0 == 3) ≡ false → has (drop (i + 1) ls) no ≡ has ls no
no_later ls i l h e f g =
    let d : drop i ls ≡ l ∷ drop (suc i) ls = drop-cons ls i no h ∙ ap (λ x. x ∷ drop (suc i) ls) (sym f) in
    let n : i + 1 ≡ suc i = omega arith in
    ap (λ k. has (drop k ls) no) n ∙ ap (λ b. b || has (drop (suc i) ls) no) (sym g) ∙ ap (λ xs. has xs no) (sym d) ∙ e

pub no_never : (ls : List Lit) (i : ℕ) → length ls ≤ i → has (drop i ls) no ≡ has ls no → has ls no ≡ false
no_never ls i h e = sym e ∙ ap (λ xs. has xs no) (drop_of_length-le ls h)
