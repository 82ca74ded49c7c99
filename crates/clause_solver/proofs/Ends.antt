-- How a search goes on and ends.
use Rattle.std.proofs.Common.{◌≡◌, ℕ, suc, ◌+◌, ◌-◌, ◌*◌, ◌<◌, ◌≤◌, Bool, true, false, Option, None, Some, Result, Ok, Err, List, [], ◌∷◌, if◌then◌else◌, length, refl, sym, ap, subst, arith}
use Rattle.std.specs.Prelude.{IfSome, IfNone, IfOk}
use Rattle.std.proofs.lemmas.List.{append-nil}
use Rattle.clause_form.specs.declared.lit.Lit.{Lit}
use Rattle.clause_form.specs.declared.line.Line.{Line}
use Rattle.clause_form.specs.Literals.{are_within}
use Rattle.clause_form.specs.ClauseTruth.{are_true, values_of}
use Rattle.clause_form.specs.LearnedLine.{is_closed, IsSpent}
use Rattle.clause_form.specs.DerivedLine.{ends_empty}
use Rattle.clause_solver.specs.declared.trail.Entry.{Entry}
use Rattle.clause_solver.specs.Trail.{lits_of, is_variable_set, unset, IsTrail}
use Rattle.clause_solver.specs.Decision.{IsChoice, AreAllSet, HasValues}
use Rattle.clause_solver.specs.Answer.{IsLog, IsAnswer, EndsAs}
use Rattle.clause_solver.specs.Search.{IsOpenLog, IsLogged, IsSearch, IsEnd}
use Rattle.clause_solver.specs.declared.answer.Answer.{Answer}
use Rattle.clause_solver.specs.declared.answer.Answer.TheVariants.{Model, Refuted, Spent}
use Rattle.clause_solver.specs.declared.answer.SolveFault.{SolveFault}
use Rattle.clause_solver.proofs.Resolving.{trail_consistent}
use Rattle.clause_solver.proofs.Models.{values_true, closed_true}
use Rattle.clause_solver.proofs.Scanning.{variable_unset, unset_less}
use Rattle.clause_solver.proofs.Logs.{opened}

-- every variable is set, and nothing is forced
pub model_end : (n : ℕ) (f cs : List (List Lit)) (t t' : List Entry) (k budget : ℕ) (told : Option (List Line)) (values : List Bool) → IsSearch n f cs t k told → IsTrail n cs t' → AreAllSet n t' → HasValues n (lits_of t') values → length values ≡ n → is_closed (lits_of t') cs ≡ true → k ≤ budget → (are_true (values_of values) f ≡ true) × (length values ≡ n) × IfSome told (IsOpenLog n f budget)
model_end n f cs t t' k budget told values s i all h len closed few = (
  s.back (values_of values) (closed_true n t' values cs all (values_true n (lits_of t') values (trail_consistent n cs t' i) h) s.within closed),
  len,
  opened n f cs k budget told s.told few,
)

-- no more than all variables are unset
pub unset_few : (n : ℕ) (t : List Entry) → unset n t ≤ n
unset_few Prim.Native.Nat.zero t = omega arith
unset_few (suc n) t = go (unset_few n t) (is_variable_set t (suc n))
  where
    go : unset n t ≤ n → (b : Bool) → (if b then unset n t else suc (unset n t)) ≤ suc n
    go ih true = omega arith
    go ih false = omega arith

-- a line less is left
pub measure_line : (b l n u u' : ℕ) → l ≤ b → (l ≡ b → ⊥) → u' ≤ n → (b - (l + 1)) * (n + 1) + u' < (b - l) * (n + 1) + u
measure_line b l n u u' h d w =
    let k : b - l ≡ b - (l + 1) + 1 = omega arith in
    subst (λ x. (b - (l + 1)) * (n + 1) + u' < x * (n + 1) + u) (sym k) (step (b - (l + 1)))
  where
    step : (k : ℕ) → k * (n + 1) + u' < (k + 1) * (n + 1) + u
    step k = omega (arith, w)

-- a variable less is unset
pub measure_choice : (m n : ℕ) (t t' : List Entry) (e : Entry) (new : List Entry) → IsChoice n t' e.lit → unset n t' ≤ unset n t → new ≡ e ∷ t' → m + unset n new < m + unset n t
measure_choice m n t t' e new x h s =
    let u = unset_less n t' e x.above x.within (variable_unset t' e.lit x.unset x.other) in
    let w = ap (unset n) s in
    omega (arith, u, w, h)

pub from_none : {A : Type 0} (o : Option A) (P : Type 0) → IfNone o P → o ≡ None → P
from_none None P h e = h
from_none (Some a) P h e = absurd (cc)

if_some : (o : Option (List Line)) (P Q : List Line → Type 0) → IfSome o P → ((log : List Line) → P log → Q log) → IfSome o Q
if_some None P Q h f = tt
if_some (Some log) P Q h f = f log h

-- what the end of a search says of the formula
pub end_answer : (n : ℕ) (f : List (List Lit)) (budget : ℕ) (r : Result Answer SolveFault) (told : Option (List Line)) → IsEnd n f budget r told → IfOk r (IsAnswer n f)
end_answer n f budget (Ok (Model values)) told h = (h.1, h.0)
end_answer n f budget (Ok Refuted) told h = h.0
end_answer n f budget (Ok Spent) told h = tt
end_answer n f budget (Err e) told h = tt

-- and of the kept lines
pub end_lines : (n : ℕ) (f : List (List Lit)) (budget : ℕ) (r : Result Answer SolveFault) (told : Option (List Line)) → IsEnd n f budget r told → IfSome told (IsLog n f budget)
end_lines n f budget (Ok (Model values)) told h = if_some told (IsOpenLog n f budget) (IsLog n f budget) h.2 (λ log x. x.log)
end_lines n f budget (Ok Refuted) told h = if_some told (λ log. IsLog n f budget log × (ends_empty log ≡ true)) (IsLog n f budget) h.1 (λ log x. x.0)
end_lines n f budget (Ok Spent) told h = if_some told (λ log. IsOpenLog n f budget log × (length log ≡ budget)) (IsLog n f budget) h (λ log x. x.0.log)
end_lines n f budget (Err e) told h = if_some told (IsOpenLog n f budget) (IsLog n f budget) h (λ log x. x.log)

-- and of the empty line
pub end_ends : (n : ℕ) (f : List (List Lit)) (budget : ℕ) (r : Result Answer SolveFault) (told : Option (List Line)) → IsEnd n f budget r told → IfSome told (EndsAs r)
end_ends n f budget (Ok (Model values)) told h = if_some told (IsOpenLog n f budget) (EndsAs (Ok (Model values))) h.2 (λ log x. x.not_empty)
end_ends n f budget (Ok Refuted) told h = if_some told (λ log. IsLog n f budget log × (ends_empty log ≡ true)) (EndsAs (Ok Refuted)) h.1 (λ log x. x.1)
end_ends n f budget (Ok Spent) told h = if_some told (λ log. IsOpenLog n f budget log × (length log ≡ budget)) (EndsAs (Ok Spent)) h (λ log x. x.0.not_empty)
end_ends n f budget (Err e) told h = if_some told (IsOpenLog n f budget) (EndsAs (Err e)) h (λ log x. x.not_empty)

-- and of a spent budget
pub end_spent : (n : ℕ) (f : List (List Lit)) (budget : ℕ) (r : Result Answer SolveFault) (told : Option (List Line)) → IsEnd n f budget r told → r ≡ Ok Spent → IfSome told (λ log. IsSpent n f log budget)
end_spent n f budget r told h e =
    if_some told (λ log. IsOpenLog n f budget log × (length log ≡ budget)) (λ log. IsSpent n f log budget) (subst (λ r. IsEnd n f budget r told) e h)
    (λ log x. record { count = x.1; not_empty = x.0.not_empty; derived = x.0.log.derived; learned = x.0.log.learned })

-- a search begins with the formula
pub search_start : (n : ℕ) (f cs : List (List Lit)) (t : List Entry) (told : Option (List Line)) → are_within n f ≡ true → cs ≡ f → t ≡ [] → IfSome told (λ log. log ≡ []) → IsSearch n f cs t 0 told
search_start n f cs t told w e s h =
    subst (λ x. IsSearch n f x t 0 told) (sym e) (subst (λ x. IsSearch n f f x 0 told) (sym s) (record {
      follow = λ v p. p;
      back = λ v p. p;
      within = w;
      trail = tt;
      told = logged told h;
    }))
  where
    logged : (told : Option (List Line)) → IfSome told (λ log. log ≡ []) → IfSome told (IsLogged n f f 0)
    logged None h = tt
    logged (Some log) h = subst (IsLogged n f f 0) (sym h) (record { clauses = sym (append-nil f); count = refl; derived = tt; learned = tt; not_empty = refl })

-- nothing is told before the search begins
pub nothing_told : (n : ℕ) (f : List (List Lit)) (budget : ℕ) (told : Option (List Line)) → IfSome told (λ log. log ≡ []) → IfSome told (IsOpenLog n f budget)
nothing_told n f budget None h = tt
nothing_told n f budget (Some log) h = subst (IsOpenLog n f budget) (sym h) (record { log = record { derived = tt; learned = tt; few = omega arith }; not_empty = refl })
