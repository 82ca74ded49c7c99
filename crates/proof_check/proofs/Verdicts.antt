-- What the check of a certificate rests on.
use Rattle.std.proofs.Common.{◌≡◌, ℕ, ◌+◌, Bool, true, false, not, ◌&&◌, ◌||◌, ◌==◌, Option, Some, None, List, [], ◌∷◌, ◌++◌, length, drop, if◌then◌else◌, append_assoc, length-drop, refl, sym, ap, subst, ◌∙◌, arith}
use Rattle.std.proofs.lemmas.Bool.{and_parts, and_from}
use Rattle.std.proofs.lemmas.Bool.Decides.{nat_tests}
use Rattle.std.proofs.lemmas.List.{append-nil, drop_all}
use Rattle.std.proofs.lemmas.Option.{slice_get_within}
use Rattle.std.specs.List.{slice_get}
use Rattle.clause_form.specs.declared.lit.Lit.{Lit}
use Rattle.clause_form.specs.declared.line.Line.{Line}
use Rattle.clause_form.specs.ClauseTruth.{Values, are_true, is_clause_true, HasNoModel}
use Rattle.clause_form.specs.DerivedLine.{is_derived, is_empty, ends_empty}
use Rattle.clause_form.specs.LearnedLine.{has_empty}
use Rattle.clause_form.specs.Literals.{rises_above, is_within, are_within}
use Rattle.clause_form.proofs.Agreement.{are_true-append}
use Rattle.clause_form.proofs.Soundness.{derived_true}
use Rattle.proof_check.specs.Answers.{Checked, accepts, step_of, after}
use Rattle.proof_check.specs.declared.checker.Step.{Step}
use Rattle.proof_check.specs.declared.checker.Step.TheVariants.{Good, Done, Bad}
use Rattle.proof_check.specs.declared.cert.Cert.{Cert}
use Rattle.answers.specs.declared.verdict.Verdict.{Verdict}
use Rattle.answers.specs.declared.verdict.Verdict.TheVariants as verdicts
use Rattle.proof_check.specs.declared.check.CertAnswer.TheVariants as answers
use Rattle.proof_check.specs.Checks.{first_bad, is_model, clauses_of, fits, answer_by, answer_of, HasModel}
use Rattle.proof_check.proofs.Getting.{drop_get, get_past}

-- an empty list has length 0
pub is_empty_length : {A : Type 0} (xs : List A) → is_empty xs ≡ (length xs == 0)
is_empty_length [] = refl
is_empty_length (x ∷ xs) = grind (arith, nat_tests)

pub empty_by : {A : Type 0} (xs lent : List A) (r b : Bool) → lent ≡ xs → r ≡ (length lent == 0) → r ≡ b → is_empty xs ≡ b
empty_by xs lent r b e f g = is_empty_length xs ∙ ap (λ x. length x == 0) (sym e) ∙ sym f ∙ g

-- ---- empty lines

has_empty_step : (log : List Line) (k : ℕ) (line : Line) → slice_get log k ≡ Some line → has_empty (drop k log) ≡ (if is_empty line.clause then true else has_empty (drop (k + 1) log))
has_empty_step log k line e = ap has_empty (drop_get log k line e) ∙ go (is_empty line.clause)
  where
    go : (b : Bool) → (b || has_empty (drop (k + 1) log)) ≡ (if b then true else has_empty (drop (k + 1) log))
    go true = refl
    go false = refl

ends_empty_step : (log : List Line) (k : ℕ) (line : Line) → slice_get log k ≡ Some line → ends_empty (drop k log) ≡ (if is_empty line.clause then (k + 1) == length log else ends_empty (drop (k + 1) log))
ends_empty_step log k line e = ap ends_empty (drop_get log k line e) ∙ ap (λ b. if is_empty line.clause then b else ends_empty (drop (k + 1) log)) last
  where
    last : is_empty (drop (k + 1) log) ≡ ((k + 1) == length log)
    last =
        let a = is_empty_length (drop (k + 1) log) in
        let b = length-drop (k + 1) log in
        let c = slice_get_within log k line e in
        grind (arith, nat_tests, a, b, c)

pub has_empty_found : (log : List Line) (k : ℕ) (line : Line) → slice_get log k ≡ Some line → is_empty line.clause ≡ true → has_empty (drop k log) ≡ true
has_empty_found log k line e z = has_empty_step log k line e ∙ ap (λ b. if b then true else has_empty (drop (k + 1) log)) z

pub has_empty_next : (log : List Line) (k : ℕ) (line : Line) → slice_get log k ≡ Some line → is_empty line.clause ≡ false → has_empty (drop k log) ≡ has_empty (drop (k + 1) log)
has_empty_next log k line e z = has_empty_step log k line e ∙ ap (λ b. if b then true else has_empty (drop (k + 1) log)) z

pub has_empty_none : (log : List Line) (k : ℕ) → slice_get log k ≡ None → has_empty (drop k log) ≡ false
has_empty_none log k e = ap has_empty (drop_all k log (get_past log k e))

pub ends_empty_found : (log : List Line) (k : ℕ) (line : Line) → slice_get log k ≡ Some line → is_empty line.clause ≡ true → ends_empty (drop k log) ≡ ((k + 1) == length log)
ends_empty_found log k line e z = ends_empty_step log k line e ∙ ap (λ b. if b then (k + 1) == length log else ends_empty (drop (k + 1) log)) z

pub ends_empty_next : (log : List Line) (k : ℕ) (line : Line) → slice_get log k ≡ Some line → is_empty line.clause ≡ false → ends_empty (drop k log) ≡ ends_empty (drop (k + 1) log)
ends_empty_next log k line e z = ends_empty_step log k line e ∙ ap (λ b. if b then (k + 1) == length log else ends_empty (drop (k + 1) log)) z

pub ends_empty_none : (log : List Line) (k : ℕ) → slice_get log k ≡ None → ends_empty (drop k log) ≡ false
ends_empty_none log k e = ap ends_empty (drop_all k log (get_past log k e))

-- ---- models

pub all_true_step : (v : Values) (cs : List (List Lit)) (k : ℕ) (c : List Lit) → slice_get cs k ≡ Some c → are_true v (drop k cs) ≡ (is_clause_true v c && are_true v (drop (k + 1) cs))
all_true_step v cs k c e = ap (are_true v) (drop_get cs k c e)

pub all_true_none : (v : Values) (cs : List (List Lit)) (k : ℕ) → slice_get cs k ≡ None → are_true v (drop k cs) ≡ true
all_true_none v cs k e = ap (are_true v) (drop_all k cs (get_past cs k e))

pub within_step : (n : ℕ) (cs : List (List Lit)) (k : ℕ) (c : List Lit) → slice_get cs k ≡ Some c → are_within n (drop k cs) ≡ true → (is_within n c ≡ true) × (are_within n (drop (k + 1) cs) ≡ true)
within_step n cs k c e h =
    let w : are_within n (c ∷ drop (k + 1) cs) ≡ true = subst (λ ds. are_within n ds ≡ true) (drop_get cs k c e) h in
    let p = and_parts (rises_above 0 c && is_within n c) (are_within n (drop (k + 1) cs)) w in
    ((and_parts (rises_above 0 c) (is_within n c) p.0).1, p.1)

pub with_goal_true : (v : Values) (cs : List (List Lit)) (g : List Lit) → are_true v (cs ++ g ∷ []) ≡ (are_true v cs && is_clause_true v g)
with_goal_true v cs g = are_true-append v cs (g ∷ []) ∙ ap (λ b. are_true v cs && b) (go (is_clause_true v g))
  where
    go : (b : Bool) → (b && true) ≡ b
    go true = refl
    go false = refl

-- ---- lines

-- what a step says of the line
step_said : (c : Checked) (line : Line) (a : Bool) → accepts c line ≡ a → step_of c line ≡ (if a then (if is_empty line.clause then Done else Good) else Bad)
step_said c line a e = ap (λ b. if b then (if is_empty line.clause then Done else Good) else Bad) e

not_bad : (x : Bool) → (if x then Done else Good) ≡ Bad → ⊥
not_bad true g = cc
not_bad false g = cc

pub bad_rejected : (c : Checked) (line : Line) → step_of c line ≡ Bad → not (accepts c line) ≡ true
bad_rejected c line b = go (accepts c line) refl
  where
    go : (a : Bool) → accepts c line ≡ a → not a ≡ true
    go true e = absurd (not_bad (is_empty line.clause) (sym (step_said c line true e) ∙ b))
    go false e = refl

taken_by : (c : Checked) (line : Line) (s : Step) → step_of c line ≡ s → (Bad ≡ s → ⊥) → not (accepts c line) ≡ false
taken_by c line s b differ = go (accepts c line) refl
  where
    go : (a : Bool) → accepts c line ≡ a → not a ≡ false
    go true e = refl
    go false e = absurd (differ (sym (step_said c line false e) ∙ b))

pub good_accepted : (c : Checked) (line : Line) → step_of c line ≡ Good → not (accepts c line) ≡ false
good_accepted c line b = taken_by c line Good b (λ e. cc)

pub done_accepted : (c : Checked) (line : Line) → step_of c line ≡ Done → not (accepts c line) ≡ false
done_accepted c line b = taken_by c line Done b (λ e. cc)

module _ (number : ℕ) (c : Checked) (log : List Line) (k : ℕ) (line : Line) (e : slice_get log k ≡ Some line) where
  pub bad_stop : not (accepts c line) ≡ true → first_bad number c.variables (c.formula ++ c.lines) (drop k log) ≡ Some number
  bad_stop b = ap (first_bad number c.variables (c.formula ++ c.lines)) (drop_get log k line e) ∙ go (accepts c line) b
    where
      go : (a : Bool) → not a ≡ true → (if a then first_bad (number + 1) c.variables ((c.formula ++ c.lines) ++ line.clause ∷ []) (drop (k + 1) log) else Some number) ≡ Some number
      go true f = absurd cc
      go false f = refl

  pub bad_next : (d : Checked) → d ≡ after c line → not (accepts c line) ≡ false → (first_bad (number + 1) d.variables (d.formula ++ d.lines) (drop (k + 1) log) ≡ first_bad number c.variables (c.formula ++ c.lines) (drop k log)) × (d.variables ≡ c.variables)
  bad_next d s b = go (accepts c line) refl b
    where
      go : (a : Bool) → accepts c line ≡ a → not a ≡ false → (first_bad (number + 1) d.variables (d.formula ++ d.lines) (drop (k + 1) log) ≡ first_bad number c.variables (c.formula ++ c.lines) (drop k log)) × (d.variables ≡ c.variables)
      go true f b =
          let t : d ≡ record c { lines = c.lines ++ line.clause ∷ [] } = s ∙ ap (λ a. if a then record c { lines = c.lines ++ line.clause ∷ [] } else c) f in
          let one : first_bad number c.variables (c.formula ++ c.lines) (drop k log) ≡ first_bad (number + 1) c.variables ((c.formula ++ c.lines) ++ line.clause ∷ []) (drop (k + 1) log) = ap (first_bad number c.variables (c.formula ++ c.lines)) (drop_get log k line e) ∙ ap (λ a. if a then first_bad (number + 1) c.variables ((c.formula ++ c.lines) ++ line.clause ∷ []) (drop (k + 1) log) else Some number) f in (
            ap (λ (x : Checked). first_bad (number + 1) x.variables (x.formula ++ x.lines) (drop (k + 1) log)) t
                ∙ ap (λ cs. first_bad (number + 1) c.variables cs (drop (k + 1) log)) (sym (append_assoc c.formula c.lines (line.clause ∷ [])))
                ∙ sym one,
            ap (λ (x : Checked). x.variables) t,
          )
      go false f b = absurd cc

pub bad_none : (number n : ℕ) (cs : List (List Lit)) (log : List Line) (k : ℕ) → slice_get log k ≡ None → first_bad number n cs (drop k log) ≡ None
bad_none number n cs log k e = ap (first_bad number n cs) (drop_all k log (get_past log k e))

-- ---- what a log of derived lines shows

-- a last line that is empty is derived only where the clauses have no model
pub ends_without_model : (number n : ℕ) (cs : List (List Lit)) (log : List Line) → first_bad number n cs log ≡ None → ends_empty log ≡ true → HasNoModel cs
ends_without_model number n cs [] e f v t = cc
ends_without_model number n cs (line ∷ lines) e f v t = go (λ g h u. ends_without_model (number + 1) n (cs ++ line.clause ∷ []) lines g h v u) (is_derived n cs line) refl e (is_empty line.clause) refl f
  where
    no_clause : (c : List Lit) → is_empty c ≡ true → is_clause_true v c ≡ true → ⊥
    no_clause [] a b = cc
    no_clause (x ∷ xs) a b = cc

    go : (first_bad (number + 1) n (cs ++ line.clause ∷ []) lines ≡ None → ends_empty lines ≡ true → are_true v (cs ++ line.clause ∷ []) ≡ true → ⊥) → (d : Bool) → is_derived n cs line ≡ d → (if d then first_bad (number + 1) n (cs ++ line.clause ∷ []) lines else Some number) ≡ None → (x : Bool) → is_empty line.clause ≡ x → (if x then is_empty lines else ends_empty lines) ≡ true → ⊥
    go ih false q g x y h = absurd cc
    go ih true q g true y h = no_clause line.clause y (derived_true v n cs line t q)
    go ih true q g false y h = ih g h (with_goal_true v cs line.clause ∙ and_from (are_true v cs) (is_clause_true v line.clause) t (derived_true v n cs line t q))

pub no_lines : (cs : List (List Lit)) → cs ++ [] ≡ cs
no_lines cs = append-nil cs

-- ---- what an answer means

-- a good answer is that of a log without a bad line, and of a verdict that fits
good_from : (cert : Cert) (v : Verdict) (b : Option ℕ) → answer_by b cert ≡ answers.Good v → (b ≡ None) × (fits v cert ≡ true)
good_from cert v (Some n) e = absurd cc
good_from cert v None e = (refl, go (fits cert.verdict cert) refl e)
  where
    go : (f : Bool) → fits cert.verdict cert ≡ f → (if f then answers.Good cert.verdict else answers.BadVerdict) ≡ answers.Good v → fits v cert ≡ true
    go true p q = let s : cert.verdict ≡ v = cc in ap (λ w. fits w cert) (sym s) ∙ p
    go false p q = absurd cc

pub holds_from : (cert : Cert) → answer_of cert ≡ answers.Good verdicts.Holds → HasNoModel (clauses_of cert)
holds_from cert e =
    let g = good_from cert verdicts.Holds (first_bad 1 cert.formula.variables (clauses_of cert) cert.log) e in
    ends_without_model 1 cert.formula.variables (clauses_of cert) cert.log g.0 g.1

pub fails_from : (cert : Cert) → answer_of cert ≡ answers.Good verdicts.Fails → HasModel cert
fails_from cert e =
    let g = good_from cert verdicts.Fails (first_bad 1 cert.formula.variables (clauses_of cert) cert.log) e in
    go cert.model refl (and_parts (is_model cert.model (clauses_of cert)) (not (has_empty cert.log)) g.1).0
  where
    go : (o : Option (List Bool)) → cert.model ≡ o → is_model o (clauses_of cert) ≡ true → HasModel cert
    go None p m = absurd cc
    go (Some values) p m = record { values = values; given = p; makes_true = m }

-- the answer by the first bad line
pub answered_bad : (cert : Cert) (n : ℕ) → Some n ≡ first_bad 1 cert.formula.variables (clauses_of cert) cert.log → answers.BadLine n ≡ answer_of cert
answered_bad cert n e = ap (λ b. answer_by b cert) e

pub answered_none : (cert : Cert) → None ≡ first_bad 1 cert.formula.variables (clauses_of cert) cert.log → answer_by None cert ≡ answer_of cert
answered_none cert e = ap (λ b. answer_by b cert) e
