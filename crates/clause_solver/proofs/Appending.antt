-- A store with one more clause.
use Rattle.std.proofs.Common.{◌≡◌, ℕ, Bool, true, false, Some, List, [], ◌∷◌, ◌++◌, ◌==◌, if◌then◌else◌, is_some, refl, sym, ap, ◌∙◌, subst, arith}
use Rattle.std.proofs.lemmas.Bool.Decides.{nat_tests}
use Rattle.clause_form.specs.declared.lit.Lit.{Lit}
use Rattle.clause_form.specs.declared.store.ClauseRef.{ClauseRef}
use Rattle.clause_form.specs.ClauseStore.{Stored, lits_at, HasAt, AreBefore}
use Rattle.clause_solver.specs.Numbering.{clauses_of, lits_or_none, HasEach}

abbrev pub with_last : List Stored → ClauseRef → List Lit → List Stored
with_last ss r c = ss ++ record { at = r; lits = c } ∷ []

kept_at : (ss : List Stored) (r : ClauseRef) (c : List Lit) (q : ℕ) → HasAt ss q → lits_at (with_last ss r c) q ≡ lits_at ss q
kept_at [] r c q h = absurd (cc)
kept_at (s ∷ ss) r c q h = go (λ p. kept_at ss r c q p) (s.at.0 == q) refl
  where
    go : (HasAt ss q → lits_at (with_last ss r c) q ≡ lits_at ss q) → (b : Bool) → (s.at.0 == q) ≡ b → (if s.at.0 == q then Some s.lits else lits_at (with_last ss r c) q) ≡ (if s.at.0 == q then Some s.lits else lits_at ss q)
    go ih true f = rw f refl
    go ih false f = rw f (ih (subst (λ b. is_some (if b then Some s.lits else lits_at ss q) ≡ true) f h))

last_at : (ss : List Stored) (r : ClauseRef) (c : List Lit) → AreBefore ss r.0 → lits_at (with_last ss r c) r.0 ≡ Some c
last_at [] r c h = grind (arith, nat_tests)
last_at (s ∷ ss) r c h =
    let ih = last_at ss r c h.1 in
    let f : (s.at.0 == r.0) ≡ false = (let a = h.0 in grind (arith, nat_tests, a)) in
    rw f ih

kept_clauses : (ss : List Stored) (refs : List ClauseRef) (r : ClauseRef) (c : List Lit) → HasEach ss refs → clauses_of (with_last ss r c) refs ≡ clauses_of ss refs
kept_clauses ss [] r c h = refl
kept_clauses ss (x ∷ xs) r c h =
    let a = ap lits_or_none (kept_at ss r c x.0 h.0) in
    let b = kept_clauses ss xs r c h.1 in
    cc

clauses_of-append : (ss : List Stored) (a b : List ClauseRef) → clauses_of ss (a ++ b) ≡ clauses_of ss a ++ clauses_of ss b
clauses_of-append ss [] b = refl
clauses_of-append ss (x ∷ xs) b = ap (λ y. lits_or_none (lits_at ss x.0) ∷ y) (clauses_of-append ss xs b)

-- the clauses are those before, and the new one
pub one_more : (ss ss' : List Stored) (refs refs' : List ClauseRef) (r : ClauseRef) (c : List Lit) → HasEach ss refs → AreBefore ss r.0 → ss' ≡ with_last ss r c → refs' ≡ refs ++ r ∷ [] → clauses_of ss' refs' ≡ clauses_of ss refs ++ c ∷ []
one_more ss ss' refs refs' r c h b e f =
    ap (λ x. clauses_of x refs') e
    ∙ ap (clauses_of (with_last ss r c)) f
    ∙ clauses_of-append (with_last ss r c) refs (r ∷ [])
    ∙ ap (λ x. x ++ clauses_of (with_last ss r c) (r ∷ [])) (kept_clauses ss refs r c h)
    ∙ ap (λ o. clauses_of ss refs ++ lits_or_none o ∷ []) (last_at ss r c b)

has_kept : (ss : List Stored) (refs : List ClauseRef) (r : ClauseRef) (c : List Lit) → HasEach ss refs → HasEach (with_last ss r c) refs
has_kept ss [] r c h = tt
has_kept ss (x ∷ xs) r c h = (ap is_some (kept_at ss r c x.0 h.0) ∙ h.0, has_kept ss xs r c h.1)

has_append : (ss : List Stored) (a : List ClauseRef) (r : ClauseRef) → HasEach ss a → HasAt ss r.0 → HasEach ss (a ++ r ∷ [])
has_append ss [] r h p = (p, tt)
has_append ss (x ∷ xs) r h p = (h.0, has_append ss xs r h.1 p)

-- each reference, the new one included, has its clause
pub has_more : (ss ss' : List Stored) (refs refs' : List ClauseRef) (r : ClauseRef) (c : List Lit) → HasEach ss refs → AreBefore ss r.0 → ss' ≡ with_last ss r c → refs' ≡ refs ++ r ∷ [] → HasEach ss' refs'
has_more ss ss' refs refs' r c h b e f =
    subst (λ x. HasEach x refs') (sym e) (subst (HasEach (with_last ss r c)) (sym f) (has_append (with_last ss r c) refs r (has_kept ss refs r c h) (ap is_some (last_at ss r c b))))
