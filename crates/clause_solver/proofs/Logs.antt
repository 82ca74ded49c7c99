-- Logs that grow.
use Rattle.std.proofs.Common.{◌≡◌, ℕ, ◌+◌, ◌≤◌, Bool, true, false, Option, None, Some, Result, Ok, Err, OnOk, OnErr, List, [], ◌∷◌, ◌++◌, length, map, is_some, refl, sym, ap, ◌∙◌, subst, arith, append_assoc}
use Rattle.std.specs.Prelude.{IfOk, IfSome}
use Rattle.std.proofs.lemmas.List.{append-nil, length_push}
use Rattle.clause_form.specs.declared.lit.Lit.{Lit}
use Rattle.clause_form.specs.declared.line.Line.{Line}
use Rattle.clause_form.specs.Literals.{is_within, rises_above}
use Rattle.clause_form.specs.ClauseTruth.{are_true, is_clause_true, HasNoModel}
use Rattle.clause_form.specs.DerivedLine.{clause_at, option_unfalse, is_derived, is_empty, AreDerived, ends_empty}
use Rattle.clause_form.specs.LearnedLine.{IsLearned, AreLearned, has_empty}
use Rattle.clause_form.specs.Keep.{with_line}
use Rattle.clause_form.proofs.Rising.{are_within-push}
use Rattle.clause_form.proofs.Soundness.{derived_true}
use Rattle.clause_form.proofs.Agreement.{are_true-append}
use Rattle.clause_solver.specs.declared.trail.Entry.{Entry}
use Rattle.clause_solver.specs.Trail.{lits_of, up_to, IsTrail}
use Rattle.clause_solver.specs.Propagation.{IsConflict}
use Rattle.clause_solver.proofs.Resolving.{clause_within}
use Rattle.clause_solver.specs.Learning.{IsLearning, greatest_level}
use Rattle.clause_solver.proofs.Jumping.{jumped}
use Rattle.clause_solver.specs.Answer.{IsLog}
use Rattle.clause_solver.specs.Search.{IsOpenLog, IsLogged, IsSearch}

abbrev pub clauses_in : List Line → List (List Lit)
clauses_in log = map (λ line. line.clause) log

shift : (f : List (List Lit)) (c : List Lit) (cs : List (List Lit)) → (f ++ c ∷ []) ++ cs ≡ f ++ (c ∷ cs)
shift f c cs = append_assoc f (c ∷ []) cs

derived_push : (n : ℕ) (f : List (List Lit)) (log : List Line) (line : Line) → AreDerived n f log → is_derived n (f ++ clauses_in log) line ≡ true → AreDerived n f (log ++ line ∷ [])
derived_push n f [] line h d = (subst (λ x. is_derived n x line ≡ true) (append-nil f) d, tt)
derived_push n f (x ∷ xs) line h d = (h.0, derived_push n (f ++ x.clause ∷ []) xs line h.1 (subst (λ y. is_derived n y line ≡ true) (sym (shift f x.clause (clauses_in xs))) d))

learned_push : (f : List (List Lit)) (log : List Line) (line : Line) → AreLearned f log → (is_empty line.clause ≡ false → IsLearned (f ++ clauses_in log) line.clause) → AreLearned f (log ++ line ∷ [])
learned_push f [] line h d = (subst (λ x. is_empty line.clause ≡ false → IsLearned x line.clause) (append-nil f) d, tt)
learned_push f (x ∷ xs) line h d = (h.0, learned_push (f ++ x.clause ∷ []) xs line h.1 (subst (λ y. is_empty line.clause ≡ false → IsLearned y line.clause) (sym (shift f x.clause (clauses_in xs))) d))

empty_push : (log : List Line) (line : Line) → has_empty log ≡ false → is_empty line.clause ≡ false → has_empty (log ++ line ∷ []) ≡ false
empty_push [] line h e = grind (arith, e)
empty_push (x ∷ xs) line h e = let ih = empty_push xs line (grind (arith, h)) e in grind (arith, ih, h)

ends_push : (log : List Line) (line : Line) → has_empty log ≡ false → is_empty line.clause ≡ true → ends_empty (log ++ line ∷ []) ≡ true
ends_push [] line h e = rw e refl
ends_push (x ∷ xs) line h e = let ih = ends_push xs line (grind (arith, h)) e in let f : is_empty x.clause ≡ false = grind (arith, h) in rw f ih

clauses_push : (log : List Line) (line : Line) → clauses_in (log ++ line ∷ []) ≡ clauses_in log ++ line.clause ∷ []
clauses_push [] line = refl
clauses_push (x ∷ xs) line = ap (λ y. x.clause ∷ y) (clauses_push xs line)

-- a learned line is told
pub logged_more : (n : ℕ) (f cs : List (List Lit)) (k : ℕ) (told new : Option (List Line)) (line : Line) → IfSome told (IsLogged n f cs k) → new ≡ with_line told line → is_derived n cs line ≡ true → IsLearned cs line.clause → is_empty line.clause ≡ false → IfSome new (IsLogged n f (cs ++ line.clause ∷ []) (k + 1))
logged_more n f cs k None new line h e d i s = subst (λ o. IfSome o (IsLogged n f (cs ++ line.clause ∷ []) (k + 1))) (sym e) tt
logged_more n f cs k (Some log) new line h e d i s =
    subst (λ o. IfSome o (IsLogged n f (cs ++ line.clause ∷ []) (k + 1))) (sym e) (record {
      clauses = ap (λ x. x ++ line.clause ∷ []) h.clauses ∙ append_assoc f (clauses_in log) (line.clause ∷ []) ∙ ap (λ x. f ++ x) (sym (clauses_push log line));
      count = length_push log line ∙ ap (λ x. x + 1) h.count;
      derived = derived_push n f log line h.derived (subst (λ x. is_derived n x line ≡ true) h.clauses d);
      learned = learned_push f log line h.learned (λ _. subst (λ x. IsLearned x line.clause) h.clauses i);
      not_empty = empty_push log line h.not_empty s;
    })

-- the kept lines make a log without an empty one
pub opened : (n : ℕ) (f cs : List (List Lit)) (k limit : ℕ) (told : Option (List Line)) → IfSome told (IsLogged n f cs k) → k ≤ limit → IfSome told (IsOpenLog n f limit)
opened n f cs k limit None h b = tt
opened n f cs k limit (Some log) h b = record { log = record { derived = h.derived; learned = h.learned; few = let c = h.count in omega (arith, c, b) }; not_empty = h.not_empty }

-- the empty line is told
pub logged_last : (n : ℕ) (f cs : List (List Lit)) (k : ℕ) (told new : Option (List Line)) (line : Line) → IfSome told (IsLogged n f cs k) → new ≡ with_line told line → is_derived n cs line ≡ true → is_empty line.clause ≡ true → IfSome new (IsLog n f (k + 1))
logged_last n f cs k None new line h e d s = subst (λ o. IfSome o (IsLog n f (k + 1))) (sym e) tt
logged_last n f cs k (Some log) new line h e d s =
    subst (λ o. IfSome o (IsLog n f (k + 1))) (sym e) (record {
      derived = derived_push n f log line h.derived (subst (λ x. is_derived n x line ≡ true) h.clauses d);
      learned = learned_push f log line h.learned (λ g. absurd (let z : true ≡ false = sym s ∙ g in cc));
      few = let a = length_push log line in let c = h.count in omega (arith, a, c);
    })

-- and end the log
pub ends_last : (n : ℕ) (f cs : List (List Lit)) (k : ℕ) (told new : Option (List Line)) (line : Line) → IfSome told (IsLogged n f cs k) → new ≡ with_line told line → is_empty line.clause ≡ true → IfSome new (λ log. ends_empty log ≡ true)
ends_last n f cs k None new line h e s = subst (λ o. IfSome o (λ log. ends_empty log ≡ true)) (sym e) tt
ends_last n f cs k (Some log) new line h e s = subst (λ o. IfSome o (λ log. ends_empty log ≡ true)) (sym e) (ends_push log line h.not_empty s)

pub tells_with_line : (told new : Option (List Line)) (line : Line) → new ≡ with_line told line → is_some new ≡ is_some told
tells_with_line None new line e = ap is_some e
tells_with_line (Some log) new line e = ap is_some e

pub empty_clause : (c : List Lit) → c ≡ [] → is_empty c ≡ true
empty_clause c e = ap is_empty e

-- an empty derived line leaves the formula no model
pub refuted : (n : ℕ) (f cs : List (List Lit)) (line : Line) → ((v : ℕ → Bool) → are_true v f ≡ true → are_true v cs ≡ true) → is_derived n cs line ≡ true → line.clause ≡ [] → HasNoModel f
refuted n f cs line follow d e v h =
    let t = derived_true v n cs line (follow v h) d in
    let z = ap (is_clause_true v) e in
    grind (arith, t, z)

derived_within : (n : ℕ) (cs : List (List Lit)) (line : Line) → is_derived n cs line ≡ true → (rises_above 0 line.clause ≡ true) × (is_within n line.clause ≡ true)
derived_within n cs line d = (grind (arith, d), grind (arith, d))

-- a search goes on with its line, on a trail that is one with it
pub searched : (n : ℕ) (f cs cs' : List (List Lit)) (t t' t'' : List Entry) (k : ℕ) (told new : Option (List Line)) (line : Line) → IsSearch n f cs t k told → IsLearning cs t line t' → t'' ≡ up_to (greatest_level t' line.clause) t' → new ≡ with_line told line → cs' ≡ cs ++ line.clause ∷ [] → IsSearch n f cs' t'' (k + 1) new
searched n f cs cs' t t' t'' k told new line s l j e g =
    subst (λ x. IsSearch n f x t'' (k + 1) new) (sym g) (record {
      follow = λ v h.
          let a = s.follow v h in
          let b = derived_true v n cs line a (l.derived n s.trail) in
          let w = are_true-append v cs (line.clause ∷ []) in
          grind (arith, a, b, w);
      back = λ v h. let w = are_true-append v cs (line.clause ∷ []) in s.back v (grind (arith, h, w));
      within = let w = derived_within n cs line (l.derived n s.trail) in are_within-push n cs line.clause s.within w.0 w.1;
      trail = subst (IsTrail n (cs ++ line.clause ∷ [])) (sym j) (jumped n cs t' line.clause (l.trail n s.trail) l.asserting);
      told = logged_more n f cs k told new line s.told e (l.derived n s.trail) l.learned l.some;
    })

pub on_ok : {A E : Type 0} (r : Result A E) (P : Type 0) → P → OnOk r P
on_ok (Ok a) P p = p
on_ok (Err e) P p = tt

pub on_err : {A E : Type 0} (r : Result A E) (P : Type 0) → P → OnErr r P
on_err (Ok a) P p = tt
on_err (Err e) P p = p

pub on_ok_by : {A E : Type 0} (r : Result A E) (P Q : Type 0) → OnOk r P → (P → Q) → OnOk r Q
on_ok_by (Ok a) P Q p f = f p
on_ok_by (Err e) P Q p f = tt

pub if_ok_by : {A E : Type 0} (r : Result A E) (P Q : A → Type 0) → IfOk r P → ((a : A) → P a → Q a) → IfOk r Q
if_ok_by (Ok a) P Q p f = f a p
if_ok_by (Err e) P Q p f = tt

-- the number of a clause in conflict is the number of a clause
pub conflict_within : (cs : List (List Lit)) (t : List Entry) (k : ℕ) → IsConflict cs t k → k ≤ length cs
conflict_within cs t k w = go (clause_at cs k) refl w
  where
    go : (o : Option (List Lit)) → clause_at cs k ≡ o → option_unfalse (lits_of t) (clause_at cs k) ≡ Some [] → k ≤ length cs
    go None f w = absurd (let z : None ≡ Some [] = ap (option_unfalse (lits_of t)) (sym f) ∙ w in cc)
    go (Some c) f w = (clause_within cs k c f).1
