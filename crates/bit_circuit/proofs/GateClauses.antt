-- The clauses of one gate leave exactly one value for its variable.
use Rattle.std.proofs.Common.{◌≡◌, ℕ, ◌+◌, ◌<◌, ◌≤◌, Bool, true, false, not, ◌&&◌, ◌||◌, List, [], ◌∷◌, ◌++◌, length, refl, sym, ◌∙◌, ap, inl, inr, arith, nat_eq, nat_lt, if◌then◌else◌}
use Rattle.std.proofs.lemmas.Bool.{and_parts, and_from, cases_eq}
use Rattle.std.proofs.lemmas.Bool.Decides.{nat_tests}
use Rattle.clause_form.specs.declared.lit.Lit.{Lit}
use Rattle.clause_form.specs.ClauseTruth.{Values, is_lit_true, is_clause_true, are_true, Agree}
use Rattle.clause_form.specs.Literals.{variable, IsOf, negation, literal}
use Rattle.clause_form.proofs.Agreement.{is_lit_true-agree, are_true-agree, are_true-append}
use Rattle.clause_form.proofs.Negations.{is_lit_true-literal, is_lit_true-negation, variable-literal}
use Rattle.bit_circuit.specs.Extension.{PlainFormula, IsModel, Makes, IsCircuit, formula, with_clauses, ordered, xor}

-- ---- a new variable
pub literal_of : (n m : ℕ) → 1 ≤ n → n ≤ m → IsOf m (literal n)
literal_of n m h k = let e = variable-literal n in record { least = omega (arith, e); most = omega (arith, e) }

-- whether two are the same
abbrev pub same : Bool → Bool → Bool
same true b = b
same false b = not b

pub same_from : (a b : Bool) → same a b ≡ true → a ≡ b
same_from true true e = refl
same_from true false e = sym e
same_from false true e = e
same_from false false e = refl

pub same_refl : (a : Bool) → same a a ≡ true
same_refl true = refl
same_refl false = refl

-- the assignment with another value at one variable
abbrev pub with_value : Values → ℕ → Bool → Values
with_value v x b = λ y. if nat_eq y x then b else v y

pub with_value-same : (v : Values) (x : ℕ) (b : Bool) → with_value v x b x ≡ b
with_value-same v x b = grind (arith, nat_tests)

pub with_value-other : (v : Values) (x y : ℕ) (b : Bool) → y < x → with_value v x b y ≡ v y
with_value-other v x y b h = grind (arith, nat_tests)

-- a new variable that is equal to a value of the old ones has exactly one value
pub defined : (old : PlainFormula) (cs : List (List Lit)) (value : Values → Bool) → IsCircuit old → ((v w : Values) → Agree old.variables v w → value v ≡ value w) → ((v : Values) → are_true v cs ≡ same (v (old.variables + 1)) (value v)) → Makes old (formula (old.variables + 1) (old.clauses ++ cs)) (literal (old.variables + 1)) value 1
defined old cs value k fixed clauses = record {
  extends = record {
    grows = omega arith;
    adds = record { more = cs; is = refl };
    inside = tt;
    goes_on = λ v m bits h.
        let w : Values = with_value v (old.variables + 1) (value v) in
        let a : Agree old.variables v w = record { at = λ x l g. sym (with_value-other v (old.variables + 1) x (value v) (omega arith)) } in
        let e : w (old.variables + 1) ≡ value w = with_value-same v (old.variables + 1) (value v) ∙ fixed v w a in
        record {
          values = w;
          agree = a;
          model = record { holds = are_true-append w old.clauses cs ∙ and_from _ _ (sym (are_true-agree old.variables v w old.clauses k.within a) ∙ m.holds) (clauses w ∙ ap (λ b. same b (value w)) e ∙ same_refl (value w)) };
          reads = none bits h;
          only = λ u b g d. record {
            at = λ x l h. elim (cases_eq x (old.variables + 1)) [
              | inl i ↦ rw i (e ∙ sym (fixed v w a) ∙ fixed v u b ∙ sym (same_from _ _ (parts u g).1))
              | inr i ↦ sym (a.at x l (omega arith)) ∙ b.at x l (omega arith)
            ];
          };
        };
  };
  inside = literal_of (old.variables + 1) (old.variables + 1) (omega arith) (omega arith);
  equal = λ v m. is_lit_true-literal v (old.variables + 1) ∙ same_from _ _ (parts v m).1;
  few = omega arith;
}
  where
    parts : (v : Values) → IsModel v (formula (old.variables + 1) (old.clauses ++ cs)) → (are_true v old.clauses ≡ true) × (same (v (old.variables + 1)) (value v) ≡ true)
    parts v m = let h = and_parts (are_true v old.clauses) (are_true v cs) (sym (are_true-append v old.clauses cs) ∙ m.holds) in (h.0, sym (clauses v) ∙ h.1)

    none : (bits : List Bool) → length bits ≡ 0 → [] ≡ bits
    none [] h = refl
    none (b ∷ bs) h = absurd (omega arith)

-- ---- clauses of three
pub ordered_true : (v : Values) (a b r : Lit) → is_clause_true v (ordered a b r) ≡ (is_lit_true v a || (is_lit_true v b || (is_lit_true v r || false)))
ordered_true v a b r = go (nat_lt (variable a) (variable b)) (is_lit_true v a) (is_lit_true v b) refl refl
  where
    turn : (x y z : Bool) → (y || (x || z)) ≡ (x || (y || z))
    turn true true z = refl
    turn true false z = refl
    turn false y z = refl

    go : (t x y : Bool) → is_lit_true v a ≡ x → is_lit_true v b ≡ y → is_clause_true v (if t then a ∷ b ∷ r ∷ [] else b ∷ a ∷ r ∷ []) ≡ (is_lit_true v a || (is_lit_true v b || (is_lit_true v r || false)))
    go true x y e f = refl
    go false x y e f = turn (is_lit_true v a) (is_lit_true v b) (is_lit_true v r || false)

-- ---- r is a and b
and_table : (a b r : Bool) → ((a || (not r || false)) && ((b || (not r || false)) && ((not a || (not b || (r || false))) && true))) ≡ same r (a && b)
and_table true true true = refl
and_table true true false = refl
and_table true false true = refl
and_table true false false = refl
and_table false true true = refl
and_table false true false = refl
and_table false false true = refl
and_table false false false = refl

abbrev and_clauses : Lit → Lit → Lit → List (List Lit)
and_clauses a b r = (a ∷ negation r ∷ []) ∷ (b ∷ negation r ∷ []) ∷ ordered (negation a) (negation b) r ∷ []

and_made : (s : PlainFormula) (a b : Lit) → IsCircuit s → IsOf s.variables a → IsOf s.variables b → Makes s (formula (s.variables + 1) (s.clauses ++ and_clauses a b (literal (s.variables + 1)))) (literal (s.variables + 1)) (λ v. is_lit_true v a && is_lit_true v b) 1
and_made s a b k o p = defined s (and_clauses a b (literal (s.variables + 1))) (λ v. is_lit_true v a && is_lit_true v b) k
    (λ v w g. let e = is_lit_true-agree s.variables v w a o g in let f = is_lit_true-agree s.variables v w b p g in cc)
    (λ v. simp (ordered_true, is_lit_true-negation, is_lit_true-literal) (and_table (is_lit_true v a) (is_lit_true v b) (v (s.variables + 1))))

-- ---- r is a or b and not both
xor_table : (a b r : Bool) → ((not a || (not b || (not r || false))) && ((a || (b || (not r || false))) && ((not a || (b || (r || false))) && ((a || (not b || (r || false))) && true)))) ≡ same r (xor a b)
xor_table true true true = refl
xor_table true true false = refl
xor_table true false true = refl
xor_table true false false = refl
xor_table false true true = refl
xor_table false true false = refl
xor_table false false true = refl
xor_table false false false = refl

abbrev xor_clauses : Lit → Lit → Lit → List (List Lit)
xor_clauses a b r = ordered (negation a) (negation b) (negation r) ∷ ordered a b (negation r) ∷ ordered (negation a) b r ∷ ordered a (negation b) r ∷ []

xor_made : (s : PlainFormula) (a b : Lit) → IsCircuit s → IsOf s.variables a → IsOf s.variables b → Makes s (formula (s.variables + 1) (s.clauses ++ xor_clauses a b (literal (s.variables + 1)))) (literal (s.variables + 1)) (λ v. xor (is_lit_true v a) (is_lit_true v b)) 1
xor_made s a b k o p = defined s (xor_clauses a b (literal (s.variables + 1))) (λ v. xor (is_lit_true v a) (is_lit_true v b)) k
    (λ v w g. let e = is_lit_true-agree s.variables v w a o g in let f = is_lit_true-agree s.variables v w b p g in cc)
    (λ v. simp (ordered_true, is_lit_true-negation, is_lit_true-literal) (xor_table (is_lit_true v a) (is_lit_true v b) (v (s.variables + 1))))

-- ---- r is a where c is true, and else b
choose_table : (c a b r : Bool) → ((not c || (not a || (r || false))) && ((not c || (a || (not r || false))) && ((c || (not b || (r || false))) && ((c || (b || (not r || false))) && true)))) ≡ same r (if c then a else b)
choose_table true true b true = refl
choose_table true true b false = refl
choose_table true false b true = refl
choose_table true false b false = refl
choose_table false a true true = refl
choose_table false a true false = refl
choose_table false a false true = refl
choose_table false a false false = refl

abbrev choose_clauses : Lit → Lit → Lit → Lit → List (List Lit)
choose_clauses c a b r = ordered (negation c) (negation a) r ∷ ordered (negation c) a (negation r) ∷ ordered c (negation b) r ∷ ordered c b (negation r) ∷ []

choose_made : (s : PlainFormula) (c a b : Lit) → IsCircuit s → IsOf s.variables c → IsOf s.variables a → IsOf s.variables b → Makes s (formula (s.variables + 1) (s.clauses ++ choose_clauses c a b (literal (s.variables + 1)))) (literal (s.variables + 1)) (λ v. if is_lit_true v c then is_lit_true v a else is_lit_true v b) 1
choose_made s c a b k n o p = defined s (choose_clauses c a b (literal (s.variables + 1))) (λ v. if is_lit_true v c then is_lit_true v a else is_lit_true v b) k
    (λ v w g. let d = is_lit_true-agree s.variables v w c n g in let e = is_lit_true-agree s.variables v w a o g in let f = is_lit_true-agree s.variables v w b p g in cc)
    (λ v. simp (ordered_true, is_lit_true-negation, is_lit_true-literal) (choose_table (is_lit_true v c) (is_lit_true v a) (is_lit_true v b) (v (s.variables + 1))))

-- ---- the gates as they are made, a clause after another
append_one : (xs : List (List Lit)) (x : List Lit) (ys : List (List Lit)) → (xs ++ x ∷ []) ++ ys ≡ xs ++ x ∷ ys
append_one [] x ys = refl
append_one (z ∷ zs) x ys = ap (λ ws. z ∷ ws) (append_one zs x ys)

-- three clauses added to a formula with one more variable
three : (n : ℕ) (cs : List (List Lit)) (c d e : List Lit) → with_clauses (with_clauses (with_clauses (formula n cs) (c ∷ [])) (d ∷ [])) (e ∷ []) ≡ formula n (cs ++ c ∷ d ∷ e ∷ [])
three n cs c d e = ap (formula n) (append_one (cs ++ c ∷ []) d (e ∷ []) ∙ append_one cs c (d ∷ e ∷ []))

four : (n : ℕ) (cs : List (List Lit)) (c d e f : List Lit) → with_clauses (with_clauses (with_clauses (with_clauses (formula n cs) (c ∷ [])) (d ∷ [])) (e ∷ [])) (f ∷ []) ≡ formula n (cs ++ c ∷ d ∷ e ∷ f ∷ [])
four n cs c d e f = ap (λ s. with_clauses s (f ∷ [])) (three n cs c d e) ∙ ap (formula n) (append_more cs (c ∷ d ∷ e ∷ []) (f ∷ []))
  where
    append_more : (xs ys zs : List (List Lit)) → (xs ++ ys) ++ zs ≡ xs ++ (ys ++ zs)
    append_more [] ys zs = refl
    append_more (x ∷ xs) ys zs = ap (λ ws. x ∷ ws) (append_more xs ys zs)

pub and_made_by : (s s1 s2 s3 new : PlainFormula) (a b r nr na nb : Lit) → IsCircuit s → IsOf s.variables a → IsOf s.variables b → r ≡ literal (s.variables + 1) → s1 ≡ formula (s.variables + 1) s.clauses → nr ≡ negation r → na ≡ negation a → nb ≡ negation b → s2 ≡ with_clauses s1 ((a ∷ nr ∷ []) ∷ []) → s3 ≡ with_clauses s2 ((b ∷ nr ∷ []) ∷ []) → new ≡ with_clauses s3 (ordered na nb r ∷ []) → Makes s new r (λ v. is_lit_true v a && is_lit_true v b) 1
and_made_by s s1 s2 s3 new a b r nr na nb k o p e e1 f1 f2 f3 e2 e3 e4 = rw (e4, e3, e2, e1, f1, f2, f3, e, three (s.variables + 1) s.clauses (a ∷ negation (literal (s.variables + 1)) ∷ []) (b ∷ negation (literal (s.variables + 1)) ∷ []) (ordered (negation a) (negation b) (literal (s.variables + 1)))) (and_made s a b k o p)

pub xor_made_by : (s s1 s2 s3 s4 new : PlainFormula) (a b r nr na nb : Lit) → IsCircuit s → IsOf s.variables a → IsOf s.variables b → r ≡ literal (s.variables + 1) → s1 ≡ formula (s.variables + 1) s.clauses → nr ≡ negation r → na ≡ negation a → nb ≡ negation b → s2 ≡ with_clauses s1 (ordered na nb nr ∷ []) → s3 ≡ with_clauses s2 (ordered a b nr ∷ []) → s4 ≡ with_clauses s3 (ordered na b r ∷ []) → new ≡ with_clauses s4 (ordered a nb r ∷ []) → Makes s new r (λ v. xor (is_lit_true v a) (is_lit_true v b)) 1
xor_made_by s s1 s2 s3 s4 new a b r nr na nb k o p e e1 f1 f2 f3 e2 e3 e4 e5 =
    let l = literal (s.variables + 1) in
    rw (e5, e4, e3, e2, e1, f1, f2, f3, e, four (s.variables + 1) s.clauses (ordered (negation a) (negation b) (negation l)) (ordered a b (negation l)) (ordered (negation a) b l) (ordered a (negation b) l)) (xor_made s a b k o p)

pub choose_made_by : (s s1 s2 s3 s4 new : PlainFormula) (c a b r nr nc na nb : Lit) → IsCircuit s → IsOf s.variables c → IsOf s.variables a → IsOf s.variables b → r ≡ literal (s.variables + 1) → s1 ≡ formula (s.variables + 1) s.clauses → nr ≡ negation r → nc ≡ negation c → na ≡ negation a → nb ≡ negation b → s2 ≡ with_clauses s1 (ordered nc na r ∷ []) → s3 ≡ with_clauses s2 (ordered nc a nr ∷ []) → s4 ≡ with_clauses s3 (ordered c nb r ∷ []) → new ≡ with_clauses s4 (ordered c b nr ∷ []) → Makes s new r (λ v. if is_lit_true v c then is_lit_true v a else is_lit_true v b) 1
choose_made_by s s1 s2 s3 s4 new c a b r nr nc na nb k n o p e e1 f1 f2 f3 f4 e2 e3 e4 e5 =
    let l = literal (s.variables + 1) in
    rw (e5, e4, e3, e2, e1, f1, f2, f3, f4, e, four (s.variables + 1) s.clauses (ordered (negation c) (negation a) l) (ordered (negation c) a (negation l)) (ordered c (negation b) l) (ordered c b (negation l))) (choose_made s c a b k n o p)
