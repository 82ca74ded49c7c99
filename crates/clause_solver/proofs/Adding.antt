-- A resolvent with one literal more.
use Rattle.std.proofs.Common.{◌≡◌, ℕ, suc, ◌+◌, ◌≤◌, Bool, true, false, Option, None, Some, List, [], ◌∷◌, ◌++◌, ◌==◌, if◌then◌else◌, ◌⊎◌, inl, inr, length, is_none, refl, sym, ap, ◌∙◌, subst, arith}
use Rattle.std.proofs.lemmas.Bool.Decides.{nat_tests}
use Rattle.clause_form.specs.declared.lit.Lit.{Lit}
use Rattle.clause_form.specs.Literals.{negation, has}
use Rattle.clause_form.proofs.Negations.{same_lit, negation-negation}
use Rattle.clause_form.proofs.Sets.{has-append, has_self}
use Rattle.clause_solver.specs.declared.trail.Entry.{Entry}
use Rattle.clause_solver.specs.Trail.{lits_of, decisions, level_of, below, is_newest, AreFresh}
use Rattle.clause_solver.specs.Resolvent.{newest_count, IsDistinct, IsResolvent, IsPart, Adds}

-- a level is at most the current one
pub level_low : (t : List Entry) (l : Lit) (k : ℕ) → level_of t l ≡ Some k → k ≤ decisions t
level_low [] l k e = absurd (cc)
level_low (x ∷ xs) l k e = go (λ f. level_low xs l k f) (x.lit.0 == l.0) refl
  where
    go : (level_of xs l ≡ Some k → k ≤ decisions xs) → (b : Bool) → (x.lit.0 == l.0) ≡ b → k ≤ decisions (x ∷ xs)
    go ih true f =
        let g : Some (decisions (x ∷ xs)) ≡ Some k = subst (λ b. (if b then Some (decisions (x ∷ xs)) else level_of xs l) ≡ Some k) f e in
        let s : decisions (x ∷ xs) ≡ k = cc in
        omega (arith, s)
    go ih false f =
        let g : level_of xs l ≡ Some k = subst (λ b. (if b then Some (decisions (x ∷ xs)) else level_of xs l) ≡ Some k) f e in
        let i = ih g in
        grind (arith, i)

abbrev pub is_level : Option ℕ → ℕ → Bool
is_level None k = false
is_level (Some j) k = j == k

-- a literal is of the current level where its level is the current one
pub newest_level : (t : List Entry) (l : Lit) → is_level (level_of t l) (decisions t) ≡ is_newest t l
newest_level [] l = refl
newest_level (x ∷ xs) l = go (newest_level xs l) (λ k e. level_low xs l k e) (x.lit.0 == l.0) refl (is_none x.reason) refl
  where
    older : (o : Option ℕ) → ((k : ℕ) → o ≡ Some k → k ≤ decisions xs) → is_level o (suc (decisions xs)) ≡ false
    older None h = refl
    older (Some k) h = let i = h k refl in grind (arith, nat_tests, i)

    go : is_level (level_of xs l) (decisions xs) ≡ is_newest xs l → ((k : ℕ) → level_of xs l ≡ Some k → k ≤ decisions xs) → (a : Bool) → (x.lit.0 == l.0) ≡ a → (b : Bool) → is_none x.reason ≡ b → is_level (if x.lit.0 == l.0 then Some (decisions (x ∷ xs)) else level_of xs l) (decisions (x ∷ xs)) ≡ (if x.lit.0 == l.0 then true else (if is_none x.reason then false else is_newest xs l))
    go ih low true f b g = rw (f) (grind (arith, nat_tests))
    go ih low false f true g = let o = older (level_of xs l) low in rw (f, g) o
    go ih low false f false g = rw (f, g) ih

-- what isn't of the current level was set before its decision
pub older_below : (t : List Entry) (l : Lit) → has (lits_of t) l ≡ true → is_newest t l ≡ false → has (lits_of (below t)) l ≡ true
older_below [] l h n = absurd (cc)
older_below (x ∷ xs) l h n = go (λ p q. older_below xs l p q) (x.lit.0 == l.0) refl (is_none x.reason) refl
  where
    go : (has (lits_of xs) l ≡ true → is_newest xs l ≡ false → has (lits_of (below xs)) l ≡ true) → (a : Bool) → (x.lit.0 == l.0) ≡ a → (b : Bool) → is_none x.reason ≡ b → has (lits_of (if is_none x.reason then xs else below xs)) l ≡ true
    go ih true f b g = absurd (let m : true ≡ false = subst (λ a. (if a then true else (if is_none x.reason then false else is_newest xs l)) ≡ false) f n in cc)
    go ih false f true g = rw g (grind (arith, f, h))
    go ih false f false g = rw g (ih (grind (arith, f, h)) (grind (arith, f, g, n)))

-- a seen literal that isn't set changes no count
newest_count_absent : (m : List Lit) (t : List Entry) (l : Lit) → has (lits_of t) l ≡ false → newest_count (l ∷ m) t ≡ newest_count m t
newest_count_absent m [] l h = refl
newest_count_absent m (x ∷ xs) l h =
    let ih = newest_count_absent m xs l (grind (arith, nat_tests, h)) in
    let other : (l.0 == x.lit.0) ≡ false = grind (arith, nat_tests, h) in
    grind (arith, ih, other)

-- nor does one on an older literal
pub newest_count_older : (m : List Lit) (t : List Entry) (l : Lit) → is_newest t l ≡ false → newest_count (l ∷ m) t ≡ newest_count m t
newest_count_older m [] l h = refl
newest_count_older m (x ∷ xs) l h = go (λ p. newest_count_older m xs l p) (is_none x.reason) refl
  where
    other : (l.0 == x.lit.0) ≡ false
    other = grind (arith, nat_tests, h)

    go : (is_newest xs l ≡ false → newest_count (l ∷ m) xs ≡ newest_count m xs) → (b : Bool) → is_none x.reason ≡ b → newest_count (l ∷ m) (x ∷ xs) ≡ newest_count m (x ∷ xs)
    go ih true g = grind (arith, other, g)
    go ih false g = let i = ih (grind (arith, nat_tests, g, h)) in grind (arith, other, g, i)

-- a seen literal of the current level counts once more
pub newest_count_newest : (m : List Lit) (t : List Entry) (l : Lit) → AreFresh t → is_newest t l ≡ true → has m l ≡ false → newest_count (l ∷ m) t ≡ suc (newest_count m t)
newest_count_newest m [] l f n h = absurd (cc)
newest_count_newest m (x ∷ xs) l f n h = go (λ p. newest_count_newest m xs l f.1 p h) (x.lit.0 == l.0) refl (is_none x.reason) refl
  where
    gone : (x.lit.0 == l.0) ≡ true → has (lits_of xs) l ≡ false
    gone e = ap (has (lits_of xs)) (sym (same_lit x.lit l (grind (arith, nat_tests, e)))) ∙ f.0

    unseen : (x.lit.0 == l.0) ≡ true → has m x.lit ≡ false
    unseen e = ap (has m) (same_lit x.lit l (grind (arith, nat_tests, e))) ∙ h

    go : (is_newest xs l ≡ true → newest_count (l ∷ m) xs ≡ suc (newest_count m xs)) → (a : Bool) → (x.lit.0 == l.0) ≡ a → (b : Bool) → is_none x.reason ≡ b → newest_count (l ∷ m) (x ∷ xs) ≡ suc (newest_count m (x ∷ xs))
    go ih true e b g =
        let u = unseen e in
        let s = newest_count_absent m xs l (gone e) in
        let turned : (l.0 == x.lit.0) ≡ true = grind (arith, nat_tests, e) in
        grind (arith, u, s, turned)
    go ih false e true g = absurd (grind (arith, e, g, n))
    go ih false e false g =
        let i = ih (grind (arith, e, g, n)) in
        let turned : (l.0 == x.lit.0) ≡ false = grind (arith, nat_tests, e) in
        grind (arith, g, i, turned)

-- there are no more of them than literals that are set
pub newest_count_length : (m : List Lit) (t : List Entry) → newest_count m t ≤ length t
newest_count_length m [] = omega arith
newest_count_length m (x ∷ xs) = let ih = newest_count_length m xs in grind (arith, ih)

-- with more seen, there are no fewer
pub newest_count_mono : (m m' : List Lit) (t : List Entry) → IsPart m m' → newest_count m t ≤ newest_count m' t
newest_count_mono m m' [] p = omega arith
newest_count_mono m m' (x ∷ xs) p = go (newest_count_mono m m' xs p) (has m x.lit) refl
  where
    go : newest_count m xs ≤ newest_count m' xs → (b : Bool) → has m x.lit ≡ b → newest_count m (x ∷ xs) ≤ newest_count m' (x ∷ xs)
    go ih true e = let q = p x.lit e in grind (arith, ih, e, q)
    go ih false e = grind (arith, ih, e)

-- a literal that isn't there, put at the end
pub distinct_push : (ls : List Lit) (l : Lit) → IsDistinct ls → has ls l ≡ false → IsDistinct (ls ++ l ∷ [])
distinct_push [] l d h = (refl, tt)
distinct_push (x ∷ xs) l d h =
    (let a = has-append xs (l ∷ []) x in let b = d.0 in grind (arith, nat_tests, a, b, h), distinct_push xs l d.1 (grind (arith, nat_tests, h)))

part_refl : (a : List Lit) → IsPart a a
part_refl a l h = h

part_more : (a : List Lit) (x : Lit) → IsPart a (x ∷ a)
part_more a x l h = grind (arith, h)

part_push : (a : List Lit) (x : Lit) → IsPart a (a ++ x ∷ [])
part_push a x l h = let s = has-append a (x ∷ []) l in grind (arith, s, h)

-- the only literal of a list of one
only_one : (P : Lit → Type 0) (x l : Lit) → has (x ∷ []) l ≡ true → P x → P l
only_one P x l h p = subst P (same_lit x l (grind (arith, nat_tests, h))) p

-- the literal was met already
pub added_already : (t : List Entry) (m k : List Lit) (n : ℕ) (x : Lit) → IsResolvent t m k n → has m (negation x) ≡ true → Adds t m k (x ∷ []) m k n
added_already t m k n x i h =
    record {
      resolvent = i;
      more_seen = part_refl m;
      more_lower = part_refl k;
      covered = λ l c s. only_one (λ l. has (lits_of t) (negation l) ≡ true → ((is_newest t (negation l) ≡ true) × (has m (negation l) ≡ true)) ⊎ (has k l ≡ true)) x l c at s;
    }
  where
    at : has (lits_of t) (negation x) ≡ true → ((is_newest t (negation x) ≡ true) × (has m (negation x) ≡ true)) ⊎ (has k x ≡ true)
    at s = go (i.cover (negation x) h s)
      where
        go : (is_newest t (negation x) ≡ true) ⊎ (has k (negation (negation x)) ≡ true) → ((is_newest t (negation x) ≡ true) × (has m (negation x) ≡ true)) ⊎ (has k x ≡ true)
        go (inl a) = inl (a, h)
        go (inr b) = inr (subst (λ y. has k y ≡ true) (negation-negation x) b)

-- the literal isn't false
pub added_unset : (t : List Entry) (m k : List Lit) (n : ℕ) (x : Lit) → IsResolvent t m k n → has (lits_of t) (negation x) ≡ false → Adds t m k (x ∷ []) m k n
added_unset t m k n x i h =
    record {
      resolvent = i;
      more_seen = part_refl m;
      more_lower = part_refl k;
      covered = λ l c s. only_one (λ l. has (lits_of t) (negation l) ≡ true → ((is_newest t (negation l) ≡ true) × (has m (negation l) ≡ true)) ⊎ (has k l ≡ true)) x l c (λ s. absurd (let z : true ≡ false = sym s ∙ h in cc)) s;
    }

-- the literal became false at the current level
pub added_newest : (t : List Entry) (m k : List Lit) (n : ℕ) (x : Lit) → AreFresh t → IsResolvent t m k n → has m (negation x) ≡ false → is_newest t (negation x) ≡ true → Adds t m k (x ∷ []) (negation x ∷ m) k (n + 1)
added_newest t m k n x f i h new =
    record {
      resolvent = record {
        count = let a = i.count in let b = newest_count_newest m t (negation x) f new h in omega (arith, a, b);
        cover = λ l c s. cover l c s ((negation x).0 == l.0) refl;
        older = i.older;
        signs = λ l c. let a = i.signs l c in grind (arith, a);
        distinct = i.distinct;
      };
      more_seen = part_more m (negation x);
      more_lower = part_refl k;
      covered = λ l c s. only_one (λ l. ((is_newest t (negation l) ≡ true) × (has (negation x ∷ m) (negation l) ≡ true)) ⊎ (has k l ≡ true)) x l c (inl (new, has_self (negation x) m));
    }
  where
    cover : (l : Lit) → has (negation x ∷ m) l ≡ true → has (lits_of t) l ≡ true → (b : Bool) → ((negation x).0 == l.0) ≡ b → (is_newest t l ≡ true) ⊎ (has k (negation l) ≡ true)
    cover l c s true e = inl (subst (λ y. is_newest t y ≡ true) (same_lit (negation x) l (grind (arith, nat_tests, e))) new)
    cover l c s false e = i.cover l (grind (arith, e, c)) s

-- the literal became false at a lower level
pub added_lower : (t : List Entry) (m k : List Lit) (n : ℕ) (x : Lit) → IsResolvent t m k n → has m (negation x) ≡ false → has (lits_of t) (negation x) ≡ true → is_newest t (negation x) ≡ false → Adds t m k (x ∷ []) (negation x ∷ m) (k ++ x ∷ []) n
added_lower t m k n x i h s old =
    record {
      resolvent = record {
        count = i.count ∙ sym (newest_count_older m t (negation x) old);
        cover = λ l c s. cover l c s ((negation x).0 == l.0) refl;
        older = λ l c. lower l c (has k l) refl;
        signs = λ l c. signs l c (has k l) refl;
        distinct = distinct_push k x i.distinct (unkept (has k x) refl);
      };
      more_seen = part_more m (negation x);
      more_lower = part_push k x;
      covered = λ l c s. only_one (λ l. ((is_newest t (negation l) ≡ true) × (has (negation x ∷ m) (negation l) ≡ true)) ⊎ (has (k ++ x ∷ []) l ≡ true)) x l c (inr self);
    }
  where
    self : has (k ++ x ∷ []) x ≡ true
    self = let a = has-append k (x ∷ []) x in grind (arith, nat_tests, a)

    unkept : (b : Bool) → has k x ≡ b → has k x ≡ false
    unkept true e = absurd (let z : true ≡ false = sym (i.signs x e) ∙ h in cc)
    unkept false e = e

    last : (l : Lit) → has (k ++ x ∷ []) l ≡ true → has k l ≡ false → x ≡ l
    last l c e = let a = has-append k (x ∷ []) l in same_lit x l (grind (arith, nat_tests, a, c, e))

    cover : (l : Lit) → has (negation x ∷ m) l ≡ true → has (lits_of t) l ≡ true → (b : Bool) → ((negation x).0 == l.0) ≡ b → (is_newest t l ≡ true) ⊎ (has (k ++ x ∷ []) (negation l) ≡ true)
    cover l c s true e = inr (subst (λ y. has (k ++ x ∷ []) y ≡ true) (sym (negation-negation x) ∙ ap negation (same_lit (negation x) l (grind (arith, nat_tests, e)))) self)
    cover l c s false e = go (i.cover l (grind (arith, e, c)) s)
      where
        go : (is_newest t l ≡ true) ⊎ (has k (negation l) ≡ true) → (is_newest t l ≡ true) ⊎ (has (k ++ x ∷ []) (negation l) ≡ true)
        go (inl a) = inl a
        go (inr b) = inr (part_push k x (negation l) b)

    lower : (l : Lit) → has (k ++ x ∷ []) l ≡ true → (b : Bool) → has k l ≡ b → has (lits_of (below t)) (negation l) ≡ true
    lower l c true e = i.older l e
    lower l c false e = subst (λ y. has (lits_of (below t)) (negation y) ≡ true) (last l c e) (older_below t (negation x) s old)

    signs : (l : Lit) → has (k ++ x ∷ []) l ≡ true → (b : Bool) → has k l ≡ b → has (negation x ∷ m) (negation l) ≡ true
    signs l c true e = part_more m (negation x) (negation l) (i.signs l e)
    signs l c false e = subst (λ y. has (negation x ∷ m) (negation y) ≡ true) (last l c e) (has_self (negation x) m)

-- no literal is added
pub adds_none : (t : List Entry) (m k : List Lit) (n : ℕ) → IsResolvent t m k n → Adds t m k [] m k n
adds_none t m k n i = record { resolvent = i; more_seen = part_refl m; more_lower = part_refl k; covered = λ l c s. absurd (cc) }

-- two lists of literals are added, one after the other
pub adds_more : (t : List Entry) (m k m' k' m'' k'' a b : List Lit) (n' n'' : ℕ) → Adds t m k a m' k' n' → Adds t m' k' b m'' k'' n'' → Adds t m k (a ++ b) m'' k'' n''
adds_more t m k m' k' m'' k'' a b n' n'' x y =
    record {
      resolvent = y.resolvent;
      more_seen = λ l h. y.more_seen l (x.more_seen l h);
      more_lower = λ l h. y.more_lower l (x.more_lower l h);
      covered = λ l c s. go l c s (has a l) refl;
    }
  where
    up : (l : Lit) → ((is_newest t (negation l) ≡ true) × (has m' (negation l) ≡ true)) ⊎ (has k' l ≡ true) → ((is_newest t (negation l) ≡ true) × (has m'' (negation l) ≡ true)) ⊎ (has k'' l ≡ true)
    up l (inl p) = inl (p.0, y.more_seen (negation l) p.1)
    up l (inr p) = inr (y.more_lower l p)

    go : (l : Lit) → has (a ++ b) l ≡ true → has (lits_of t) (negation l) ≡ true → (q : Bool) → has a l ≡ q → ((is_newest t (negation l) ≡ true) × (has m'' (negation l) ≡ true)) ⊎ (has k'' l ≡ true)
    go l c s true e = up l (x.covered l e s)
    go l c s false e = let w = has-append a b l in y.covered l (grind (arith, w, c, e)) s

-- there is room for one more in the count
pub room : (t : List Entry) (m k : List Lit) (n : ℕ) (x : Lit) → AreFresh t → IsResolvent t m k n → has m (negation x) ≡ false → is_newest t (negation x) ≡ true → n + 1 ≤ length t
room t m k n x f i h new =
    let a = i.count in
    let b = newest_count_newest m t (negation x) f new h in
    let c = newest_count_length (negation x ∷ m) t in
    omega (arith, a, b, c)
