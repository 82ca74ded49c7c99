-- Names that differ, by how often each stands in a list.
use Rattle.std.proofs.Common.{◌≡◌, ℕ, suc, ◌+◌, ◌<◌, ◌≤◌, Bool, true, false, ◌||◌, cond, List, [], ◌∷◌, ◌++◌, length, map, Contains, ◌⊎◌, inl, inr, refl, sym, ap, subst, ◌∙◌, arith, slice_index_or}
use Rattle.std.specs.List.{flat_map, list_any}
use Rattle.std.specs.Str.{bytes_eq}
use Rattle.std.proofs.lemmas.Bool.{false≢true, or_left, or_right, cases_Bool}
use Rattle.std.proofs.lemmas.List.{map-append}
use Rattle.std.proofs.lemmas.List.Folds.{list_any-append, list_any_at}
use Rattle.std.proofs.lemmas.Slice.Eq.{bytes_eq-Decides}
use Rattle.chk_base.specs.declared.text.Name.{Name}
use Rattle.oil_rules.specs.Names.{has_name, repeats}
use Rattle.application.specs.InOrder.{AreDistinct}

-- 1 for the name itself
abbrev pub one_if : Bool → ℕ
one_if true = 1
one_if false = 0

-- how often a name stands in a list
abbrev pub count : List ℕ → List (List ℕ) → ℕ
count q [] = 0
count q (n ∷ ns) = one_if (bytes_eq q n) + count q ns

pub count-append : (q : List ℕ) (xs ys : List (List ℕ)) → count q (xs ++ ys) ≡ count q xs + count q ys
count-append q [] ys = omega arith
count-append q (x ∷ xs) ys = let rest = count-append q xs ys in omega arith

-- a name that is in the list is counted
counted : (q : List ℕ) (ns : List (List ℕ)) → has_name ns q ≡ true → 1 ≤ count q ns
counted q [] has = absurd (false≢true has)
counted q (n ∷ ns) has = by (bytes_eq q n) refl (counted q ns)
  where
    by : (b : Bool) → bytes_eq q n ≡ b → (has_name ns q ≡ true → 1 ≤ count q ns) → 1 ≤ one_if b + count q ns
    by true e later = omega arith
    by false e later = let rest = later (sym (ap (λ b. b || has_name ns q) e) ∙ has) in omega arith

same_text : (n : List ℕ) → bytes_eq n n ≡ true
same_text n = (bytes_eq-Decides n n).1 refl

has_contained : (ns : List (List ℕ)) (n : List ℕ) → Contains ns n → has_name ns n ≡ true
has_contained ns n c = list_any_at (bytes_eq n) ns c.0 n c.1 (ap (bytes_eq n) c.2 ∙ same_text n)

-- where no name is counted twice, all differ
pub distinct_by_count : (ns : List (List ℕ)) → ((q : List ℕ) → count q ns ≤ 1) → AreDistinct ns
distinct_by_count [] few = tt
distinct_by_count (n ∷ ns) few = (
  λ c. let twice = counted n ns (has_contained ns n c) in
      let first = ap one_if (same_text n) in
      let at_most = few n in
      absurd (omega arith),
  distinct_by_count ns (λ q. less (one_if (bytes_eq q n)) (count q ns) (few q)),
)
  where
    less : (a b : ℕ) → a + b ≤ 1 → b ≤ 1
    less a b h = omega arith

-- what it says of names that none is taken
record IsNew (seen : List (List ℕ)) (ns : List Name) (q : List ℕ) : Type 0 where
  unseen : has_name seen q ≡ true → count q (map (λ n. n.text) ns) ≡ 0
  once : count q (map (λ n. n.text) ns) ≤ 1

-- one more name
new_head : (seen : List (List ℕ)) (n : Name) (ns : List Name) (q : List ℕ) → has_name seen n.text ≡ false → IsNew (seen ++ n.text ∷ []) ns q → IsNew seen (n ∷ ns) q
new_head seen n ns q fresh some = by (cases_Bool (bytes_eq q n.text))
  where
    by : (bytes_eq q n.text ≡ true) ⊎ (bytes_eq q n.text ≡ false) → IsNew seen (n ∷ ns) q
    by (inl is) =
        let one : one_if (bytes_eq q n.text) ≡ 1 = ap one_if is in
        let there : has_name (seen ++ n.text ∷ []) q ≡ true = list_any-append (bytes_eq q) seen (n.text ∷ []) ∙ or_right (has_name seen q) (bytes_eq q n.text || false) (or_left (bytes_eq q n.text) false is) in
        let none = some.unseen there in
        record {
          unseen = λ h. absurd (false≢true (sym fresh ∙ subst (λ t. has_name seen t ≡ true) ((bytes_eq-Decides q n.text).0 is) h));
          once = omega arith;
        }
    by (inr is) =
        let nil : one_if (bytes_eq q n.text) ≡ 0 = ap one_if is in
        let few = some.once in
        record {
          unseen = λ h. let none = some.unseen (list_any-append (bytes_eq q) seen (n.text ∷ []) ∙ or_left (has_name seen q) (bytes_eq q n.text || false) h) in omega arith;
          once = omega arith;
        }

new_names : (seen : List (List ℕ)) (ns : List Name) → repeats seen ns ≡ [] → (q : List ℕ) → IsNew seen ns q
new_names seen [] none q = record { unseen = λ _. refl; once = omega arith }
new_names seen (n ∷ ns) none q = by (has_name seen n.text) refl (λ h. new_names (seen ++ n.text ∷ []) ns h q)
  where
    by : (b : Bool) → has_name seen n.text ≡ b → (repeats (seen ++ n.text ∷ []) ns ≡ [] → IsNew (seen ++ n.text ∷ []) ns q) → IsNew seen (n ∷ ns) q
    by true e later =
        let more : n ∷ repeats seen ns ≡ [] = sym (ap (λ b. cond b (n ∷ repeats seen ns) (repeats (seen ++ n.text ∷ []) ns)) e) ∙ none in
        absurd (cc)
    by false e later =
        new_head seen n ns q e (later (sym (ap (λ b. cond b (n ∷ repeats seen ns) (repeats (seen ++ n.text ∷ []) ns)) e) ∙ none))

-- where none is taken, each is counted at most once
pub once_each : (ns : List Name) → repeats [] ns ≡ [] → (q : List ℕ) → count q (map (λ n. n.text) ns) ≤ 1
once_each ns none q = (new_names [] ns none q).once
