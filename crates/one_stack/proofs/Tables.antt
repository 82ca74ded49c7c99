-- Sums, tables and lists that are put one after another.
use Rattle.std.proofs.Common.{◌≡◌, ◌≢◌, ℕ, zero, suc, ◌+◌, ◌<◌, ◌≤◌, Bool, true, false, List, [], ◌∷◌, ◌++◌, length, refl, sym, ap, ap₂, subst, ◌∙◌, arith, ◌==◌, if◌then◌else◌, get_or, length-append, slice_get}
use Rattle.std.proofs.lemmas.Bool.Decides.{nat_tests}
use Rattle.std.proofs.lemmas.List.{get_or_append_left, get_or-append-add}
use Rattle.std.specs.Prelude.{unwrap_or}
use Rattle.one_stack.specs.Built.{sum_below, table, concat_below}

pub sum-more : (n k : ℕ) (f : ℕ → ℕ) → n ≤ k → sum_below n f ≤ sum_below k f
sum-more n zero f h = let z : n ≡ zero = omega arith in subst (λ m. sum_below m f ≤ 0) (sym z) (omega arith)
sum-more n (suc k) f h = go (n == suc k) refl (λ l. sum-more n k f l)
  where
    go : (b : Bool) → (n == suc k) ≡ b → (n ≤ k → sum_below n f ≤ sum_below k f) → sum_below n f ≤ sum_below k f + f k
    go true e ih =
        let same : suc k ≡ n = grind (arith, nat_tests) in
        subst (λ m. sum_below m f ≤ sum_below k f + f k) same (omega arith)
    go false e ih =
        let differ : n ≢ suc k = grind (arith, nat_tests) in
        let less = ih (omega arith) in
        omega arith

pub sum-mono : (n : ℕ) (f g : ℕ → ℕ) → ((k : ℕ) → k < n → f k ≤ g k) → sum_below n f ≤ sum_below n g
sum-mono zero f g h = omega arith
sum-mono (suc n) f g h =
    let ih = sum-mono n f g (λ k lt. h k (omega arith)) in
    let last = h n (omega arith) in
    omega arith

pub sum-add : (n : ℕ) (f g : ℕ → ℕ) → sum_below n (λ k. f k + g k) ≡ sum_below n f + sum_below n g
sum-add zero f g = refl
sum-add (suc n) f g = let ih = sum-add n f g in omega arith

pub sum-at : (n t : ℕ) (v : ℕ) → t < n → v ≤ sum_below n (λ k. if t == k then v else 0)
sum-at zero t v h = absurd (omega arith)
sum-at (suc n) t v h = go (t == n) refl (λ l. sum-at n t v l)
  where
    go : (b : Bool) → (t == n) ≡ b → (t < n → v ≤ sum_below n (λ k. if t == k then v else 0)) → v ≤ sum_below n (λ k. if t == k then v else 0) + (if b then v else 0)
    go true e ih = omega arith
    go false e ih =
        let differ : t ≢ n = grind (arith, nat_tests) in
        let less = ih (omega arith) in
        omega arith

-- the item at a number, and this one where there is none
abbrev pub item : {A : Type 0} → List A → ℕ → A → A
item xs n d = unwrap_or (slice_get xs n) d

module _ {A : Type 0} where
  get_item : (xs : List A) (n : ℕ) (d : A) → get_or xs n d ≡ item xs n d
  get_item [] n d = refl
  get_item (x ∷ xs) zero d = refl
  get_item (x ∷ xs) (suc n) d = get_item xs n d

  pub length-table : (n : ℕ) (f : ℕ → A) → length (table n f) ≡ n
  length-table zero f = refl
  length-table (suc n) f = length-append (table n f) (f n ∷ []) ∙ (let ih = length-table n f in omega arith)

  -- what stands after a list of this length
  pub after_list : (xs ys : List A) (c n : ℕ) (d : A) → length xs ≡ c → item (xs ++ ys) (c + n) d ≡ item ys n d
  after_list xs ys c n d e = subst (λ k. item (xs ++ ys) (k + n) d ≡ item ys n d) e (sym (get_item (xs ++ ys) (length xs + n) d) ∙ (get_or-append-add xs ys n d ∙ get_item ys n d))

  -- what stands in it
  pub in_list : (xs ys : List A) (c n : ℕ) (d : A) → length xs ≡ c → n < c → item (xs ++ ys) n d ≡ item xs n d
  in_list xs ys c n d e lt = sym (get_item (xs ++ ys) n d) ∙ (get_or_append_left xs ys d n (omega arith) ∙ get_item xs n d)

  pub get-table : (n k : ℕ) (f : ℕ → A) (d : A) → k < n → item (table n f) k d ≡ f k
  get-table zero k f d h = absurd (omega arith)
  get-table (suc n) k f d h = go (k == n) refl (λ l. get-table n k f d l)
    where
      go : (b : Bool) → (k == n) ≡ b → (k < n → item (table n f) k d ≡ f k) → item (table n f ++ f n ∷ []) k d ≡ f k
      go true e ih =
          let same : n + 0 ≡ k = grind (arith, nat_tests) in
          let here : n ≡ k = grind (arith, nat_tests) in
          subst (λ j. item (table n f ++ f n ∷ []) j d ≡ f n) same (after_list (table n f) (f n ∷ []) n 0 d (length-table n f)) ∙ ap f here
      go false e ih =
          let differ : k ≢ n = grind (arith, nat_tests) in
          in_list (table n f) (f n ∷ []) n k d (length-table n f) (omega arith) ∙ ih (omega arith)

  pub length-concat : (n : ℕ) (f : ℕ → List A) (len : ℕ → ℕ) → ((k : ℕ) → length (f k) ≡ len k) → length (concat_below n f) ≡ sum_below n len
  length-concat zero f len h = refl
  length-concat (suc n) f len h =
      length-append (concat_below n f) (f n) ∙ ap₂ (λ a b. a + b) (length-concat n f len h) (h n)

  pub get-concat : (n k i : ℕ) (f : ℕ → List A) (len : ℕ → ℕ) (d : A) → ((j : ℕ) → length (f j) ≡ len j) → k < n → i < len k → item (concat_below n f) (sum_below k len + i) d ≡ item (f k) i d
  get-concat zero k i f len d h lt li = absurd (omega arith)
  get-concat (suc n) k i f len d h lt li = go (k == n) refl (λ l. get-concat n k i f len d h l li)
    where
      go : (b : Bool) → (k == n) ≡ b → (k < n → item (concat_below n f) (sum_below k len + i) d ≡ item (f k) i d) → item (concat_below n f ++ f n) (sum_below k len + i) d ≡ item (f k) i d
      go true e ih =
          let same : n ≡ k = grind (arith, nat_tests) in
          subst (λ j. item (concat_below n f ++ f n) (sum_below j len + i) d ≡ item (f j) i d) same (after_list (concat_below n f) (f n) (sum_below n len) i d (length-concat n f len h))
      go false e ih =
          let differ : k ≢ n = grind (arith, nat_tests) in
          let below : k < n = omega arith in
          let up : sum_below (suc k) len ≤ sum_below n len = sum-more (suc k) n len (omega arith) in
          in_list (concat_below n f) (f n) (sum_below n len) (sum_below k len + i) d (length-concat n f len h) (omega arith) ∙ ih below
