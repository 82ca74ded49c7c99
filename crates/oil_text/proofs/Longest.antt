-- The longest match in front of a text.
use Rattle.std.proofs.Common.{◌≡◌, ◌∙◌, ℕ, zero, suc, ◌+◌, ◌-◌, ◌≤◌, ◌<◌, Bool, true, false, ◌&&◌, cond, List, [], ◌∷◌, length, take, drop, get_or, nat_eq, nat_lt, ◌==◌, refl, sym, ap, arith, add-one}
use Rattle.std.specs.List.{prefix_len, list_all}
use Rattle.std.specs.Cmp.Lexicographic.{pointwise}
use Rattle.std.proofs.lemmas.List.{length-drop}
use Rattle.std.proofs.Math.Seq.{drop-cons}
use Rattle.oil_text.specs.Pieces.{after, after_some, after_bytes, is_end, IsLongest, NonePasses}
use Rattle.std.proofs.lemmas.List.Sums.{prefix_len-le-length}

pub prefix_le : (test : ℕ → Bool) (bs : List ℕ) → prefix_len test bs ≤ length bs
prefix_le test bs = prefix_len-le-length test bs

-- ---- words

pub word_in_front : (w bs : List ℕ) → pointwise nat_eq w (take (length w) bs) ≡ after_bytes w (λ more. true) bs
word_in_front [] bs = refl
word_in_front (c ∷ cs) [] = refl
word_in_front (c ∷ cs) (b ∷ bs) = ap (λ t. nat_eq c b && t) (word_in_front cs bs)

pub word_is : (w bs : List ℕ) → pointwise nat_eq w bs ≡ after_bytes w is_end bs
word_is [] [] = refl
word_is [] (b ∷ bs) = refl
word_is (c ∷ cs) [] = refl
word_is (c ∷ cs) (b ∷ bs) = ap (λ t. nat_eq c b && t) (word_is cs bs)

-- ---- the same test

pub same_longest : (passes other : List ℕ → Bool) → ((x : List ℕ) → passes x ≡ other x) → (text : List ℕ) (n : ℕ) → IsLongest other text n → IsLongest passes text n
same_longest passes other same text n h = record {
  within = h.within;
  passing = same (take n text) ∙ h.passing;
  no_longer = λ m more most. same (take m text) ∙ h.no_longer m more most;
}

-- ---- after some bytes

after_take : (test : ℕ → Bool) (next : List ℕ → Bool) (text : List ℕ) (m : ℕ) → after test next (take m text) ≡ next (take (m - prefix_len test text) (drop (prefix_len test text) text))
after_take test next [] zero = refl
after_take test next [] (suc m) = let z : suc m - 0 ≡ suc m = omega arith in rw z refl
after_take test next (b ∷ bs) zero = let z : 0 - prefix_len test (b ∷ bs) ≡ 0 = omega arith in rw z refl
after_take test next (b ∷ bs) (suc m) = go (test b) (after_take test next bs m)
  where
    go : (c : Bool) → after test next (take m bs) ≡ next (take (m - prefix_len test bs) (drop (prefix_len test bs) bs)) → cond c (after test next (take m bs)) (next (b ∷ take m bs)) ≡ next (take (suc m - cond c (1 + prefix_len test bs) 0) (drop (cond c (1 + prefix_len test bs) 0) (b ∷ bs)))
    go true h = let s : 1 + prefix_len test bs ≡ suc (prefix_len test bs) = omega arith in let e : suc m - suc (prefix_len test bs) ≡ m - prefix_len test bs = omega arith in h ∙ rw (s, e) refl
    go false h = let z : suc m - 0 ≡ suc m = omega arith in rw z refl

left_length : (test : ℕ → Bool) (text : List ℕ) → length (drop (prefix_len test text) text) ≡ length text - prefix_len test text
left_length test text = length-drop (prefix_len test text) text

pub after_longest : (test : ℕ → Bool) (next : List ℕ → Bool) (text : List ℕ) (r k : ℕ) → r ≡ prefix_len test text → IsLongest next (drop r text) k → IsLongest (after test next) text (r + k)
after_longest test next text r k e h =
    let p = prefix_len-le-length test text in
    let q : length (drop r text) ≡ length text - r = rw e (left_length test text) in
    let one : (m : ℕ) → after test next (take m text) ≡ next (take (m - r) (drop r text)) = λ m. rw e (after_take test next text m) in
    let back : r + k - r ≡ k = omega arith in
    record {
      within = omega (arith, h.within);
      passing = one (r + k) ∙ rw back h.passing;
      no_longer = λ m more most. one m ∙ h.no_longer (m - r) (omega arith) (omega arith);
    }

pub after_none : (test : ℕ → Bool) (next : List ℕ → Bool) (text : List ℕ) (r : ℕ) → r ≡ prefix_len test text → NonePasses next (drop r text) → NonePasses (after test next) text
after_none test next text r e h m most =
    let p = prefix_len-le-length test text in
    let q : length (drop r text) ≡ length text - r = rw e (left_length test text) in
    let one : after test next (take m text) ≡ next (take (m - r) (drop r text)) = rw e (after_take test next text m) in
    one ∙ h (m - r) (omega arith)

-- where a byte in front passes, some do
some_take : (test : ℕ → Bool) (next : List ℕ → Bool) (text : List ℕ) (m : ℕ) → 0 < prefix_len test text → 0 < m → after_some test next (take m text) ≡ after test next (take m text)
some_take test next [] m p q = absurd (omega arith)
some_take test next (b ∷ bs) zero p q = absurd (omega arith)
some_take test next (b ∷ bs) (suc m) p q = go (test b) p
  where
    go : (c : Bool) → 0 < cond c (1 + prefix_len test bs) 0 → (c && after test next (take m bs)) ≡ cond c (after test next (take m bs)) (next (b ∷ take m bs))
    go true p = refl
    go false p = absurd (omega arith)

some_take_none : (test : ℕ → Bool) (next : List ℕ → Bool) (text : List ℕ) (m : ℕ) → prefix_len test text ≡ 0 → after_some test next (take m text) ≡ false
some_take_none test next [] zero p = refl
some_take_none test next [] (suc m) p = refl
some_take_none test next (b ∷ bs) zero p = refl
some_take_none test next (b ∷ bs) (suc m) p = go (test b) p
  where
    go : (c : Bool) → cond c (1 + prefix_len test bs) 0 ≡ 0 → (c && after test next (take m bs)) ≡ false
    go true p = absurd (omega arith)
    go false p = refl

some_zero : (test : ℕ → Bool) (next : List ℕ → Bool) (text : List ℕ) → after_some test next (take 0 text) ≡ false
some_zero test next [] = refl
some_zero test next (b ∷ bs) = refl

pub some_longest : (test : ℕ → Bool) (next : List ℕ → Bool) (text : List ℕ) (r k : ℕ) → r ≡ prefix_len test text → 0 < r → IsLongest next (drop r text) k → IsLongest (after_some test next) text (r + k)
some_longest test next text r k e p h =
    let a = after_longest test next text r k e h in
    record {
      within = a.within;
      passing = some_take test next text (r + k) (omega (arith, e)) (omega arith) ∙ a.passing;
      no_longer = λ m more most. some_take test next text m (omega (arith, e)) (omega arith) ∙ a.no_longer m more most;
    }

pub some_none : (test : ℕ → Bool) (next : List ℕ → Bool) (text : List ℕ) (r : ℕ) → r ≡ prefix_len test text → NonePasses next (drop r text) → NonePasses (after_some test next) text
some_none test next text zero e h m most = some_take_none test next text m (sym e)
some_none test next text (suc r) e h zero most = some_zero test next text
some_none test next text (suc r) e h (suc m) most =
    some_take test next text (suc m) (omega (arith, e)) (omega arith) ∙ after_none test next text (suc r) e h (suc m) most

pub no_some : (test : ℕ → Bool) (next : List ℕ → Bool) (text : List ℕ) → prefix_len test text ≡ 0 → NonePasses (after_some test next) text
no_some test next text e m most = some_take_none test next text m e

-- ---- the end

pub end_longest : (text : List ℕ) → IsLongest is_end text 0
end_longest text = record { within = omega arith; passing = none text; no_longer = λ m more most. some text m more most }
  where
    none : (xs : List ℕ) → is_end (take 0 xs) ≡ true
    none [] = refl
    none (b ∷ bs) = refl

    some : (xs : List ℕ) (m : ℕ) → 0 < m → m ≤ length xs → is_end (take m xs) ≡ false
    some [] m p q = absurd (omega arith)
    some (b ∷ bs) zero p q = absurd (omega arith)
    some (b ∷ bs) (suc m) p q = refl

pub run_longest : (test : ℕ → Bool) (text : List ℕ) (r : ℕ) → r ≡ prefix_len test text → 0 < r → IsLongest (after_some test is_end) text r
run_longest test text r e p = let z : r + 0 ≡ r = omega arith in rw z at (some_longest test is_end text r 0 e p (end_longest (drop r text)))

all_is_after : (test : ℕ → Bool) (x : List ℕ) → list_all test x ≡ after test is_end x
all_is_after test [] = refl
all_is_after test (b ∷ bs) = go (test b) (all_is_after test bs)
  where
    go : (c : Bool) → list_all test bs ≡ after test is_end bs → (c && list_all test bs) ≡ cond c (after test is_end bs) false
    go true h = h
    go false h = refl

pub all_longest : (test : ℕ → Bool) (text : List ℕ) (r : ℕ) → r ≡ prefix_len test text → IsLongest (list_all test) text r
all_longest test text r e =
    let z : r + 0 ≡ r = omega arith in
    same_longest (list_all test) (after test is_end) (all_is_after test) text r (rw z at (after_longest test is_end text r 0 e (end_longest (drop r text))))

-- ---- after certain bytes

pub bytes_longest : (w : List ℕ) (next : List ℕ → Bool) (text : List ℕ) (k : ℕ) → after_bytes w (λ more. true) text ≡ true → IsLongest next (drop (length w) text) k → IsLongest (after_bytes w next) text (length w + k)
bytes_longest [] next text k e h = let z : 0 + k ≡ k = omega arith in rw z h
bytes_longest (c ∷ cs) next [] k e h = absurd cc
bytes_longest (c ∷ cs) next (b ∷ bs) k e h = go (c == b) refl e (λ f. bytes_longest cs next bs k f h)
  where
    go : (t : Bool) → (c == b) ≡ t → (t && after_bytes cs (λ more. true) bs) ≡ true → (after_bytes cs (λ more. true) bs ≡ true → IsLongest (after_bytes cs next) bs (length cs + k)) → IsLongest (after_bytes (c ∷ cs) next) (b ∷ bs) (suc (length cs) + k)
    go false is e rest = absurd cc
    go true is e rest =
        let below = rest e in
        let s : suc (length cs) + k ≡ suc (length cs + k) = omega arith in
        rw s (record {
          within = omega (arith, below.within);
          passing = rw is below.passing;
          no_longer = λ m more most. longer m more most below;
        })
      where
        longer : (m : ℕ) → suc (length cs + k) < m → m ≤ suc (length bs) → IsLongest (after_bytes cs next) bs (length cs + k) → after_bytes (c ∷ cs) next (take m (b ∷ bs)) ≡ false
        longer zero more most below = absurd (omega arith)
        longer (suc m) more most below = rw is (below.no_longer m (omega arith) (omega arith))

pub bytes_none : (w : List ℕ) (next : List ℕ → Bool) (text : List ℕ) → after_bytes w (λ more. true) text ≡ false → NonePasses (after_bytes w next) text
bytes_none [] next text e m most = absurd cc
bytes_none (c ∷ cs) next [] e zero most = refl
bytes_none (c ∷ cs) next [] e (suc m) most = refl
bytes_none (c ∷ cs) next (b ∷ bs) e zero most = refl
bytes_none (c ∷ cs) next (b ∷ bs) e (suc m) most = go (c == b) e (λ f. bytes_none cs next bs f m (omega arith))
  where
    go : (t : Bool) → (t && after_bytes cs (λ more. true) bs) ≡ false → (after_bytes cs (λ more. true) bs ≡ false → after_bytes cs next (take m bs) ≡ false) → (t && after_bytes cs next (take m bs)) ≡ false
    go false e rest = refl
    go true e rest = rest e

-- ---- a loop that goes on byte by byte

-- no bytes before the place pass, and from there on the text passes as it does from its start
pub record Behind (passes : List ℕ → Bool) (text : List ℕ) (i : ℕ) : Type 0 where
  pub within : i ≤ length text
  pub not_yet : (m : ℕ) → m < i → passes (take m text) ≡ false
  pub same : (m : ℕ) → passes (take (i + m) text) ≡ passes (take m (drop i text))

pub behind_start : (passes : List ℕ → Bool) (text : List ℕ) → Behind passes text 0
behind_start passes text = record {
  within = omega arith;
  not_yet = λ m less. absurd (omega arith);
  same = λ m. let z : 0 + m ≡ m = omega arith in rw z refl;
}

pub behind_step : (passes : List ℕ → Bool) (text : List ℕ) (i : ℕ) → i < length text → passes [] ≡ false → ((m : ℕ) → passes (get_or text i 0 ∷ take m (drop (suc i) text)) ≡ passes (take m (drop (suc i) text))) → Behind passes text i → Behind passes text (i + 1)
behind_step passes text i less empty goes h = record {
  within = omega arith;
  not_yet = before;
  same = λ m. let e : i + 1 + m ≡ i + suc m = omega arith in rw (e, add-one) (h.same (suc m) ∙ rw (drop-cons text i 0 less) (goes m));
}
  where
    zero_same : i + 0 ≡ i
    zero_same = omega arith

    none : (xs : List ℕ) → passes (take 0 xs) ≡ passes []
    none [] = refl
    none (b ∷ bs) = refl

    at_place : passes (take i text) ≡ false
    at_place = (rw zero_same at (h.same 0)) ∙ none (drop i text) ∙ empty

    before : (m : ℕ) → m < i + 1 → passes (take m text) ≡ false
    before m less = split (nat_lt m i) refl
      where
        split : (t : Bool) → nat_lt m i ≡ t → passes (take m text) ≡ false
        split true e = h.not_yet m (grind (arith, e))
        split false e = let s : m ≡ i = grind (arith, e, less) in rw s at_place

pub behind_found : (passes : List ℕ → Bool) (text : List ℕ) (i n : ℕ) → IsLongest passes (drop i text) n → Behind passes text i → IsLongest passes text (i + n)
behind_found passes text i n h b =
    let q : length (drop i text) ≡ length text - i = length-drop i text in
    record {
      within = omega (arith, h.within, b.within);
      passing = b.same n ∙ h.passing;
      no_longer = λ m more most.
          let e : i + (m - i) ≡ m = omega arith in
          rw e at (b.same (m - i) ∙ h.no_longer (m - i) (omega arith) (omega arith));
    }

pub behind_none : (passes : List ℕ → Bool) (text : List ℕ) (i : ℕ) → NonePasses passes (drop i text) → Behind passes text i → NonePasses passes text
behind_none passes text i h b m most = split (nat_lt m i) refl
  where
    q : length (drop i text) ≡ length text - i
    q = length-drop i text

    split : (t : Bool) → nat_lt m i ≡ t → passes (take m text) ≡ false
    split true e = b.not_yet m (grind (arith, e))
    split false e =
        let le : i ≤ m = grind (arith, e) in
        let s : i + (m - i) ≡ m = omega arith in
        rw s at (b.same (m - i) ∙ h (m - i) (omega (arith, q, most)))
