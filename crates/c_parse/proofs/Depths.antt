-- One token more, and how deep the text is then.
use Rattle.std.proofs.Common.{◌≡◌, ℕ, suc, ◌≤◌, ◌<◌, ◌+◌, true, false, not, ◌||◌, List, [], ◌∷◌, ◌++◌, ◌⊎◌, inl, inr, length, take, drop, get_or, refl, sym, ap, subst, ◌∙◌, arith}
use Rattle.std.specs.Prelude.{nat_le}
use Rattle.std.proofs.lemmas.List.{take_all, take_more, take-append-drop}
use Rattle.std.proofs.Math.Seq.{drop-cons}
use Rattle.std.proofs.lemmas.List.Sums.{fold-append}
use Rattle.std.proofs.lemmas.Bool.{or_parts}
use Rattle.c_lex.specs.declared.token.Token.{Token}
use Rattle.c_parse.specs.Depth.{more_open, more_marks, open_braces, open_marks, is_deep, IsShallow, IsDepthFault}

next_open : (xs : List Token) (t : Token) → open_braces (xs ++ t ∷ []) ≡ more_open (open_braces xs) t
next_open xs t = fold-append more_open 0 xs (t ∷ [])

next_marks : (xs : List Token) (t : Token) → open_marks (xs ++ t ∷ []) ≡ more_marks (open_marks xs) t
next_marks xs t = fold-append more_marks 0 xs (t ∷ [])

pub next_deep : (xs : List Token) (t : Token) (b m : ℕ) → more_open (open_braces xs) t ≡ b → more_marks (open_marks xs) t ≡ m → is_deep (xs ++ t ∷ []) ≡ (not (nat_le b 64) || not (nat_le m 64))
next_deep xs t b m p q = rw (next_open xs t ∙ p, next_marks xs t ∙ q) refl

-- a front of a list with one more at its end is a front of the list, or the whole
fronts : {A : Type 0} (xs : List A) (x : A) (front more : List A) → xs ++ x ∷ [] ≡ front ++ more → ((rest : List A) × (xs ≡ front ++ rest)) ⊎ (front ≡ xs ++ x ∷ [])
fronts xs x [] more e = inl (xs, refl)
fronts {A = A} [] x (y ∷ ys) more e = inr (ends y ys more e)
  where
    ends : (y : A) (ys more : List A) → x ∷ [] ≡ y ∷ ys ++ more → y ∷ ys ≡ x ∷ []
    ends y [] more e = let h : x ≡ y = cc in rw h refl
    ends y (z ∷ zs) more e = absurd (let h : [] ≡ z ∷ (zs ++ more) = cc in cc)
fronts (z ∷ zs) x (y ∷ ys) more e =
    let same : z ≡ y = cc in
    let later : zs ++ x ∷ [] ≡ ys ++ more = cc in
    elim (fronts zs x ys more later) [
      | inl p ↦ inl (p.0, rw (same, p.1) refl)
      | inr p ↦ inr (rw (same, p) refl)
    ]

pub shallow_start : IsShallow []
shallow_start [] more e = refl
shallow_start (x ∷ xs) more e = absurd (let h : [] ≡ x ∷ (xs ++ more) = e in cc)

pub shallow_next : (xs : List Token) (t : Token) → IsShallow xs → is_deep (xs ++ t ∷ []) ≡ false → IsShallow (xs ++ t ∷ [])
shallow_next xs t h d front more e = elim (fronts xs t front more e) [
  | inl p ↦ h front p.0 p.1
  | inr p ↦ rw p d
]

pub bounded : (b m : ℕ) → (not (nat_le b 64) || not (nat_le m 64)) ≡ false → (b ≤ 64) × (m ≤ 64)
bounded b m h = let p = or_parts _ _ h in (low b p.0, low m p.1)
  where
    low : (k : ℕ) → not (nat_le k 64) ≡ false → k ≤ 64
    low k e = grind (arith, e)

-- ---- the counts over a front that is nested no deeper than is read

pub record IsCounted (front : List Token) (braces marks : ℕ) : Type 0 where
  pub braces_are : open_braces front ≡ braces
  pub marks_are : open_marks front ≡ marks
  pub shallow : IsShallow front
  pub few_braces : braces ≤ 64
  pub few_marks : marks ≤ 64

pub starts : IsCounted [] 0 0
starts = record { braces_are = refl; marks_are = refl; shallow = shallow_start; few_braces = omega arith; few_marks = omega arith }

counts_next : (front : List Token) (t : Token) (b m b' m' : ℕ) → b' ≡ more_open b t → m' ≡ more_marks m t → IsCounted front b m → is_deep (front ++ t ∷ []) ≡ (not (nat_le b' 64) || not (nat_le m' 64))
counts_next front t b m b' m' q r p = next_deep front t b' m' (ap (λ n. more_open n t) p.braces_are ∙ sym q) (ap (λ n. more_marks n t) p.marks_are ∙ sym r)

pub goes_on : (xs : List Token) (i : ℕ) (d : Token) (b m b' m' : ℕ) → i < length xs → b' ≡ more_open b (get_or xs i d) → m' ≡ more_marks m (get_or xs i d) → (not (nat_le b' 64) || not (nat_le m' 64)) ≡ false → IsCounted (take i xs) b m → IsCounted (take (i + 1) xs) b' m'
goes_on xs i d b m b' m' within q r s p =
    let t = get_or xs i d in
    let few = bounded b' m' s in
    subst (λ front. IsCounted front b' m') (sym (take_more xs i d within)) (record {
      braces_are = next_open (take i xs) t ∙ ap (λ n. more_open n t) p.braces_are ∙ sym q;
      marks_are = next_marks (take i xs) t ∙ ap (λ n. more_marks n t) p.marks_are ∙ sym r;
      shallow = shallow_next (take i xs) t p.shallow (counts_next (take i xs) t b m b' m' q r p ∙ s);
      few_braces = few.0;
      few_marks = few.1;
    })

pub stops : (xs : List Token) (i : ℕ) (d : Token) (b m b' m' : ℕ) → i < length xs → b' ≡ more_open b (get_or xs i d) → m' ≡ more_marks m (get_or xs i d) → (not (nat_le b' 64) || not (nat_le m' 64)) ≡ true → IsCounted (take i xs) b m → IsDepthFault xs (get_or xs i d) (drop (suc i) xs)
stops xs i d b m b' m' within q r s p = record {
  before = take i xs;
  parts = sym (take-append-drop i xs) ∙ ap (λ ys. take i xs ++ ys) (drop-cons xs i d within);
  shallow = p.shallow;
  deep = counts_next (take i xs) (get_or xs i d) b m b' m' q r p ∙ s;
}

pub ends : (xs : List Token) (i b m : ℕ) → length xs ≤ i → IsCounted (take i xs) b m → IsShallow xs
ends xs i b m h p = subst IsShallow (take_all i xs h) p.shallow
