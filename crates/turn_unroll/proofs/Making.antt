-- Rows that are made one by one.
use Rattle.std.proofs.Common.{◌≡◌, ℕ, suc, zero, ◌+◌, ◌-◌, ◌*◌, ◌/◌, ◌<◌, ◌≤◌, Bool, true, false, not, ◌&&◌, ◌||◌, List, [], ◌∷◌, ◌++◌, take, drop, replicate, refl, sym, ◌∙◌, ap, subst, arith, if◌then◌else◌, length, get_or, ◌==◌, length-append, ◌⊎◌, inl, inr, Option, Some, None, slice_get, take-suc, Result, Ok, Err, IfOk}
use Rattle.std.proofs.lemmas.Bool.{cases_eq}
use Rattle.std.proofs.lemmas.Bool.Decides.{nat_tests}
use Rattle.clause_form.specs.declared.lit.Lit.{Lit}
use Rattle.clause_form.specs.ClauseTruth.{Values, is_lit_true}
use Rattle.clause_form.specs.Literals.{AreOf, IsOf, literal, variable}
use Rattle.clause_form.proofs.Rising.{AreOf-more, IsOf-more}
use Rattle.bit_circuit.specs.Extension.{PlainFormula, IsModel, Extends, ExtendsWith, Makes}
use Rattle.bit_circuit.proofs.GateClauses.{literal_of}
use Rattle.bit_circuit.proofs.Growth.{extends_refl, extends_trans, with_append, kept}
use Rattle.turn_law.specs.Building.{HasTruth, is_no, free_of}
use Rattle.turn_law.specs.Description.{AreRowsWithin}
use Rattle.turn_law.specs.Sight.{one_deeper}
use Rattle.turn_law.specs.Symbol.{row_true, nth, no as never}
use Rattle.turn_law.proofs.Freedom.{no_false}
use Rattle.turn_unroll.specs.Rows.{GivesLit, GivesRow, GivesSlots, IsFreePlace, IsFreeRow, depth_made, found_below, row_chosen, before}

-- ---- the literal that is false
pub truth_more : (s new : PlainFormula) (free : List Lit) → HasTruth s → ExtendsWith s new free → HasTruth new
truth_more s new free t e = record { starts = omega (arith, t.starts, e.grows); one = λ v m. t.one v (kept e v m) }

pub never_variable : variable never ≡ 1
unfolding variable
never_variable = refl

pub never_of : (s : PlainFormula) → HasTruth s → IsOf s.variables never
never_of s k = record { least = rw never_variable (omega arith); most = rw never_variable (k.starts) }

pub never_within : (n : ℕ) → 1 ≤ n → IsOf n never
never_within n h = record { least = rw never_variable (omega arith); most = rw never_variable h }

pub never_gives : (s : PlainFormula) (l : Lit) → HasTruth s → l ≡ never → GivesLit s s l (λ v. false)
never_gives s l k e = rw e (record { extends = extends_refl s; inside = never_of s k; equal = λ v m. no_false v (k.one v m) })

-- ---- lists
pub AreOf-push : (n : ℕ) (ls : List Lit) (l : Lit) → AreOf n ls → IsOf n l → AreOf n (ls ++ l ∷ [])
AreOf-push n [] l o h = (h, tt)
AreOf-push n (x ∷ ls) l o h = (o.0, AreOf-push n ls l o.1 h)

pub AreOf-get : (n : ℕ) (ls : List Lit) (i : ℕ) (d : Lit) → AreOf n ls → i < length ls → IsOf n (get_or ls i d)
AreOf-get n [] i d o h = absurd (omega (arith, h))
AreOf-get n (l ∷ ls) zero d o h = o.0
AreOf-get n (l ∷ ls) (suc i) d o h = AreOf-get n ls i d o.1 (omega (arith, h))

pub take_more : {A : Type 0} (xs : List A) (i : ℕ) (d : A) → i < length xs → take (i + 1) xs ≡ take i xs ++ get_or xs i d ∷ []
take_more xs i d h = let e : i + 1 ≡ suc i = omega arith in ap (λ n. take n xs) e ∙ take-suc xs i d h

pub take_whole : {A : Type 0} (xs : List A) (i : ℕ) → i ≡ length xs → take i xs ≡ xs
take_whole [] zero e = refl
take_whole [] (suc i) e = refl
take_whole (x ∷ xs) zero e = absurd (omega (arith, e))
take_whole (x ∷ xs) (suc i) e = ap (λ ys. x ∷ ys) (take_whole xs i (omega (arith, e)))

-- a list that was lent and comes back with as many elements
pub lent_back : {A : Type 0} (n : ℕ) (xs ys : List A) → length xs ≡ n → take n (xs ++ drop (length xs) ys) ≡ xs
lent_back n xs ys e = subst (λ k. take k (xs ++ drop (length xs) ys) ≡ xs) e (front xs (drop (length xs) ys))
  where
    front : {A : Type 0} (xs zs : List A) → take (length xs) (xs ++ zs) ≡ xs
    front [] [] = refl
    front [] (z ∷ zs) = refl
    front (x ∷ xs) zs = ap (λ ws. x ∷ ws) (front xs zs)

pub nth-replicate : (n i : ℕ) → nth (replicate n never) i ≡ never
nth-replicate zero i = refl
nth-replicate (suc n) zero = refl
nth-replicate (suc n) (suc i) = nth-replicate n i

pub nth_of : (s : PlainFormula) (ls : List Lit) (i : ℕ) → HasTruth s → AreOf s.variables ls → IsOf s.variables (nth ls i)
nth_of s [] i k o = never_of s k
nth_of s (l ∷ ls) zero k o = o.0
nth_of s (l ∷ ls) (suc i) k o = nth_of s ls i k o.1

pub gives_none : (s : PlainFormula) (row : List Lit) (value : Values → ℕ → Bool) → row ≡ [] → GivesRow s s row 0 value
gives_none s row value e = rw e (record { extends = extends_refl s; inside = tt; count = refl; equal = λ v m i h. absurd (omega (arith, h)) })

pub nth-left : (ls : List Lit) (l : Lit) (i : ℕ) → i < length ls → nth (ls ++ l ∷ []) i ≡ nth ls i
nth-left [] l i h = absurd (omega (arith, h))
nth-left (x ∷ ls) l zero h = refl
nth-left (x ∷ ls) l (suc i) h = nth-left ls l i (omega (arith, h))

pub nth-last : (ls : List Lit) (l : Lit) (i : ℕ) → i ≡ length ls → nth (ls ++ l ∷ []) i ≡ l
nth-last [] l zero h = refl
nth-last [] l (suc i) h = absurd (omega (arith, h))
nth-last (x ∷ ls) l zero h = absurd (omega (arith, h))
nth-last (x ∷ ls) l (suc i) h = nth-last ls l i (omega (arith, h))

pub gives_more : (old s new : PlainFormula) (row row' : List Lit) (n : ℕ) (value : Values → ℕ → Bool) (l : Lit) → GivesRow old s row n value → GivesLit s new l (λ v. value v n) → row' ≡ row ++ l ∷ [] → GivesRow old new row' (n + 1) value
gives_more old s new row row' n value l g m e = rw e (record {
  extends = extends_trans old s new g.extends m.extends;
  inside = AreOf-push new.variables row l (AreOf-more s.variables new.variables row m.extends.grows g.inside) m.inside;
  count = omega (arith, length-append row (l ∷ []), g.count);
  equal = λ v k i h. go v i h (cases_eq i n) (m.equal v k) (g.equal v (kept m.extends v k) i);
})
  where
    go : (v : Values) (i : ℕ) → i < n + 1 → (i ≡ n) ⊎ (i ≡ n → ⊥) → is_lit_true v l ≡ value v n → (i < n → row_true v row i ≡ value v i) → row_true v (row ++ l ∷ []) i ≡ value v i
    go v i h (inl e) a b = ap (is_lit_true v) (nth-last row l i (e ∙ sym g.count)) ∙ a ∙ ap (value v) (sym e)
    go v i h (inr e) a b = ap (is_lit_true v) (nth-left row l i (omega (arith, h, e, g.count))) ∙ b (omega (arith, h, e))

pub before_of : (s : PlainFormula) (ls : List Lit) (i : ℕ) → HasTruth s → AreOf s.variables ls → IsOf s.variables (before ls i)
before_of s ls i k o = go (i == 0)
  where
    go : (b : Bool) → IsOf s.variables (if b then never else nth ls (i - 1))
    go true = never_of s k
    go false = nth_of s ls (i - 1) k o

before_true : (v : Values) (ls : List Lit) (i : ℕ) → v 1 ≡ true → is_lit_true v (before ls i) ≡ one_deeper (row_true v ls) i
before_true v ls i o = go (i == 0)
  where
    go : (b : Bool) → is_lit_true v (if b then never else nth ls (i - 1)) ≡ (if b then false else row_true v ls (i - 1))
    go true = no_false v o
    go false = refl

pub step_gives : (s s1 new : PlainFormula) (push pop less same more stays r : Lit) → Makes s s1 stays (λ v. if is_lit_true v pop then is_lit_true v more else is_lit_true v same) 1 → Makes s1 new r (λ v. if is_lit_true v push then is_lit_true v less else is_lit_true v stays) 1 → GivesLit s new r (λ v. if is_lit_true v push then is_lit_true v less else (if is_lit_true v pop then is_lit_true v more else is_lit_true v same))
step_gives s s1 new push pop less same more stays r m n = record {
  extends = extends_trans s s1 new m.extends n.extends;
  inside = n.inside;
  equal = λ v i. n.equal v i ∙ rw (m.equal v (kept n.extends v i)) refl;
}

pub depth_gives : (s new : PlainFormula) (push pop less same more r : Lit) (depth : List Lit) (d : ℕ) → HasTruth s → less ≡ before depth d → same ≡ nth depth d → more ≡ nth depth (d + 1) → GivesLit s new r (λ v. if is_lit_true v push then is_lit_true v less else (if is_lit_true v pop then is_lit_true v more else is_lit_true v same)) → GivesLit s new r (λ v. depth_made v push pop depth d)
depth_gives s new push pop less same more r depth d k e f g m = record {
  extends = m.extends;
  inside = m.inside;
  equal = λ v i. m.equal v i ∙ rw (e, f, g, before_true v depth d (k.one v (kept m.extends v i))) refl;
}

pub gives_all : (old s : PlainFormula) (row : List Lit) (n m : ℕ) (value : Values → ℕ → Bool) → n ≡ m → GivesRow old s row n value → GivesRow old s row m value
gives_all old s row n m value e g = subst (λ k. GivesRow old s row k value) e g

pub chosen_gives : (s new : PlainFormula) (choice x y r : Lit) (was fresh : List Lit) (i : ℕ) → x ≡ nth fresh i → y ≡ nth was i → Makes s new r (λ v. if is_lit_true v choice then is_lit_true v x else is_lit_true v y) 1 → GivesLit s new r (λ v. row_chosen v choice was fresh i)
chosen_gives s new choice x y r was fresh i e f m = record { extends = m.extends; inside = m.inside; equal = λ v k. m.equal v k ∙ rw (e, f) refl }

pub nth-none : (ls : List Lit) (i : ℕ) → slice_get ls i ≡ None → nth ls i ≡ never
nth-none [] i e = refl
nth-none (l ∷ ls) zero e = absurd (cc)
nth-none (l ∷ ls) (suc i) e = nth-none ls i e

-- ---- free places
free_append : (xs ys : List Lit) → free_of (xs ++ ys) ≡ free_of xs ++ free_of ys
free_append [] ys = refl
free_append (x ∷ xs) ys = go (is_no x) (free_append xs ys)
  where
    go : (b : Bool) → free_of (xs ++ ys) ≡ free_of xs ++ free_of ys → (if b then free_of (xs ++ ys) else x ∷ free_of (xs ++ ys)) ≡ (if b then free_of xs else x ∷ free_of xs) ++ free_of ys
    go true e = e
    go false e = ap (λ zs. x ∷ zs) e

literal_free : (n : ℕ) → is_no (literal n) ≡ false
literal_free n = grind (arith, nat_tests)

free_input : (s new : PlainFormula) (b : Bool) (l : Lit) (n : ℕ) → b ≡ true → l ≡ literal n → ExtendsWith s new (l ∷ []) → IsFreePlace s new b l
free_input s new b l n t e x =
    let f : is_no l ≡ false = ap is_no e ∙ literal_free n in
    rw t (record { extends = rw f x; inside = x.inside.0; free = f })

pub free_new : {E : Type 0} (s new : PlainFormula) (b : Bool) (r : Result Lit E) → b ≡ true → IfOk r (λ l. l ≡ literal (s.variables + 1)) → IfOk r (λ l. ExtendsWith s new (l ∷ [])) → IfOk r (λ l. IsFreePlace s new b l)
free_new s new b (Ok l) t e x = free_input s new b l (s.variables + 1) t e x
free_new s new b (Err e) t p x = tt

pub free_dark : (s : PlainFormula) (l : Lit) (b : Bool) → b ≡ false → HasTruth s → l ≡ never → IsFreePlace s s b l
free_dark s l b f t e = rw (e, f) (record { extends = extends_refl s; inside = never_of s t; free = refl })

pub free_none : (s : PlainFormula) (places : List Bool) (row : List Lit) → row ≡ [] → IsFreeRow s s (take 0 places) row
free_none s places row e = rw (e, none places) (record { extends = extends_refl s; inside = tt; count = refl; free = λ i. refl })
  where
    none : {A : Type 0} (xs : List A) → take 0 xs ≡ []
    none [] = refl
    none (x ∷ xs) = refl

pub free_more : (old s new : PlainFormula) (places : List Bool) (row row' : List Lit) (i : ℕ) (l : Lit) → i < length places → IsFreeRow old s (take i places) row → IsFreePlace s new (get_or places i false) l → row' ≡ row ++ l ∷ [] → IsFreeRow old new (take (i + 1) places) row'
free_more old s new places row row' i l h g m e =
    rw (e, take_more places i false h) (record {
      extends = subst (ExtendsWith old new) (sym (free_append row (l ∷ []))) (with_append old s new (free_of row) (free_of (l ∷ [])) g.extends m.extends);
      inside = AreOf-push new.variables row l (AreOf-more s.variables new.variables row m.extends.grows g.inside) m.inside;
      count = length-append row (l ∷ []) ∙ ap (λ n. n + 1) g.count ∙ sym (length-append (take i places) (get_or places i false ∷ []));
      free = λ j. go row (take i places) g.count g.free j;
    })
  where
    go : (xs : List Lit) (bs : List Bool) → length xs ≡ length bs → ((j : ℕ) → is_no (nth xs j) ≡ not (get_or bs j false)) → (j : ℕ) → is_no (nth (xs ++ l ∷ []) j) ≡ not (get_or (bs ++ get_or places i false ∷ []) j false)
    go [] [] c f zero = m.free
    go [] [] c f (suc j) = refl
    go [] (b ∷ bs) c f j = absurd (omega arith)
    go (x ∷ xs) [] c f j = absurd (omega arith)
    go (x ∷ xs) (b ∷ bs) c f zero = f 0
    go (x ∷ xs) (b ∷ bs) c f (suc j) = go xs bs (omega arith) (λ k. f (suc k)) j

pub free_all : (old s : PlainFormula) (places : List Bool) (row : List Lit) (i : ℕ) → i ≡ length places → IsFreeRow old s (take i places) row → IsFreeRow old s places row
free_all old s places row i e g = subst (λ bs. IsFreeRow old s bs row) (take_whole places i e) g

-- ---- copies
pub copied_none : (copy row : List Lit) → copy ≡ [] → copy ≡ take 0 row
copied_none copy [] e = e
copied_none copy (l ∷ row) e = e

pub copied_more : (copy new row : List Lit) (i : ℕ) (l : Lit) → i < length row → copy ≡ take i row → l ≡ nth row i → new ≡ copy ++ l ∷ [] → new ≡ take (i + 1) row
copied_more copy new row i l h e g f = f ∙ ap (λ xs. xs ++ l ∷ []) e ∙ ap (λ x. take i row ++ x ∷ []) g ∙ sym (take_more row i never h)

pub copied_all : (copy row : List Lit) (i : ℕ) → i ≡ length row → copy ≡ take i row → copy ≡ row
copied_all copy row i h e = e ∙ take_whole row i h

pub later_place : (other : Lit) (labels : List Lit) (i : ℕ) → nth (other ∷ labels) (i + 1) ≡ nth labels i
later_place other labels i = let e : i + 1 ≡ suc i = omega arith in ap (nth (other ∷ labels)) e

pub other_none : (fresh row : List Lit) (other : Lit) (labels : List Lit) → fresh ≡ [] → row ≡ fresh ++ other ∷ [] → row ≡ other ∷ take 0 labels
other_none fresh row other [] e f = f ∙ ap (λ xs. xs ++ other ∷ []) e
other_none fresh row other (l ∷ labels) e f = f ∙ ap (λ xs. xs ++ other ∷ []) e

pub other_more : (row new : List Lit) (other : Lit) (labels : List Lit) (i : ℕ) (l : Lit) → i < length labels → row ≡ other ∷ take i labels → l ≡ nth (other ∷ labels) (i + 1) → new ≡ row ++ l ∷ [] → new ≡ other ∷ take (i + 1) labels
other_more row new other labels i l h e g f = f ∙ ap (λ xs. xs ++ l ∷ []) e ∙ ap (λ x. other ∷ take i labels ++ x ∷ []) (g ∙ later_place other labels i) ∙ ap (λ xs. other ∷ xs) (sym (take_more labels i never h))

pub other_all : (row : List Lit) (other : Lit) (labels : List Lit) (i : ℕ) → i ≡ length labels → row ≡ other ∷ take i labels → row ≡ other ∷ labels
other_all row other labels i h e = e ∙ ap (λ xs. other ∷ xs) (take_whole labels i h)

-- ---- rows of literals that are false
pub dark_of : (s : PlainFormula) (n : ℕ) → HasTruth s → AreOf s.variables (replicate n never)
dark_of s zero t = tt
dark_of s (suc n) t = (never_of s t, dark_of s n t)

pub length-dark : (n : ℕ) → length (replicate n never) ≡ n
length-dark zero = refl
length-dark (suc n) = ap suc (length-dark n)

pub dark_false : (v : Values) (n i : ℕ) → v 1 ≡ true → row_true v (replicate n never) i ≡ false
dark_false v n i o = ap (is_lit_true v) (nth-replicate n i) ∙ no_false v o

-- ---- rows of points
pub rows_more : (n m : ℕ) (rows : List (List Lit)) → n ≤ m → AreRowsWithin n rows → AreRowsWithin m rows
rows_more n m [] h o = tt
rows_more n m (row ∷ rows) h o = (AreOf-more n m row h o.0, rows_more n m rows h o.1)

pub rows_push : (n : ℕ) (rows : List (List Lit)) (row : List Lit) → AreRowsWithin n rows → AreOf n row → AreRowsWithin n (rows ++ row ∷ [])
rows_push n [] row o h = (h, tt)
rows_push n (x ∷ rows) row o h = (o.0, rows_push n rows row o.1 h)

pub row_within : (n : ℕ) (rows : List (List Lit)) (d : ℕ) → AreRowsWithin n rows → AreOf n (get_or rows d [])
row_within n [] d o = tt
row_within n (row ∷ rows) zero o = o.0
row_within n (row ∷ rows) (suc d) o = row_within n rows d o.1

pub slot_of : (s : PlainFormula) (rows : List (List Lit)) (d i : ℕ) → HasTruth s → AreRowsWithin s.variables rows → IsOf s.variables (nth (get_or rows d []) i)
slot_of s rows d i t o = nth_of s (get_or rows d []) i t (row_within s.variables rows d o)

pub row_there : (rows : List (List Lit)) (d : ℕ) (row : List Lit) → slice_get rows d ≡ Some row → get_or rows d [] ≡ row
row_there [] d row e = absurd (cc)
row_there (x ∷ rows) zero row e = let f : x ≡ row = cc in f
row_there (x ∷ rows) (suc d) row e = row_there rows d row e

pub slot_there : (row : List Lit) (rows : List (List Lit)) (d i : ℕ) (l : Lit) → slice_get rows d ≡ Some row → l ≡ nth row i → l ≡ nth (get_or rows d []) i
slot_there row rows d i l e f = f ∙ ap (λ r. nth r i) (sym (row_there rows d row e))

row_none : (rows : List (List Lit)) (d : ℕ) → slice_get rows d ≡ None → get_or rows d [] ≡ []
row_none [] d e = refl
row_none (x ∷ rows) zero e = absurd (cc)
row_none (x ∷ rows) (suc d) e = row_none rows d e

pub slot_none : (rows : List (List Lit)) (d i : ℕ) → slice_get rows d ≡ None → never ≡ nth (get_or rows d []) i
slot_none rows d i e = sym (ap (λ r. nth r i) (row_none rows d e))

pub and_gives : (s new : PlainFormula) (a b r : Lit) (row : List Lit) (i : ℕ) → b ≡ nth row i → Makes s new r (λ v. is_lit_true v a && is_lit_true v b) 1 → GivesLit s new r (λ v. is_lit_true v a && row_true v row i)
and_gives s new a b r row i e m = record { extends = m.extends; inside = m.inside; equal = λ v k. m.equal v k ∙ rw e refl }

pub found_more : (old s s1 s2 : PlainFormula) (from : List Lit) (slots : List (List Lit)) (i d : ℕ) (a b here some r : Lit) → GivesLit old s some (λ v. found_below v from slots i d) → a ≡ nth from d → b ≡ nth (get_or slots d []) i → Makes s s1 here (λ v. is_lit_true v a && is_lit_true v b) 1 → Makes s1 s2 r (λ v. is_lit_true v some || is_lit_true v here) 1 → GivesLit old s2 r (λ v. found_below v from slots i (d + 1))
found_more old s s1 s2 from slots i d a b here some r g e f m n = record {
  extends = extends_trans old s s2 g.extends (extends_trans s s1 s2 m.extends n.extends);
  inside = n.inside;
  equal = λ v k.
      let k1 = kept n.extends v k in
      n.equal v k ∙ rw (g.equal v (kept m.extends v k1), m.equal v k1, e, f) (turn (found_below v from slots i d) (row_true v from d && row_true v (get_or slots d []) i) ∙ next v);
}
  where
    next : (v : Values) → found_below v from slots i (suc d) ≡ found_below v from slots i (d + 1)
    next v = let q : suc d ≡ d + 1 = omega arith in ap (found_below v from slots i) q

    turn : (x y : Bool) → (x || y) ≡ (y || x)
    turn true true = refl
    turn true false = refl
    turn false true = refl
    turn false false = refl

pub found_all : (old s : PlainFormula) (from : List Lit) (slots : List (List Lit)) (i d n : ℕ) (l : Lit) → d ≡ n → GivesLit old s l (λ v. found_below v from slots i d) → GivesLit old s l (λ v. found_below v from slots i n)
found_all old s from slots i d n l e g = subst (λ k. GivesLit old s l (λ v. found_below v from slots i k)) e g

pub or_gives : (old s new : PlainFormula) (a b r : Lit) (row : List Lit) (i : ℕ) (f : Values → Bool) → a ≡ nth row i → GivesLit old s b f → Makes s new r (λ v. is_lit_true v a || is_lit_true v b) 1 → GivesLit old new r (λ v. row_true v row i || f v)
or_gives old s new a b r row i f e g m = record {
  extends = extends_trans old s new g.extends m.extends;
  inside = m.inside;
  equal = λ v k. m.equal v k ∙ rw (e, g.equal v (kept m.extends v k)) refl;
}

pub chosen_row : (s new : PlainFormula) (choice : Lit) (was row leave r : List Lit) → was ≡ row → GivesRow s new r (length leave) (λ v i. row_chosen v choice was leave i) → GivesRow s new r (length leave) (λ v i. row_chosen v choice row leave i)
chosen_row s new choice was row leave r e g = subst (λ x. GivesRow s new r (length leave) (λ v i. row_chosen v choice x leave i)) e g

pub slots_none : (s : PlainFormula) (push : Lit) (depth leave : List Lit) (slots rows : List (List Lit)) → rows ≡ [] → GivesSlots s s push depth leave slots rows 0
slots_none s push depth leave slots rows e = rw e (record { extends = extends_refl s; inside = tt; count = refl; widths = λ d h. absurd (omega arith); equal = λ v m d i h. absurd (omega arith) })

pub row-left : (rows : List (List Lit)) (row : List Lit) (d : ℕ) → d < length rows → get_or (rows ++ row ∷ []) d [] ≡ get_or rows d []
row-left [] row d h = absurd (omega arith)
row-left (x ∷ rows) row zero h = refl
row-left (x ∷ rows) row (suc d) h = row-left rows row d (omega arith)

pub row-last : (rows : List (List Lit)) (row : List Lit) (d : ℕ) → d ≡ length rows → get_or (rows ++ row ∷ []) d [] ≡ row
row-last [] row zero h = refl
row-last [] row (suc d) h = absurd (omega arith)
row-last (x ∷ rows) row zero h = absurd (omega arith)
row-last (x ∷ rows) row (suc d) h = row-last rows row d (omega arith)

pub slots_more : (old s s1 new : PlainFormula) (push : Lit) (depth leave : List Lit) (slots rows rows' : List (List Lit)) (d : ℕ) (here chosen : Lit) (row : List Lit) → GivesSlots old s push depth leave slots rows d → here ≡ nth depth d → Makes s s1 chosen (λ v. is_lit_true v push && is_lit_true v here) 1 → GivesRow s1 new row (length leave) (λ v i. row_chosen v chosen (get_or slots d []) leave i) → rows' ≡ rows ++ row ∷ [] → GivesSlots old new push depth leave slots rows' (d + 1)
slots_more old s s1 new push depth leave slots rows rows' d here chosen row g e m r f = rw f (record {
  extends = extends_trans old s new g.extends (extends_trans s s1 new m.extends r.extends);
  inside = rows_push new.variables rows row (rows_more s.variables new.variables rows (omega (arith, m.extends.grows, r.extends.grows)) g.inside) r.inside;
  count = length-append rows (row ∷ []) ∙ ap (λ n. n + 1) g.count;
  widths = λ k h. width k h (cases_eq k d);
  equal = λ v q k i h j. go v q k i h j (cases_eq k d);
})
  where
    width : (k : ℕ) → k < d + 1 → (k ≡ d) ⊎ (k ≡ d → ⊥) → length (get_or (rows ++ row ∷ []) k []) ≡ length leave
    width k h (inl q) = ap length (row-last rows row k (q ∙ sym g.count)) ∙ r.count
    width k h (inr q) = ap length (row-left rows row k (omega (arith, g.count))) ∙ g.widths k (omega arith)

    go : (v : Values) → IsModel v new → (k i : ℕ) → k < d + 1 → i < length leave → (k ≡ d) ⊎ (k ≡ d → ⊥) → row_true v (get_or (rows ++ row ∷ []) k []) i ≡ (if is_lit_true v push && row_true v depth k then row_true v leave i else row_true v (get_or slots k []) i)
    go v q k i h j (inl x) =
        let q1 = kept r.extends v q in
        ap (λ ls. row_true v ls i) (row-last rows row k (x ∙ sym g.count)) ∙ r.equal v q i j ∙ rw (m.equal v q1, e, x) refl
    go v q k i h j (inr x) = ap (λ ls. row_true v ls i) (row-left rows row k (omega (arith, g.count))) ∙ g.equal v (kept m.extends v (kept r.extends v q)) k i (omega arith) j

pub slots_all : (old s : PlainFormula) (push : Lit) (depth leave : List Lit) (slots rows : List (List Lit)) (d n : ℕ) → d ≡ n → GivesSlots old s push depth leave slots rows d → GivesSlots old s push depth leave slots rows n
slots_all old s push depth leave slots rows d n e g = subst (GivesSlots old s push depth leave slots rows) e g
