-- The alternative that is taken, over truth values.
use Rattle.std.proofs.Common.{◌≡◌, ◌≢◌, ℕ, suc, zero, ◌+◌, ◌*◌, ◌<◌, ◌≤◌, Bool, true, false, not, ◌&&◌, ◌||◌, List, [], ◌∷◌, ◌++◌, refl, sym, ◌∙◌, ap, subst, inl, inr, ◌⊎◌, arith, if◌then◌else◌, length, Option, Some, None, ◌==◌}
use Rattle.std.proofs.lemmas.Bool.{and_parts, and_from, cases_Bool, cases_eq}
use Rattle.std.proofs.lemmas.Bool.Decides.{nat_tests}
use Rattle.chk_base.specs.Operators.{truth}
use Rattle.chk_base.specs.declared.word.Width.{Width}
use Rattle.guard_prog.specs.GuardedRun.{PlainAlternative, Program, State, value_in, alternative_with, enabled_of, cells_after, takes_word, is_fail}
use Rattle.turn_law.specs.Sight.{Sight, Pick, Offer, IsAt, IsDark, is_taken, any, value_after, AllTaken, enabled_offers, choices_at, Apart, IsOffered}

-- ---- nothing is taken
-- no alternative is taken
pub record Untaken (at label : ℕ → Bool) (os : List Offer) : Type 0 where
  pub any : (f : PlainAlternative → Bool) → any at label f os ≡ false
  pub value : (f : PlainAlternative → ℕ → ℕ) (old : ℕ) → value_after at label f os old ≡ old

any_dark : (at label : ℕ → Bool) (f : PlainAlternative → Bool) (os : List Offer) → IsDark at → any at label f os ≡ false
any_dark at label f [] d = refl
any_dark at label f (o ∷ os) d = let e = d.none o.point in let h = any_dark at label f os d in rw (e, h) refl

value_dark : (at label : ℕ → Bool) (f : PlainAlternative → ℕ → ℕ) (os : List Offer) (old : ℕ) → IsDark at → value_after at label f os old ≡ old
value_dark at label f [] old d = refl
value_dark at label f (o ∷ os) old d = let e = d.none o.point in rw e (value_dark at label f os old d)

pub untaken_dark : (at label : ℕ → Bool) (os : List Offer) → IsDark at → Untaken at label os
untaken_dark at label os d = record { any = λ f. any_dark at label f os d; value = λ f old. value_dark at label f os old d }

and_false : (a : Bool) → (a && false) ≡ false
and_false true = refl
and_false false = refl

any_unlabelled : (at label : ℕ → Bool) (f : PlainAlternative → Bool) (os : List Offer) → IsDark label → any at label f os ≡ false
any_unlabelled at label f [] d = refl
any_unlabelled at label f (o ∷ os) d = let e = d.none o.choice.label in let h = any_unlabelled at label f os d in rw (e, h, and_false (at o.point)) refl

value_unlabelled : (at label : ℕ → Bool) (f : PlainAlternative → ℕ → ℕ) (os : List Offer) (old : ℕ) → IsDark label → value_after at label f os old ≡ old
value_unlabelled at label f [] old d = refl
value_unlabelled at label f (o ∷ os) old d = let e = d.none o.choice.label in rw (e, and_false (at o.point)) (value_unlabelled at label f os old d)

pub untaken_unlabelled : (at label : ℕ → Bool) (os : List Offer) → IsDark label → Untaken at label os
untaken_unlabelled at label os d = record { any = λ f. any_unlabelled at label f os d; value = λ f old. value_unlabelled at label f os old d }

-- ---- one is taken
abbrev pub on : (PlainAlternative → Bool) → Option PlainAlternative → Bool
on f None = false
on f (Some a) = f a

abbrev pub value_on : (PlainAlternative → ℕ → ℕ) → ℕ → Option PlainAlternative → ℕ
value_on f old None = old
value_on f old (Some a) = f a old

pub same_number : (a b : ℕ) → (a == b) ≡ true → a ≡ b
same_number a b e = grind (arith, nat_tests)

or_false : (a : Bool) → (a || false) ≡ a
or_false true = refl
or_false false = refl

-- the first of the label, in a list of one point
any_here : (at label : ℕ → Bool) (l : ℕ) (f : PlainAlternative → Bool) (o : Offer) (rest : List PlainAlternative) (more : Bool) → at o.point ≡ true → IsAt label l → alternative_with o.choice.label rest ≡ None → more ≡ on f (alternative_with l rest) → ((is_taken at label o && f o.choice) || more) ≡ on f (alternative_with l (o.choice ∷ rest))
any_here at label l f o rest more e b d h = go (o.choice.label == l) refl
  where
    go : (q : Bool) → (o.choice.label == l) ≡ q → ((is_taken at label o && f o.choice) || more) ≡ on f (if q then Some o.choice else alternative_with l rest)
    go true g =
        let k : label o.choice.label ≡ true = b.only o.choice.label ∙ g in
        let same = same_number o.choice.label l g in
        let none : more ≡ false = h ∙ ap (on f) (ap (λ n. alternative_with n rest) (sym same) ∙ d) in
        rw (e, k, none) (or_false (f o.choice))
    go false g =
        let k : label o.choice.label ≡ false = b.only o.choice.label ∙ g in
        rw (e, k) h

any_labelled : (at label : ℕ → Bool) (t l : ℕ) (f : PlainAlternative → Bool) (os : List Offer) → IsAt at t → IsAt label l → Apart (choices_at t os) → any at label f os ≡ on f (alternative_with l (choices_at t os))
any_labelled at label t l f [] a b d = refl
any_labelled at label t l f (o ∷ os) a b d = go (o.point == t) (a.only o.point) d (any_labelled at label t l f os a b)
  where
    go : (p : Bool) → at o.point ≡ p → Apart (if p then o.choice ∷ choices_at t os else choices_at t os) → (Apart (choices_at t os) → any at label f os ≡ on f (alternative_with l (choices_at t os))) → ((is_taken at label o && f o.choice) || any at label f os) ≡ on f (alternative_with l (if p then o.choice ∷ choices_at t os else choices_at t os))
    go true e d h = any_here at label l f o (choices_at t os) (any at label f os) e b d.0 (h d.1)
    go false e d h = rw e (h d)

-- values: with no more of the label the value stands
value_here : (at label : ℕ → Bool) (t l : ℕ) (f : PlainAlternative → ℕ → ℕ) (os : List Offer) (old : ℕ) → IsAt at t → IsAt label l → alternative_with l (choices_at t os) ≡ None → value_after at label f os old ≡ old
value_here at label t l f [] old a b d = refl
value_here at label t l f (o ∷ os) old a b d = go (o.point == t) (a.only o.point) (o.choice.label == l) (b.only o.choice.label) d (value_here at label t l f os old a b)
  where
    go : (p : Bool) → at o.point ≡ p → (q : Bool) → label o.choice.label ≡ q → alternative_with l (if p then o.choice ∷ choices_at t os else choices_at t os) ≡ None → (alternative_with l (choices_at t os) ≡ None → value_after at label f os old ≡ old) → value_after at label f os (if is_taken at label o then f o.choice old else old) ≡ old
    go true e q g d h = here (o.choice.label == l) (b.only o.choice.label) d
      where
        here : (r : Bool) → label o.choice.label ≡ r → (if r then Some o.choice else alternative_with l (choices_at t os)) ≡ None → value_after at label f os (if is_taken at label o then f o.choice old else old) ≡ old
        here true k d = absurd (cc)
        here false k d = rw (e, k) (h d)
    go false e q g d h = rw e (h d)

value_labelled : (at label : ℕ → Bool) (t l : ℕ) (f : PlainAlternative → ℕ → ℕ) (os : List Offer) (old : ℕ) → IsAt at t → IsAt label l → Apart (choices_at t os) → value_after at label f os old ≡ value_on f old (alternative_with l (choices_at t os))
value_labelled at label t l f [] old a b d = refl
value_labelled at label t l f (o ∷ os) old a b d = go (o.point == t) (a.only o.point) d (λ n. value_labelled at label t l f os n a b) (value_here at label t l f os (f o.choice old) a b)
  where
    first : (q : Bool) → (o.choice.label == l) ≡ q → at o.point ≡ true → alternative_with o.choice.label (choices_at t os) ≡ None → (value_after at label f os old ≡ value_on f old (alternative_with l (choices_at t os))) → (alternative_with l (choices_at t os) ≡ None → value_after at label f os (f o.choice old) ≡ f o.choice old) → value_after at label f os (if is_taken at label o then f o.choice old else old) ≡ value_on f old (if q then Some o.choice else alternative_with l (choices_at t os))
    first true g e d h k =
        let j : label o.choice.label ≡ true = b.only o.choice.label ∙ g in
        let same = same_number o.choice.label l g in
        rw (e, j) (k (ap (λ n. alternative_with n (choices_at t os)) (sym same) ∙ d))
    first false g e d h k =
        let j : label o.choice.label ≡ false = b.only o.choice.label ∙ g in
        rw (e, j) h

    go : (p : Bool) → at o.point ≡ p → Apart (if p then o.choice ∷ choices_at t os else choices_at t os) → ((n : ℕ) → Apart (choices_at t os) → value_after at label f os n ≡ value_on f n (alternative_with l (choices_at t os))) → (alternative_with l (choices_at t os) ≡ None → value_after at label f os (f o.choice old) ≡ f o.choice old) → value_after at label f os (if is_taken at label o then f o.choice old else old) ≡ value_on f old (alternative_with l (if p then o.choice ∷ choices_at t os else choices_at t os))
    go true e d h k = first (o.choice.label == l) refl e d.0 (h old d.1) k
    go false e d h k = rw e (h old d)

-- exactly this alternative is taken, or none
pub record Hits (at label : ℕ → Bool) (os : List Offer) (hit : Option PlainAlternative) : Type 0 where
  pub any : (f : PlainAlternative → Bool) → any at label f os ≡ on f hit
  pub value : (f : PlainAlternative → ℕ → ℕ) (old : ℕ) → value_after at label f os old ≡ value_on f old hit

pub hits_none : (at label : ℕ → Bool) (os : List Offer) → Untaken at label os → Hits at label os None
hits_none at label os u = record { any = u.any; value = u.value }

pub hits_labelled : (p : Program) (at label : ℕ → Bool) (t l : ℕ) (os : List Offer) → IsOffered p os → IsAt at t → IsAt label l → Hits at label os (alternative_with l (p.points t))
hits_labelled p at label t l os k a b =
    let d : Apart (choices_at t os) = subst Apart (sym (k.lists t)) (k.apart t) in
    let e : alternative_with l (choices_at t os) ≡ alternative_with l (p.points t) = ap (alternative_with l) (k.lists t) in
    record {
      any = λ f. any_labelled at label t l f os a b d ∙ ap (on f) e;
      value = λ f old. value_labelled at label t l f os old a b d ∙ ap (value_on f old) e;
    }

-- ---- what the guards leave
-- the program with the alternatives alone whose guard isn't 0 over these cells
abbrev pub opened : Program → (ℕ → ℕ) → Program
opened p cells = record { width = p.width; starts = p.starts; first = p.first; points = λ q. enabled_of p.width cells (p.points q); depth = p.depth }

enabled_choices : (width : ℕ → Width) (cells : ℕ → ℕ) (q : ℕ) (os : List Offer) → choices_at q (enabled_offers width cells os) ≡ enabled_of width cells (choices_at q os)
enabled_choices width cells q [] = refl
enabled_choices width cells q (o ∷ os) = go (truth (value_in width cells o.choice.guard)) refl (o.point == q) refl (enabled_choices width cells q os)
  where
    go : (b : Bool) → truth (value_in width cells o.choice.guard) ≡ b → (c : Bool) → (o.point == q) ≡ c → choices_at q (enabled_offers width cells os) ≡ enabled_of width cells (choices_at q os) → choices_at q (if b then o ∷ enabled_offers width cells os else enabled_offers width cells os) ≡ enabled_of width cells (if c then o.choice ∷ choices_at q os else choices_at q os)
    go true e true f h = rw (e, f) (ap (λ xs. o.choice ∷ xs) h)
    go true e false f h = rw f h
    go false e true f h = rw e h
    go false e false f h = h

enabled_none : (width : ℕ → Width) (cells : ℕ → ℕ) (l : ℕ) (as' : List PlainAlternative) → alternative_with l as' ≡ None → alternative_with l (enabled_of width cells as') ≡ None
enabled_none width cells l [] e = refl
enabled_none width cells l (a ∷ as') e = go (a.label == l) refl e (truth (value_in width cells a.guard)) (enabled_none width cells l as')
  where
    go : (q : Bool) → (a.label == l) ≡ q → (if q then Some a else alternative_with l as') ≡ None → (b : Bool) → (alternative_with l as' ≡ None → alternative_with l (enabled_of width cells as') ≡ None) → alternative_with l (if b then a ∷ enabled_of width cells as' else enabled_of width cells as') ≡ None
    go true f e b h = absurd (cc)
    go false f e true h = rw f (h e)
    go false f e false h = h e

enabled_apart : (width : ℕ → Width) (cells : ℕ → ℕ) (as' : List PlainAlternative) → Apart as' → Apart (enabled_of width cells as')
enabled_apart width cells [] k = tt
enabled_apart width cells (a ∷ as') k = go (truth (value_in width cells a.guard)) (enabled_apart width cells as' k.1)
  where
    go : (b : Bool) → Apart (enabled_of width cells as') → Apart (if b then a ∷ enabled_of width cells as' else enabled_of width cells as')
    go true h = (enabled_none width cells a.label as' k.0, h)
    go false h = h

-- the alternatives whose guards aren't 0 are those of that program
pub opened_offers : (p : Program) (cells : ℕ → ℕ) (os : List Offer) → IsOffered p os → IsOffered (opened p cells) (enabled_offers p.width cells os)
opened_offers p cells os k = record {
  lists = λ q. enabled_choices p.width cells q os ∙ ap (enabled_of p.width cells) (k.lists q);
  apart = λ q. enabled_apart p.width cells (p.points q) (k.apart q);
}
