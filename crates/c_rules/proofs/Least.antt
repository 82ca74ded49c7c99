-- The running first fault is the first of all.
use Rattle.std.proofs.Common.{◌≡◌, ℕ, Bool, true, false, ◌&&◌, ◌||◌, ◌==◌, nat_lt, cond, List, [], ◌∷◌, Some, None, Contains, MatchOption, ◌⊎◌, inl, inr, refl, sym, ap, subst, ◌∙◌, arith}
use Rattle.std.proofs.lemmas.Bool.Decides.{nat_tests}
use Rattle.std.proofs.lemmas.List.Elements.{All-cons, All-head, All-tail, All-nil, Contains-get_or, Contains-append_right, Contains-append_left, Contains-append_cases}
use Rattle.c_rules.specs.declared.first.Fault.{Fault}
use Rattle.c_rules.specs.First.{is_before, IsFirst, first_of}

-- a place and a number before another place and number
abbrev before : ℕ → ℕ → ℕ → ℕ → Bool
before p m q n = nat_lt p q || ((p == q) && nat_lt m n)

not_before_both : (p m q n r k : ℕ) → before p m q n ≡ false → before q n r k ≡ false → before p m r k ≡ false
not_before_both p m q n r k a b = grind (arith, nat_tests)

not_before_back : (p m q n : ℕ) → before p m q n ≡ true → before q n p m ≡ false
not_before_back p m q n a = grind (arith, nat_tests)

not_before_itself : (p m : ℕ) → before p m p m ≡ false
not_before_itself p m = grind (arith, nat_tests)

-- the first of a fault and those after it
record Found (g : Fault) (fs : List Fault) : Type 0 where
  first : Fault
  is : first_of (Some g) fs ≡ Some first
  found : IsFirst (g ∷ fs) first

contains_head : (f : Fault) (fs : List Fault) → Contains (f ∷ fs) f
contains_head f fs = Contains-get_or (f ∷ fs) 0 f (omega arith)

contains_later : (g f h : Fault) (fs : List Fault) → Contains (f ∷ fs) h → Contains (g ∷ f ∷ fs) h
contains_later g f h fs c = Contains-append_right (g ∷ []) (f ∷ fs) h c

-- a fault behind the first one is in the list with one more before it
contains_skipping : (g f h : Fault) (fs : List Fault) → Contains (g ∷ fs) h → Contains (g ∷ f ∷ fs) h
contains_skipping g f h fs c = by (Contains-append_cases (g ∷ []) fs h c)
  where
    by : Contains (g ∷ []) h ⊎ Contains fs h → Contains (g ∷ f ∷ fs) h
    by (inl a) = Contains-append_left (g ∷ []) (f ∷ fs) h a
    by (inr b) = Contains-append_right (g ∷ f ∷ []) fs h b

found_in : (g : Fault) (fs : List Fault) → Found g fs
found_in g [] =
    record {
      first = g;
      is = refl;
      found = record { broken = contains_head g []; least = All-cons (λ f. is_before f g ≡ false) g [] (not_before_itself g.place.offset g.rule) (All-nil (λ f. is_before f g ≡ false)) };
    }
found_in g (f ∷ fs) = by (is_before f g) refl (found_in f fs) (found_in g fs)
  where
    by : (b : Bool) → is_before f g ≡ b → Found f fs → Found g fs → Found g (f ∷ fs)
    by true e rest _ =
        let h = rest.first in
        let f_not : is_before f h ≡ false = All-head (λ x. is_before x h ≡ false) f fs rest.found.least in
        let g_not : is_before g h ≡ false = not_before_both g.place.offset g.rule f.place.offset f.rule h.place.offset h.rule (not_before_back f.place.offset f.rule g.place.offset g.rule e) f_not in
        record {
          first = h;
          is = ap (λ c. first_of (cond c (Some f) (Some g)) fs) e ∙ rest.is;
          found = record { broken = contains_later g f h fs rest.found.broken; least = All-cons (λ x. is_before x h ≡ false) g (f ∷ fs) g_not rest.found.least };
        }
    by false e _ rest =
        let h = rest.first in
        let g_not : is_before g h ≡ false = All-head (λ x. is_before x h ≡ false) g fs rest.found.least in
        let f_not : is_before f h ≡ false = not_before_both f.place.offset f.rule g.place.offset g.rule h.place.offset h.rule e g_not in
        record {
          first = h;
          is = ap (λ c. first_of (cond c (Some f) (Some g)) fs) e ∙ rest.is;
          found = record { broken = contains_skipping g f h fs rest.found.broken; least = All-cons (λ x. is_before x h ≡ false) g (f ∷ fs) g_not (All-cons (λ x. is_before x h ≡ false) f fs f_not (All-tail (λ x. is_before x h ≡ false) g fs rest.found.least)) };
        }

-- none where there are none, and else the first
pub first_is : (fs : List Fault) → MatchOption (first_of None fs) (fs ≡ []) (IsFirst fs)
first_is [] = refl
first_is (f ∷ fs) =
    let all = found_in f fs in
    subst (λ o. MatchOption o (f ∷ fs ≡ []) (IsFirst (f ∷ fs))) (sym all.is) all.found
