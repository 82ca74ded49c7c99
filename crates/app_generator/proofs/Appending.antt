-- Texts that are put one after another, and draws.
use Rattle.std.proofs.Common.{◌≡◌, ℕ, zero, suc, ◌+◌, ◌*◌, List, [], ◌++◌, Result, Ok, Err, ap, sym, ◌∙◌, append_assoc, arith, add-one, subst}
use Rattle.std.proofs.lemmas.List.{append-nil}
use Rattle.app_generator.specs.Drawn.{next, state_after}
use Rattle.app_generator.specs.Generated.{assignment, assignments, body, body_from, each_below}
use Rattle.app_generator.specs.Puts.{Puts}

-- a piece, and then another
pub puts_then : {E : Type 0} {s t v a b : List ℕ} {u : Unit {0}} {r : Result (Unit {0}) E} → Puts {E = E} s t a (Ok u) → Puts t v b r → Puts s v (a ++ b) r
puts_then {s = s} {a = a} {b = b} {r = Ok w} first second =
    record { whole = second.whole ∙ ap (λ (x : List ℕ). x ++ b) first.whole ∙ append_assoc s a b }
puts_then {r = Err e} first second = record { whole = tt }

-- memory ended
pub puts_failed : {E : Type 0} {s t a : List ℕ} {e : E} → Puts s t a (Err e)
puts_failed = record { whole = tt }

-- nothing was put
pub puts_nothing : {E : Type 0} {u : Unit {0}} (s : List ℕ) → Puts {E = E} s s [] (Ok u)
puts_nothing s = record { whole = sym (append-nil s) }

-- one text more
one_more : {E : Type 0} {s t v : List ℕ} {u : Unit {0}} {r : Result (Unit {0}) E} (text : ℕ → List ℕ) (k : ℕ) → Puts {E = E} s t (each_below text k) (Ok u) → Puts t v (text k) r → Puts s v (each_below text (k + 1)) r
one_more text k first second = rw (add-one k) (puts_then first second)

-- n draws behind m
state_later : (s m n : ℕ) → state_after (state_after s m) n ≡ state_after s (m + n)
state_later s m zero = ap (state_after s) {x = m} {y = m + 0} (omega arith)
state_later s m (suc n) = ap next (state_later s m n) ∙ ap (state_after s) {x = suc (m + n)} {y = m + suc n} (omega arith)

-- the next twelve draws
pub twelve_later : (s k d t : ℕ) → d ≡ state_after s (12 * k) → t ≡ state_after d 12 → t ≡ state_after s (12 * (k + 1))
twelve_later s k d t here there =
    there ∙ ap (λ (x : ℕ). state_after x 12) here ∙ state_later s (12 * k) 12 ∙ ap (state_after s) {x = 12 * k + 12} {y = 12 * (k + 1)} (omega arith)

-- three draws more
more : (a b c n : ℕ) → b ≡ state_after a n → c ≡ state_after b 3 → c ≡ state_after (state_after a n) 3
more a b c n first second = second ∙ ap (λ (x : ℕ). state_after x 3) first

-- four times three draws
pub twelve : (a b c d e : ℕ) → b ≡ state_after a 3 → c ≡ state_after b 3 → d ≡ state_after c 3 → e ≡ state_after d 3 → e ≡ state_after a 12
twelve a b c d e first second third fourth = more a d e 9 (more a c d 6 (more a b c 3 first second) third) fourth

-- four assignments
pub four : {E : Type 0} {s t v w x : List ℕ} {u u' u'' : Unit {0}} {r : Result (Unit {0}) E} (a b c d : ℕ) → b ≡ state_after a 3 → c ≡ state_after b 3 → d ≡ state_after c 3 → Puts {E = E} s t (assignment a) (Ok u) → Puts {E = E} t v (assignment b) (Ok u') → Puts {E = E} v w (assignment c) (Ok u'') → Puts w x (assignment d) r → Puts s x (assignments a) r
four {E = E} {t = t} {v = v} {w = w} {x = x} {u' = u'} {u'' = u''} {r = r} a b c d p q l first second third fourth =
    puts_then (puts_then (puts_then first (subst (λ (y : ℕ). Puts {E = E} t v (assignment y) (Ok u')) p second)) (subst (λ (y : ℕ). Puts {E = E} v w (assignment y) (Ok u'')) (more a b c 3 p q) third)) (subst (λ (y : ℕ). Puts w x (assignment y) r) (more a c d 6 (more a b c 3 p q) l) fourth)

-- one body more
pub next_body : {E : Type 0} {s t v : List ℕ} {u : Unit {0}} {r : Result (Unit {0}) E} (state here tasks arrivals i : ℕ) → here ≡ state_after state (12 * i) → Puts {E = E} s t (each_below (body_from state tasks arrivals) i) (Ok u) → Puts t v (body here tasks arrivals i) r → Puts s v (each_below (body_from state tasks arrivals) (i + 1)) r
next_body {t = t} {v = v} {r = r} state here tasks arrivals i is first second =
    one_more (body_from state tasks arrivals) i first (subst (λ (x : ℕ). Puts t v (body x tasks arrivals i) r) is second)
