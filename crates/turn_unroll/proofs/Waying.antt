-- What one of the alternatives does, one by one.
use Rattle.std.proofs.Common.{◌≡◌, ◌≢◌, ℕ, suc, zero, ◌+◌, ◌-◌, ◌*◌, ◌<◌, ◌≤◌, Bool, true, false, not, ◌&&◌, ◌||◌, List, [], ◌∷◌, ◌++◌, refl, sym, ◌∙◌, ap, subst, arith, if◌then◌else◌, length, take, get_or, set, ◌==◌, Option, Some, None, ◌⊎◌, inl, inr, replicate}
use Rattle.std.proofs.Math.Path.{fun_ext}
use Rattle.std.proofs.lemmas.Bool.{cases_eq}
use Rattle.std.proofs.lemmas.List.{length-set, get_or-set_other}
use Rattle.std.proofs.lemmas.Bool.Decides.{nat_tests}
use Rattle.clause_form.specs.declared.lit.Lit.{Lit}
use Rattle.clause_form.specs.ClauseTruth.{Values, is_lit_true}
use Rattle.clause_form.specs.Literals.{AreOf, IsOf}
use Rattle.clause_form.proofs.Rising.{AreOf-more, IsOf-more}
use Rattle.bit_circuit.specs.Extension.{PlainFormula, IsModel, Extends, Makes}
use Rattle.bit_circuit.proofs.Growth.{extends_refl, extends_trans, kept}
use Rattle.guard_prog.specs.GuardedRun.{PlainAlternative}
use Rattle.turn_unroll.specs.declared.offers.Offered.{Offered}
use Rattle.turn_unroll.specs.declared.ways.Way.{Way}
use Rattle.turn_unroll.specs.declared.ways.Side.{Side}
use Rattle.turn_law.specs.Sight.{Offer}
use Rattle.turn_law.specs.Symbol.{row_true, nth, no}
use Rattle.turn_law.proofs.Taking.{same_number}
use Rattle.turn_unroll.specs.Rows.{GivesLit, GivesRow, GivesSlots, found_below}
use Rattle.turn_unroll.specs.Stack.{SlotsBy, TopsBy, popped_by}
use Rattle.turn_unroll.specs.Ways.{AreBelow, AreLabelledBy, AreOpen, AreTaken, GathersRow, GivesNamed, GrowsRow, IsBelow, OpensWays, TakesWays, any_way, choice_of, choices_of, does, is_here, names, offer_of, offered_choices, offers_of, target_of}
use Rattle.turn_law.specs.Building.{HasTruth}
use Rattle.turn_unroll.specs.declared.ways.Side.TheVariants.{Top, Below, Label}
use Rattle.turn_unroll.specs.Demands.{Demands, each_from, each_implied}
use Rattle.turn_unroll.specs.Labels.{all_offered}
use Rattle.turn_unroll.proofs.Demanding.{demands_after, demands_as}
use Rattle.turn_unroll.proofs.Making.{dark_false, length-dark, take_more, take_whole}

pub taken-get : (n : ℕ) (ws : List Way) (i : ℕ) (d : Way) → AreTaken n ws → i < length ws → IsOf n (get_or ws i d).taken
taken-get n [] i d o h = absurd (omega (arith, h))
taken-get n (w ∷ ws) zero d o h = o.0
taken-get n (w ∷ ws) (suc i) d o h = taken-get n ws i d o.1 (omega (arith, h))

pub taken_more : (n m : ℕ) (ws : List Way) → n ≤ m → AreTaken n ws → AreTaken m ws
taken_more n m [] h o = tt
taken_more n m (w ∷ ws) h o = (IsOf-more n m w.taken h o.0, taken_more n m ws h o.1)

any-suc : (v : Values) (f : PlainAlternative → Bool) (ws : List Way) (i : ℕ) (d : Way) → i < length ws → any_way v f (take (suc i) ws) ≡ (any_way v f (take i ws) || does v f (get_or ws i d))
any-suc v f [] i d h = absurd (omega (arith, h))
any-suc v f (w ∷ ws) zero d h = go ws (does v f w)
  where
    go : (ws : List Way) (b : Bool) → (b || any_way v f (take 0 ws)) ≡ (false || b)
    go [] true = refl
    go [] false = refl
    go (x ∷ ws) true = refl
    go (x ∷ ws) false = refl
any-suc v f (w ∷ ws) (suc i) d h = ap (λ b. does v f w || b) (any-suc v f ws i d (omega (arith, h))) ∙ go (does v f w)
  where
    go : (b : Bool) → (b || (any_way v f (take i ws) || does v f (get_or ws i d))) ≡ ((b || any_way v f (take i ws)) || does v f (get_or ws i d))
    go true = refl
    go false = refl

pub any-take : (v : Values) (f : PlainAlternative → Bool) (ws : List Way) (i : ℕ) (d : Way) → i < length ws → any_way v f (take (i + 1) ws) ≡ (any_way v f (take i ws) || does v f (get_or ws i d))
any-take v f ws i d h = let e : i + 1 ≡ suc i = omega arith in ap (λ n. any_way v f (take n ws)) e ∙ any-suc v f ws i d h

pub any_none : (s : PlainFormula) (f : PlainAlternative → Bool) (ws : List Way) (l : Lit) → GivesLit s s l (λ v. false) → GivesLit s s l (λ v. any_way v f (take 0 ws))
any_none s f [] l m = record { extends = extends_refl s; inside = m.inside; equal = m.equal }
any_none s f (w ∷ ws) l m = record { extends = extends_refl s; inside = m.inside; equal = m.equal }

pub skipped : (s : PlainFormula) (f : PlainAlternative → Bool) (some : Lit) (w : Way) → IsOf s.variables some → f (choice_of w) ≡ false → GivesLit s s some (λ v. is_lit_true v some || does v f w)
skipped s f some w o e = record {
  extends = extends_refl s;
  inside = o;
  equal = λ v m. rw e (go (is_lit_true v some) (is_lit_true v w.taken));
}
  where
    go : (a b : Bool) → a ≡ (a || (b && false))
    go true b = refl
    go false true = refl
    go false false = refl

pub joined : (s new : PlainFormula) (f : PlainAlternative → Bool) (some r : Lit) (w : Way) → f (choice_of w) ≡ true → Makes s new r (λ v. is_lit_true v some || is_lit_true v w.taken) 1 → GivesLit s new r (λ v. is_lit_true v some || does v f w)
joined s new f some r w e m = record {
  extends = m.extends;
  inside = m.inside;
  equal = λ v k. m.equal v k ∙ rw e (go (is_lit_true v some) (is_lit_true v w.taken));
}
  where
    go : (a b : Bool) → (a || b) ≡ (a || (b && true))
    go true b = refl
    go false true = refl
    go false false = refl

pub any_more : (old s new : PlainFormula) (f : PlainAlternative → Bool) (ws : List Way) (i : ℕ) (d : Way) (l r : Lit) → i < length ws → GivesLit old s l (λ v. any_way v f (take i ws)) → GivesLit s new r (λ v. is_lit_true v l || does v f (get_or ws i d)) → GivesLit old new r (λ v. any_way v f (take (i + 1) ws))
any_more old s new f ws i d l r h g m = record {
  extends = extends_trans old s new g.extends m.extends;
  inside = m.inside;
  equal = λ v k. m.equal v k ∙ rw (g.equal v (kept m.extends v k)) (sym (any-take v f ws i d h));
}

pub any_all : (old s : PlainFormula) (f : PlainAlternative → Bool) (ws : List Way) (i : ℕ) (l : Lit) → i ≡ length ws → GivesLit old s l (λ v. any_way v f (take i ws)) → GivesLit old s l (λ v. any_way v f ws)
any_all old s f ws i l e g = record { extends = g.extends; inside = g.inside; equal = λ v k. g.equal v k ∙ ap (any_way v f) (take_whole ws i e) }

-- ---- a row
pub AreOf-set : (n : ℕ) (ls : List Lit) (i : ℕ) (l : Lit) → AreOf n ls → IsOf n l → AreOf n (set ls i l)
AreOf-set n [] i l o h = tt
AreOf-set n (x ∷ ls) zero l o h = (h, o.1)
AreOf-set n (x ∷ ls) (suc i) l o h = (o.0, AreOf-set n ls i l o.1 h)

nth-set : (ls : List Lit) (q i : ℕ) (l : Lit) → q < length ls → nth (set ls q l) i ≡ (if i == q then l else nth ls i)
nth-set [] q i l h = absurd (omega (arith, h))
nth-set (x ∷ ls) zero zero l h = refl
nth-set (x ∷ ls) zero (suc i) l h = let e : (suc i == 0) ≡ false = grind (arith, nat_tests) in rw e refl
nth-set (x ∷ ls) (suc q) zero l h = let e : (0 == suc q) ≡ false = grind (arith, nat_tests) in rw e refl
nth-set (x ∷ ls) (suc q) (suc i) l h = let e : (suc i == suc q) ≡ (i == q) = grind (arith, nat_tests) in nth-set ls q i l (omega (arith, h)) ∙ rw e refl

pub put_made : (s new : PlainFormula) (side : Side) (way : Way) (was : List Lit) (q : ℕ) (old r : Lit) → target_of side (choice_of way) ≡ Some q → q < length was → AreOf s.variables was → old ≡ nth was q → Makes s new r (λ v. is_lit_true v old || is_lit_true v way.taken) 1 → GrowsRow s new side way was (set was q r)
put_made s new side way was q old r e h o f m = record {
  extends = m.extends;
  inside = AreOf-set new.variables was q r (AreOf-more s.variables new.variables was m.extends.grows o) m.inside;
  count = length-set was q r;
  equal = λ v k i. ap (is_lit_true v) (nth-set was q i r h) ∙ go v i (i == q) refl (m.equal v k);
}
  where
    go : (v : Values) (i : ℕ) (b : Bool) → (i == q) ≡ b → is_lit_true v r ≡ (is_lit_true v old || is_lit_true v way.taken) → is_lit_true v (if b then r else nth was i) ≡ (row_true v was i || (is_lit_true v way.taken && is_here (target_of side (choice_of way)) i))
    go v i true g k = let j : i ≡ q = same_number i q g in k ∙ rw (e, g, f) (let x : nth was q ≡ nth was i = ap (nth was) (sym j) in rw x (table (row_true v was i) (is_lit_true v way.taken)))
      where
        table : (a b : Bool) → (a || b) ≡ (a || (b && true))
        table true b = refl
        table false true = refl
        table false false = refl
    go v i false g k = rw (e, g) (table (row_true v was i) (is_lit_true v way.taken))
      where
        table : (a b : Bool) → a ≡ (a || (b && false))
        table true b = refl
        table false true = refl
        table false false = refl

pub put_nowhere : (s : PlainFormula) (side : Side) (way : Way) (was : List Lit) → target_of side (choice_of way) ≡ None → AreOf s.variables was → GrowsRow s s side way was was
put_nowhere s side way was e o = record {
  extends = extends_refl s;
  inside = o;
  count = refl;
  equal = λ v k i. rw e (table (row_true v was i) (is_lit_true v way.taken));
}
  where
    table : (a b : Bool) → a ≡ (a || (b && false))
    table true b = refl
    table false true = refl
    table false false = refl

pub below_is : (o : Option ℕ) (q n : ℕ) → o ≡ Some q → IsBelow o n → q < n
below_is None q n e h = absurd (cc)
below_is (Some p) q n e h = let f : p ≡ q = cc in omega (arith, f, h)

pub same_get : (ls : List Lit) (i : ℕ) (d e : Lit) → i < length ls → get_or ls i d ≡ get_or ls i e
same_get [] i d e h = absurd (omega (arith, h))
same_get (l ∷ ls) zero d e h = refl
same_get (l ∷ ls) (suc i) d e h = same_get ls i d e (omega (arith, h))

pub below-get : (side : Side) (n m : ℕ) (ws : List Way) (i : ℕ) (d : Way) → AreBelow side n (choices_of ws) → n ≡ m → i < length ws → IsBelow (target_of side (choice_of (get_or ws i d))) m
below-get side n m [] i d o e h = absurd (omega (arith, h))
below-get side n m (w ∷ ws) zero d o e h = subst (IsBelow (target_of side (choice_of w))) e o.0
below-get side n m (w ∷ ws) (suc i) d o e h = below-get side n m ws i d o.1 e (omega (arith, h))

any_zero : (v : Values) (f : PlainAlternative → Bool) (ws : List Way) → any_way v f (take 0 ws) ≡ false
any_zero v f [] = refl
any_zero v f (w ∷ ws) = refl

pub gathers_none : (s : PlainFormula) (side : Side) (ws : List Way) (was : List Lit) → AreOf s.variables was → GathersRow s s side (take 0 ws) was was
gathers_none s side ws was o = record {
  extends = extends_refl s;
  inside = o;
  count = refl;
  equal = λ v m i. rw (any_zero v (names side i) ws) (go (row_true v was i));
}
  where
    go : (a : Bool) → a ≡ (a || false)
    go true = refl
    go false = refl

pub gathers_more : (old s new : PlainFormula) (side : Side) (ws : List Way) (i : ℕ) (d : Way) (was mid now : List Lit) → i < length ws → GathersRow old s side (take i ws) was mid → GrowsRow s new side (get_or ws i d) mid now → GathersRow old new side (take (i + 1) ws) was now
gathers_more old s new side ws i d was mid now h g m = record {
  extends = extends_trans old s new g.extends m.extends;
  inside = m.inside;
  count = m.count ∙ g.count;
  equal = λ v k j. m.equal v k j ∙ rw (g.equal v (kept m.extends v k) j, any-take v (names side j) ws i d h) (go (row_true v was j) (any_way v (names side j) (take i ws)) (does v (names side j) (get_or ws i d)));
}
  where
    go : (a b c : Bool) → ((a || b) || c) ≡ (a || (b || c))
    go true b c = refl
    go false b c = refl

pub gathers_all : (old s : PlainFormula) (side : Side) (ws : List Way) (i : ℕ) (was now : List Lit) → i ≡ length ws → GathersRow old s side (take i ws) was now → GathersRow old s side ws was now
gathers_all old s side ws i was now e g = subst (λ xs. GathersRow old s side xs was now) (take_whole ws i e) g

-- ---- the alternatives that are open, and those that are taken
pub open_none : (v : Values) (at : ℕ → Bool) (f : PlainAlternative → Bool) (os : List Offered) → AreOpen v at f [] (offers_of (take 0 os))
open_none v at f [] = tt
open_none v at f (o ∷ os) = tt

pub open_push : (v : Values) (at : ℕ → Bool) (f : PlainAlternative → Bool) (ws : List Way) (os : List Offer) (w : Way) (o : Offer) → AreOpen v at f ws os → is_lit_true v w.taken ≡ (at o.point && f o.choice) → AreOpen v at f (ws ++ w ∷ []) (os ++ o ∷ [])
open_push v at f [] [] w o k e = (e, tt)
open_push v at f [] (q ∷ os) w o k e = absurd k
open_push v at f (u ∷ ws) [] w o k e = absurd k
open_push v at f (u ∷ ws) (q ∷ os) w o k e = (k.0, open_push v at f ws os w o k.1 e)

pub offers_append : (xs ys : List Offered) → offers_of (xs ++ ys) ≡ offers_of xs ++ offers_of ys
offers_append [] ys = refl
offers_append (x ∷ xs) ys = ap (λ os. offer_of x ∷ os) (offers_append xs ys)

pub labelled_none : (v : Values) (label : ℕ → Bool) (ws : List Way) → AreLabelledBy v label (take 0 ws) []
labelled_none v label [] = tt
labelled_none v label (w ∷ ws) = tt

pub labelled_push : (v : Values) (label : ℕ → Bool) (ws us : List Way) (w u : Way) → AreLabelledBy v label ws us → is_lit_true v u.taken ≡ (is_lit_true v w.taken && label (choice_of w).label) → AreLabelledBy v label (ws ++ w ∷ []) (us ++ u ∷ [])
labelled_push v label [] [] w u k e = (e, tt)
labelled_push v label [] (q ∷ us) w u k e = absurd k
labelled_push v label (q ∷ ws) [] w u k e = absurd k
labelled_push v label (q ∷ ws) (r ∷ us) w u k e = (k.0, labelled_push v label ws us w u k.1 e)

pub choices_append : (ws us : List Way) → choices_of (ws ++ us) ≡ choices_of ws ++ choices_of us
choices_append [] us = refl
choices_append (w ∷ ws) us = ap (λ as'. choice_of w ∷ as') (choices_append ws us)

pub offered_append : (os qs : List Offer) → offered_choices (os ++ qs) ≡ offered_choices os ++ offered_choices qs
offered_append [] qs = refl
offered_append (o ∷ os) qs = ap (λ as'. o.choice ∷ as') (offered_append os qs)

pub taken_push : (n : ℕ) (ws : List Way) (w : Way) → AreTaken n ws → IsOf n w.taken → AreTaken n (ws ++ w ∷ [])
taken_push n [] w o h = (h, tt)
taken_push n (u ∷ ws) w o h = (o.0, taken_push n ws w o.1 h)

pub takes_none : (s : PlainFormula) (labels : List Lit) (ws us : List Way) → us ≡ [] → TakesWays s s labels (take 0 ws) us
takes_none s labels ws us e = rw e (record { extends = extends_refl s; inside = tt; same = none ws; equal = λ v m. labelled_none v (row_true v labels) ws })
  where
    none : (ws : List Way) → [] ≡ choices_of (take 0 ws)
    none [] = refl
    none (w ∷ ws) = refl

pub takes_more : (old s new : PlainFormula) (labels : List Lit) (ws us us' : List Way) (i : ℕ) (d u : Way) (l : Lit) → i < length ws → TakesWays old s labels (take i ws) us → l ≡ nth labels (choice_of (get_or ws i d)).label → Makes s new u.taken (λ v. is_lit_true v (get_or ws i d).taken && is_lit_true v l) 1 → choice_of u ≡ choice_of (get_or ws i d) → us' ≡ us ++ u ∷ [] → TakesWays old new labels (take (i + 1) ws) us'
takes_more old s new labels ws us us' i d u l h g q m c e =
    rw (e, take_more ws i d h) (record {
      extends = extends_trans old s new g.extends m.extends;
      inside = taken_push new.variables us u (taken_more s.variables new.variables us m.extends.grows g.inside) m.inside;
      same = choices_append us (u ∷ []) ∙ ap (λ as'. as' ++ choice_of u ∷ []) g.same ∙ ap (λ a. choices_of (take i ws) ++ a ∷ []) c ∙ sym (choices_append (take i ws) (get_or ws i d ∷ []));
      equal = λ v k. labelled_push v (row_true v labels) (take i ws) us (get_or ws i d) u (g.equal v (kept m.extends v k)) (m.equal v k ∙ ap (λ x. is_lit_true v (get_or ws i d).taken && is_lit_true v x) q);
    })

pub takes_all : (old s : PlainFormula) (labels : List Lit) (ws us : List Way) (i : ℕ) → i ≡ length ws → TakesWays old s labels (take i ws) us → TakesWays old s labels ws us
takes_all old s labels ws us i e g = subst (λ xs. TakesWays old s labels xs us) (take_whole ws i e) g

pub opens_none : (s : PlainFormula) (at : List Lit) (f : Values → PlainAlternative → Bool) (os : List Offered) (ws : List Way) → ws ≡ [] → OpensWays s s at f (offers_of (take 0 os)) ws
opens_none s at f os ws e = rw e (record { extends = extends_refl s; inside = tt; same = none os; equal = λ v m. open_none v (row_true v at) (f v) os })
  where
    none : (os : List Offered) → [] ≡ offered_choices (offers_of (take 0 os))
    none [] = refl
    none (o ∷ os) = refl

pub opens_more : (old s new : PlainFormula) (at : List Lit) (f : Values → PlainAlternative → Bool) (os : List Offered) (ws ws' : List Way) (i : ℕ) (d : Offered) (w : Way) (l : Lit) → i < length os → OpensWays old s at f (offers_of (take i os)) ws → l ≡ nth at (offer_of (get_or os i d)).point → GivesLit s new w.taken (λ v. is_lit_true v l && f v (offer_of (get_or os i d)).choice) → choice_of w ≡ (offer_of (get_or os i d)).choice → ws' ≡ ws ++ w ∷ [] → OpensWays old new at f (offers_of (take (i + 1) os)) ws'
opens_more old s new at f os ws ws' i d w l h g q m c e =
    rw (e, take_more os i d h, offers_append (take i os) (get_or os i d ∷ [])) (record {
      extends = extends_trans old s new g.extends m.extends;
      inside = taken_push new.variables ws w (taken_more s.variables new.variables ws m.extends.grows g.inside) m.inside;
      same = choices_append ws (w ∷ []) ∙ ap (λ as'. as' ++ choice_of w ∷ []) g.same ∙ ap (λ a. offered_choices (offers_of (take i os)) ++ a ∷ []) c ∙ sym (offered_append (offers_of (take i os)) (offer_of (get_or os i d) ∷ []));
      equal = λ v k. open_push v (row_true v at) (f v) ws (offers_of (take i os)) w (offer_of (get_or os i d)) (g.equal v (kept m.extends v k)) (m.equal v k ∙ ap (λ x. is_lit_true v x && f v (offer_of (get_or os i d)).choice) q);
    })

pub opens_all : (old s : PlainFormula) (at : List Lit) (f : Values → PlainAlternative → Bool) (os : List Offered) (ws : List Way) (i : ℕ) → i ≡ length os → OpensWays old s at f (offers_of (take i os)) ws → OpensWays old s at f (offers_of os) ws
opens_all old s at f os ws i e g = subst (λ xs. OpensWays old s at f (offers_of xs) ws) (take_whole os i e) g

-- ---- what is named
pub named_made : (old new : PlainFormula) (side : Side) (ways : List Way) (n : ℕ) (dark was row : List Lit) → HasTruth old → dark ≡ replicate n no → was ≡ dark → GathersRow old new side ways was row → GivesNamed old new side ways n row
named_made old new side ways n dark was row t e f g = record {
  extends = g.extends;
  inside = g.inside;
  count = g.count ∙ ap length (f ∙ e) ∙ length-dark n;
  equal = λ v m i. g.equal v m i ∙ ap (λ b. b || any_way v (names side i) ways) (ap (λ ls. row_true v ls i) (f ∙ e) ∙ dark_false v n i (t.one v (kept g.extends v m)));
}

pub offered_made : (old mid new : PlainFormula) (was now labels offered lent : List Lit) (ways : List Way) (n : ℕ) → n ≡ length labels → lent ≡ offered → GivesNamed old mid Label ways n offered → Demands mid new was now (λ v. each_implied v labels lent 1 (length lent - 1)) → Demands old new was now (λ v. all_offered v labels ways 1 (length labels - 1))
offered_made old mid new was now labels offered lent ways n l f g d =
    demands_as old new was now _ _ (demands_after old mid new was now _ g.extends d) (λ v m.
    let m1 = kept d.extends v m in
    let c : length lent ≡ length labels = ap length f ∙ g.count ∙ l in
    ap (λ h. each_from h 1 (length lent - 1)) (fun_ext (λ i. ap (λ b. not (row_true v labels i) || b) (ap (λ ls. row_true v ls i) f ∙ g.equal v m1 i)))
    ∙ ap (λ k. each_from (λ i. not (row_true v labels i) || any_way v (names Label i) ways) 1 (k - 1)) c)

-- ---- the same of an element that was read
pub taken_of : (n : ℕ) (ws : List Way) (i : ℕ) (w : Way) → w ≡ get_or ws i w → AreTaken n ws → i < length ws → IsOf n w.taken
taken_of n ws i w e o h = subst (λ x. IsOf n x.taken) (sym e) (taken-get n ws i w o h)

pub below_of_way : (side : Side) (n m : ℕ) (ws : List Way) (i : ℕ) (w : Way) → w ≡ get_or ws i w → AreBelow side n (choices_of ws) → n ≡ m → i < length ws → IsBelow (target_of side (choice_of w)) m
below_of_way side n m ws i w e o h g = subst (λ x. IsBelow (target_of side (choice_of x)) m) (sym e) (below-get side n m ws i w o h g)

pub any_read : (old s new : PlainFormula) (f : PlainAlternative → Bool) (ws : List Way) (i : ℕ) (w : Way) (l r : Lit) → w ≡ get_or ws i w → i < length ws → GivesLit old s l (λ v. any_way v f (take i ws)) → GivesLit s new r (λ v. is_lit_true v l || does v f w) → GivesLit old new r (λ v. any_way v f (take (i + 1) ws))
any_read old s new f ws i w l r e h g m = any_more old s new f ws i w l r h g (subst (λ x. GivesLit s new r (λ v. is_lit_true v l || does v f x)) e m)

pub gathers_read : (old s new : PlainFormula) (side : Side) (ws : List Way) (i : ℕ) (w : Way) (was mid now : List Lit) → w ≡ get_or ws i w → i < length ws → GathersRow old s side (take i ws) was mid → GrowsRow s new side w mid now → GathersRow old new side (take (i + 1) ws) was now
gathers_read old s new side ws i w was mid now e h g m = gathers_more old s new side ws i w was mid now h g (subst (λ x. GrowsRow s new side x mid now) e m)

pub takes_read : (old s new : PlainFormula) (labels : List Lit) (ws us us' : List Way) (i : ℕ) (w u : Way) (l : Lit) → w ≡ get_or ws i w → i < length ws → TakesWays old s labels (take i ws) us → l ≡ nth labels (choice_of w).label → Makes s new u.taken (λ v. is_lit_true v w.taken && is_lit_true v l) 1 → choice_of u ≡ choice_of w → us' ≡ us ++ u ∷ [] → TakesWays old new labels (take (i + 1) ws) us'
takes_read old s new labels ws us us' i w u l e h g q m c f =
    takes_more old s new labels ws us us' i w u l h g (q ∙ ap (λ x. nth labels (choice_of x).label) e) (subst (λ x. Makes s new u.taken (λ v. is_lit_true v x.taken && is_lit_true v l) 1) e m) (c ∙ ap choice_of e) f

pub opens_read : (old s new : PlainFormula) (at : List Lit) (f : Values → PlainAlternative → Bool) (os : List Offered) (ws ws' : List Way) (i : ℕ) (o : Offered) (w : Way) (l : Lit) → o ≡ get_or os i o → i < length os → OpensWays old s at f (offers_of (take i os)) ws → l ≡ nth at (offer_of o).point → GivesLit s new w.taken (λ v. is_lit_true v l && f v (offer_of o).choice) → choice_of w ≡ (offer_of o).choice → ws' ≡ ws ++ w ∷ [] → OpensWays old new at f (offers_of (take (i + 1) os)) ws'
opens_read old s new at f os ws ws' i o w l e h g q m c k =
    opens_more old s new at f os ws ws' i o w l h g (q ∙ ap (λ x. nth at (offer_of x).point) e) (subst (λ x. GivesLit s new w.taken (λ v. is_lit_true v l && f v (offer_of x).choice)) e m) (c ∙ ap (λ x. (offer_of x).choice) e) k

-- ---- the stack after a turn
found_popped : (v : Values) (pop : Lit) (depth from : List Lit) (slots : List (List Lit)) (i m n : ℕ) → ((d : ℕ) → d < m → row_true v from d ≡ (is_lit_true v pop && row_true v depth (d + 1))) → n ≤ m → found_below v from slots i n ≡ popped_by v pop depth slots i n
found_popped v pop depth from slots i m zero h l = refl
found_popped v pop depth from slots i m (suc n) h l = rw (h n (omega arith), found_popped v pop depth from slots i m n h (omega arith)) refl

pub tops_made : (old a b new : PlainFormula) (ways : List Way) (pop : Lit) (depth : List Lit) (slots : List (List Lit)) (lead lent from come row : List Lit) (n m : ℕ) → lent ≡ lead → come ≡ from → GivesNamed old a Top ways n lead → GivesRow a b from m (λ v d. is_lit_true v pop && row_true v depth (d + 1)) → m ≡ length slots → GivesRow b new row (length lent) (λ v i. row_true v lent i || found_below v come slots i (length come)) → TopsBy old new ways pop depth slots n row
tops_made old a b new ways pop depth slots lead lent from come row n m e f g p l r = record {
  extends = extends_trans old a new g.extends (extends_trans a b new p.extends r.extends);
  inside = r.inside;
  count = r.count ∙ size;
  equal = λ v q i h.
      let qb = kept r.extends v q in
      let qa = kept p.extends v qb in
      r.equal v q i (omega (arith, size))
      ∙ rw (e, f) (rw (g.equal v qa i, found_popped v pop depth from slots i m (length from) (p.equal v qb) (omega (arith, p.count)), p.count ∙ l) refl);
}
  where
    size : length lent ≡ n
    size = ap length e ∙ g.count

pub slots_made : (old a new : PlainFormula) (ways : List Way) (push : Lit) (depth : List Lit) (slots : List (List Lit)) (leave lent : List Lit) (rows : List (List Lit)) (n : ℕ) → lent ≡ leave → GivesNamed old a Below ways n leave → GivesSlots a new push depth lent slots rows (length slots) → SlotsBy old new ways push depth slots n rows
slots_made old a new ways push depth slots leave lent rows n e g r = record {
  extends = extends_trans old a new g.extends r.extends;
  inside = r.inside;
  count = r.count;
  widths = λ d h. r.widths d h ∙ size;
  equal = λ v q d i h j. r.equal v q d i h (omega (arith, size)) ∙ rw e (rw (g.equal v (kept r.extends v q) i) refl);
}
  where
    size : length lent ≡ n
    size = ap length e ∙ g.count
