-- The points of one thing do what its items come to.
use Rattle.std.proofs.Common.{append-nil, ◌≡◌, ℕ, ◌+◌, ◌<◌, ◌≤◌, Bool, true, false, ◌&&◌, if◌then◌else◌, nat_lt, List, [], ◌∷◌, ◌++◌, length, Option, Some, None, refl, sym, ap, ◌∙◌, subst, arith, append_assoc, add-zero}
use Rattle.std.proofs.lemmas.Bool.Decides.{nat_tests}
use Rattle.chk_base.specs.declared.word.Width.{Width}
use Rattle.chk_base.specs.declared.place.Place.{Place}
use Rattle.chk_base.specs.Operators.{truth}
use Rattle.chk_base.specs.Term.{Term, Const}
use Rattle.step_ir.specs.declared.event.EventAction.TheVariants as Told
use Rattle.step_ir.specs.declared.event.Failure.{Failure}
use Rattle.step_ir.specs.EntityStep.{Does, Fails}
use Rattle.step_ir.specs.Points.{PlainTarget, PlainAction, Read, Write, Local, Branch, Input, Call, Return, Invoke, Assert, End, PlainPoint}
use Rattle.step_ir.specs.PointStep.{place_in, cell_at, Bits, val, first, or_zero, cell_of, inside, go_on, act, unless, step, place_at, fails}
use Rattle.step_ir.specs.Numbers.{put}
use Rattle.step_ir.specs.Services.{fault}
use Rattle.lower_law.specs.Items.{Item, Site, Check, guarded}
use Rattle.lower_law.proofs.Walk.{Seen, Reads, Stops, Through, holds, walk}
use Rattle.lower_law.specs.Lowered.{Nexts, behind, entry, thing}
use Rattle.lower_law.proofs.Terms.{IsIn, SameBelow, same_put, within_more, all_more, holds_same, guarded_truth, value_same}
use Rattle.lower_law.proofs.Lists.{Ordered, TargetIn}

-- a failure before this action takes no word
abbrev pub IsQuiet : PlainAction → Type 0
IsQuiet (Input cell) = ⊥
IsQuiet _ = Unit {0}

-- so it is where there is something to read or to look at before the action
abbrev pub IsCalm : PlainAction → List Item → Type 0
IsCalm action [] = Unit {0}
IsCalm action (i ∷ is) = IsQuiet action

pub calm_of : (action : PlainAction) (is : List Item) → IsQuiet action → IsCalm action is
calm_of action [] q = tt
calm_of action (i ∷ is) q = q

quiet_fails : (width : ℕ → Width) (action : PlainAction) (f : Failure) → IsQuiet action → fails width action f ≡ Fails f
quiet_fails width (Read t into) f q = refl
quiet_fails width (Write t term) f q = refl
quiet_fails width (Local cell term) f q = refl
quiet_fails width (Branch term) f q = refl
quiet_fails width (Input cell) f q = absurd q
quiet_fails width (Call k sets) f q = refl
quiet_fails width (Return set) f q = refl
quiet_fails width (Invoke s) f q = refl
quiet_fails width (Assert term) f q = refl
quiet_fails width End f q = refl

-- the own cells begin at lo
module _ (lo : ℕ) where
  abbrev pub TrapsWithin : ℕ → List (Term × ℕ) → Type 0
  TrapsWithin m [] = Unit {0}
  TrapsWithin m (x ∷ xs) = IsIn lo m x.0 × TrapsWithin m xs

  traps_more : (n m : ℕ) (xs : List (Term × ℕ)) → n ≤ m → TrapsWithin n xs → TrapsWithin m xs
  traps_more n m [] le h = tt
  traps_more n m (x ∷ xs) le h = (within_more lo n m x.0 le h.0, traps_more n m xs le h.1)

  within_behind : (g : List Term) (m : ℕ) (xs : List (Term × ℕ)) → TrapsWithin m xs → TrapsWithin m (behind g xs)
  within_behind [] m xs h = tt
  within_behind (t ∷ ts) m xs h = h

  traps_add : (m : ℕ) (xs : List (Term × ℕ)) (x : Term × ℕ) → TrapsWithin m xs → IsIn lo m x.0 → TrapsWithin m (xs ++ x ∷ [])
  traps_add m [] x h w = (w, tt)
  traps_add m (y ∷ ys) x h w = (h.0, traps_add m ys x h.1 w)

  module _ (width : ℕ → Width) where
    first_same : (xs : List (Term × ℕ)) (m : ℕ) (bits bits' : Bits) → TrapsWithin m xs → SameBelow lo m bits bits' → first (val width bits') xs ≡ first (val width bits) xs
    first_same [] m bits bits' h s = refl
    first_same (x ∷ xs) m bits bits' h s =
        ap (λ v. if truth v then Some x.1 else first (val width bits') xs) (value_same lo width x.0 m bits bits' h.0 s)
        ∙ ap (λ o. if truth (val width bits x.0) then Some x.1 else o) (first_same xs m bits bits' h.1 s)

    first_add : (xs : List (Term × ℕ)) (x : Term × ℕ) (bits : Bits) → first (val width bits) xs ≡ None → first (val width bits) (xs ++ x ∷ []) ≡ (if truth (val width bits x.0) then Some x.1 else None)
    first_add [] x bits h = refl
    first_add (y ∷ ys) x bits h = go (truth (val width bits y.0)) h (first_add ys x bits) where
      go : (b : Bool) → (if b then Some y.1 else first (val width bits) ys) ≡ None → (first (val width bits) ys ≡ None → first (val width bits) (ys ++ x ∷ []) ≡ (if truth (val width bits x.0) then Some x.1 else None)) → (if b then Some y.1 else first (val width bits) (ys ++ x ∷ [])) ≡ (if truth (val width bits x.0) then Some x.1 else None)
      go true h ih = cc
      go false h ih = ih h

    first_kept : (xs : List (Term × ℕ)) (x : Term × ℕ) (f : ℕ) (bits : Bits) → first (val width bits) xs ≡ Some f → first (val width bits) (xs ++ x ∷ []) ≡ Some f
    first_kept [] x f bits h = cc
    first_kept (y ∷ ys) x f bits h = go (truth (val width bits y.0)) h (first_kept ys x f bits) where
      go : (b : Bool) → (if b then Some y.1 else first (val width bits) ys) ≡ Some f → (first (val width bits) ys ≡ Some f → first (val width bits) (ys ++ x ∷ []) ≡ Some f) → (if b then Some y.1 else first (val width bits) (ys ++ x ∷ [])) ≡ Some f
      go true h ih = h
      go false h ih = ih h

    clear_behind : (g : List Term) (xs : List (Term × ℕ)) (bits : Bits) → first (val width bits) xs ≡ None → first (val width bits) (behind g xs) ≡ None
    clear_behind [] xs bits h = refl
    clear_behind (t ∷ ts) xs bits h = h

  -- the position of the next read whose guard holds, or else of the completing point
  abbrev pub next_at : (Term → ℕ) → ℕ → List Item → ℕ
  next_at v at [] = at
  next_at v at (Check g t f ∷ is) = next_at v at is
  next_at v at (Site g t into ∷ is) = if holds v g then at else next_at v (at + 1) is

  module _ (width : ℕ → Width) (number : ℕ → ℕ) where
    pub entry_first : (is : List Item) (at : ℕ) (bits : Bits) → first (val width bits) (entry number at is) ≡ Some (number (next_at (val width bits) at is))
    entry_first [] at bits = refl
    entry_first (Check g t f ∷ is) at bits = entry_first is at bits
    entry_first (Site [] t into ∷ is) at bits = refl
    entry_first (Site (u ∷ us) t into ∷ is) at bits =
        ap (λ b. if b then Some (number at) else first (val width bits) (entry number (at + 1) is)) (guarded_truth lo width (u ∷ us) (Const 1) bits)
        ∙ go (holds (val width bits) (u ∷ us)) (entry_first is (at + 1) bits)
      where
        go : (b : Bool) → first (val width bits) (entry number (at + 1) is) ≡ Some (number (next_at (val width bits) (at + 1) is)) → (if (b && true) then Some (number at) else first (val width bits) (entry number (at + 1) is)) ≡ Some (number (if b then at else next_at (val width bits) (at + 1) is))
        go true e = refl
        go false e = e

  module _ (number : ℕ → ℕ) (code : ℕ → Option PlainPoint) where
    -- the points stand in the code from this position on
    abbrev pub Stands : ℕ → List PlainPoint → Type 0
    Stands at [] = Unit {0}
    Stands at (p ∷ ps) = (code (number at) ≡ Some p) × Stands (at + 1) ps

    pub stands_front : (xs ys : List PlainPoint) (at : ℕ) → Stands at (xs ++ ys) → Stands at xs
    stands_front [] ys at s = tt
    stands_front (x ∷ xs) ys at s = (s.0, stands_front xs ys (at + 1) s.1)

    pub stands_back : (xs ys : List PlainPoint) (at : ℕ) → Stands at (xs ++ ys) → Stands (at + length xs) ys
    stands_back [] ys at s = subst (λ n. Stands n ys) (sym (add-zero at)) s
    stands_back (x ∷ xs) ys at s =
        let e : at + 1 + length xs ≡ at + length (x ∷ xs) = omega arith in
        subst (λ n. Stands n ys) e (stands_back xs ys (at + 1) s.1)

  module _ (width : ℕ → Width) (top : ℕ) where
    place_same : (m : ℕ) (o : Option Term) (own bits : Bits) → m ≤ top → TargetIn lo m o → SameBelow lo top own bits → place_in (val width bits) o ≡ place_in (val width own) o
    place_same m None own bits le h s = refl
    place_same m (Some t) own bits le h s = value_same lo width t top own bits (within_more lo m top t le h) s

    pub next_same : (is : List Item) (at m : ℕ) (own bits : Bits) → Ordered lo top m is → SameBelow lo top own bits → next_at (val width bits) at is ≡ next_at (val width own) at is
    next_same [] at m own bits o s = refl
    next_same (Check g t f ∷ is) at m own bits o s = next_same is at m own bits o.1 s
    next_same (Site g t into ∷ is) at m own bits o s =
        let le : m ≤ top = let p = o.0 in let q = o.1 in omega arith in
        ap (λ b. if b then at else next_at (val width bits) (at + 1) is) (holds_same lo width g top own bits (all_more lo m top g le o.2) s)
        ∙ ap (λ n. if holds (val width own) g then at else n) (next_same is (at + 1) (into + 1) own bits o.4 s)

  module _ (width : ℕ → Width) (number : ℕ → ℕ) (code : ℕ → Option PlainPoint) (temp top : ℕ) where
    -- a thing at work: what its items came to so far over the entity's own cells, and where it is
    pub record Busy (place : Place) (action : PlainAction) (nexts : Nexts) (is0 : List Item) (own0 : Bits) (got : List ℕ) (p : ℕ) (own : Bits) : Type 0 where
      pub left : List Item
      pub at : ℕ
      pub traps : List (Term × ℕ)
      pub m : ℕ
      pub walked : (more : List ℕ) → walk width is0 own0 (got ++ more) ≡ walk width left own more
      pub stands : Stands number code at (thing number place action nexts traps at left)
      pub clear : first (val width own) traps ≡ None
      pub within : TrapsWithin m traps
      pub ordered : Ordered lo top m left
      pub calm : IsCalm action left
      pub low : temp ≤ m
      pub high : m ≤ top
      pub same : SameBelow lo temp own0 own
      pub here : p ≡ number (next_at (val width own) at left)

    pub record Reading (place : Place) (action : PlainAction) (nexts : Nexts) (is0 : List Item) (own0 : Bits) (got : List ℕ) (p : ℕ) (own bits : Bits) (c : ℕ) (w : Width) : Type 0 where
      pub into : ℕ
      pub low : temp ≤ into
      pub high : into < top
      pub to : ℕ
      pub on : step width (code p) bits ≡ Does (Told.Read c (record { width = w; bits = bits c })) (record { state = to; globals = put bits into (bits c) })
      pub busy : Busy place action nexts is0 own0 (got ++ bits c ∷ []) to (put own into (bits c))

    -- what the point does, where this is seen
    abbrev pub Comes : Place → PlainAction → Nexts → List Item → Bits → List ℕ → ℕ → Bits → Bits → Seen → Type 0
    Comes place action nexts is0 own0 got p own bits (Reads c w true) = Reading place action nexts is0 own0 got p own bits c w
    Comes place action nexts is0 own0 got p own bits (Reads c w false) = Unit {0}
    Comes place action nexts is0 own0 got p own bits (Stops f) = step width (code p) bits ≡ Fails (fault f)
    Comes place action nexts is0 own0 got p own bits (Through own' got') = (step width (code p) bits ≡ act width action nexts bits) × (own' ≡ own)

    module _ (place : Place) (action : PlainAction) (nexts : Nexts) (is0 : List Item) (own0 : Bits) (got : List ℕ) (own bits : Bits) (alike : SameBelow lo top own bits) where
      here_place : (is : List Item) (at : ℕ) (traps : List (Term × ℕ)) → Stands number code at (thing number place action nexts traps at is) → place_at (code (number (next_at (val width own) at is))) ≡ place
      here_place [] at traps s = ap place_at s.0
      here_place (Check g t f ∷ is) at traps s = here_place is at (traps ++ (guarded g t, f) ∷ []) s
      here_place (Site g t into ∷ is) at traps s = go (holds (val width own) g) (here_place is (at + 1) (behind g traps) s.1) where
        go : (b : Bool) → place_at (code (number (next_at (val width own) (at + 1) is))) ≡ place → place_at (code (number (if b then at else next_at (val width own) (at + 1) is))) ≡ place
        go true e = ap place_at s.0
        go false e = e

      failing : (is : List Item) (at f : ℕ) (traps : List (Term × ℕ)) → IsQuiet action → Stands number code at (thing number place action nexts traps at is) → first (val width bits) traps ≡ Some f → step width (code (number (next_at (val width own) at is))) bits ≡ Fails (fault f)
      failing [] at f traps q s e = ap (λ o. step width o bits) s.0 ∙ ap (λ o. unless width o (record { place = place; action = action; traps = traps; nexts = nexts }) bits) e ∙ quiet_fails width action (fault f) q
      failing (Check g t k ∷ is) at f traps q s e = failing is at f (traps ++ (guarded g t, k) ∷ []) q s (first_kept width traps (guarded g t, k) f bits e)
      failing (Site [] t into ∷ is) at f traps q s e =
          ap (λ o. step width o bits) s.0 ∙ ap (λ o. unless width o (record { place = place; action = Read t into; traps = traps; nexts = entry number (at + 1) is }) bits) e
      failing (Site (u ∷ us) t into ∷ is) at f traps q s e = go (holds (val width own) (u ∷ us)) (failing is (at + 1) f traps q s.1 e) where
        go : (b : Bool) → step width (code (number (next_at (val width own) (at + 1) is))) bits ≡ Fails (fault f) → step width (code (number (if b then at else next_at (val width own) (at + 1) is))) bits ≡ Fails (fault f)
        go true ih = ap (λ o. step width o bits) s.0 ∙ ap (λ o. unless width o (record { place = place; action = Read t into; traps = traps; nexts = entry number (at + 1) is }) bits) e
        go false ih = ih

      site_on : (g : List Term) (t : PlainTarget) (into b : ℕ) (is : List Item) (more : List ℕ) → holds (val width own) g ≡ true → walk width (Site g t into ∷ is) own (b ∷ more) ≡ walk width is (put own into b) more
      site_on g t into b is more h = ap (λ c. if c then walk width is (put own into b) more else walk width is own (b ∷ more)) h

      site_off : (g : List Term) (t : PlainTarget) (into : ℕ) (is : List Item) (more : List ℕ) → holds (val width own) g ≡ false → walk width (Site g t into ∷ is) own more ≡ walk width is own more
      site_off g t into is [] h = ap (λ c. if c then Reads (cell_of (val width own) t) (width (cell_of (val width own) t)) (inside (val width own) t) else walk width is own []) h
      site_off g t into is (b ∷ more) h = ap (λ c. if c then walk width is (put own into b) more else walk width is own (b ∷ more)) h

      put_alike : (into b : ℕ) → SameBelow lo top (put own into b) (put bits into b)
      put_alike into b = record { at = λ i l q. let e = alike.at i l q in grind (arith, nat_tests) }

      clear_bits : (m : ℕ) (traps : List (Term × ℕ)) (o : Option ℕ) → m ≤ top → TrapsWithin m traps → first (val width own) traps ≡ o → first (val width bits) traps ≡ o
      clear_bits m traps o le w e = first_same width traps top own bits (traps_more m top traps le w) alike ∙ e

      reading : (g : List Term) (t : PlainTarget) (into : ℕ) (is : List Item) (at m : ℕ) (traps : List (Term × ℕ)) → IsQuiet action → Stands number code at (thing number place action nexts traps at (Site g t into ∷ is)) → first (val width own) traps ≡ None → TrapsWithin m traps → Ordered lo top m (Site g t into ∷ is) → temp ≤ m → m ≤ top → SameBelow lo temp own0 own → ((more : List ℕ) → walk width is0 own0 (got ++ more) ≡ walk width (Site g t into ∷ is) own more) → holds (val width own) g ≡ true → inside (val width own) t ≡ true → Reading place action nexts is0 own0 got (number at) own bits (cell_of (val width own) t) (width (cell_of (val width own) t))
      reading g t into is at m traps q s clear within o low high same walked h ei =
          let c = cell_of (val width own) t in
          let b = bits c in
          let own' = put own into b in
          let bits' = put bits into b in
          let ep = place_same width top m t.index own bits high o.3 alike in
          record {
            into = into;
            low = let l = o.0 in omega arith;
            high = o.1;
            to = or_zero (first (val width bits') (entry number (at + 1) is));
            on = ap (λ o. step width o bits) s.0
                ∙ ap (λ o. unless width o (record { place = place; action = Read t into; traps = traps; nexts = entry number (at + 1) is }) bits) (clear_bits m traps None high within clear)
                ∙ ap (λ i. Does (Told.Read (cell_at t.base t.len i) (record { width = width (cell_at t.base t.len i); bits = if nat_lt i t.len then bits (cell_at t.base t.len i) else 0 })) (go_on width (entry number (at + 1) is) (put bits into (if nat_lt i t.len then bits (cell_at t.base t.len i) else 0)))) ep
                ∙ ap (λ d. Does (Told.Read c (record { width = width c; bits = if d then b else 0 })) (go_on width (entry number (at + 1) is) (put bits into (if d then b else 0)))) ei;
            busy = record {
              left = is;
              at = at + 1;
              traps = behind g traps;
              m = into + 1;
              walked = λ more. ap (walk width is0 own0) (append_assoc got (b ∷ []) more) ∙ walked (b ∷ more) ∙ site_on g t into b is more h;
              stands = s.1;
              clear = clear_behind width g traps own' (first_same width traps m own own' within (same_put lo m into b own o.0) ∙ clear);
              within = within_behind g (into + 1) traps (traps_more m (into + 1) traps (let l = o.0 in omega arith) within);
              ordered = o.4;
              calm = calm_of action is q;
              low = let l = o.0 in omega arith;
              high = let l = o.1 in omega arith;
              same = record { at = λ i l q. let le = o.0 in let p : own' i ≡ own i = grind (arith, nat_tests) in p ∙ same.at i l q };
              here = ap or_zero (entry_first width number is (at + 1) bits') ∙ ap number (next_same width top is (at + 1) (into + 1) own' bits' o.4 (put_alike into b));
            };
          }

      scan : (is : List Item) (at m : ℕ) (traps : List (Term × ℕ)) → IsCalm action is → Stands number code at (thing number place action nexts traps at is) → first (val width own) traps ≡ None → TrapsWithin m traps → Ordered lo top m is → temp ≤ m → m ≤ top → SameBelow lo temp own0 own → ((more : List ℕ) → walk width is0 own0 (got ++ more) ≡ walk width is own more) → Comes place action nexts is0 own0 got (number (next_at (val width own) at is)) own bits (walk width is own [])
      scan [] at m traps q s clear within o low high same walked =
          (ap (λ o. step width o bits) s.0 ∙ ap (λ o. unless width o (record { place = place; action = action; traps = traps; nexts = nexts }) bits) (clear_bits m traps None high within clear), refl)
      scan (Check g t f ∷ is) at m traps q s clear within o low high same walked = go (truth (val width own (guarded g t))) refl (λ e. scan is at m (traps ++ (guarded g t, f) ∷ []) (calm_of action is q) s (first_add width traps (guarded g t, f) own clear ∙ ap (λ b. if b then Some f else None) e) (traps_add m traps (guarded g t, f) within o.0) o.1 low high same (λ more. walked more ∙ ap (λ b. if b then Stops f else walk width is own more) e)) where
        go : (b : Bool) → truth (val width own (guarded g t)) ≡ b → (truth (val width own (guarded g t)) ≡ false → Comes place action nexts is0 own0 got (number (next_at (val width own) at is)) own bits (walk width is own [])) → Comes place action nexts is0 own0 got (number (next_at (val width own) at is)) own bits (if b then Stops f else walk width is own [])
        go true e ih = failing is at f (traps ++ (guarded g t, f) ∷ []) q s (clear_bits m (traps ++ (guarded g t, f) ∷ []) (Some f) high (traps_add m traps (guarded g t, f) within o.0) (first_add width traps (guarded g t, f) own clear ∙ ap (λ b. if b then Some f else None) e))
        go false e ih = ih e
      scan (Site g t into ∷ is) at m traps q s clear within o low high same walked = go (holds (val width own) g) refl (λ e. scan is (at + 1) (into + 1) (behind g traps) (calm_of action is q) s.1 (clear_behind width g traps own clear) (within_behind g (into + 1) traps (traps_more m (into + 1) traps (let l = o.0 in omega arith) within)) o.4 (let l = o.0 in omega arith) (let l = o.1 in omega arith) same (λ more. walked more ∙ site_off g t into is more e)) where
        go : (b : Bool) → holds (val width own) g ≡ b → (holds (val width own) g ≡ false → Comes place action nexts is0 own0 got (number (next_at (val width own) (at + 1) is)) own bits (walk width is own [])) → Comes place action nexts is0 own0 got (number (if b then at else next_at (val width own) (at + 1) is)) own bits (if b then Reads (cell_of (val width own) t) (width (cell_of (val width own) t)) (inside (val width own) t) else walk width is own [])
        go true h ih = there (inside (val width own) t) refl where
          there : (d : Bool) → inside (val width own) t ≡ d → Comes place action nexts is0 own0 got (number at) own bits (Reads (cell_of (val width own) t) (width (cell_of (val width own) t)) d)
          there true ei = reading g t into is at m traps q s clear within o low high same walked h ei
          there false ei = tt
        go false h ih = ih h

      pub comes : (p : ℕ) → Busy place action nexts is0 own0 got p own → Comes place action nexts is0 own0 got p own bits (walk width is0 own0 got)
      comes p b =
          let e : walk width is0 own0 got ≡ walk width b.left own [] = ap (walk width is0 own0) (sym (append-nil got)) ∙ b.walked [] in
          let c = scan b.left b.at b.m b.traps b.calm b.stands b.clear b.within b.ordered b.low b.high b.same b.walked in
          subst (Comes place action nexts is0 own0 got p own bits) (sym e) (subst (λ q. Comes place action nexts is0 own0 got q own bits (walk width b.left own [])) (sym b.here) c)

      pub busy_place : (p : ℕ) → Busy place action nexts is0 own0 got p own → place_at (code p) ≡ place
      busy_place p b = ap (λ q. place_at (code q)) b.here ∙ here_place b.left b.at b.traps b.stands

    -- the beginning of a thing
    pub begin_busy : (place : Place) (action : PlainAction) (nexts : Nexts) (is : List Item) (own : Bits) (at p : ℕ) → Stands number code at (thing number place action nexts [] at is) → Ordered lo top temp is → IsCalm action is → temp ≤ top → p ≡ number (next_at (val width own) at is) → Busy place action nexts is own [] p own
    begin_busy place action nexts is own at p s o calm le e =
        record {
          left = is;
          at = at;
          traps = [];
          m = temp;
          walked = λ more. refl;
          stands = s;
          clear = refl;
          within = tt;
          ordered = o;
          calm = calm;
          low = omega arith;
          high = le;
          same = record { at = λ i l q. refl };
          here = e;
        }
