-- What is made of exact formats is exact, and what exact reading says of whole texts.
use Rattle.std.proofs.Common.{◌≡◌, ℕ, zero, suc, ◌<◌, Bool, true, false, cond, ◌&&◌, ◌⊎◌, inl, inr, List, [], ◌∷◌, ◌++◌, length, length-append, Option, Some, None, refl, sym, ap, subst, ◌∙◌, append_assoc, arith}
use Rattle.std.proofs.lemmas.Bool.{and_parts, and_from}
use Rattle.std.proofs.lemmas.List.{append-nil}
use Rattle.format.specs.Format.{Answer, Got, Stuck, Format, and_then, nothing, got_one, read_one, one, pair, option_valid, option_spell, mapped, never, led, ended, counted, uncons, unnil, times, read_until, until, map_some, turn, ahead, map_got}
use Rattle.format.specs.Faults.{IsText, IsWhole, IsFront}
use Rattle.format.specs.Exact.{IsGot, IsStuck, Says, IsExact, HasSome, IsSpelling, IsRenaming, BeginsApart, Stops}
use Rattle.grammar.specs.FirstFault.{IsPrefix, IsFirstFault, IsCutOff}

-- ---- no token

pub nothing_exact : {T : Type 0} → IsExact (nothing {T = T})
nothing_exact = record { whole = λ x more v. refl; says = λ ts. record { valid = refl; parts = refl } }

pub nothing_some : {T : Type 0} → HasSome (nothing {T = T})
nothing_some = record { value = tt; valid = refl }

-- ---- one token

module _ {A T : Type 0} (valid : A → Bool) (token : A → T) (meaning : T → Option A) (s : IsSpelling valid token meaning) where
  one_says : (t : T) (ts : List T) (o : Option A) → meaning t ≡ o → Says (one valid token meaning) (t ∷ ts) (got_one o t ts)
  one_says t ts (Some x) e =
      let p = s.spells t x e in
      record { valid = p.0; parts = ap (λ (u : T). u ∷ ts) (sym p.1) }
  one_says t ts None e = record {
    before = [];
    parts = refl;
    fits = inl refl;
    no_more = λ u r q x more other v p.
        let same : t ≡ u = cc in
        let head : token x ≡ u = cc in
        let m : meaning (token x) ≡ Some x = s.means x v in
        cc;
  }

  one_reads : (ts : List T) → Says (one valid token meaning) ts (read_one meaning ts)
  one_reads [] = record { before = []; parts = refl; fits = inl refl; no_more = λ t r q. absurd cc }
  one_reads (t ∷ ts) = one_says t ts (meaning t) refl

  pub one_exact : IsExact (one valid token meaning)
  one_exact = record { whole = λ x more v. rw (s.means x v) refl; says = one_reads }

-- ---- one after another

module _ {A B T : Type 0} (F : Format A T) (G : A → Format B T) (f : IsExact F) (g : (x : A) → F.valid x ≡ true → IsExact (G x)) (some : (x : A) → F.valid x ≡ true → HasSome (G x)) where
  pair_no_more : (x : A) → F.valid x ≡ true → (before left : List T) → ((t : T) (r : List T) → left ≡ t ∷ r → (y : B) (more other : List T) → (G x).valid y ≡ true → (G x).spell y ++ more ≡ before ++ t ∷ other → ⊥) → (t : T) (r : List T) → left ≡ t ∷ r → (z : A × B) (more other : List T) → (F.valid z.0 && (G z.0).valid z.1) ≡ true → (F.spell z.0 ++ (G z.0).spell z.1) ++ more ≡ (F.spell x ++ before) ++ t ∷ other → ⊥
  pair_no_more x vx before left q t r e z more other v p =
      let vs = and_parts (F.valid z.0) ((G z.0).valid z.1) v in
      let same : F.spell z.0 ++ ((G z.0).spell z.1 ++ more) ≡ F.spell x ++ (before ++ t ∷ other) = sym (append_assoc (F.spell z.0) ((G z.0).spell z.1) more) ∙ p ∙ append_assoc (F.spell x) before (t ∷ other) in
      let e1 : F.read (F.spell z.0 ++ ((G z.0).spell z.1 ++ more)) ≡ Got z.0 ((G z.0).spell z.1 ++ more) = f.whole z.0 ((G z.0).spell z.1 ++ more) vs.0 in
      let e2 : F.read (F.spell x ++ (before ++ t ∷ other)) ≡ Got x (before ++ t ∷ other) = f.whole x (before ++ t ∷ other) vx in
      let at : z.0 ≡ x = cc in
      let rest : (G z.0).spell z.1 ++ more ≡ before ++ t ∷ other = cc in
      q t r e z.1 more other (subst (λ (w : A). (G w).valid z.1 ≡ true) at vs.1) (subst (λ (w : A). (G w).spell z.1 ++ more ≡ before ++ t ∷ other) at rest)

  pair_fits : (x : A) → F.valid x ≡ true → (before : List T) → (before ≡ []) ⊎ IsFront (G x) before → IsFront (pair F G) (F.spell x ++ before)
  pair_fits x vx before (inl e) =
      let y = some x vx in
      record { value = (x, y.value); more = (G x).spell y.value; valid = and_from (F.valid x) ((G x).valid y.value) vx y.valid; spelled = rw (e, append-nil) refl }
  pair_fits x vx before (inr b) = record {
    value = (x, b.value);
    more = b.more;
    valid = and_from (F.valid x) ((G x).valid b.value) vx b.valid;
    spelled = ap (λ (w : List T). F.spell x ++ w) b.spelled ∙ sym (append_assoc (F.spell x) before b.more);
  }

  second_says : (ts : List T) (x : A) (rest : List T) → IsGot F ts x rest → (a : Answer B T) → Says (G x) rest a → Says (pair F G) ts (and_then a (λ y more. Got (x, y) more))
  second_says ts x rest h (Got y more) q = record {
    valid = and_from (F.valid x) ((G x).valid y) h.valid q.valid;
    parts = h.parts ∙ ap (λ (w : List T). F.spell x ++ w) q.parts ∙ sym (append_assoc (F.spell x) ((G x).spell y) more);
  }
  second_says ts x rest h (Stuck left) q = record {
    before = F.spell x ++ q.before;
    parts = h.parts ∙ ap (λ (w : List T). F.spell x ++ w) q.parts ∙ sym (append_assoc (F.spell x) q.before left);
    fits = inr (pair_fits x h.valid q.before q.fits);
    no_more = pair_no_more x h.valid q.before left q.no_more;
  }

  first_fits : (before : List T) → (before ≡ []) ⊎ IsFront F before → (before ≡ []) ⊎ IsFront (pair F G) before
  first_fits before (inl e) = inl e
  first_fits before (inr b) =
      let y = some b.value b.valid in
      inr (record {
        value = (b.value, y.value);
        more = b.more ++ (G b.value).spell y.value;
        valid = and_from (F.valid b.value) ((G b.value).valid y.value) b.valid y.valid;
        spelled = ap (λ (w : List T). w ++ (G b.value).spell y.value) b.spelled ∙ append_assoc before b.more ((G b.value).spell y.value);
      })

  pair_says : (ts : List T) (a : Answer A T) → Says F ts a → Says (pair F G) ts (and_then a (λ x rest. and_then ((G x).read rest) (λ y more. Got (x, y) more)))
  pair_says ts (Got x rest) h = second_says ts x rest h ((G x).read rest) ((g x h.valid).says rest)
  pair_says ts (Stuck left) h = record {
    before = h.before;
    parts = h.parts;
    fits = first_fits h.before h.fits;
    no_more = λ t r e z more other v p.
        let vs = and_parts (F.valid z.0) ((G z.0).valid z.1) v in
        h.no_more t r e z.0 ((G z.0).spell z.1 ++ more) other vs.0 (sym (append_assoc (F.spell z.0) ((G z.0).spell z.1) more) ∙ p);
  }

  pub pair_exact : IsExact (pair F G)
  pair_exact = record {
    whole = λ z more v.
        let vs = and_parts (F.valid z.0) ((G z.0).valid z.1) v in
        rw (append_assoc (F.spell z.0) ((G z.0).spell z.1) more, f.whole z.0 ((G z.0).spell z.1 ++ more) vs.0, (g z.0 vs.0).whole z.1 more vs.1) refl;
    says = λ ts. pair_says ts (F.read ts) (f.says ts);
  }

pub pair_some : {A B T : Type 0} (F : Format A T) (G : A → Format B T) → ((x : A) → F.valid x ≡ true → HasSome (G x)) → HasSome F → HasSome (pair F G)
pair_some F G some s =
    let y = some s.value s.valid in
    record { value = (s.value, y.value); valid = and_from (F.valid s.value) ((G s.value).valid y.value) s.valid y.valid }

-- ---- other values for the same texts

module _ {A B T : Type 0} (to : A → B) (from : B → Option A) (F : Format A T) (r : IsRenaming F.valid to from) (f : IsExact F) where
  mapped_front : (before : List T) → (before ≡ []) ⊎ IsFront F before → (before ≡ []) ⊎ IsFront (mapped to from F) before
  mapped_front before (inl e) = inl e
  mapped_front before (inr b) = inr (record { value = to b.value; more = b.more; valid = rw (r.back b.value b.valid) b.valid; spelled = rw (r.back b.value b.valid) b.spelled })

  mapped_no_more : (before left : List T) → ((t : T) (r : List T) → left ≡ t ∷ r → (x : A) (more other : List T) → F.valid x ≡ true → F.spell x ++ more ≡ before ++ t ∷ other → ⊥) → (t : T) (r : List T) → left ≡ t ∷ r → (o : Option A) (more other : List T) → option_valid F.valid o ≡ true → option_spell F.spell o ++ more ≡ before ++ t ∷ other → ⊥
  mapped_no_more before left q t r e (Some x) more other v p = q t r e x more other v p
  mapped_no_more before left q t r e None more other v p = cc

  mapped_says : (ts : List T) (a : Answer A T) → Says F ts a → Says (mapped to from F) ts (and_then a (λ x rest. Got (to x) rest))
  mapped_says ts (Got x rest) h = record { valid = rw (r.back x h.valid) h.valid; parts = rw (r.back x h.valid) h.parts }
  mapped_says ts (Stuck left) h = record {
    before = h.before;
    parts = h.parts;
    fits = mapped_front h.before h.fits;
    no_more = λ t u e y more other v p. mapped_no_more h.before left h.no_more t u e (from y) more other v p;
  }

  mapped_whole : (y : B) (more : List T) (o : Option A) → from y ≡ o → option_valid F.valid o ≡ true → and_then (F.read (option_spell F.spell o ++ more)) (λ x rest. Got (to x) rest) ≡ Got y more
  mapped_whole y more (Some x) e v = rw (f.whole x more v, r.forth y x e) refl
  mapped_whole y more None e v = absurd cc

  pub mapped_exact : IsExact (mapped to from F)
  mapped_exact = record {
    whole = λ y more v. mapped_whole y more (from y) refl v;
    says = λ ts. mapped_says ts (F.read ts) (f.says ts);
  }

pub mapped_some : {A B T : Type 0} (to : A → B) (from : B → Option A) (F : Format A T) → IsRenaming F.valid to from → HasSome F → HasSome (mapped to from F)
mapped_some to from F r s = record { value = to s.value; valid = rw (r.back s.value s.valid) s.valid }

-- ---- a part without a value

led_renaming : {A : Type 0} (valid : Unit {0} × A → Bool) → IsRenaming {A = Unit {0} × A} valid (λ p. p.1) (λ x. Some (tt, x))
led_renaming {A} valid = record { back = λ x v. refl; forth = forth }
  where
    forth : (y : A) (x : Unit {0} × A) → Some (tt, y) ≡ Some x → x.1 ≡ y
    forth y x e = let p : (tt, y) ≡ x = cc in ap (λ (q : Unit {0} × A). q.1) (sym p)

ended_renaming : {A : Type 0} (valid : A × Unit {0} → Bool) → IsRenaming {A = A × Unit {0}} valid (λ p. p.0) (λ x. Some (x, tt))
ended_renaming {A} valid = record { back = λ x v. refl; forth = forth }
  where
    forth : (y : A) (x : A × Unit {0}) → Some (y, tt) ≡ Some x → x.0 ≡ y
    forth y x e = let p : (y, tt) ≡ x = cc in ap (λ (q : A × Unit {0}). q.0) (sym p)

module _ {A T : Type 0} (U : Format (Unit {0}) T) (F : Format A T) (u : IsExact U) (f : IsExact F) (some : HasSome F) where
  pub led_exact : IsExact (led U F)
  led_exact = mapped_exact _ _ (pair U (λ _. F)) (led_renaming _) (pair_exact U (λ _. F) u (λ _ _. f) (λ _ _. some))

pub led_some : {A T : Type 0} (U : Format (Unit {0}) T) (F : Format A T) → HasSome U → HasSome F → HasSome (led U F)
led_some U F u f = record { value = f.value; valid = and_from (U.valid tt) (F.valid f.value) u.valid f.valid }

module _ {A T : Type 0} (F : Format A T) (U : Format (Unit {0}) T) (f : IsExact F) (u : IsExact U) (some : HasSome U) where
  pub ended_exact : IsExact (ended F U)
  ended_exact = mapped_exact _ _ (pair F (λ _. U)) (ended_renaming _) (pair_exact F (λ _. U) f (λ _ _. u) (λ _ _. some))

pub ended_some : {A T : Type 0} (F : Format A T) (U : Format (Unit {0}) T) → HasSome F → HasSome U → HasSome (ended F U)
ended_some F U f u = record { value = f.value; valid = and_from (F.valid f.value) (U.valid tt) f.valid u.valid }

-- ---- no text at all

pub never_exact : {A T : Type 0} → IsExact (never {A = A} {T = T})
never_exact = record {
  whole = λ x more v. absurd cc;
  says = λ ts. record { before = []; parts = refl; fits = inl refl; no_more = λ t r e x more other v p. cc };
}

-- ---- so many

pub uncons_renaming : {A : Type 0} (valid : A × List A → Bool) → IsRenaming {A = A × List A} valid (λ p. p.0 ∷ p.1) uncons
uncons_renaming {A} valid = record { back = λ x v. refl; forth = forth }
  where
    forth : (y : List A) (x : A × List A) → uncons y ≡ Some x → x.0 ∷ x.1 ≡ y
    forth [] x e = absurd cc
    forth (z ∷ zs) x e = let p : (z, zs) ≡ x = cc in ap {B = List A} (λ (q : A × List A). q.0 ∷ q.1) (sym p)

pub unnil_renaming : {A : Type 0} (valid : Unit {0} → Bool) → IsRenaming {B = List A} valid (λ _. []) unnil
unnil_renaming {A} valid = record { back = λ x v. refl; forth = forth }
  where
    forth : (y : List A) (x : Unit {0}) → unnil y ≡ Some x → [] ≡ y
    forth [] x e = refl
    forth (z ∷ zs) x e = absurd cc

module _ {A T : Type 0} (item : ℕ → Format A T) (exact : (i : ℕ) → IsExact (item i)) (some : (i : ℕ) → HasSome (item i)) where
  pub times_some : (i n : ℕ) → HasSome (times item i n)
  times_some i zero = mapped_some _ _ nothing (unnil_renaming _) nothing_some
  times_some i (suc n) =
      let more = times_some (suc i) n in
      mapped_some _ _ (pair (item i) (λ _. times item (suc i) n)) (uncons_renaming _) (pair_some (item i) (λ _. times item (suc i) n) (λ _ _. more) (some i))

  pub times_exact : (i n : ℕ) → IsExact (times item i n)
  times_exact i zero = mapped_exact _ _ nothing (unnil_renaming _) nothing_exact
  times_exact i (suc n) =
      let more = times_exact (suc i) n in
      mapped_exact _ _ (pair (item i) (λ _. times item (suc i) n)) (uncons_renaming _) (pair_exact (item i) (λ _. times item (suc i) n) (exact i) (λ _ _. more) (λ _ _. times_some (suc i) n))

-- the list has so many
pub times_length : {A T : Type 0} (item : ℕ → Format A T) (i n : ℕ) (xs : List A) → (times item i n).valid xs ≡ true → length xs ≡ n
times_length item i zero [] v = refl
times_length item i zero (x ∷ xs) v = absurd cc
times_length item i (suc n) [] v = absurd cc
times_length item i (suc n) (x ∷ xs) v = let p = and_parts ((item i).valid x) ((times item (suc i) n).valid xs) v in ap suc (times_length item (suc i) n xs p.1)

module _ {A T : Type 0} (number : Format ℕ T) (item : ℕ → Format A T) (count : IsExact number) (exact : (i : ℕ) → IsExact (item i)) (some : (i : ℕ) → HasSome (item i)) where
  pub counted_renaming : IsRenaming (pair number (λ n. times item 0 n)).valid (λ p. p.1) (λ xs. Some (length xs, xs))
  counted_renaming = record {
    back = λ x v. let p = and_parts (number.valid x.0) ((times item 0 x.0).valid x.1) v in ap (λ (n : ℕ). Some (n, x.1)) (times_length item 0 x.0 x.1 p.1);
    forth = λ y x e. let p : (length y, y) ≡ x = cc in ap (λ (q : ℕ × List A). q.1) (sym p);
  }

  pub counted_exact : IsExact (counted number item)
  counted_exact = mapped_exact _ _ (pair number (λ n. times item 0 n)) counted_renaming (pair_exact number (λ n. times item 0 n) count (λ n _. times_exact item exact some 0 n) (λ n _. times_some item exact some 0 n))

  pub counted_some : HasSome number → HasSome (counted number item)
  counted_some s = mapped_some _ _ (pair number (λ n. times item 0 n)) counted_renaming (pair_some number (λ n. times item 0 n) (λ n _. times_some item exact some 0 n) s)

-- ---- until a token

pub apart_append : {T : Type 0} (is_stop : T → Bool) (w more : List T) → BeginsApart is_stop w → BeginsApart is_stop (w ++ more)
apart_append is_stop [] more a = absurd a
apart_append is_stop (t ∷ ts) more a = a

module _ {S A T : Type 0} (stop : T) (is_stop : T → Bool) (item : S → Format A T) (next : S → A → S) (stops : Stops stop is_stop) (exact : (s : S) → IsExact (item s)) (apart : (s : S) (x : A) → (item s).valid x ≡ true → BeginsApart is_stop ((item s).spell x)) where
  abbrev U : S → Format (List A) T
  U s = until stop is_stop item next s

  not_stop : (w : List T) → BeginsApart is_stop w → (before other more : List T) → stop ∷ more ≡ (w ++ before) ++ other → ⊥
  not_stop [] a before other more p = a
  not_stop (t ∷ ts) a before other more p =
      let e : stop ≡ t = cc in
      let y : is_stop t ≡ true = subst (λ (u : T). is_stop u ≡ true) e stops.yes in
      cc

  longer : (w rest : List T) → BeginsApart is_stop w → length rest < length (w ++ rest)
  longer [] rest a = absurd a
  longer (t ∷ ts) rest a = omega (arith, length-append ts rest)

  first_apart : (t : T) (ts before left : List T) (u : T) (r more other : List T) → is_stop t ≡ false → t ∷ ts ≡ before ++ left → left ≡ u ∷ r → stop ∷ more ≡ before ++ u ∷ other → ⊥
  first_apart t ts [] left u r more other a p e q =
      let same : t ≡ stop = cc in
      let y : is_stop t ≡ true = subst (λ (u : T). is_stop u ≡ true) (sym same) stops.yes in
      cc
  first_apart t ts (b ∷ bs) left u r more other a p e q =
      let same : t ≡ stop = cc in
      let y : is_stop t ≡ true = subst (λ (u : T). is_stop u ≡ true) (sym same) stops.yes in
      cc

  tail_no_more : (s : S) (x : A) → (item s).valid x ≡ true → (before left : List T) → ((t : T) (r : List T) → left ≡ t ∷ r → (ys : List A) (more other : List T) → (U (next s x)).valid ys ≡ true → (U (next s x)).spell ys ++ more ≡ before ++ t ∷ other → ⊥) → (t : T) (r : List T) → left ≡ t ∷ r → (zs : List A) (more other : List T) → (U s).valid zs ≡ true → (U s).spell zs ++ more ≡ ((item s).spell x ++ before) ++ t ∷ other → ⊥
  tail_no_more s x vx before left q t r e [] more other v p = not_stop ((item s).spell x) (apart s x vx) before (t ∷ other) more p
  tail_no_more s x vx before left q t r e (z ∷ zs) more other v p =
      let vs = and_parts ((item s).valid z) ((U (next s z)).valid zs) v in
      let same : (item s).spell z ++ ((U (next s z)).spell zs ++ more) ≡ (item s).spell x ++ (before ++ t ∷ other) = sym (append_assoc ((item s).spell z) ((U (next s z)).spell zs) more) ∙ p ∙ append_assoc ((item s).spell x) before (t ∷ other) in
      let e1 : (item s).read ((item s).spell z ++ ((U (next s z)).spell zs ++ more)) ≡ Got z ((U (next s z)).spell zs ++ more) = (exact s).whole z ((U (next s z)).spell zs ++ more) vs.0 in
      let e2 : (item s).read ((item s).spell x ++ (before ++ t ∷ other)) ≡ Got x (before ++ t ∷ other) = (exact s).whole x (before ++ t ∷ other) vx in
      let at : z ≡ x = cc in
      let rest : (U (next s z)).spell zs ++ more ≡ before ++ t ∷ other = cc in
      q t r e zs more other (subst (λ (w : A). (U (next s w)).valid zs ≡ true) at vs.1) (subst (λ (w : A). (U (next s w)).spell zs ++ more ≡ before ++ t ∷ other) at rest)

  tail_fits : (s : S) (x : A) → (item s).valid x ≡ true → (before : List T) → (before ≡ []) ⊎ IsFront (U (next s x)) before → IsFront (U s) ((item s).spell x ++ before)
  tail_fits s x vx before (inl e) = record { value = x ∷ []; more = stop ∷ []; valid = and_from ((item s).valid x) true vx refl; spelled = rw (e, append-nil) refl }
  tail_fits s x vx before (inr b) = record {
    value = x ∷ b.value;
    more = b.more;
    valid = and_from ((item s).valid x) ((U (next s x)).valid b.value) vx b.valid;
    spelled = ap (λ (w : List T). (item s).spell x ++ w) b.spelled ∙ sym (append_assoc ((item s).spell x) before b.more);
  }

  tail_says : (s : S) (ts : List T) (x : A) (rest : List T) → IsGot (item s) ts x rest → (a : Answer (List A) T) → Says (U (next s x)) rest a → Says (U s) ts (and_then a (λ xs more. Got (x ∷ xs) more))
  tail_says s ts x rest h (Got xs more) q = record {
    valid = and_from ((item s).valid x) ((U (next s x)).valid xs) h.valid q.valid;
    parts = h.parts ∙ ap (λ (w : List T). (item s).spell x ++ w) q.parts ∙ sym (append_assoc ((item s).spell x) ((U (next s x)).spell xs) more);
  }
  tail_says s ts x rest h (Stuck left) q = record {
    before = (item s).spell x ++ q.before;
    parts = h.parts ∙ ap (λ (w : List T). (item s).spell x ++ w) q.parts ∙ sym (append_assoc ((item s).spell x) q.before left);
    fits = inr (tail_fits s x h.valid q.before q.fits);
    no_more = tail_no_more s x h.valid q.before left q.no_more;
  }

  head_no_more : (s : S) (t : T) (ts : List T) → is_stop t ≡ false → (left : List T) → (h : IsStuck (item s) (t ∷ ts) left) → (u : T) (r : List T) → left ≡ u ∷ r → (xs : List A) (more other : List T) → (U s).valid xs ≡ true → (U s).spell xs ++ more ≡ h.before ++ u ∷ other → ⊥
  head_no_more s t ts a left h u r e [] more other v p = first_apart t ts h.before left u r more other a h.parts e p
  head_no_more s t ts a left h u r e (x ∷ xs) more other v p =
      let vs = and_parts ((item s).valid x) ((U (next s x)).valid xs) v in
      h.no_more u r e x ((U (next s x)).spell xs ++ more) other vs.0 (sym (append_assoc ((item s).spell x) ((U (next s x)).spell xs) more) ∙ p)

  head_fits : (s : S) (before : List T) → (before ≡ []) ⊎ IsFront (item s) before → (before ≡ []) ⊎ IsFront (U s) before
  head_fits s before (inl e) = inl e
  head_fits s before (inr b) = inr (record {
    value = b.value ∷ [];
    more = b.more ++ stop ∷ [];
    valid = and_from ((item s).valid b.value) true b.valid refl;
    spelled = ap (λ (w : List T). w ++ stop ∷ []) b.spelled ∙ append_assoc before b.more (stop ∷ []);
  })

  item_says : (n : ℕ) (s : S) (t : T) (ts : List T) → is_stop t ≡ false → length (t ∷ ts) < suc n → ((x : A) (rest : List T) → length rest < n → Says (U (next s x)) rest (read_until is_stop item next n (next s x) rest)) → (a : Answer A T) → Says (item s) (t ∷ ts) a → Says (U s) (t ∷ ts) (and_then a (λ x rest. and_then (read_until is_stop item next n (next s x) rest) (λ xs more. Got (x ∷ xs) more)))
  item_says n s t ts e lt ih (Got x rest) h =
      let l : length rest < length ((item s).spell x ++ rest) = longer ((item s).spell x) rest (apart s x h.valid) in
      let q : length (t ∷ ts) ≡ length ((item s).spell x ++ rest) = ap length h.parts in
      tail_says s (t ∷ ts) x rest h (read_until is_stop item next n (next s x) rest) (ih x rest (omega arith))
  item_says n s t ts e lt ih (Stuck left) h = record {
    before = h.before;
    parts = h.parts;
    fits = head_fits s h.before h.fits;
    no_more = head_no_more s t ts e left h;
  }

  test_says : (n : ℕ) (s : S) (t : T) (ts : List T) (b : Bool) → is_stop t ≡ b → length (t ∷ ts) < suc n → ((x : A) (rest : List T) → length rest < n → Says (U (next s x)) rest (read_until is_stop item next n (next s x) rest)) → Says (U s) (t ∷ ts) (cond b (Got [] ts) (and_then ((item s).read (t ∷ ts)) (λ x rest. and_then (read_until is_stop item next n (next s x) rest) (λ xs more. Got (x ∷ xs) more))))
  test_says n s t ts true e lt ih = record { valid = refl; parts = ap (λ (u : T). u ∷ ts) (stops.only t e) }
  test_says n s t ts false e lt ih = item_says n s t ts e lt ih ((item s).read (t ∷ ts)) ((exact s).says (t ∷ ts))

  until_says : (n : ℕ) (s : S) (ts : List T) → length ts < n → Says (U s) ts (read_until is_stop item next n s ts)
  until_says zero s ts lt = absurd (omega arith)
  until_says (suc n) s [] lt = record { before = []; parts = refl; fits = inl refl; no_more = λ t r q. absurd cc }
  until_says (suc n) s (t ∷ ts) lt = test_says n s t ts (is_stop t) refl lt (λ x rest l. until_says n (next s x) rest l)

  turn_item : (n : ℕ) (s : S) (x : A) (w rest : List T) → BeginsApart is_stop w → (item s).read (w ++ rest) ≡ Got x rest → read_until is_stop item next (suc n) s (w ++ rest) ≡ and_then (read_until is_stop item next n (next s x) rest) (λ xs more. Got (x ∷ xs) more)
  turn_item n s x [] rest a e = absurd a
  turn_item n s x (t ∷ ts) rest a e = rw (a, e) refl

  until_whole : (n : ℕ) (s : S) (xs : List A) (more : List T) → (U s).valid xs ≡ true → length ((U s).spell xs ++ more) < n → read_until is_stop item next n s ((U s).spell xs ++ more) ≡ Got xs more
  until_whole zero s xs more v lt = absurd (omega arith)
  until_whole (suc n) s [] more v lt = rw stops.yes refl
  until_whole (suc n) s (x ∷ xs) more v lt =
      let vs = and_parts ((item s).valid x) ((U (next s x)).valid xs) v in
      let assoc : ((item s).spell x ++ (U (next s x)).spell xs) ++ more ≡ (item s).spell x ++ ((U (next s x)).spell xs ++ more) = append_assoc ((item s).spell x) ((U (next s x)).spell xs) more in
      let l : length ((U (next s x)).spell xs ++ more) < length ((item s).spell x ++ ((U (next s x)).spell xs ++ more)) = longer ((item s).spell x) ((U (next s x)).spell xs ++ more) (apart s x vs.0) in
      let q : length (((item s).spell x ++ (U (next s x)).spell xs) ++ more) ≡ length ((item s).spell x ++ ((U (next s x)).spell xs ++ more)) = ap length assoc in
      rw assoc (turn_item n s x ((item s).spell x) ((U (next s x)).spell xs ++ more) (apart s x vs.0) ((exact s).whole x ((U (next s x)).spell xs ++ more) vs.0) ∙ rw (until_whole n (next s x) xs more vs.1 (omega arith)) refl)

  pub until_exact : (s : S) → IsExact (U s)
  until_exact s = record {
    whole = λ xs more v. until_whole (suc (length ((U s).spell xs ++ more))) s xs more v (omega arith);
    says = λ ts. until_says (suc (length ts)) s ts (omega arith);
  }

  -- turns enough are as good as more
  same_turns : (n m : ℕ) (s : S) (ts : List T) → length ts < n → length ts < m → read_until is_stop item next n s ts ≡ read_until is_stop item next m s ts
  same_turns zero m s ts a b = absurd (omega arith)
  same_turns (suc n) zero s ts a b = absurd (omega arith)
  same_turns (suc n) (suc m) s [] a b = refl
  same_turns (suc n) (suc m) s (t ∷ ts) a b = at_item ((item s).read (t ∷ ts)) ((exact s).says (t ∷ ts)) (λ x rest p q. same_turns n m (next s x) rest p q)
    where
      at_item : (o : Answer A T) → Says (item s) (t ∷ ts) o → ((x : A) (rest : List T) → length rest < n → length rest < m → read_until is_stop item next n (next s x) rest ≡ read_until is_stop item next m (next s x) rest) → cond (is_stop t) (Got [] ts) (and_then o (λ x rest. and_then (read_until is_stop item next n (next s x) rest) (λ xs more. Got (x ∷ xs) more))) ≡ cond (is_stop t) (Got [] ts) (and_then o (λ x rest. and_then (read_until is_stop item next m (next s x) rest) (λ xs more. Got (x ∷ xs) more)))
      at_item (Got x rest) h ih =
          let l : length rest < length ((item s).spell x ++ rest) = longer ((item s).spell x) rest (apart s x h.valid) in
          let q : length (t ∷ ts) ≡ length ((item s).spell x ++ rest) = ap length h.parts in
          rw (ih x rest (omega arith) (omega arith)) refl
      at_item (Stuck left) h ih = refl

  -- one turn, for the code
  pub until_turn : (s : S) (t : T) (ts : List T) → (U s).read (t ∷ ts) ≡ cond (is_stop t) (Got [] ts) (and_then ((item s).read (t ∷ ts)) (λ x rest. and_then ((U (next s x)).read rest) (λ xs more. Got (x ∷ xs) more)))
  until_turn s t ts = at_item ((item s).read (t ∷ ts)) ((exact s).says (t ∷ ts))
    where
      at_item : (o : Answer A T) → Says (item s) (t ∷ ts) o → cond (is_stop t) (Got [] ts) (and_then o (λ x rest. and_then (read_until is_stop item next (suc (length ts)) (next s x) rest) (λ xs more. Got (x ∷ xs) more))) ≡ cond (is_stop t) (Got [] ts) (and_then o (λ x rest. and_then (read_until is_stop item next (suc (length rest)) (next s x) rest) (λ xs more. Got (x ∷ xs) more)))
      at_item (Got x rest) h =
          let l : length rest < length ((item s).spell x ++ rest) = longer ((item s).spell x) rest (apart s x h.valid) in
          let q : length (t ∷ ts) ≡ length ((item s).spell x ++ rest) = ap length h.parts in
          rw (same_turns (suc (length ts)) (suc (length rest)) (next s x) rest (omega arith) (omega arith)) refl
      at_item (Stuck left) h = refl

-- ---- loops, for the code

pub ahead_none : {A T : Type 0} (a : Answer (List A) T) → a ≡ ahead [] a
ahead_none (Got ys rest) = refl
ahead_none (Stuck left) = refl

pub ahead_more : {A T : Type 0} (xs : List A) (x : A) (a : Answer (List A) T) → ahead xs (and_then a (λ ys more. Got (x ∷ ys) more)) ≡ ahead (xs ++ x ∷ []) a
ahead_more xs x (Got ys rest) = ap (λ w. Got w rest) (sym (append_assoc xs (x ∷ []) ys))
ahead_more xs x (Stuck left) = refl

module _ {S A T : Type 0} (stop : T) (is_stop : T → Bool) (item : S → Format A T) (next : S → A → S) (stops : Stops stop is_stop) (exact : (s : S) → IsExact (item s)) (apart : (s : S) (x : A) → (item s).valid x ≡ true → BeginsApart is_stop ((item s).spell x)) where
  abbrev V : S → List T → Answer (List A) T
  V s ts = (until stop is_stop item next s).read ts

  unrolled : (s : S) (t : T) (ts : List T) → V s (t ∷ ts) ≡ cond (is_stop t) (Got [] ts) (and_then ((item s).read (t ∷ ts)) (λ x rest. and_then (V (next s x) rest) (λ xs more. Got (x ∷ xs) more)))
  unrolled s t ts = until_turn stop is_stop item next stops exact apart s t ts

  pub loop_stop : (s : S) (ts rest : List T) → turn is_stop (item s) ts ≡ Got None rest → V s ts ≡ Got [] rest
  loop_stop s [] rest e = absurd cc
  loop_stop s (t ∷ ts) rest e = unrolled s t ts ∙ go (is_stop t) ((item s).read (t ∷ ts)) e
    where
      go : (b : Bool) (a : Answer A T) → cond b (Got None ts) (map_some a) ≡ Got None rest → cond b (Got [] ts) (and_then a (λ x rest. and_then (V (next s x) rest) (λ xs more. Got (x ∷ xs) more))) ≡ Got [] rest
      go true a e = let p : ts ≡ rest = cc in ap (λ (w : List T). Got [] w) p
      go false (Got x r) e = absurd cc
      go false (Stuck l) e = absurd cc

  pub loop_more : (s : S) (ts rest : List T) (x : A) → turn is_stop (item s) ts ≡ Got (Some x) rest → V s ts ≡ and_then (V (next s x) rest) (λ xs more. Got (x ∷ xs) more)
  loop_more s [] rest x e = absurd cc
  loop_more s (t ∷ ts) rest x e = unrolled s t ts ∙ go (is_stop t) ((item s).read (t ∷ ts)) e
    where
      go : (b : Bool) (a : Answer A T) → cond b (Got None ts) (map_some a) ≡ Got (Some x) rest → cond b (Got [] ts) (and_then a (λ x rest. and_then (V (next s x) rest) (λ xs more. Got (x ∷ xs) more))) ≡ and_then (V (next s x) rest) (λ xs more. Got (x ∷ xs) more)
      go true a e = absurd cc
      go false (Got y r) e = let p : y ≡ x = cc in let q : r ≡ rest = cc in rw (p, q) refl
      go false (Stuck l) e = absurd cc

  pub loop_stuck : (s : S) (ts left : List T) → turn is_stop (item s) ts ≡ Stuck left → V s ts ≡ Stuck left
  loop_stuck s [] left e = let p : [] ≡ left = cc in ap (λ (w : List T). Stuck w) p
  loop_stuck s (t ∷ ts) left e = unrolled s t ts ∙ go (is_stop t) ((item s).read (t ∷ ts)) e
    where
      go : (b : Bool) (a : Answer A T) → cond b (Got None ts) (map_some a) ≡ Stuck left → cond b (Got [] ts) (and_then a (λ x rest. and_then (V (next s x) rest) (λ xs more. Got (x ∷ xs) more))) ≡ Stuck left
      go true a e = absurd cc
      go false (Got y r) e = absurd cc
      go false (Stuck l) e = let p : l ≡ left = cc in ap (λ (w : List T). Stuck w) p

  -- with the values read so far
  pub so_far_stop : (whole : Answer (List A) T) (xs : List A) (s : S) (ts rest : List T) → turn is_stop (item s) ts ≡ Got None rest → whole ≡ ahead xs (V s ts) → whole ≡ Got xs rest
  so_far_stop whole xs s ts rest e h = h ∙ ap (ahead xs) (loop_stop s ts rest e) ∙ ap (λ (w : List A). Got w rest) (append-nil xs)

  pub so_far_more : (whole : Answer (List A) T) (xs : List A) (s : S) (ts rest : List T) (x : A) → turn is_stop (item s) ts ≡ Got (Some x) rest → whole ≡ ahead xs (V s ts) → whole ≡ ahead (xs ++ x ∷ []) (V (next s x) rest)
  so_far_more whole xs s ts rest x e h = h ∙ ap (ahead xs) (loop_more s ts rest x e) ∙ ahead_more xs x (V (next s x) rest)

  pub so_far_stuck : (whole : Answer (List A) T) (xs : List A) (s : S) (ts left : List T) → turn is_stop (item s) ts ≡ Stuck left → whole ≡ ahead xs (V s ts) → whole ≡ Stuck left
  so_far_stuck whole xs s ts left e h = h ∙ ap (ahead xs) (loop_stuck s ts left e)

pub until_some : {S A T : Type 0} (stop : T) (is_stop : T → Bool) (item : S → Format A T) (next : S → A → S) (s : S) → HasSome (until stop is_stop item next s)
until_some stop is_stop item next s = record { value = []; valid = refl }

-- ---- a whole text

module _ {A T : Type 0} (F : Format A T) (f : IsExact F) where
  pub got_of : (ts : List T) (x : A) (rest : List T) → F.read ts ≡ Got x rest → IsGot F ts x rest
  got_of ts x rest e = let P : Answer A T → Type 0 = Says F ts in subst P e (f.says ts)

  pub stuck_of : (ts left : List T) → F.read ts ≡ Stuck left → IsStuck F ts left
  stuck_of ts left e = let P : Answer A T → Type 0 = Says F ts in subst P e (f.says ts)

  pub accepted : (text : List T) (x : A) → F.read text ≡ Got x [] → IsText F text x
  accepted text x e = let g = got_of text x [] e in record { valid = g.valid; spelled = g.parts ∙ append-nil (F.spell x) }

  pub is_read : (text : List T) (x : A) → IsText F text x → F.read text ≡ Got x []
  is_read text x t = rw (t.spelled, sym (append-nil (F.spell x))) (f.whole x [] t.valid)

  -- a text has one value
  pub only : (text : List T) (x y : A) → IsText F text x → IsText F text y → x ≡ y
  only text x y p q = let a : F.read text ≡ Got x [] = is_read text x p in let b : F.read text ≡ Got y [] = is_read text y q in cc

  front_of : HasSome F → (before : List T) → (before ≡ []) ⊎ IsFront F before → IsFront F before
  front_of s before (inl e) = record { value = s.value; more = F.spell s.value; valid = s.valid; spelled = rw e refl }
  front_of s before (inr b) = b

  -- a front of a spelling is one of a whole text, and the other way round
  pub prefix_of : (front : List T) → IsFront F front → IsPrefix (IsWhole F) front
  prefix_of front b = record { more = b.more; whole = (b.value, record { valid = b.valid; spelled = sym b.spelled }) }

  pub of_prefix : (front : List T) → IsPrefix (IsWhole F) front → IsFront F front
  of_prefix front p = record { value = p.whole.0; more = p.more; valid = p.whole.1.valid; spelled = sym p.whole.1.spelled }

  pub fault : HasSome F → (text : List T) (bad : T) (rest : List T) → F.read text ≡ Stuck (bad ∷ rest) → IsFirstFault (IsWhole F) text bad rest
  fault s text bad rest e =
      let h = stuck_of text (bad ∷ rest) e in
      record {
        before = h.before;
        parts = h.parts;
        goes_on = prefix_of h.before (front_of s h.before h.fits);
        no_more = λ p. let b = of_prefix (h.before ++ bad ∷ []) p in h.no_more bad rest refl b.value [] b.more b.valid (append-nil (F.spell b.value) ∙ b.spelled ∙ append_assoc h.before (bad ∷ []) b.more);
      }

  pub trailing : (text : List T) (x : A) (bad : T) (rest : List T) → F.read text ≡ Got x (bad ∷ rest) → IsFirstFault (IsWhole F) text bad rest
  trailing text x bad rest e =
      let g = got_of text x (bad ∷ rest) e in
      record {
        before = F.spell x;
        parts = g.parts;
        goes_on = prefix_of (F.spell x) (record { value = x; more = []; valid = g.valid; spelled = sym (append-nil (F.spell x)) });
        no_more = λ p.
            let b = of_prefix (F.spell x ++ bad ∷ []) p in
            let e1 : F.read (F.spell x ++ ((bad ∷ []) ++ b.more)) ≡ Got x ((bad ∷ []) ++ b.more) = f.whole x ((bad ∷ []) ++ b.more) g.valid in
            let e2 : F.read (F.spell b.value ++ []) ≡ Got b.value [] = f.whole b.value [] b.valid in
            let same : F.spell b.value ++ [] ≡ F.spell x ++ ((bad ∷ []) ++ b.more) = append-nil (F.spell b.value) ∙ b.spelled ∙ append_assoc (F.spell x) (bad ∷ []) b.more in
            cc;
      }

  pub cut_off : HasSome F → (text : List T) → F.read text ≡ Stuck [] → IsCutOff (IsWhole F) text
  cut_off s text e =
      let h = stuck_of text [] e in
      record {
        goes_on = let b = front_of s h.before h.fits in prefix_of text (record { value = b.value; more = b.more; valid = b.valid; spelled = b.spelled ∙ ap (λ (w : List T). w ++ b.more) (sym (append-nil h.before) ∙ sym h.parts) });
        not_whole = λ w. let r : F.read text ≡ Got w.0 [] = is_read text w.0 w.1 in cc;
      }

-- ---- what is kept of a value

pub map_got_of : {A B T : Type 0} (f : A → B) (a : Answer A T) (y : B) (rest : List T) → map_got f a ≡ Got y rest → (x : A) × (a ≡ Got x rest) × (f x ≡ y)
map_got_of f (Got x r) y rest e =
    let p : f x ≡ y = cc in
    let q : r ≡ rest = cc in
    (x, ap (λ w. Got x w) q, p)
map_got_of f (Stuck l) y rest e = absurd cc

pub map_got_stuck : {A B T : Type 0} (f : A → B) (a : Answer A T) (left : List T) → map_got f a ≡ Stuck left → a ≡ Stuck left
map_got_stuck f (Got x r) left e = absurd cc
map_got_stuck f (Stuck l) left e = let p : l ≡ left = cc in ap (λ w. Stuck w) p
