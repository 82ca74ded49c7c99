-- The loops that put the parts of a list.
use Rattle.std.proofs.Common.{◌≡◌, ℕ, zero, suc, ◌+◌, List, [], ◌∷◌, ◌++◌, drop, get_or, length, ◌≤◌, refl, sym, subst, ◌∙◌, ap, append_assoc, arith}
use Rattle.std.specs.Prelude.{Some, None, Ok, Err}
use Rattle.std.specs.List.{slice_get}
use Rattle.std.proofs.lemmas.List.{append-nil, drop_more}
use Rattle.std.proofs.lemmas.Option.{slice_get_within, slice_get-get_or}
use Rattle.chk_base.specs.declared.desk.PutFault.{PutFault}
use Rattle.chk_base.specs.declared.desk.PutFault.TheVariants as put
use Rattle.chk_base.specs.Desk.{DeskState}
use Rattle.cert_text.specs.Parts.{parts_from}
use Rattle.cert_text.specs.Spills.{Spills}
use Rattle.cert_text.proofs.Spilling.{held_more, none, followed, stopped, no_memory}

got : {A : Type 0} (xs : List A) (k : ℕ) (x : A) → slice_get xs k ≡ Some x → get_or xs k x ≡ x
got xs k x e = let f = slice_get-get_or xs k x (slice_get_within xs k x e) in cc

drop_get : {A : Type 0} (xs : List A) (k : ℕ) (x : A) → slice_get xs k ≡ Some x → drop k xs ≡ x ∷ drop (k + 1) xs
drop_get xs k x e = drop_more xs k x (slice_get_within xs k x e) ∙ ap (λ y. y ∷ drop (k + 1) xs) (got xs k x e)

pub get_past : {A : Type 0} (xs : List A) (k : ℕ) → length xs ≤ k → slice_get xs k ≡ None
get_past [] k h = refl
get_past (y ∷ ys) zero h = absurd (omega (arith, h))
get_past (y ∷ ys) (suc k) h = get_past ys k (omega (arith, h))

drop_past : {A : Type 0} (xs : List A) (k : ℕ) → slice_get xs k ≡ None → drop k xs ≡ []
drop_past [] zero e = refl
drop_past [] (suc k) e = refl
drop_past (y ∷ ys) zero e = absurd (cc)
drop_past (y ∷ ys) (suc k) e = drop_past ys k e

-- the parts of the items before this one were put
pub record SoFar {A : Type 0} (part : ℕ → A → List ℕ) (first : ℕ) (xs : List A) (a now : DeskState) (held left : List ℕ) (k : ℕ) : Type 0 where
  pub done : List ℕ
  pub parts : done ++ parts_from part (first + k) (drop k xs) ≡ parts_from part first xs
  pub spilled : Spills a now held left done (Ok tt)

module _ {A : Type 0} (part : ℕ → A → List ℕ) (first : ℕ) (xs : List A) where
  pub starts : (a : DeskState) (held : List ℕ) → SoFar part first xs a a held held 0
  starts a held =
      let zero_more : first + 0 ≡ first = omega arith in
      record { done = []; parts = rw zero_more refl; spilled = none a held }

  after : (done : List ℕ) (k : ℕ) (x : A) → slice_get xs k ≡ Some x → done ++ parts_from part (first + k) (drop k xs) ≡ parts_from part first xs → (done ++ part (first + k) x) ++ parts_from part (first + (k + 1)) (drop (k + 1) xs) ≡ parts_from part first xs
  after done k x got parts =
      let number : first + (k + 1) ≡ suc (first + k) = omega arith in
      rw number (append_assoc done (part (first + k) x) (parts_from part (suc (first + k)) (drop (k + 1) xs)) ∙ ap (λ ys. done ++ parts_from part (first + k) ys) (sym (drop_get xs k x got)) ∙ parts)

  -- one more part is put and spilled
  pub goes_on : (a now next : DeskState) (held left left2 : List ℕ) (k : ℕ) (x : A) → slice_get xs k ≡ Some x → SoFar part first xs a now held left k → Spills now next left left2 (part (first + k) x) (Ok tt) → SoFar part first xs a next held left2 (k + 1)
  goes_on a now next held left left2 k x got s spills =
      record {
        done = s.done ++ part (first + k) x;
        parts = after s.done k x got s.parts;
        spilled = followed a now next held left left2 s.done (part (first + k) x) (Ok tt) s.spilled spills;
      }

  -- it is put in memory, and much is spilled
  pub held_on : (a now next : DeskState) (held left put2 left2 : List ℕ) (k : ℕ) (x : A) → slice_get xs k ≡ Some x → SoFar part first xs a now held left k → put2 ≡ left ++ part (first + k) x → Spills now next put2 left2 [] (Ok tt) → SoFar part first xs a next held left2 (k + 1)
  held_on a now next held left put2 left2 k x got s is spills =
      goes_on a now next held left left2 k x got s
      (rw (← append-nil (part (first + k) x)) (followed now now next left put2 left2 (part (first + k) x) [] (Ok tt) (held_more now left put2 (part (first + k) x) is) spills))

  pub done_all : (a now : DeskState) (held left : List ℕ) (k : ℕ) → slice_get xs k ≡ None → SoFar part first xs a now held left k → Spills a now held left (parts_from part first xs) (Ok tt)
  done_all a now held left k past s =
      let e : s.done ≡ parts_from part first xs = sym (append-nil s.done) ∙ ap (λ ys. s.done ++ parts_from part (first + k) ys) (sym (drop_past xs k past)) ∙ s.parts in
      rw (← e) s.spilled

  -- no memory for the next part
  pub out_of_memory : (a now : DeskState) (held left left2 : List ℕ) (k : ℕ) → SoFar part first xs a now held left k → Spills a now held left2 (parts_from part first xs) (Err put.Memory)
  out_of_memory a now held left left2 k s =
      rw (← s.parts) (no_memory a now held left left2 s.done (parts_from part (first + k) (drop k xs)) s.spilled)

  -- the next part couldn't be put
  pub breaks : (a now next : DeskState) (held left left2 : List ℕ) (k : ℕ) (x : A) (error : PutFault) → slice_get xs k ≡ Some x → SoFar part first xs a now held left k → Spills now next left left2 (part (first + k) x) (Err error) → Spills a next held left2 (parts_from part first xs) (Err error)
  breaks a now next held left left2 k x error got s spills =
      rw (← after s.done k x got s.parts)
      (stopped a next held left2 left2 (s.done ++ part (first + k) x) (parts_from part (first + (k + 1)) (drop (k + 1) xs)) error
      (followed a now next held left left2 s.done (part (first + k) x) (Err error) s.spilled spills))

  pub held_breaks : (a now next : DeskState) (held left put2 left2 : List ℕ) (k : ℕ) (x : A) (error : PutFault) → slice_get xs k ≡ Some x → SoFar part first xs a now held left k → put2 ≡ left ++ part (first + k) x → Spills now next put2 left2 [] (Err error) → Spills a next held left2 (parts_from part first xs) (Err error)
  held_breaks a now next held left put2 left2 k x error got s is spills =
      breaks a now next held left left2 k x error got s
      (rw (← append-nil (part (first + k) x)) (followed now now next left put2 left2 (part (first + k) x) [] (Err error) (held_more now left put2 (part (first + k) x) is) spills))

-- the same, where the part's number is told otherwise
pub goes_at : {A : Type 0} (part : ℕ → A → List ℕ) (first : ℕ) (xs : List A) (a now next : DeskState) (held left left2 : List ℕ) (k n : ℕ) (x : A) → slice_get xs k ≡ Some x → n ≡ first + k → SoFar part first xs a now held left k → Spills now next left left2 (part n x) (Ok tt) → SoFar part first xs a next held left2 (k + 1)
goes_at part first xs a now next held left left2 k n x got same s spills =
    goes_on part first xs a now next held left left2 k x got s (subst (λ i. Spills now next left left2 (part i x) (Ok tt)) same spills)

pub breaks_at : {A : Type 0} (part : ℕ → A → List ℕ) (first : ℕ) (xs : List A) (a now next : DeskState) (held left left2 : List ℕ) (k n : ℕ) (x : A) (error : PutFault) → slice_get xs k ≡ Some x → n ≡ first + k → SoFar part first xs a now held left k → Spills now next left left2 (part n x) (Err error) → Spills a next held left2 (parts_from part first xs) (Err error)
breaks_at part first xs a now next held left left2 k n x error got same s spills =
    breaks part first xs a now next held left left2 k x error got s (subst (λ i. Spills now next left left2 (part i x) (Err error)) same spills)

-- ---- parts that are put in memory
module _ {A : Type 0} (part : ℕ → A → List ℕ) (xs : List A) where
  -- what was put and the parts that are left are together this
  abbrev pub AreToCome : List ℕ → ℕ → List ℕ → Type 0
  AreToCome whole k now = now ++ parts_from part k (drop k xs) ≡ whole

  pub put_on : (whole now next : List ℕ) (k : ℕ) (x : A) → slice_get xs k ≡ Some x → next ≡ now ++ part k x → AreToCome whole k now → AreToCome whole (k + 1) next
  put_on whole now next k x got put h =
      let more : k + 1 ≡ suc k = omega arith in
      rw more
      (ap (λ (ys : List ℕ). ys ++ parts_from part (suc k) (drop (suc k) xs)) put
      ∙ append_assoc now (part k x) (parts_from part (suc k) (drop (suc k) xs))
      ∙ ap (λ (ys : List A). now ++ parts_from part k ys) (sym (rw more at (drop_get xs k x got)))
      ∙ h)

  pub all_put : (whole now : List ℕ) (k : ℕ) → slice_get xs k ≡ None → AreToCome whole k now → now ≡ whole
  all_put whole now k past h =
      sym (append-nil now) ∙ ap (λ (ys : List A). now ++ parts_from part k ys) (sym (drop_past xs k past)) ∙ h
