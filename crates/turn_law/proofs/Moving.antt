-- The stack after a control.
use Rattle.std.proofs.Common.{◌≡◌, ◌≢◌, ℕ, suc, zero, ◌+◌, ◌-◌, ◌*◌, ◌<◌, ◌≤◌, Bool, true, false, not, ◌&&◌, ◌||◌, List, [], ◌∷◌, ◌++◌, refl, sym, ◌∙◌, ap, subst, inl, inr, ◌⊎◌, arith, if◌then◌else◌, length, Option, Some, None, ◌==◌, nat_le, nat_lt}
use Rattle.std.proofs.lemmas.Bool.{and_parts, and_from, cases_Bool, cases_eq}
use Rattle.std.proofs.lemmas.Bool.Decides.{nat_tests}
use Rattle.guard_prog.specs.declared.draft.Control.{Control}
use Rattle.guard_prog.specs.declared.draft.Control.TheVariants.{Goto, Push, Pop, PopPush, Fail}
use Rattle.guard_prog.specs.GuardedRun.{stack_after, is_fail}
use Rattle.turn_law.specs.Sight.{Sight, IsAt, IsDark, Below, MeansTop, MeansStack, leads_to, is_push, is_pop, is_end, leaves, popped, one_deeper}

-- what a control makes of the top, the depth and the points below
abbrev pub at_by : ℕ → Sight → Control → ℕ → Bool
at_by most s c i = leads_to i c || (is_pop c && popped s i most)

abbrev pub depth_by : ℕ → Sight → Control → ℕ → Bool
depth_by most s c d =
    if nat_le d most
    then (if is_push c then one_deeper s.depth d else (if is_pop c then s.depth (d + 1) else s.depth d))
    else false

abbrev pub slots_by : ℕ → Sight → Control → ℕ → ℕ → Bool
slots_by most s c d i = if is_push c && (nat_lt d most && s.depth d) then leaves i c else s.slots d i

abbrev pub moved_sight : ℕ → Sight → (ℕ → ℕ) → Control → Sight
moved_sight most s cells c =
    record { at = at_by most s c; depth = depth_by most s c; slots = slots_by most s c; cells = cells }

pub same_depth : (most : ℕ) (depth : ℕ → Bool) (n : ℕ) → n ≤ most → IsAt depth n → IsAt (λ d. if nat_le d most then depth d else false) n
same_depth most depth n h a = record { only = λ d. let e = a.only d in grind (arith, nat_tests, e) }

less_depth : (most : ℕ) (depth : ℕ → Bool) (n : ℕ) → suc n ≤ most → IsAt depth (suc n) → IsAt (λ d. if nat_le d most then depth (d + 1) else false) n
less_depth most depth n h a = record { only = λ d. let e = a.only (d + 1) in grind (arith, nat_tests, e) }

more_depth : (most : ℕ) (depth : ℕ → Bool) (n : ℕ) → suc n ≤ most → IsAt depth n → IsAt (λ d. if nat_le d most then one_deeper depth d else false) (suc n)
more_depth most depth n h a = record { only = λ d. let e = a.only (d - 1) in grind (arith, nat_tests, e) }

popped_is : (s : Sight) (u k i n : ℕ) → IsAt s.depth (suc k) → IsAt (s.slots k) u → popped s i n ≡ (if nat_lt k n then i == u else false)
popped_is s u k i zero a b = grind (arith, nat_tests)
popped_is s u k i (suc n) a b =
    let e = a.only (suc n) in
    let f = b.only i in
    let h = popped_is s u k i n a b in
    elim (cases_eq n k) [
      | inl g ↦ let j : s.slots n i ≡ (i == u) = ap (λ m. s.slots m i) g ∙ f in grind (arith, nat_tests, e, j, h)
      | inr g ↦ grind (arith, nat_tests, e, h)
    ]

below_kept : (most : ℕ) (s : Sight) (b start n : ℕ) (us : List ℕ) → IsAt s.depth n → length us ≤ n → Below s.slots us → Below (slots_by most s (Push b start)) us
below_kept most s b start n [] a h k = tt
below_kept most s b start n (u ∷ us) a h k =
    let e = a.only (length us) in
    let f : s.depth (length us) ≡ false = grind (arith, nat_tests, e) in
    (record { only = λ i. let j = k.0.only i in rw f (grind (arith, nat_tests, j)) }, below_kept most s b start n us a (omega arith) k.1)

room_of : (most n : ℕ) → n ≤ most → (most == n) ≡ false → suc n ≤ most
room_of most n h e = grind (arith, nat_tests, h, e)

-- the stack after the control, and what is seen
pub record Moves (most : ℕ) (s : Sight) (cells : ℕ → ℕ) (c : Control) (stack : List ℕ) : Type 0 where
  pub after : List ℕ
  pub is : stack_after most c stack ≡ Some after
  pub means : MeansStack most (moved_sight most s cells c) after (is_fail c)

pub moves : (most : ℕ) (s : Sight) (cells : ℕ → ℕ) (c : Control) (t : ℕ) (ts : List ℕ) → length ts ≤ most → IsAt s.depth (length ts) → Below s.slots ts → (is_push c && s.depth most) ≡ false → (is_end c && s.depth 0) ≡ false → Moves most s cells c (t ∷ ts)
moves most s cells (Goto q) t ts h a b r e = record {
  after = q ∷ ts;
  is = refl;
  means = (h, same_depth most s.depth (length ts) h a, (record { only = λ i. or_false (i == q) }, b));
}
  where
    or_false : (a : Bool) → (a || false) ≡ a
    or_false true = refl
    or_false false = refl
moves most s cells (Push below start) t ts h a b r e =
    let f = a.only most in
    let room : suc (length ts) ≤ most = room_of most (length ts) h (sym f ∙ r) in
    let g : nat_le (suc (length ts)) most ≡ true = grind (arith, nat_tests, room) in
    let j : nat_lt (length ts) most ≡ true = grind (arith, nat_tests, room) in
    let k : s.depth (length ts) ≡ true = a.only (length ts) ∙ grind (arith, nat_tests) in
    record {
      after = start ∷ below ∷ ts;
      is = rw g refl;
      means = (room, more_depth most s.depth (length ts) room a, (record { only = λ i. or_false (i == start) }, (record { only = λ i. rw (j, k) refl }, below_kept most s below start (length ts) ts a (omega arith) b)));
    }
  where
    or_false : (a : Bool) → (a || false) ≡ a
    or_false true = refl
    or_false false = refl
moves most s cells Pop t [] h a b r e = absurd (let f = a.only 0 in cc)
moves most s cells Pop t (u ∷ us) h a b r e = record {
  after = u ∷ us;
  is = refl;
  means = (omega (arith, h), less_depth most s.depth (length us) h a, (record { only = λ i. popped_is s u (length us) i most a b.0 ∙ grind (arith, nat_tests, h) }, b.1));
}
moves most s cells (PopPush q) t [] h a b r e = absurd (let f = a.only 0 in cc)
moves most s cells (PopPush q) t (u ∷ us) h a b r e = record {
  after = q ∷ u ∷ us;
  is = refl;
  means = (h, same_depth most s.depth (suc (length us)) h a, (record { only = λ i. or_false (i == q) }, b));
}
  where
    or_false : (a : Bool) → (a || false) ≡ a
    or_false true = refl
    or_false false = refl
moves most s cells Fail t ts h a b r e = record {
  after = t ∷ ts;
  is = refl;
  means = (h, same_depth most s.depth (length ts) h a, record { none = λ i. refl });
}

-- a control that moves the stack had the room
pub room_was : (most : ℕ) (s : Sight) (c : Control) (t : ℕ) (ts after : List ℕ) → IsAt s.depth (length ts) → stack_after most c (t ∷ ts) ≡ Some after → ((is_push c && s.depth most) ≡ false) × ((is_end c && s.depth 0) ≡ false)
room_was most s (Goto q) t ts after a e = (refl, refl)
room_was most s (Push below start) t ts after a e = (go (nat_le (suc (length ts)) most) refl e, refl)
  where
    go : (b : Bool) → nat_le (suc (length ts)) most ≡ b → (if b then Some (start ∷ below ∷ ts) else None) ≡ Some after → s.depth most ≡ false
    go true g e = a.only most ∙ grind (arith, nat_tests, g)
    go false g e = absurd (cc)
room_was most s Pop t [] after a e = absurd (cc)
room_was most s Pop t (u ∷ us) after a e = (refl, a.only 0 ∙ grind (arith, nat_tests))
room_was most s (PopPush q) t [] after a e = absurd (cc)
room_was most s (PopPush q) t (u ∷ us) after a e = (refl, a.only 0 ∙ grind (arith, nat_tests))
room_was most s Fail t ts after a e = (refl, refl)
