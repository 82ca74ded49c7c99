-- The cells that the program's expressions read and its sets name: they exist, and each set of an alternative has a cell of its own.
use Rattle.std.proofs.Common.{◌≡◌, ◌≢◌, ℕ, zero, suc, ◌+◌, ◌-◌, ◌<◌, ◌≤◌, Bool, true, false, ◌&&◌, List, [], ◌∷◌, ◌++◌, Option, Some, None, refl, sym, subst, ◌∙◌, arith, nat_lt, nat_le, ◌==◌, if◌then◌else◌}
use Rattle.std.proofs.lemmas.Bool.Decides.{nat_tests}
use Rattle.chk_base.specs.declared.word.Width.{Width}
use Rattle.chk_base.specs.declared.word.Width.TheVariants.{W1, W8, W16, W32}
use Rattle.chk_base.specs.Term.{Term, Const, Cell, Pick, Un, Bin, Choose}
use Rattle.guard_prog.specs.WellShaped.{names_cells}
use Rattle.one_stack.proofs.Slots.{IsValid, IsApart}
use Rattle.one_stack.specs.Rules.{Slot, On, Count, Waits, Held, Kept, Plan, Change, after, base_sets, cell, cell_after, change_sets, collect, count_set, empty_place, fewer, held_set, is_first, is_it, is_level, is_second, kept_set, mark_of, more, on_set, pick_after, popped_at, pushed_at, put_at, read_back, resource_sets, second_of, set_at, shifted_at, taken_at, waits_set}
use Rattle.one_stack.specs.TaskForm.{Reads}
use Rattle.step_ir.specs.Fits.{Misses}
use Rattle.step_ir.specs.Setting.{Setting}

-- two tests that pass
pub and_true : (a b : Bool) → a ≡ true → b ≡ true → (a && b) ≡ true
and_true true true h k = refl
and_true true false h k = k
and_true false b h k = h

-- what reads the first n cells names cells among them
pub reads_names : (n : ℕ) (t : Term) → Reads n t → names_cells n t ≡ true
reads_names n (Const k) h = refl
reads_names n (Cell at s) h = let lt = h.1 in grind (arith, nat_tests)
reads_names n (Pick base len s index) h =
    let some = h.0 in
    let within = h.2 in
    let one : nat_le 1 len ≡ true = grind (arith, nat_tests) in
    let two : nat_le (base + len) n ≡ true = grind (arith, nat_tests) in
    and_true (nat_le 1 len) (nat_le (base + len) n && names_cells n index) one (and_true (nat_le (base + len) n) (names_cells n index) two (reads_names n index h.3))
reads_names n (Un op a) h = reads_names n a h
reads_names n (Bin op a b) h = and_true (names_cells n a) (names_cells n b) (reads_names n a h.0) (reads_names n b h.1)
reads_names n (Choose c a b) h =
    and_true (names_cells n c) (names_cells n a && names_cells n b) (reads_names n c h.0)
    (and_true (names_cells n a) (names_cells n b) (reads_names n a h.1) (reads_names n b h.2))

-- what reads fewer cells reads more
pub reads_more : (low n : ℕ) (t : Term) → Reads low t → low ≤ n → Reads n t
reads_more low n (Const k) h le = tt
reads_more low n (Cell at s) h le = let lt = h.1 in (omega arith, omega arith)
reads_more low n (Pick base len s index) h le =
    let some = h.0 in
    let within = h.2 in
    (some, omega arith, omega arith, reads_more low n index h.3 le)
reads_more low n (Un op a) h le = reads_more low n a h le
reads_more low n (Bin op a b) h le = (reads_more low n a h.0 le, reads_more low n b h.1 le)
reads_more low n (Choose c a b) h le = (reads_more low n c h.0 le, reads_more low n a h.1 le, reads_more low n b h.2 le)

-- sets of cells among the first n, with values that read them
abbrev pub AreSetsRead : ℕ → List (ℕ × Term) → Type 0
AreSetsRead n [] = Unit {0}
AreSetsRead n (s ∷ ss) = (s.0 < n) × Reads n s.1 × AreSetsRead n ss

-- no two sets are of one cell
abbrev pub AreApart : List (ℕ × Term) → Type 0
AreApart [] = Unit {0}
AreApart (s ∷ ss) = Misses s.0 ss × AreApart ss

-- the cells of the sets are such
abbrev pub Hold : (ℕ → Type 0) → List (ℕ × Term) → Type 0
Hold P [] = Unit {0}
Hold P (s ∷ ss) = P s.0 × Hold P ss

pub read-append : (n : ℕ) (xs ys : List (ℕ × Term)) → AreSetsRead n xs → AreSetsRead n ys → AreSetsRead n (xs ++ ys)
read-append n [] ys h k = k
read-append n (x ∷ xs) ys h k = (h.0, h.1, read-append n xs ys h.2 k)

pub hold-append : (P : ℕ → Type 0) (xs ys : List (ℕ × Term)) → Hold P xs → Hold P ys → Hold P (xs ++ ys)
hold-append P [] ys h k = k
hold-append P (x ∷ xs) ys h k = (h.0, hold-append P xs ys h.1 k)

pub hold_more : (P Q : ℕ → Type 0) (xs : List (ℕ × Term)) → ((q : ℕ) → P q → Q q) → Hold P xs → Hold Q xs
hold_more P Q [] f h = tt
hold_more P Q (x ∷ xs) f h = (f x.0 h.0, hold_more P Q xs f h.1)

-- a cell that isn't such is missed
misses_of : (P : ℕ → Type 0) (q : ℕ) (xs : List (ℕ × Term)) → (P q → ⊥) → Hold P xs → Misses q xs
misses_of P q [] f h = tt
misses_of P q (x ∷ xs) f h = (λ e. f (subst P e h.0), misses_of P q xs f h.1)

misses-append : (q : ℕ) (xs ys : List (ℕ × Term)) → Misses q xs → Misses q ys → Misses q (xs ++ ys)
misses-append q [] ys h k = k
misses-append q (x ∷ xs) ys h k = (h.0, misses-append q xs ys h.1 k)

pub apart-append : (P Q : ℕ → Type 0) (xs ys : List (ℕ × Term)) → ((q : ℕ) → P q → Q q → ⊥) → AreApart xs → AreApart ys → Hold P xs → Hold Q ys → AreApart (xs ++ ys)
apart-append P Q [] ys f a b h k = b
apart-append P Q (x ∷ xs) ys f a b h k =
    (misses-append x.0 xs ys a.0 (misses_of Q x.0 ys (λ q. f x.0 h.0 q) k), apart-append P Q xs ys f a.1 b h.1 k)

-- lists at the numbers below n
pub record IsBelow (n : ℕ) (P : ℕ → ℕ → Type 0) (q : ℕ) : Type 0 where
  pub at : ℕ
  pub lt : at < n
  pub holds : P at q

pub collect_read : (m n : ℕ) (f : ℕ → List (ℕ × Term)) → ((j : ℕ) → j < n → AreSetsRead m (f j)) → AreSetsRead m (collect n f)
collect_read m zero f h = tt
collect_read m (suc n) f h = read-append m (f n) (collect n f) (h n (omega arith)) (collect_read m n f (λ j lt. h j (omega arith)))

pub collect_hold : (P : ℕ → Type 0) (n : ℕ) (f : ℕ → List (ℕ × Term)) → ((j : ℕ) → j < n → Hold P (f j)) → Hold P (collect n f)
collect_hold P zero f h = tt
collect_hold P (suc n) f h = hold-append P (f n) (collect n f) (h n (omega arith)) (collect_hold P n f (λ j lt. h j (omega arith)))

pub collect_apart : (P : ℕ → ℕ → Type 0) (n : ℕ) (f : ℕ → List (ℕ × Term)) → ((j k q : ℕ) → j < n → k < n → j ≢ k → P j q → P k q → ⊥) → ((j : ℕ) → j < n → AreApart (f j)) → ((j : ℕ) → j < n → Hold (P j) (f j)) → AreApart (collect n f)
collect_apart P zero f d a h = tt
collect_apart P (suc n) f d a h =
    apart-append (P n) (IsBelow n P) (f n) (collect n f)
    (λ q one two. let lt = two.lt in d n two.at q (omega arith) (omega arith) (λ e. absurd (omega arith)) one two.holds)
    (a n (omega arith))
    (collect_apart P n f (λ j k q lj lk. d j k q (omega arith) (omega arith)) (λ j lt. a j (omega arith)) (λ j lt. h j (omega arith)))
    (h n (omega arith))
    (collect_hold (IsBelow n P) n f (λ j lt. hold_more (P j) (IsBelow n P) (f j) (λ q p. record { at = j; lt = lt; holds = p }) (h j (omega arith))))

-- one cell, if it is set
abbrev pub ReadsIf : ℕ → Option Term → Type 0
ReadsIf n None = Unit {0}
ReadsIf n (Some t) = Reads n t

set_at_read : (n q : ℕ) (o : Option Term) → q < n → ReadsIf n o → AreSetsRead n (set_at q o)
set_at_read n q None lt h = tt
set_at_read n q (Some t) lt h = (lt, h, tt)

set_at_hold : (P : ℕ → Type 0) (q : ℕ) (o : Option Term) → P q → Hold P (set_at q o)
set_at_hold P q None p = tt
set_at_hold P q (Some t) p = (p, tt)

set_at_apart : (q : ℕ) (o : Option Term) → AreApart (set_at q o)
set_at_apart q None = tt
set_at_apart q (Some t) = (tt, tt)

-- expressions over the cells after sets
module _ (n : ℕ) (width : ℕ → Width) where
  read_back_reads : (w : Width) (s : Bool) (v : Term) → Reads n v → Reads n (read_back w s v)
  read_back_reads W1 true v h = (h, tt)
  read_back_reads W1 false v h = (h, tt)
  read_back_reads W8 true v h = h
  read_back_reads W8 false v h = h
  read_back_reads W16 true v h = h
  read_back_reads W16 false v h = h
  read_back_reads W32 s v h = (h, tt)

  cell_after_reads : (sets : List (ℕ × Term)) (at : ℕ) (s : Bool) → AreSetsRead n sets → at < n → Reads n (cell_after width sets at s)
  cell_after_reads [] at s h lt = (omega arith, lt)
  cell_after_reads (x ∷ xs) at s h lt = go (x.0 == at) (cell_after_reads xs at s h.2 lt)
    where
      go : (b : Bool) → Reads n (cell_after width xs at s) → Reads n (if b then read_back (width at) s x.1 else cell_after width xs at s)
      go true ih = read_back_reads (width at) s x.1 h.1
      go false ih = ih

  pick_after_reads : (sets : List (ℕ × Term)) (base len : ℕ) (s : Bool) (index : Term) → AreSetsRead n sets → 1 ≤ len → base + len ≤ n → Reads n index → Reads n (pick_after width sets base len s index)
  pick_after_reads [] base len s index h some le r = (some, omega arith, le, r)
  pick_after_reads (x ∷ xs) base len s index h some le r = go (nat_le base x.0 && nat_lt x.0 (base + len)) (pick_after_reads xs base len s index h.2 some le r)
    where
      go : (b : Bool) → Reads n (pick_after width xs base len s index) → Reads n (if b then Choose (Bin Rattle.chk_base.specs.declared.expr.BinOp.TheVariants.Eq index (Const (x.0 - base))) (read_back (width x.0) s x.1) (pick_after width xs base len s index) else pick_after width xs base len s index)
      go true ih = ((r, tt), read_back_reads (width x.0) s x.1 h.1, ih)
      go false ih = ih

  pub after_reads : (sets : List (ℕ × Term)) (t : Term) → AreSetsRead n sets → Reads n t → Reads n (after width sets t)
  after_reads sets (Const k) h r = tt
  after_reads sets (Cell at s) h r = cell_after_reads sets at s h r.1
  after_reads sets (Pick base len s index) h r =
      pick_after_reads sets base len s (after width sets index) h r.0 r.2 (after_reads sets index h r.3)
  after_reads sets (Un op a) h r = after_reads sets a h r
  after_reads sets (Bin op a b) h r = (after_reads sets a h r.0, after_reads sets b h r.1)
  after_reads sets (Choose c a b) h r = (after_reads sets c h r.0, after_reads sets a h r.1, after_reads sets b h r.2)

module _ (app : Setting) (plan : Plan) (low n : ℕ) (apart : IsApart app plan low) (high : (s : Slot) → IsValid app plan s → plan.place s < n) where
  pub cell_reads : (s : Slot) → IsValid app plan s → Reads n (cell app plan s)
  cell_reads s v = (omega arith, high s v)

  more_reads : (t : ℕ) → t < plan.tasks → Reads n (more app plan t)
  more_reads t lt = go (app.limit t == 1)
    where
      go : (b : Bool) → Reads n (if b then Const 1 else Bin Rattle.chk_base.specs.declared.expr.BinOp.TheVariants.And (Bin Rattle.chk_base.specs.declared.expr.BinOp.TheVariants.Add (cell app plan (Count t)) (Const 1)) (Const 15))
      go true = tt
      go false = ((cell_reads (Count t) lt, tt), tt)

  fewer_reads : (t : ℕ) → t < plan.tasks → Reads n (fewer app plan t)
  fewer_reads t lt = go (app.limit t == 1)
    where
      go : (b : Bool) → Reads n (if b then Const 0 else Bin Rattle.chk_base.specs.declared.expr.BinOp.TheVariants.And (Bin Rattle.chk_base.specs.declared.expr.BinOp.TheVariants.Sub (cell app plan (Count t)) (Const 1)) (Const 15))
      go true = tt
      go false = ((cell_reads (Count t) lt, tt), tt)

  on_reads : (c : Change) (x : ℕ) → ReadsIf n (on_set c x)
  on_reads c x = go (is_it c.starts x) (is_it c.leaves x)
    where
      go : (a b : Bool) → ReadsIf n (if a then Some (Const 1) else (if b then Some (Const 0) else None))
      go true b = tt
      go false true = tt
      go false false = tt

  count_reads : (c : Change) (t : ℕ) → t < plan.tasks → ReadsIf n (count_set app plan c t)
  count_reads c t lt = go (is_it c.asks t) (is_it c.ends t)
    where
      go : (a b : Bool) → ReadsIf n (if a then (if b then None else Some (more app plan t)) else (if b then Some (fewer app plan t) else None))
      go true true = tt
      go true false = more_reads t lt
      go false true = fewer_reads t lt
      go false false = tt

  taken_reads : (l i : ℕ) → l ≤ app.top → Reads n (taken_at app plan l i)
  taken_reads l i le = go (nat_lt (i + 1) (plan.room l)) refl
    where
      go : (b : Bool) → nat_lt (i + 1) (plan.room l) ≡ b → Reads n (if b then cell app plan (Waits l (i + 1)) else Const 0)
      go true e = let lt : i + 1 < plan.room l = grind (arith, nat_tests) in cell_reads (Waits l (i + 1)) (le, lt)
      go false e = tt

  empty_reads : (l i m : ℕ) → l ≤ app.top → i < plan.room l → Reads n (empty_place app plan l i m)
  empty_reads l zero m le lt = tt
  empty_reads l (suc i) m le lt = (cell_reads (Waits l i) (le, omega arith), tt, tt)

  waits_reads : (c : Change) (l i : ℕ) → l ≤ app.top → i < plan.room l → ReadsIf n (waits_set app plan c l i)
  waits_reads c l i le lt = go (is_level app c.takes l) (is_level app c.puts l)
    where
      go : (a b : Bool) → ReadsIf n (if a then (if b then Some (shifted_at app plan l i (mark_of plan c.puts)) else Some (taken_at app plan l i)) else (if b then Some (put_at app plan l i (mark_of plan c.puts)) else None))
      go true true = (taken_reads l i le, taken_reads l i le, (cell_reads (Waits l i) (le, lt), tt, tt))
      go true false = taken_reads l i le
      go false true = (cell_reads (Waits l i) (le, lt), cell_reads (Waits l i) (le, lt), empty_reads l i (mark_of plan c.puts) le lt)
      go false false = tt

  held_reads : (c : Change) (r : ℕ) → ReadsIf n (held_set c r)
  held_reads c r = go (is_second c.gets r) (is_second c.releases r)
    where
      go : (a b : Bool) → ReadsIf n (if a then Some (Const 1) else (if b then Some (Const 0) else None))
      go true b = tt
      go false true = tt
      go false false = tt

  kept_reads : (c : Change) (e i : ℕ) → e < plan.tasks → i < plan.resources → ReadsIf n (kept_set app plan c e i)
  kept_reads c e i le li = go (is_first c.gets e) (is_first c.releases e)
    where
      pushed_reads : (j : ℕ) → j < plan.resources → Reads n (pushed_at app plan e (second_of c.gets) j)
      pushed_reads zero lt = tt
      pushed_reads (suc j) lt = cell_reads (Kept e j) (le, omega arith)

      popped_reads : (b : Bool) → nat_lt (i + 1) plan.resources ≡ b → Reads n (if b then cell app plan (Kept e (i + 1)) else Const 0)
      popped_reads true k = let lt : i + 1 < plan.resources = grind (arith, nat_tests) in cell_reads (Kept e (i + 1)) (le, lt)
      popped_reads false k = tt

      go : (a b : Bool) → ReadsIf n (if a then Some (pushed_at app plan e (second_of c.gets) i) else (if b then Some (popped_at app plan e i) else None))
      go true b = pushed_reads i li
      go false true = popped_reads (nat_lt (i + 1) plan.resources) refl
      go false false = tt

  -- the sets of a change are of cells that exist
  pub change_read : (c : Change) → AreSetsRead n (change_sets app plan c)
  change_read c =
      read-append n (base_sets app plan c) (resource_sets app plan c)
      (read-append n _ _ (collect_read n plan.tasks _ (λ x lt. set_at_read n (plan.place (On x)) (on_set c x) (high (On x) lt) (on_reads c x)))
      (read-append n _ _ (collect_read n plan.tasks _ (λ t lt. set_at_read n (plan.place (Count t)) (count_set app plan c t) (high (Count t) lt) (count_reads c t lt)))
      (collect_read n (app.top + 1) _ (λ l lt. collect_read n (plan.room l) _ (λ i li. let le : l ≤ app.top = omega arith in set_at_read n (plan.place (Waits l i)) (waits_set app plan c l i) (high (Waits l i) (le, li)) (waits_reads c l i le li))))))
      (read-append n _ _ (collect_read n plan.resources _ (λ r lt. set_at_read n (plan.place (Held r)) (held_set c r) (high (Held r) lt) (held_reads c r)))
      (collect_read n plan.tasks _ (λ e le. collect_read n plan.resources _ (λ i li. set_at_read n (plan.place (Kept e i)) (kept_set app plan c e i) (high (Kept e i) (le, li)) (kept_reads c e i le li)))))

  -- a cell of a slot that is such
  pub record IsPlace (P : Slot → Type 0) (q : ℕ) : Type 0 where
    pub slot : Slot
    pub valid : IsValid app plan slot
    pub such : P slot
    pub is : q ≡ plan.place slot

  -- no cell is of two kinds of slots that exclude one another
  excluded : (P Q : Slot → Type 0) → ((s : Slot) → P s → Q s → ⊥) → (q : ℕ) → IsPlace P q → IsPlace Q q → ⊥
  excluded P Q f q one two =
      f two.slot (subst P (apart.apart one.slot two.slot one.valid two.valid (sym one.is ∙ two.is)) one.such) two.such

  abbrev kind : Slot → ℕ
  kind (On x) = 0
  kind (Count t) = 1
  kind (Waits l i) = 2
  kind (Held r) = 3
  kind (Kept e i) = 4

  abbrev IsKind : ℕ → Slot → Type 0
  IsKind k s = kind s ≡ k

  abbrev IsLater : ℕ → Slot → Type 0
  IsLater k s = k < kind s

  -- the first part of a slot
  abbrev part : Slot → ℕ
  part (On x) = x
  part (Count t) = t
  part (Waits l i) = l
  part (Held r) = r
  part (Kept e i) = e

  abbrev IsPart : ℕ → Slot → Type 0
  IsPart k s = part s ≡ k

  -- the second part
  abbrev second : Slot → ℕ
  second (Waits l i) = i
  second (Kept e i) = i
  second _ = 0

  abbrev IsSecond : ℕ → Slot → Type 0
  IsSecond k s = second s ≡ k

  parts_apart : (j k q : ℕ) → j ≢ k → IsPlace (IsPart j) q → IsPlace (IsPart k) q → ⊥
  parts_apart j k q d one two = excluded (IsPart j) (IsPart k) (λ s a b. d (sym a ∙ b)) q one two

  seconds_apart : (j k q : ℕ) → j ≢ k → IsPlace (IsSecond j) q → IsPlace (IsSecond k) q → ⊥
  seconds_apart j k q d one two = excluded (IsSecond j) (IsSecond k) (λ s a b. d (sym a ∙ b)) q one two

  -- one list per entity
  module _ (slot : ℕ → Slot) (set : ℕ → Option Term) (count : ℕ) (valid : (x : ℕ) → x < count → IsValid app plan (slot x)) where
    flat_hold : (P : Slot → Type 0) → ((x : ℕ) → P (slot x)) → Hold (IsPlace P) (collect count (λ x. set_at (plan.place (slot x)) (set x)))
    flat_hold P p =
        collect_hold (IsPlace P) count _ (λ x lt. set_at_hold (IsPlace P) (plan.place (slot x)) (set x) (record { slot = slot x; valid = valid x lt; such = p x; is = refl }))

    flat_apart : (number : Slot → ℕ) → ((x : ℕ) → number (slot x) ≡ x) → AreApart (collect count (λ x. set_at (plan.place (slot x)) (set x)))
    flat_apart number is =
        collect_apart (λ j. IsPlace (λ s. number s ≡ j)) count _
        (λ j k q lj lk d one two. excluded (λ s. number s ≡ j) (λ s. number s ≡ k) (λ s a b. d (sym a ∙ b)) q one two)
        (λ j lt. set_at_apart (plan.place (slot j)) (set j))
        (λ j lt. set_at_hold (IsPlace (λ s. number s ≡ j)) (plan.place (slot j)) (set j) (record { slot = slot j; valid = valid j lt; such = is j; is = refl }))

  -- a list of lists
  module _ (slot : ℕ → ℕ → Slot) (set : ℕ → ℕ → Option Term) (count : ℕ) (many : ℕ → ℕ) (valid : (x i : ℕ) → x < count → i < many x → IsValid app plan (slot x i)) where
    deep_hold : (P : Slot → Type 0) → ((x i : ℕ) → P (slot x i)) → Hold (IsPlace P) (collect count (λ x. collect (many x) (λ i. set_at (plan.place (slot x i)) (set x i))))
    deep_hold P p = collect_hold (IsPlace P) count _ (λ x lt. flat_hold (slot x) (set x) (many x) (λ i li. valid x i lt li) P (p x))

    deep_apart : ((x i : ℕ) → part (slot x i) ≡ x) → ((x i : ℕ) → second (slot x i) ≡ i) → AreApart (collect count (λ x. collect (many x) (λ i. set_at (plan.place (slot x i)) (set x i))))
    deep_apart one two =
        collect_apart (λ j. IsPlace (IsPart j)) count _
        (λ j k q lj lk d a b. parts_apart j k q d a b)
        (λ j lt. flat_apart (slot j) (set j) (many j) (λ i li. valid j i lt li) second (two j))
        (λ j lt. flat_hold (slot j) (set j) (many j) (λ i li. valid j i lt li) (IsPart j) (one j))

  -- of two kinds
  kinds_apart : (k : ℕ) (q : ℕ) → IsPlace (IsKind k) q → IsPlace (IsLater k) q → ⊥
  kinds_apart k q one two = excluded (IsKind k) (IsLater k) (λ s a b. absurd (omega arith)) q one two

  abbrev IsEarly : Slot → Type 0
  IsEarly s = kind s < 3

  early_apart : (q : ℕ) → IsPlace IsEarly q → IsPlace (IsLater 2) q → ⊥
  early_apart q one two = excluded IsEarly (IsLater 2) (λ s a b. absurd (omega arith)) q one two

  module _ (c : Change) where
    abbrev ons : List (ℕ × Term)
    ons = collect plan.tasks (λ x. set_at (plan.place (On x)) (on_set c x))

    abbrev counts : List (ℕ × Term)
    counts = collect plan.tasks (λ t. set_at (plan.place (Count t)) (count_set app plan c t))

    abbrev waits : List (ℕ × Term)
    waits = collect (app.top + 1) (λ l. collect (plan.room l) (λ i. set_at (plan.place (Waits l i)) (waits_set app plan c l i)))

    abbrev helds : List (ℕ × Term)
    helds = collect plan.resources (λ r. set_at (plan.place (Held r)) (held_set c r))

    abbrev kepts : List (ℕ × Term)
    kepts = collect plan.tasks (λ e. collect plan.resources (λ i. set_at (plan.place (Kept e i)) (kept_set app plan c e i)))

    waits_valid : (l i : ℕ) → l < app.top + 1 → i < plan.room l → IsValid app plan (Waits l i)
    waits_valid l i lt li = (omega arith, li)

    ons_hold : (P : Slot → Type 0) → ((x : ℕ) → P (On x)) → Hold (IsPlace P) ons
    ons_hold P p = flat_hold On (on_set c) plan.tasks (λ x lt. lt) P p

    counts_hold : (P : Slot → Type 0) → ((x : ℕ) → P (Count x)) → Hold (IsPlace P) counts
    counts_hold P p = flat_hold Count (count_set app plan c) plan.tasks (λ x lt. lt) P p

    waits_hold : (P : Slot → Type 0) → ((l i : ℕ) → P (Waits l i)) → Hold (IsPlace P) waits
    waits_hold P p = deep_hold Waits (waits_set app plan c) (app.top + 1) plan.room waits_valid P p

    helds_hold : (P : Slot → Type 0) → ((r : ℕ) → P (Held r)) → Hold (IsPlace P) helds
    helds_hold P p = flat_hold Held (held_set c) plan.resources (λ r lt. lt) P p

    kepts_hold : (P : Slot → Type 0) → ((e i : ℕ) → P (Kept e i)) → Hold (IsPlace P) kepts
    kepts_hold P p = deep_hold Kept (kept_set app plan c) plan.tasks (λ e. plan.resources) (λ e i le li. (le, li)) P p

    base_apart : AreApart (base_sets app plan c)
    base_apart =
        apart-append (IsPlace (IsKind 0)) (IsPlace (IsLater 0)) ons (counts ++ waits) (kinds_apart 0)
        (flat_apart On (on_set c) plan.tasks (λ x lt. lt) part (λ x. refl))
        (apart-append (IsPlace (IsKind 1)) (IsPlace (IsLater 1)) counts waits (kinds_apart 1)
        (flat_apart Count (count_set app plan c) plan.tasks (λ x lt. lt) part (λ x. refl))
        (deep_apart Waits (waits_set app plan c) (app.top + 1) plan.room waits_valid (λ l i. refl) (λ l i. refl))
        (counts_hold (IsKind 1) (λ x. refl))
        (waits_hold (IsLater 1) (λ l i. omega arith)))
        (ons_hold (IsKind 0) (λ x. refl))
        (hold-append (IsPlace (IsLater 0)) counts waits (counts_hold (IsLater 0) (λ x. omega arith)) (waits_hold (IsLater 0) (λ l i. omega arith)))

    resource_apart : AreApart (resource_sets app plan c)
    resource_apart =
        apart-append (IsPlace (IsKind 3)) (IsPlace (IsLater 3)) helds kepts (kinds_apart 3)
        (flat_apart Held (held_set c) plan.resources (λ r lt. lt) part (λ r. refl))
        (deep_apart Kept (kept_set app plan c) plan.tasks (λ e. plan.resources) (λ e i le li. (le, li)) (λ e i. refl) (λ e i. refl))
        (helds_hold (IsKind 3) (λ r. refl))
        (kepts_hold (IsLater 3) (λ e i. omega arith))

    -- no two sets of a change are of one cell
    pub change_apart : AreApart (change_sets app plan c)
    change_apart =
        apart-append (IsPlace IsEarly) (IsPlace (IsLater 2)) (base_sets app plan c) (resource_sets app plan c) early_apart base_apart resource_apart
        (hold-append (IsPlace IsEarly) ons (counts ++ waits) (ons_hold IsEarly (λ x. omega arith))
        (hold-append (IsPlace IsEarly) counts waits (counts_hold IsEarly (λ x. omega arith)) (waits_hold IsEarly (λ l i. omega arith))))
        (hold-append (IsPlace (IsLater 2)) helds kepts (helds_hold (IsLater 2) (λ r. omega arith)) (kepts_hold (IsLater 2) (λ e i. omega arith)))
