-- The slots hold what the one-stack machine has, and keep it under a change.
use Rattle.std.proofs.Common.{◌≡◌, ℕ, zero, suc, ◌+◌, ◌-◌, ◌<◌, ◌≤◌, ◌%◌, ◌^◌, Bool, true, false, List, [], ◌∷◌, ◌++◌, length, Option, Some, None, refl, sym, ap, ap₂, ◌∙◌, arith, nat_lt, ◌==◌, if◌then◌else◌, add-one}
use Rattle.std.proofs.Math.Nat.{mod-eq_of_lt}
use Rattle.std.proofs.lemmas.Bool.Decides.{nat_tests}
use Rattle.std.proofs.lemmas.Nat.{and_mask}
use Rattle.std.specs.Prelude.{bit_and, unwrap_or}
use Rattle.chk_base.specs.Operators.{truth}
use Rattle.chk_base.specs.Term.{Term, Const, Bin}
use Rattle.chk_base.specs.Widths.{limit_of}
use Rattle.chk_base.specs.declared.expr.BinOp.TheVariants as bin
use Rattle.chk_base.specs.declared.word.Width.TheVariants.{W1, W8, W16, W32}
use Rattle.chk_base.specs.declared.word.Width.{Width}
use Rattle.guard_prog.specs.GuardedRun.{value_in, cell_after_sets, value_set}
use Rattle.one_stack.proofs.Slots.{IsValid, IsApart, slot_set, as_set, or_else, value_set-append, change_at}
use Rattle.one_stack.proofs.Values.{extended_false}
use Rattle.one_stack.specs.Built.{task_of, mark_at, view, held_times, held_of, kept_at}
use Rattle.one_stack.specs.Rules.{Slot, On, Count, Waits, Held, Kept, Plan, Change, is_it, is_level, is_first, is_second, second_of, held_set, pushed_at, popped_at, kept_set, mark_of, cell, more, fewer, taken_at, put_at, empty_place, shifted_at, on_set, count_set, waits_set, change_sets}
use Rattle.step_ir.specs.Agreement.{fresh_at}
use Rattle.step_ir.specs.Numbers.{times, tail}
use Rattle.step_ir.specs.OneStackMachine.{Stacked, whos}
use Rattle.step_ir.specs.PointStep.{Bits}
use Rattle.step_ir.specs.SchedulerState.{Entry, Fresh}
use Rattle.step_ir.specs.Setting.{Setting, AreTasks}

-- the widths and marks are large enough
pub record IsLayout (app : Setting) (plan : Plan) (width : ℕ → Width) (low : ℕ) : Type 0 where
  pub apart : IsApart app plan low
  pub on_wide : (x : ℕ) → x < plan.tasks → 1 < limit_of (width (plan.place (On x)))
  pub count_wide : (t : ℕ) → t < plan.tasks → app.limit t < limit_of (width (plan.place (Count t)))
  pub mark_wide : (t l i : ℕ) → t < plan.tasks → app.level t ≡ l → i < plan.room l → plan.mark t < limit_of (width (plan.place (Waits l i)))
  pub mark_positive : (t : ℕ) → 0 < plan.mark t
  pub marks : (t u : ℕ) → app.level t ≡ app.level u → plan.mark t ≡ plan.mark u → t ≡ u
  pub few : (t : ℕ) → app.limit t ≤ 8
  pub tasks : (t : ℕ) → app.is_task t ≡ true → t < plan.tasks
  pub are_tasks : (t : ℕ) → t < plan.tasks → app.is_task t ≡ true
  pub roomy : (t : ℕ) → t < plan.tasks → 0 < plan.room (app.level t)
  pub levels : (t : ℕ) → t < plan.tasks → app.level t ≤ app.top
  pub held_wide : (r : ℕ) → r < plan.resources → 1 < limit_of (width (plan.place (Held r)))
  pub kept_wide : (e i : ℕ) → e < plan.tasks → i < plan.resources → plan.resources < limit_of (width (plan.place (Kept e i)))

pub limit_positive : (w : Width) → 0 < limit_of w
limit_positive W1 = omega arith
limit_positive W8 = omega arith
limit_positive W16 = omega arith
limit_positive W32 = omega arith

-- the sides of a change: who is on the stack, how many requests there are, and which wait
abbrev pub on_after : Change → ℕ → ℕ → ℕ
on_after c x old = if is_it c.starts x then 1 else (if is_it c.leaves x then 0 else old)

abbrev pub count_after : Change → ℕ → ℕ → ℕ
count_after c t old =
    if is_it c.asks t then (if is_it c.ends t then old else old + 1) else (if is_it c.ends t then old - 1 else old)

abbrev pub put_on : Option ℕ → List Entry → List Entry
put_on None es = es
put_on (Some x) es = es ++ Fresh x ∷ []

abbrev pub waits_after : Setting → Change → ℕ → List Entry → List Entry
waits_after app c l es =
    if is_level app c.takes l
    then (if is_level app c.puts l then tail (put_on c.puts es) else tail es)
    else (if is_level app c.puts l then put_on c.puts es else es)

abbrev pub held_after : Change → ℕ → ℕ → ℕ
held_after c r old = if is_second c.gets r then 1 else (if is_second c.releases r then 0 else old)

abbrev pub kept_after : Change → ℕ → List ℕ → List ℕ
kept_after c e rs =
    if is_first c.gets e then second_of c.gets ∷ rs else (if is_first c.releases e then tail rs else rs)

-- the machine changes in this way
pub record IsChange (app : Setting) (plan : Plan) (c : Change) (m m' : Stacked ℕ Bits) : Type 0 where
  pub on : (x : ℕ) → x < plan.tasks → times x (whos m'.stack) ≡ on_after c x (times x (whos m.stack))
  pub count : (t : ℕ) → t < plan.tasks → times t (whos m'.stack) + times t m'.fresh ≡ count_after c t (times t (whos m.stack) + times t m.fresh)
  pub waits : (l : ℕ) → fresh_at app l m'.fresh ≡ waits_after app c l (fresh_at app l m.fresh)
  pub held : (r : ℕ) → r < plan.resources → held_times r m'.stack ≡ held_after c r (held_times r m.stack)
  pub kept : (e : ℕ) → e < plan.tasks → held_of e m'.stack ≡ kept_after c e (held_of e m.stack)
  -- there is a request to end, and room for one more
  pub ended : (t : ℕ) → is_it c.ends t ≡ true → 0 < times t (whos m.stack) + times t m.fresh
  pub asked : (t : ℕ) → is_it c.asks t ≡ true → is_it c.ends t ≡ false → times t (whos m.stack) + times t m.fresh < app.limit t

kept_at-end : (rs : List ℕ) (i : ℕ) → length rs ≤ i → kept_at rs i ≡ 0
kept_at-end [] i h = refl
kept_at-end (r ∷ rs) zero h = absurd (omega arith)
kept_at-end (r ∷ rs) (suc i) h = kept_at-end rs i (omega arith)

kept_at-tail : (rs : List ℕ) (i : ℕ) → kept_at (tail rs) i ≡ kept_at rs (suc i)
kept_at-tail [] i = refl
kept_at-tail (r ∷ rs) i = refl

abbrev pub vacant : (ℕ → ℕ) → List Entry → ℕ → ℕ → ℕ
vacant mark es zero n = n
vacant mark es (suc j) n = if truth (mark_at mark es j) then n else 0

module _ (mark : ℕ → ℕ) (positive : (t : ℕ) → 0 < mark t) where
  pub mark_at-end : (es : List Entry) (i : ℕ) → length es ≤ i → mark_at mark es i ≡ 0
  mark_at-end [] i h = refl
  mark_at-end (e ∷ es) zero h = absurd (omega arith)
  mark_at-end (e ∷ es) (suc i) h = mark_at-end es i (omega arith)

  pub mark_at-tail : (es : List Entry) (i : ℕ) → mark_at mark (tail es) i ≡ mark_at mark es (suc i)
  mark_at-tail [] i = refl
  mark_at-tail (e ∷ es) i = refl

  pub marked : (t : ℕ) → truth (mark t) ≡ true
  marked t = let p = positive t in grind (arith, nat_tests)

  pub mark_at-append : (es : List Entry) (x i : ℕ) → mark_at mark (es ++ Fresh x ∷ []) i ≡ (if truth (mark_at mark es i) then mark_at mark es i else vacant mark es i (mark x))
  mark_at-append [] x zero = refl
  mark_at-append [] x (suc i) = refl
  mark_at-append (e ∷ es) x zero = ap (λ b. if b then mark (task_of e) else mark x) (sym (marked (task_of e)))
  mark_at-append (e ∷ es) x (suc zero) =
      mark_at-append es x zero
      ∙ ap (λ b. if truth (mark_at mark es zero) then mark_at mark es zero else (if b then mark x else 0)) (sym (marked (task_of e)))
  mark_at-append (e ∷ es) x (suc (suc i)) = mark_at-append es x (suc i)

small_more : (n : ℕ) → n < 8 → bit_and ((n + 1) % 2 ^ 32) 15 ≡ n + 1
small_more n lt =
    let low : n + 1 < 16 = omega arith in
    let high : n + 1 < 4294967296 = omega arith in
    ap (λ v. bit_and v 15) (mod-eq_of_lt high) ∙ (and_mask (n + 1) 4 ∙ mod-eq_of_lt low)

small_fewer : (n : ℕ) → 0 < n → n ≤ 8 → bit_and ((n + (2 ^ 32 - 1)) % 2 ^ 32) 15 ≡ n - 1
small_fewer n some lt =
    let low : n - 1 < 16 = omega arith in
    let one : (n + 4294967295) % 4294967296 ≡ n - 1 = omega arith in
    ap (λ v. bit_and v 15) one ∙ (and_mask (n - 1) 4 ∙ mod-eq_of_lt low)

module _ (app : Setting) (plan : Plan) (width : ℕ → Width) (low : ℕ) (ok : IsLayout app plan width low) where
  -- each place of a level's requests fits its cell
  pub code_bound : (fresh : List ℕ) (l i j : ℕ) → AreTasks app fresh → i < plan.room l → mark_at plan.mark (fresh_at app l fresh) j < limit_of (width (plan.place (Waits l i)))
  code_bound [] l i j h lt = limit_positive (width (plan.place (Waits l i)))
  code_bound (t ∷ ts) l i j h lt = go (app.level t == l) refl j (λ k. code_bound ts l i k h.1 lt)
    where
      go : (b : Bool) → (app.level t == l) ≡ b → (j : ℕ) → ((k : ℕ) → mark_at plan.mark (fresh_at app l ts) k < limit_of (width (plan.place (Waits l i)))) → mark_at plan.mark (if b then Fresh t ∷ fresh_at app l ts else fresh_at app l ts) j < limit_of (width (plan.place (Waits l i)))
      go true e zero ih =
          let same : app.level t ≡ l = grind (arith, nat_tests) in
          ok.mark_wide t l i (ok.tasks t h.0) same lt
      go true e (suc k) ih = ih k
      go false e k ih = ih k

  module _ (cells : ℕ → ℕ) (m : Stacked ℕ Bits) (holds : (s : Slot) → IsValid app plan s → cells (plan.place s) ≡ view app plan m s) where
    -- the value of what is set, or else what stood there
    abbrev pub set_or : ℕ → Option Term → ℕ
    set_or old None = old
    set_or old (Some t) = value_in width cells t

    pub cell_is : (s : Slot) → IsValid app plan s → value_in width cells (cell app plan s) ≡ view app plan m s
    cell_is s v = extended_false (width (plan.place s)) (cells (plan.place s)) ∙ holds s v

    more_is : (t : ℕ) → t < plan.tasks → times t (whos m.stack) + times t m.fresh < app.limit t → value_in width cells (more app plan t) ≡ times t (whos m.stack) + times t m.fresh + 1
    more_is t lt room = go (app.limit t == 1) refl
      where
        n : ℕ
        n = times t (whos m.stack) + times t m.fresh

        go : (b : Bool) → (app.limit t == 1) ≡ b → value_in width cells (if b then Const 1 else Bin bin.And (Bin bin.Add (cell app plan (Count t)) (Const 1)) (Const 15)) ≡ times t (whos m.stack) + times t m.fresh + 1
        go true e =
            let one : app.limit t ≡ 1 = grind (arith, nat_tests) in
            omega arith
        go false e =
            let few = ok.few t in
            let small : times t (whos m.stack) + times t m.fresh < 8 = omega arith in
            ap (λ v. bit_and ((v + 1) % 2 ^ 32) 15) (cell_is (Count t) lt) ∙ small_more (times t (whos m.stack) + times t m.fresh) small

    fewer_is : (t : ℕ) → t < plan.tasks → 0 < times t (whos m.stack) + times t m.fresh → times t (whos m.stack) + times t m.fresh ≤ app.limit t → value_in width cells (fewer app plan t) ≡ times t (whos m.stack) + times t m.fresh - 1
    fewer_is t lt some within = go (app.limit t == 1) refl
      where
        go : (b : Bool) → (app.limit t == 1) ≡ b → value_in width cells (if b then Const 0 else Bin bin.And (Bin bin.Sub (cell app plan (Count t)) (Const 1)) (Const 15)) ≡ times t (whos m.stack) + times t m.fresh - 1
        go true e =
            let one : app.limit t ≡ 1 = grind (arith, nat_tests) in
            omega arith
        go false e =
            let few = ok.few t in
            let small : times t (whos m.stack) + times t m.fresh ≤ 8 = omega arith in
            ap (λ v. bit_and ((v + (2 ^ 32 - 1)) % 2 ^ 32) 15) (cell_is (Count t) lt) ∙ small_fewer (times t (whos m.stack) + times t m.fresh) some small

    module _ (l : ℕ) (level : l ≤ app.top) (fits : length (fresh_at app l m.fresh) ≤ plan.room l) where
      place_is : (i : ℕ) → i < plan.room l → value_in width cells (cell app plan (Waits l i)) ≡ mark_at plan.mark (fresh_at app l m.fresh) i
      place_is i lt = cell_is (Waits l i) (level, lt)

      taken_is : (i : ℕ) → i < plan.room l → value_in width cells (taken_at app plan l i) ≡ mark_at plan.mark (fresh_at app l m.fresh) (suc i)
      taken_is i lt = go (nat_lt (i + 1) (plan.room l)) refl
        where
          go : (b : Bool) → nat_lt (i + 1) (plan.room l) ≡ b → value_in width cells (if b then cell app plan (Waits l (i + 1)) else Const 0) ≡ mark_at plan.mark (fresh_at app l m.fresh) (suc i)
          go true e =
              let inside : i + 1 < plan.room l = grind (arith, nat_tests) in
              place_is (i + 1) inside ∙ ap (mark_at plan.mark (fresh_at app l m.fresh)) (add-one i)
          go false e =
              let past : plan.room l ≤ suc i = grind (arith, nat_tests) in
              sym (mark_at-end plan.mark ok.mark_positive (fresh_at app l m.fresh) (suc i) (omega arith))

      empty_is : (i n : ℕ) → i < plan.room l → value_in width cells (empty_place app plan l i n) ≡ vacant plan.mark (fresh_at app l m.fresh) i n
      empty_is zero n lt = refl
      empty_is (suc i) n lt = ap (λ v. if truth v then n else 0) (place_is i (omega arith))

      put_is : (i x : ℕ) → i < plan.room l → value_in width cells (put_at app plan l i (plan.mark x)) ≡ mark_at plan.mark (fresh_at app l m.fresh ++ Fresh x ∷ []) i
      put_is i x lt =
          ap₂ (λ v w. if truth v then v else w) (place_is i lt) (empty_is i (plan.mark x) lt)
          ∙ sym (mark_at-append plan.mark ok.mark_positive (fresh_at app l m.fresh) x i)

      shifted_is : (i x : ℕ) → i < plan.room l → value_in width cells (shifted_at app plan l i (plan.mark x)) ≡ mark_at plan.mark (tail (fresh_at app l m.fresh ++ Fresh x ∷ [])) i
      shifted_is i x lt =
          ap₂ (λ v w. if truth v then v else (if truth w then plan.mark x else 0)) (taken_is i lt) (place_is i lt)
          ∙ (sym (mark_at-append plan.mark ok.mark_positive (fresh_at app l m.fresh) x (suc i))
          ∙ sym (mark_at-tail plan.mark ok.mark_positive (fresh_at app l m.fresh ++ Fresh x ∷ []) i))

      -- what is set at a place, and what stood there where nothing is set
      waits_is : (c : Change) (i : ℕ) → i < plan.room l → set_or (cells (plan.place (Waits l i))) (waits_set app plan c l i) ≡ mark_at plan.mark (waits_after app c l (fresh_at app l m.fresh)) i
      waits_is c i lt = go (is_level app c.takes l) (is_level app c.puts l) refl c.puts refl
        where
          go : (a b : Bool) → is_level app c.puts l ≡ b → (o : Option ℕ) → c.puts ≡ o → set_or (cells (plan.place (Waits l i))) (if a then (if b then Some (shifted_at app plan l i (mark_of plan o)) else Some (taken_at app plan l i)) else (if b then Some (put_at app plan l i (mark_of plan o)) else None)) ≡ mark_at plan.mark (if a then (if b then tail (put_on o (fresh_at app l m.fresh)) else tail (fresh_at app l m.fresh)) else (if b then put_on o (fresh_at app l m.fresh) else fresh_at app l m.fresh)) i
          go true true e (Some x) p = shifted_is i x lt
          go true true e None p = absurd (let z : false ≡ true = ap (λ o. is_level app o l) (sym p) ∙ e in cc)
          go true false e o p =
              taken_is i lt ∙ sym (mark_at-tail plan.mark ok.mark_positive (fresh_at app l m.fresh) i)
          go false true e (Some x) p = put_is i x lt
          go false true e None p = absurd (let z : false ≡ true = ap (λ o. is_level app o l) (sym p) ∙ e in cc)
          go false false e o p = holds (Waits l i) (level, lt)

    -- what is set fits
    set_small : (q old : ℕ) (o : Option Term) (n : ℕ) → set_or old o ≡ n → n < limit_of (width q) → unwrap_or (as_set width cells q o) old ≡ n
    set_small q old None n is lt = is
    set_small q old (Some t) n is lt =
        let fits : value_in width cells t < limit_of (width q) = omega arith in
        mod-eq_of_lt fits ∙ is

    on_is : (c : Change) (x : ℕ) → x < plan.tasks → unwrap_or (as_set width cells (plan.place (On x)) (on_set c x)) (cells (plan.place (On x))) ≡ on_after c x (times x (whos m.stack))
    on_is c x lt = go (is_it c.starts x) (is_it c.leaves x)
      where
        go : (a b : Bool) → unwrap_or (as_set width cells (plan.place (On x)) (if a then Some (Const 1) else (if b then Some (Const 0) else None))) (cells (plan.place (On x))) ≡ (if a then 1 else (if b then 0 else times x (whos m.stack)))
        go true b = mod-eq_of_lt (ok.on_wide x lt)
        go false true = mod-eq_of_lt (limit_positive (width (plan.place (On x))))
        go false false = holds (On x) lt

    count_is : (m' : Stacked ℕ Bits) (c : Change) (t : ℕ) → IsChange app plan c m m' → ((u : ℕ) → u < plan.tasks → times u (whos m.stack) + times u m.fresh ≤ app.limit u) → t < plan.tasks → set_or (cells (plan.place (Count t))) (count_set app plan c t) ≡ count_after c t (times t (whos m.stack) + times t m.fresh)
    count_is m' c t change limits lt = go (is_it c.asks t) (is_it c.ends t) refl refl
      where
        go : (a b : Bool) → is_it c.asks t ≡ a → is_it c.ends t ≡ b → set_or (cells (plan.place (Count t))) (if a then (if b then None else Some (more app plan t)) else (if b then Some (fewer app plan t) else None)) ≡ (if a then (if b then times t (whos m.stack) + times t m.fresh else times t (whos m.stack) + times t m.fresh + 1) else (if b then times t (whos m.stack) + times t m.fresh - 1 else times t (whos m.stack) + times t m.fresh))
        go true true e f = holds (Count t) lt
        go true false e f = more_is t lt (change.asked t e f)
        go false true e f = fewer_is t lt (change.ended t f) (limits t lt)
        go false false e f = holds (Count t) lt

    held_is : (c : Change) (r : ℕ) → r < plan.resources → unwrap_or (as_set width cells (plan.place (Held r)) (held_set c r)) (cells (plan.place (Held r))) ≡ held_after c r (held_times r m.stack)
    held_is c r lt = go (is_second c.gets r) (is_second c.releases r)
      where
        go : (a b : Bool) → unwrap_or (as_set width cells (plan.place (Held r)) (if a then Some (Const 1) else (if b then Some (Const 0) else None))) (cells (plan.place (Held r))) ≡ (if a then 1 else (if b then 0 else held_times r m.stack))
        go true b = mod-eq_of_lt (ok.held_wide r lt)
        go false true = mod-eq_of_lt (limit_positive (width (plan.place (Held r))))
        go false false = holds (Held r) lt

    kept_is : (c : Change) (e i : ℕ) → e < plan.tasks → i < plan.resources → length (held_of e m.stack) ≤ plan.resources → set_or (cells (plan.place (Kept e i))) (kept_set app plan c e i) ≡ kept_at (kept_after c e (held_of e m.stack)) i
    kept_is c e i le li short = go (is_first c.gets e) (is_first c.releases e)
      where
        pushed : (r k : ℕ) → k < plan.resources → value_in width cells (pushed_at app plan e r k) ≡ kept_at (r ∷ held_of e m.stack) k
        pushed r zero lt = refl
        pushed r (suc k) lt = cell_is (Kept e k) (le, omega arith)

        popped : (b : Bool) → nat_lt (i + 1) plan.resources ≡ b → value_in width cells (if b then cell app plan (Kept e (i + 1)) else Const 0) ≡ kept_at (tail (held_of e m.stack)) i
        popped true k =
            let inside : i + 1 < plan.resources = grind (arith, nat_tests) in
            cell_is (Kept e (i + 1)) (le, inside) ∙ (ap (kept_at (held_of e m.stack)) (add-one i) ∙ sym (kept_at-tail (held_of e m.stack) i))
        popped false k =
            let past : plan.resources ≤ suc i = grind (arith, nat_tests) in
            sym (kept_at-tail (held_of e m.stack) i ∙ kept_at-end (held_of e m.stack) (suc i) (omega arith))

        go : (a b : Bool) → set_or (cells (plan.place (Kept e i))) (if a then Some (pushed_at app plan e (second_of c.gets) i) else (if b then Some (popped_at app plan e i) else None)) ≡ kept_at (if a then second_of c.gets ∷ held_of e m.stack else (if b then tail (held_of e m.stack) else held_of e m.stack)) i
        go true b = pushed (second_of c.gets) i li
        go false true = popped (nat_lt (i + 1) plan.resources) refl
        go false false = holds (Kept e i) (le, li)

    -- the slots hold what the machine has after a change
    pub holds_after : (m' : Stacked ℕ Bits) (c : Change) (own : List (ℕ × Term)) → IsChange app plan c m m' → AreTasks app m'.fresh → ((u : ℕ) → u < plan.tasks → times u (whos m.stack) + times u m.fresh ≤ app.limit u) → ((u : ℕ) → u < plan.tasks → times u (whos m'.stack) + times u m'.fresh ≤ app.limit u) → ((l : ℕ) → l ≤ app.top → length (fresh_at app l m.fresh) ≤ plan.room l) → ((e : ℕ) → length (held_of e m.stack) ≤ plan.resources) → ((e i : ℕ) → kept_at (held_of e m'.stack) i ≤ plan.resources) → ((q : ℕ) → low ≤ q → value_set width cells own q ≡ None) → (s : Slot) → IsValid app plan s → cell_after_sets width cells (own ++ change_sets app plan c) (plan.place s) ≡ view app plan m' s
    holds_after m' c own change tasks limits limits' rooms shorts codes below s v =
        ap (λ o. unwrap_or o (cells (plan.place s))) found ∙ here s v
      where
        found : value_set width cells (own ++ change_sets app plan c) (plan.place s) ≡ as_set width cells (plan.place s) (slot_set app plan c s)
        found =
            value_set-append width cells own (change_sets app plan c) (plan.place s)
            ∙ ap₂ or_else (below (plan.place s) (ok.apart.above s v)) (change_at width cells app plan low ok.apart c s v)

        here : (s : Slot) → IsValid app plan s → unwrap_or (as_set width cells (plan.place s) (slot_set app plan c s)) (cells (plan.place s)) ≡ view app plan m' s
        here (On x) v = on_is c x v ∙ sym (change.on x v)
        here (Count t) v =
            let wide = ok.count_wide t v in
            let within = limits' t v in
            let fits : times t (whos m'.stack) + times t m'.fresh < limit_of (width (plan.place (Count t))) = omega arith in
            set_small (plan.place (Count t)) (cells (plan.place (Count t))) (count_set app plan c t) (times t (whos m'.stack) + times t m'.fresh) (count_is m' c t change limits v ∙ sym (change.count t v)) fits
        here (Waits l i) v =
            set_small (plan.place (Waits l i)) (cells (plan.place (Waits l i))) (waits_set app plan c l i) (mark_at plan.mark (fresh_at app l m'.fresh) i)
            (waits_is l v.0 (rooms l v.0) c i v.1 ∙ ap (λ es. mark_at plan.mark es i) (sym (change.waits l)))
            (code_bound m'.fresh l i i tasks v.1)
        here (Held r) v = held_is c r v ∙ sym (change.held r v)
        here (Kept e i) v =
            let wide = ok.kept_wide e i v.0 v.1 in
            let code = codes e i in
            let fits : kept_at (held_of e m'.stack) i < limit_of (width (plan.place (Kept e i))) = omega arith in
            set_small (plan.place (Kept e i)) (cells (plan.place (Kept e i))) (kept_set app plan c e i) (kept_at (held_of e m'.stack) i)
            (kept_is c e i v.0 v.1 (shorts e) ∙ ap (λ rs. kept_at rs i) (sym (change.kept e v.0)))
            fits
