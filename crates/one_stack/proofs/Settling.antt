-- The guards of the alternatives of an end: exactly that of the task that the settling pushes is open.
use Rattle.std.proofs.Common.{◌≡◌, ◌≢◌, ℕ, zero, suc, ◌+◌, ◌<◌, ◌≤◌, Bool, true, false, List, [], ◌∷◌, ◌++◌, Option, Some, None, refl, sym, ap, subst, ◌∙◌, arith, nat_lt, ◌==◌, if◌then◌else◌, append-nil}
use Rattle.std.proofs.lemmas.Bool.Decides.{nat_tests}
use Rattle.chk_base.specs.Operators.{truth, one_if}
use Rattle.chk_base.specs.Term.{Term, Const}
use Rattle.chk_base.specs.declared.word.Width.{Width}
use Rattle.guard_prog.specs.GuardedRun.{value_in}
use Rattle.one_stack.proofs.Kept.{put_on, IsLayout, cell_is, marked}
use Rattle.one_stack.proofs.Slots.{IsValid}
use Rattle.one_stack.proofs.Values.{truth-one_if, negated_true}
use Rattle.one_stack.specs.Built.{view, mark_at, task_of, held_times}
use Rattle.one_stack.specs.Rules.{Slot, On, Waits, Held, Plan, is_level, cell, both, either, negated, none_at, first_is, none_after, first_after, none_above, none_of, runs_at, ceiling_at, may_start}
use Rattle.step_ir.proofs.Lists.{fresh_at-append, foremost_some, foremost_none}
use Rattle.step_ir.proofs.Stacks.{current_above}
use Rattle.step_ir.specs.Agreement.{fresh_at, Rises, IsForemost}
use Rattle.step_ir.specs.Numbers.{times}
use Rattle.step_ir.specs.OneStackMachine.{Stacked, Frame, whos}
use Rattle.step_ir.specs.PointStep.{Bits}
use Rattle.step_ir.specs.SchedulerState.{Entry, Fresh}
use Rattle.step_ir.specs.Setting.{Setting, foremost, current, IsSound, AreTasks}

-- the fresh requests after one was put last
abbrev pub requested : Option ℕ → List ℕ → List ℕ
requested None fresh = fresh
requested (Some x) fresh = fresh ++ x ∷ []

abbrev pub no_entries : List Entry → Bool
no_entries [] = true
no_entries (e ∷ es) = false

abbrev pub heads : ℕ → List Entry → Bool
heads t [] = false
heads t (e ∷ es) = task_of e == t

pub requested_at : (app : Setting) (x : Option ℕ) (fresh : List ℕ) (l : ℕ) → fresh_at app l (requested x fresh) ≡ (if is_level app x l then put_on x (fresh_at app l fresh) else fresh_at app l fresh)
requested_at app None fresh l = refl
requested_at app (Some x) fresh l = fresh_at-append app l fresh x ∙ go (app.level x == l)
  where
    go : (b : Bool) → fresh_at app l fresh ++ (if b then Fresh x ∷ [] else []) ≡ (if b then fresh_at app l fresh ++ Fresh x ∷ [] else fresh_at app l fresh)
    go true = refl
    go false = append-nil (fresh_at app l fresh)

-- the requests of a level are tasks of that level
pub head_level : (app : Setting) (fresh : List ℕ) (l : ℕ) (e : Entry) (es : List Entry) → fresh_at app l fresh ≡ e ∷ es → app.level (task_of e) ≡ l
head_level app [] l e es h = absurd (let z : ◌≡◌ {A = List Entry} [] (e ∷ es) = h in cc)
head_level app (t ∷ ts) l e es h = go (app.level t == l) refl h (λ k. head_level app ts l e es k)
  where
    go : (b : Bool) → (app.level t == l) ≡ b → (if b then Fresh t ∷ fresh_at app l ts else fresh_at app l ts) ≡ e ∷ es → (fresh_at app l ts ≡ e ∷ es → app.level (task_of e) ≡ l) → app.level (task_of e) ≡ l
    go true b k ih =
        let same : app.level t ≡ l = grind (arith, nat_tests) in
        let is : Fresh t ≡ e = cc in
        subst (λ y. app.level (task_of y) ≡ l) is same
    go false b k ih = ih k

-- their current levels are below this level
abbrev pub AllLow : Setting → ℕ → List (Frame ℕ) → Type 0
AllLow app l [] = Unit {0}
AllLow app l (f ∷ fs) = (current app f.who f.held < l) × AllLow app l fs

pub times_low : (app : Setting) (l u : ℕ) (fs : List (Frame ℕ)) → l ≤ app.run_level u → AllLow app l fs → times u (whos fs) ≡ 0
times_low app l u [] h low = refl
times_low app l u (f ∷ fs) h low =
    let differ : f.who ≢ u = λ z. absurd (omega (arith, ap app.run_level z, current_above app f.who f.held, low.0)) in
    let rest = times_low app l u fs h low.1 in
    grind (arith, nat_tests)

-- a resource that is held is no higher than the current level
pub ceiling_low : (app : Setting) (e l r : ℕ) (rs : List ℕ) → l ≤ app.ceiling r → current app e rs < l → times r rs ≡ 0
ceiling_low app e l r [] h low = refl
ceiling_low app e l r (x ∷ xs) h low =
    let differ : x ≢ r = λ z. absurd (omega (arith, ap app.ceiling z)) in
    let rest = ceiling_low app e l r xs h (omega arith) in
    grind (arith, nat_tests)

pub held_low : (app : Setting) (l r : ℕ) (fs : List (Frame ℕ)) → l ≤ app.ceiling r → AllLow app l fs → held_times r fs ≡ 0
held_low app l r [] h low = refl
held_low app l r (f ∷ fs) h low =
    let one = ceiling_low app f.who l r f.held h low.0 in
    let rest = held_low app l r fs h low.1 in
    omega arith

module _ (app : Setting) (plan : Plan) (width : ℕ → Width) (low : ℕ) (ok : IsLayout app plan width low) (cells : ℕ → ℕ) (m : Stacked ℕ Bits) (holds : (s : Slot) → IsValid app plan s → cells (plan.place s) ≡ view app plan m s) where
  v : Term → ℕ
  v t = value_in width cells t

  first_cell : (t : ℕ) → t < plan.tasks → value_in width cells (cell app plan (Waits (app.level t) 0)) ≡ mark_at plan.mark (fresh_at app (app.level t) m.fresh) 0
  first_cell t lt =
      cell_is app plan width low ok cells m holds (Waits (app.level t) 0) (ok.levels t lt, ok.roomy t lt)

  none_at_is : (t : ℕ) → t < plan.tasks → truth (value_in width cells (none_at app plan (app.level t))) ≡ no_entries (fresh_at app (app.level t) m.fresh)
  none_at_is t lt = ap (λ n. truth (one_if (n == 0))) (first_cell t lt) ∙ go (fresh_at app (app.level t) m.fresh)
    where
      go : (es : List Entry) → truth (one_if (mark_at plan.mark es 0 == 0)) ≡ no_entries es
      go [] = refl
      go (e ∷ es) = negated_true (plan.mark (task_of e)) (marked plan.mark ok.mark_positive (task_of e))

  first_is_is : (t : ℕ) → t < plan.tasks → truth (value_in width cells (first_is app plan t)) ≡ heads t (fresh_at app (app.level t) m.fresh)
  first_is_is t lt =
      truth-one_if (value_in width cells (cell app plan (Waits (app.level t) 0)) == plan.mark t)
      ∙ (ap (λ n. n == plan.mark t) (first_cell t lt) ∙ go (fresh_at app (app.level t) m.fresh) refl)
    where
      go : (es : List Entry) → fresh_at app (app.level t) m.fresh ≡ es → (mark_at plan.mark es 0 == plan.mark t) ≡ heads t es
      go [] is =
          let p = ok.mark_positive t in
          grind (arith, nat_tests)
      go (e ∷ es) is = same (task_of e == t) refl
        where
          same : (b : Bool) → (task_of e == t) ≡ b → (plan.mark (task_of e) == plan.mark t) ≡ b
          same true z =
              let one : task_of e ≡ t = grind (arith, nat_tests) in
              let two : plan.mark (task_of e) ≡ plan.mark t = ap plan.mark one in
              grind (arith, nat_tests)
          same false z =
              let differ : task_of e ≢ t = grind (arith, nat_tests) in
              let apart : plan.mark (task_of e) ≢ plan.mark t = λ k. differ (ok.marks (task_of e) t (head_level app m.fresh (app.level t) e es is) k) in
              grind (arith, nat_tests)

  -- after a request was put
  none_after_is : (x : Option ℕ) (t : ℕ) → t < plan.tasks → truth (value_in width cells (none_after app plan x (app.level t))) ≡ no_entries (fresh_at app (app.level t) (requested x m.fresh))
  none_after_is x t lt =
      go x (is_level app x (app.level t)) refl ∙ ap no_entries (sym (requested_at app x m.fresh (app.level t)))
    where
      some : (es : List Entry) (y : ℕ) → false ≡ no_entries (es ++ Fresh y ∷ [])
      some [] y = refl
      some (e ∷ es) y = refl

      go : (o : Option ℕ) (b : Bool) → is_level app o (app.level t) ≡ b → truth (value_in width cells (if b then Const 0 else none_at app plan (app.level t))) ≡ no_entries (if b then put_on o (fresh_at app (app.level t) m.fresh) else fresh_at app (app.level t) m.fresh)
      go (Some y) true e = some (fresh_at app (app.level t) m.fresh) y
      go None true e = absurd (let z : false ≡ true = e in cc)
      go o false e = none_at_is t lt

  first_after_is : (x : Option ℕ) (t : ℕ) → t < plan.tasks → truth (value_in width cells (first_after app plan x t)) ≡ heads t (fresh_at app (app.level t) (requested x m.fresh))
  first_after_is x t lt = go x ∙ ap (heads t) (sym (requested_at app x m.fresh (app.level t)))
    where
      -- the task itself was put
      itself : (es : List Entry) (a b : ℕ) → truth a ≡ no_entries es → truth b ≡ heads t es → truth (if truth a then 1 else b) ≡ heads t (es ++ Fresh t ∷ [])
      itself [] a b ha hb = ap (λ c. truth (if c then 1 else b)) ha ∙ (let z : true ≡ (t == t) = grind (arith, nat_tests) in z)
      itself (e ∷ es) a b ha hb = ap (λ c. truth (if c then 1 else b)) ha ∙ hb

      other : (es : List Entry) (y : ℕ) → (y == t) ≡ false → heads t es ≡ heads t (es ++ Fresh y ∷ [])
      other [] y e = sym e
      other (e ∷ es) y z = refl

      level_same : (y : ℕ) → (y == t) ≡ true → (app.level y == app.level t) ≡ true
      level_same y e =
          let same : y ≡ t = grind (arith, nat_tests) in
          let levels : app.level y ≡ app.level t = ap app.level same in
          grind (arith, nat_tests)

      go : (o : Option ℕ) → truth (value_in width cells (first_after app plan o t)) ≡ heads t (if is_level app o (app.level t) then put_on o (fresh_at app (app.level t) m.fresh) else fresh_at app (app.level t) m.fresh)
      go None = first_is_is t lt
      go (Some y) = step (y == t) refl
        where
          step : (b : Bool) → (y == t) ≡ b → truth (value_in width cells (if b then either (none_at app plan (app.level t)) (first_is app plan t) else first_is app plan t)) ≡ heads t (if app.level y == app.level t then fresh_at app (app.level t) m.fresh ++ Fresh y ∷ [] else fresh_at app (app.level t) m.fresh)
          step true e =
              let same : t ≡ y = grind (arith, nat_tests) in
              itself (fresh_at app (app.level t) m.fresh) (value_in width cells (none_at app plan (app.level t))) (value_in width cells (first_is app plan t)) (none_at_is t lt) (first_is_is t lt)
              ∙ (ap (λ z. heads t (fresh_at app (app.level t) m.fresh ++ Fresh z ∷ [])) same
              ∙ ap (λ b. heads t (if b then fresh_at app (app.level t) m.fresh ++ Fresh y ∷ [] else fresh_at app (app.level t) m.fresh)) (sym (level_same y e)))
          step false e = first_is_is t lt ∙ pick (app.level y == app.level t)
            where
              pick : (b : Bool) → heads t (fresh_at app (app.level t) m.fresh) ≡ heads t (if b then fresh_at app (app.level t) m.fresh ++ Fresh y ∷ [] else fresh_at app (app.level t) m.fresh)
              pick true = other (fresh_at app (app.level t) m.fresh) y e
              pick false = refl

  -- no task of a higher level waits
  none_above_true : (x : Option ℕ) (l n : ℕ) → n ≤ plan.tasks → ((u : ℕ) → u < n → l < app.level u → no_entries (fresh_at app (app.level u) (requested x m.fresh)) ≡ true) → truth (value_in width cells (none_above app plan x l n)) ≡ true
  none_above_true x l zero le h = refl
  none_above_true x l (suc u) le h =
      go (nat_lt l (app.level u)) refl (none_above_true x l u (omega arith) (λ w lt. h w (omega arith)))
    where
      go : (b : Bool) → nat_lt l (app.level u) ≡ b → truth (value_in width cells (none_above app plan x l u)) ≡ true → truth (value_in width cells (if b then both (none_after app plan x (app.level u)) (none_above app plan x l u) else none_above app plan x l u)) ≡ true
      go true e ih =
          let up : l < app.level u = grind (arith, nat_tests) in
          let in_range : u < plan.tasks = omega arith in
          let here : truth (value_in width cells (none_after app plan x (app.level u))) ≡ true = none_after_is x u in_range ∙ h u (omega arith) up in
          ap (λ b. truth (if b then value_in width cells (none_above app plan x l u) else 0)) here ∙ ih
      go false e ih = ih

  none_above_false : (x : Option ℕ) (l n u : ℕ) → n ≤ plan.tasks → u < n → l < app.level u → no_entries (fresh_at app (app.level u) (requested x m.fresh)) ≡ false → truth (value_in width cells (none_above app plan x l n)) ≡ false
  none_above_false x l zero u le lt up h = absurd (omega arith)
  none_above_false x l (suc w) u le lt up h =
      go (nat_lt l (app.level w)) refl (w == u) refl (λ k. none_above_false x l w u (omega arith) k up h)
    where
      shut : (a b : ℕ) → truth b ≡ false → truth (if truth a then b else 0) ≡ false
      shut a b e = cases (truth a)
        where
          cases : (c : Bool) → truth (if c then b else 0) ≡ false
          cases true = e
          cases false = refl

      go : (b : Bool) → nat_lt l (app.level w) ≡ b → (c : Bool) → (w == u) ≡ c → (u < w → truth (value_in width cells (none_above app plan x l w)) ≡ false) → truth (value_in width cells (if b then both (none_after app plan x (app.level w)) (none_above app plan x l w) else none_above app plan x l w)) ≡ false
      go true e true f ih =
          let same : u ≡ w = grind (arith, nat_tests) in
          let in_range : w < plan.tasks = omega arith in
          let here : truth (value_in width cells (none_after app plan x (app.level w))) ≡ false = none_after_is x w in_range ∙ subst (λ z. no_entries (fresh_at app (app.level z) (requested x m.fresh)) ≡ false) same h in
          ap (λ b. truth (if b then value_in width cells (none_above app plan x l w) else 0)) here
      go true e false f ih =
          let differ : w ≢ u = grind (arith, nat_tests) in
          shut (value_in width cells (none_after app plan x (app.level w))) (value_in width cells (none_above app plan x l w)) (ih (omega arith))
      go false e true f ih =
          let same : u ≡ w = grind (arith, nat_tests) in
          let levels : app.level u ≡ app.level w = ap app.level same in
          absurd (grind (arith, nat_tests))
      go false e false f ih =
          let differ : w ≢ u = grind (arith, nat_tests) in
          ih (omega arith)

  shut_left : (a b : ℕ) → truth a ≡ false → truth (if truth a then b else 0) ≡ false
  shut_left a b e = ap (λ c. truth (if c then b else 0)) e

  shut_right : (a b : ℕ) → truth b ≡ false → truth (if truth a then b else 0) ≡ false
  shut_right a b e = cases (truth a)
    where
      cases : (c : Bool) → truth (if c then b else 0) ≡ false
      cases true = e
      cases false = refl

  open_both : (a b : ℕ) → truth a ≡ true → truth b ≡ true → truth (if truth a then b else 0) ≡ true
  open_both a b e f = ap (λ c. truth (if c then b else 0)) e ∙ f

  -- of these slots, which hold these numbers, none that is tested is set
  pub none_of_true : (slot : ℕ → Slot) (test : ℕ → Bool) (holds_n : ℕ → ℕ) (n : ℕ) → ((u : ℕ) → u < n → value_in width cells (cell app plan (slot u)) ≡ holds_n u) → ((u : ℕ) → u < n → test u ≡ true → holds_n u ≡ 0) → truth (value_in width cells (none_of app plan slot test n)) ≡ true
  none_of_true slot test holds_n zero is none = refl
  none_of_true slot test holds_n (suc u) is none =
      go (test u) refl (none_of_true slot test holds_n u (λ w lt. is w (omega arith)) (λ w lt. none w (omega arith)))
    where
      go : (b : Bool) → test u ≡ b → truth (value_in width cells (none_of app plan slot test u)) ≡ true → truth (value_in width cells (if b then both (negated (cell app plan (slot u))) (none_of app plan slot test u) else none_of app plan slot test u)) ≡ true
      go true e ih =
          let here : value_in width cells (negated (cell app plan (slot u))) ≡ 1 = ap (λ k. one_if (k == 0)) (is u (omega arith) ∙ none u (omega arith) e) in
          ap (λ k. truth (if truth k then value_in width cells (none_of app plan slot test u) else 0)) here ∙ ih
      go false e ih = ih

  pub none_of_false : (slot : ℕ → Slot) (test : ℕ → Bool) (holds_n : ℕ → ℕ) (n u : ℕ) → ((w : ℕ) → w < n → value_in width cells (cell app plan (slot w)) ≡ holds_n w) → u < n → test u ≡ true → 0 < holds_n u → truth (value_in width cells (none_of app plan slot test n)) ≡ false
  none_of_false slot test holds_n zero u is lt t some = absurd (omega arith)
  none_of_false slot test holds_n (suc w) u is lt t some =
      go (test w) refl (w == u) refl (λ k. none_of_false slot test holds_n w u (λ x l. is x (omega arith)) k t some)
    where
      go : (b : Bool) → test w ≡ b → (c : Bool) → (w == u) ≡ c → (u < w → truth (value_in width cells (none_of app plan slot test w)) ≡ false) → truth (value_in width cells (if b then both (negated (cell app plan (slot w))) (none_of app plan slot test w) else none_of app plan slot test w)) ≡ false
      go true e true f ih =
          let same : u ≡ w = grind (arith, nat_tests) in
          let some' : 0 < holds_n w = subst (λ z. 0 < holds_n z) same some in
          let here : truth (value_in width cells (negated (cell app plan (slot w)))) ≡ false =
          ap (λ k. truth (one_if (k == 0))) (is w (omega arith)) ∙ (let no : (holds_n w == 0) ≡ false = grind (arith, nat_tests) in ap (λ b. truth (one_if b)) no) in
          shut_left (value_in width cells (negated (cell app plan (slot w)))) (value_in width cells (none_of app plan slot test w)) here
      go true e false f ih =
          let differ : w ≢ u = grind (arith, nat_tests) in
          shut_right (value_in width cells (negated (cell app plan (slot w)))) (value_in width cells (none_of app plan slot test w)) (ih (omega arith))
      go false e true f ih =
          let same : u ≡ w = grind (arith, nat_tests) in
          absurd (let z : true ≡ false = sym t ∙ (ap test same ∙ e) in cc)
      go false e false f ih =
          let differ : w ≢ u = grind (arith, nat_tests) in
          ih (omega arith)

  pub on_cell : (u : ℕ) → u < plan.tasks → value_in width cells (cell app plan (On u)) ≡ times u (whos m.stack)
  on_cell u lt = cell_is app plan width low ok cells m holds (On u) lt

  pub held_cell : (r : ℕ) → r < plan.resources → value_in width cells (cell app plan (Held r)) ≡ held_times r m.stack
  held_cell r lt = cell_is app plan width low ok cells m holds (Held r) lt

  pub none_shut : (x : Option ℕ) (t c : ℕ) → t < plan.tasks → foremost app (requested x m.fresh) ≡ None → truth (if truth (value_in width cells (first_after app plan x t)) then c else 0) ≡ false
  none_shut x t c lt none =
      shut_left (value_in width cells (first_after app plan x t)) c (first_after_is x t lt ∙ ap (λ ts. heads t (fresh_at app (app.level t) ts)) (foremost_none app (requested x m.fresh) none))

  -- where no request is left
  pub start_none : (e : ℕ) (x : Option ℕ) (t : ℕ) → t < plan.tasks → foremost app (requested x m.fresh) ≡ None → truth (value_in width cells (may_start app plan e x t)) ≡ false
  start_none e x t lt none =
      shut_left (value_in width cells (first_after app plan x t)) _ (first_after_is x t lt ∙ ap (λ ts. heads t (fresh_at app (app.level t) ts)) (foremost_none app (requested x m.fresh) none))

  module _ (sound : IsSound app) (f : Frame ℕ) (below : List (Frame ℕ)) (stack : m.stack ≡ f ∷ below) (rises : Rises app (f ∷ below)) (x : Option ℕ) (fresh : AreTasks app (requested x m.fresh)) (t : ℕ) (first : foremost app (requested x m.fresh) ≡ Some t) where
    most : IsForemost app (requested x m.fresh) t
    most = foremost_some app (requested x m.fresh) t first

    pub in_range : t < plan.tasks
    in_range = ok.tasks t (most.task fresh)

    -- the first of greatest level starts where its level is above what stands below, and the one that ends holds nothing
    pub start_here : f.held ≡ [] → AllLow app (app.level t) below → truth (value_in width cells (may_start app plan f.who x t)) ≡ true
    start_here empty lows =
        open_both (value_in width cells (first_after app plan x t)) _
        (first_after_is x t in_range ∙ (ap (heads t) most.same ∙ (let z : (t == t) ≡ true = grind (arith, nat_tests) in z)))
        (open_both (value_in width cells (none_above app plan x (app.level t) plan.tasks)) _
        (none_above_true x (app.level t) plan.tasks (omega arith) (λ u lt higher. ap no_entries (most.above (app.level u) higher)))
        (open_both (value_in width cells (none_of app plan On (runs_at app plan (app.level t) (app.level f.who)) plan.tasks)) _
        (none_of_true On (runs_at app plan (app.level t) (app.level f.who)) (λ u. times u (whos m.stack)) plan.tasks on_cell nobody)
        (none_of_true Held (ceiling_at app plan (app.level t) (app.level f.who)) (λ r. held_times r m.stack) plan.resources held_cell nothing)))
      where
        nobody : (u : ℕ) → u < plan.tasks → runs_at app plan (app.level t) (app.level f.who) u ≡ true → times u (whos m.stack) ≡ 0
        nobody u lt e =
            let above : app.level t ≤ app.run_level u = grind (arith, nat_tests) in
            let under : app.level u < app.level f.who = grind (arith, nat_tests) in
            let differ : f.who ≢ u = λ z. absurd (omega (arith, ap app.level z)) in
            let rest : times u (whos below) ≡ 0 = times_low app (app.level t) u below above lows in
            ap (λ fs. times u (whos fs)) stack ∙ (let z : times u (whos (f ∷ below)) ≡ 0 = grind (arith, nat_tests) in z)

        nothing : (r : ℕ) → r < plan.resources → ceiling_at app plan (app.level t) (app.level f.who) r ≡ true → held_times r m.stack ≡ 0
        nothing r lt e =
            let above : app.level t ≤ app.ceiling r = grind (arith, nat_tests) in
            let one : held_times r m.stack ≡ times r f.held + held_times r below = ap (held_times r) stack in
            let two : times r f.held ≡ 0 = ap (times r) empty in
            let three = held_low app (app.level t) r below above lows in
            omega arith

    -- no other task is first and has none above
    pub other_shut : (u c : ℕ) → u < plan.tasks → u ≢ t → truth (if truth (value_in width cells (first_after app plan x u)) then (if truth (value_in width cells (none_above app plan x (app.level u) plan.tasks)) then c else 0) else 0) ≡ false
    other_shut u c lt differ = cases (nat_lt (app.level u) (app.level t)) refl (app.level u == app.level t) refl
      where
        cases : (a : Bool) → nat_lt (app.level u) (app.level t) ≡ a → (b : Bool) → (app.level u == app.level t) ≡ b → truth (if truth (value_in width cells (first_after app plan x u)) then (if truth (value_in width cells (none_above app plan x (app.level u) plan.tasks)) then c else 0) else 0) ≡ false
        cases true e b g =
            let up : app.level u < app.level t = grind (arith, nat_tests) in
            shut_right (value_in width cells (first_after app plan x u)) _
            (shut_left (value_in width cells (none_above app plan x (app.level u) plan.tasks)) c
            (none_above_false x (app.level u) plan.tasks t (omega arith) in_range up (ap no_entries most.same)))
        cases false e true g =
            let same : app.level u ≡ app.level t = grind (arith, nat_tests) in
            shut_left (value_in width cells (first_after app plan x u)) _
            (first_after_is x u lt
            ∙ (ap (λ l. heads u (fresh_at app l (requested x m.fresh))) same
            ∙ (ap (heads u) most.same ∙ (let z : (t == u) ≡ false = grind (arith, nat_tests) in z))))
        cases false e false g =
            let up : app.level t < app.level u = grind (arith, nat_tests) in
            shut_left (value_in width cells (first_after app plan x u)) _
            (first_after_is x u lt ∙ ap (heads u) (most.above (app.level u) up))

    -- the first is, and has none above
    pub first_open : (c : ℕ) → truth c ≡ true → truth (if truth (value_in width cells (first_after app plan x t)) then (if truth (value_in width cells (none_above app plan x (app.level t) plan.tasks)) then c else 0) else 0) ≡ true
    first_open c h =
        open_both (value_in width cells (first_after app plan x t)) _
        (first_after_is x t in_range ∙ (ap (heads t) most.same ∙ (let z : (t == t) ≡ true = grind (arith, nat_tests) in z)))
        (open_both (value_in width cells (none_above app plan x (app.level t) plan.tasks)) c
        (none_above_true x (app.level t) plan.tasks (omega arith) (λ u lt higher. ap no_entries (most.above (app.level u) higher))) h)

    pub first_shut : (c : ℕ) → truth c ≡ false → truth (if truth (value_in width cells (first_after app plan x t)) then (if truth (value_in width cells (none_above app plan x (app.level t) plan.tasks)) then c else 0) else 0) ≡ false
    first_shut c h =
        shut_right (value_in width cells (first_after app plan x t)) _ (shut_right (value_in width cells (none_above app plan x (app.level t) plan.tasks)) c h)

    pub start_other : (u : ℕ) → u < plan.tasks → u ≢ t → truth (value_in width cells (may_start app plan f.who x u)) ≡ false
    start_other u lt differ = other_shut u _ lt differ

    -- nor does it where one that stands below runs at its level or a greater one, or holds a resource with such a ceiling
    pub start_blocked : (u : ℕ) → u < plan.tasks → app.level t ≤ app.run_level u → app.level u < app.level f.who → 0 < times u (whos m.stack) → truth (value_in width cells (may_start app plan f.who x t)) ≡ false
    start_blocked u lt above under some =
        shut_right (value_in width cells (first_after app plan x t)) _
        (shut_right (value_in width cells (none_above app plan x (app.level t) plan.tasks)) _
        (shut_left (value_in width cells (none_of app plan On (runs_at app plan (app.level t) (app.level f.who)) plan.tasks)) _
        (none_of_false On (runs_at app plan (app.level t) (app.level f.who)) (λ w. times w (whos m.stack)) plan.tasks u on_cell lt (grind (arith, nat_tests)) some)))

    pub start_held : (r : ℕ) → r < plan.resources → app.level t ≤ app.ceiling r → app.ceiling r < app.level f.who → 0 < held_times r m.stack → truth (value_in width cells (may_start app plan f.who x t)) ≡ false
    start_held r lt above under some =
        shut_right (value_in width cells (first_after app plan x t)) _
        (shut_right (value_in width cells (none_above app plan x (app.level t) plan.tasks)) _
        (shut_right (value_in width cells (none_of app plan On (runs_at app plan (app.level t) (app.level f.who)) plan.tasks)) _
        (none_of_false Held (ceiling_at app plan (app.level t) (app.level f.who)) (λ w. held_times w m.stack) plan.resources r held_cell lt (grind (arith, nat_tests)) some)))
