-- The end of a task, with or without a request that is put before: one alternative is open, and it does what the settling does.
use Rattle.std.proofs.Common.{◌≡◌, ◌≢◌, ℕ, zero, suc, ◌+◌, ◌<◌, ◌≤◌, Bool, true, false, ◌&&◌, ◌||◌, List, [], ◌∷◌, ◌++◌, Option, Some, None, refl, sym, ap, ap₂, subst, ◌∙◌, arith, nat_lt, nat_le, ◌==◌, if◌then◌else◌}
use Rattle.std.proofs.lemmas.Bool.Decides.{nat_tests}
use Rattle.chk_base.specs.Operators.{truth}
use Rattle.chk_base.specs.Term.{Term, Const}
use Rattle.guard_prog.specs.GuardedRun.{Program, State as Standing, value_in, stack_after}
use Rattle.guard_prog.specs.declared.draft.Control.TheVariants.{Pop, PopPush}
use Rattle.one_stack.proofs.Choosing.{first_rule}
use Rattle.one_stack.proofs.Kept.{IsChange, put_on}
use Rattle.one_stack.proofs.Meeting.{IsProgram, ArePlain, IsReached, Meets, IsLed, changes, limits_after, single_after}
use Rattle.one_stack.proofs.Settling.{requested, requested_at, AllLow, start_none, start_here, start_other, start_blocked, start_held, in_range}
use Rattle.one_stack.specs.Built.{places, held_times, held_of}
use Rattle.one_stack.specs.PlainCode.{PlainCode, steps_of}
use Rattle.one_stack.specs.Rules.{Plan, Rule, is_it, is_level, may_start, start_rule, start_rules, may_follow, no_lower, end_rules, end_change, change_sets, plain}
use Rattle.one_stack.specs.TaskForm.{IsTaskForm}
use Rattle.step_ir.proofs.Lists.{foremost_some, foremost_none}
use Rattle.step_ir.proofs.Stacks.{rises_below, times_below, current_above}
use Rattle.step_ir.specs.Agreement.{fresh_at, Rises, IsForemost}
use Rattle.step_ir.specs.Numbers.{times, tail, AreUnder}
use Rattle.step_ir.specs.OneStackMachine.{Stacked, Frame, whos, level_of_top, standing, standing_of_top, settle, settle_with, run_on, begun, without}
use Rattle.step_ir.specs.PointStep.{Bits}
use Rattle.step_ir.specs.SchedulerState.{Entry, Fresh}
use Rattle.step_ir.specs.Setting.{Setting, foremost, AreRoutines, IsSound, AreTasks, current}
use Rattle.step_ir.specs.declared.event.Choice.{Choice}

-- the first rule that counts leads to this state of the machine
pub record IsFired (app : Setting) (code : PlainCode) (plan : Plan) (p : Program) (s : Standing) (rules : List Rule) (m : Stacked ℕ Bits) : Type 0 where
  pub rule : Rule
  pub first : first_rule (value_in p.width s.cells) rules ≡ Some rule
  pub led : IsLed app code plan p s rule m

pub moved_pop : (plan : Plan) (depth t : ℕ) (below : List (Frame ℕ)) → stack_after depth Pop (t ∷ places plan below) ≡ Some (places plan below)
moved_pop plan depth t [] = refl
moved_pop plan depth t (g ∷ gs) = refl

pub moved_pop_push : (plan : Plan) (depth t q : ℕ) (below : List (Frame ℕ)) → stack_after depth (PopPush q) (t ∷ places plan below) ≡ Some (q ∷ places plan below)
moved_pop_push plan depth t q [] = refl
moved_pop_push plan depth t q (g ∷ gs) = refl

pub run_on_plain : (n : ℕ) (fs : List (Frame ℕ)) → ArePlain n fs → run_on fs ≡ fs
run_on_plain n [] h = refl
run_on_plain n (f ∷ fs) h = ap (λ y. record f { yielded = y } ∷ fs) (sym h.0)

pub held_none : (e : ℕ) (fs : List (Frame ℕ)) → times e (whos fs) ≡ 0 → held_of e fs ≡ []
held_none e [] h = refl
held_none e (g ∷ gs) h =
    let off : (g.who == e) ≡ false = grind (arith, nat_tests) in
    let rest : times e (whos gs) ≡ 0 = grind (arith, nat_tests) in
    ap (λ b. if b then g.held else held_of e gs) off ∙ held_none e gs rest

-- why a current level is at least this one
pub data Reason (app : Setting) (e l : ℕ) (rs : List ℕ) : Type 0 where
  Runs : l ≤ app.run_level e → Reason app e l rs
  Holds : (r : ℕ) → 0 < times r rs → l ≤ app.ceiling r → Reason app e l rs

pub reason : (app : Setting) (e l : ℕ) (rs : List ℕ) → l ≤ current app e rs → Reason app e l rs
reason app e l [] h = Runs h
reason app e l (x ∷ xs) h = go (nat_le l (app.ceiling x)) refl (λ k. reason app e l xs k)
  where
    more : Reason app e l xs → Reason app e l (x ∷ xs)
    more (Runs k) = Runs k
    more (Holds q some k) = Holds q (grind (arith, nat_tests)) k

    go : (b : Bool) → nat_le l (app.ceiling x) ≡ b → (l ≤ current app e xs → Reason app e l xs) → Reason app e l (x ∷ xs)
    go true k ih =
        let up : l ≤ app.ceiling x = grind (arith, nat_tests) in
        let here : 0 < times x (x ∷ xs) = grind (arith, nat_tests) in
        Holds x here up
    go false k ih =
        let low : app.ceiling x < l = grind (arith, nat_tests) in
        let rest : l ≤ current app e xs = omega arith in
        more (ih rest)

pub in_current : (app : Setting) (e r : ℕ) (rs : List ℕ) → 0 < times r rs → app.ceiling r ≤ current app e rs
in_current app e r [] h = absurd (omega arith)
in_current app e r (x ∷ xs) h = go (x == r) refl (λ k. in_current app e r xs k)
  where
    go : (b : Bool) → (x == r) ≡ b → (0 < times r xs → app.ceiling r ≤ current app e xs) → app.ceiling r ≤ current app e (x ∷ xs)
    go true k ih =
        let same : app.ceiling x ≡ app.ceiling r = ap app.ceiling (let z : x ≡ r = grind (arith, nat_tests) in z) in
        omega arith
    go false k ih =
        let some : 0 < times r xs = grind (arith, nat_tests) in
        let rest = ih some in
        omega arith

pub under_at : (n r : ℕ) (rs : List ℕ) → AreUnder n rs → 0 < times r rs → r < n
under_at n r [] a h = absurd (omega arith)
under_at n r (x ∷ xs) a h = go (x == r) refl (λ k. under_at n r xs a.1 k)
  where
    go : (b : Bool) → (x == r) ≡ b → (0 < times r xs → r < n) → r < n
    go true k ih =
        let same : x ≡ r = grind (arith, nat_tests) in
        let b = a.0 in
        omega arith
    go false k ih =
        let some : 0 < times r xs = grind (arith, nat_tests) in
        ih some

module _ (app : Setting) (sound : IsSound app) (code : PlainCode) {resources : ℕ} (form : IsTaskForm app resources code) (plan : Plan) (p : Program) (chosen : ℕ → ℕ → Choice) (made : IsProgram app code plan p chosen) where
  pub plain_standing : (f : Frame ℕ) → f.yielded ≡ false → standing app f ≡ current app f.who f.held
  plain_standing f yielded = ap (λ y. if y then app.level f.who else current app f.who f.held) yielded

  pub level_within : (f : Frame ℕ) → app.level f.who ≤ current app f.who f.held
  level_within f =
      let a = sound.runs_above f.who in
      let b = current_above app f.who f.held in
      omega arith

  -- all are below this level where the top stands below it
  pub all_low : (l : ℕ) (fs : List (Frame ℕ)) → ArePlain plan.resources fs → standing_of_top app fs < l → Rises app fs → AllLow app l fs
  all_low l [] plain up rises = tt
  all_low l (g ∷ gs) plain up rises =
      let stands : standing app g ≡ current app g.who g.held = plain_standing g plain.0 in
      let own = level_within g in
      let lower = rises.0 in
      let next : standing_of_top app gs < l = omega arith in
      (omega arith, all_low l gs plain.2 next rises.1)

  tasks_in : (over under : List (Frame ℕ)) → AreRoutines app (whos over) → AreTasks app (whos under) → AreTasks app (whos (over ++ under))
  tasks_in [] under r t = t
  tasks_in (g ∷ gs) under r t = absurd (let z : false ≡ true = sym (form.routines g.who) ∙ r.0 in cc)

  pub tasks_of : (m : Stacked ℕ Bits) → IsReached app m → AreTasks app (whos m.stack)
  tasks_of m r =
      subst (λ fs. AreTasks app (whos fs)) (sym r.agrees.agreed.stack)
      (tasks_in r.agrees.over r.agrees.under r.agrees.agreed.routines r.agrees.agreed.tasks)

  pub rises_of : (m : Stacked ℕ Bits) → IsReached app m → Rises app m.stack
  rises_of m r = subst (λ fs. Rises app fs) (sym r.agrees.agreed.stack) r.agrees.agreed.rises

  module _ (s : Standing) where
    v : Term → ℕ
    v t = value_in p.width s.cells t

    starts_miss : (e : ℕ) (x : Option ℕ) (n : ℕ) (rest : List Rule) → ((u : ℕ) → u < n → truth (value_in p.width s.cells (may_start app plan e x u)) ≡ false) → first_rule (value_in p.width s.cells) (start_rules app plan e x n ++ rest) ≡ first_rule (value_in p.width s.cells) rest
    starts_miss e x zero rest h = refl
    starts_miss e x (suc n) rest h = go (may_follow app plan e x n) (starts_miss e x n rest (λ u lt. h u (omega arith)))
      where
        go : (b : Bool) → first_rule (value_in p.width s.cells) (start_rules app plan e x n ++ rest) ≡ first_rule (value_in p.width s.cells) rest → first_rule (value_in p.width s.cells) ((if b then start_rule app plan e x n ∷ start_rules app plan e x n else start_rules app plan e x n) ++ rest) ≡ first_rule (value_in p.width s.cells) rest
        go true ih = ap (λ b. if b then Some (start_rule app plan e x n) else first_rule (value_in p.width s.cells) (start_rules app plan e x n ++ rest)) (h n (omega arith)) ∙ ih
        go false ih = ih

    starts_hit : (e : ℕ) (x : Option ℕ) (n : ℕ) (rest : List Rule) (t : ℕ) → t < n → may_follow app plan e x t ≡ true → truth (value_in p.width s.cells (may_start app plan e x t)) ≡ true → ((u : ℕ) → u < n → u ≢ t → truth (value_in p.width s.cells (may_start app plan e x u)) ≡ false) → first_rule (value_in p.width s.cells) (start_rules app plan e x n ++ rest) ≡ Some (start_rule app plan e x t)
    starts_hit e x zero rest t lt follows yes_it h = absurd (omega arith)
    starts_hit e x (suc n) rest t lt follows here h = go (n == t) refl (may_follow app plan e x n) refl (λ k. starts_hit e x n rest t k follows here (λ u l d. h u (omega arith) d))
      where
        go : (a : Bool) → (n == t) ≡ a → (b : Bool) → may_follow app plan e x n ≡ b → (t < n → first_rule (value_in p.width s.cells) (start_rules app plan e x n ++ rest) ≡ Some (start_rule app plan e x t)) → first_rule (value_in p.width s.cells) ((if b then start_rule app plan e x n ∷ start_rules app plan e x n else start_rules app plan e x n) ++ rest) ≡ Some (start_rule app plan e x t)
        go true e' true g ih =
            let same : t ≡ n = grind (arith, nat_tests) in
            let here' : truth (value_in p.width s.cells (may_start app plan e x n)) ≡ true = subst (λ k. truth (value_in p.width s.cells (may_start app plan e x k)) ≡ true) same here in
            ap (λ b. if b then Some (start_rule app plan e x n) else first_rule (value_in p.width s.cells) (start_rules app plan e x n ++ rest)) here'
            ∙ ap (λ k. Some (start_rule app plan e x k)) (sym same)
        go true e' false g ih =
            let same : n ≡ t = grind (arith, nat_tests) in
            absurd (let z : true ≡ false = sym follows ∙ (sym (ap (may_follow app plan e x) same) ∙ g) in cc)
        go false e' true g ih =
            let differ : n ≢ t = grind (arith, nat_tests) in
            ap (λ b. if b then Some (start_rule app plan e x n) else first_rule (value_in p.width s.cells) (start_rules app plan e x n ++ rest)) (h n (omega arith) differ) ∙ ih (omega arith)
        go false e' false g ih =
            let differ : n ≢ t = grind (arith, nat_tests) in
            ih (omega arith)

    module _ (m : Stacked ℕ Bits) (f : Frame ℕ) (below : List (Frame ℕ)) (x : Option ℕ) (meets : Meets app code plan p s (record m { stack = f ∷ below })) (runs : m.is_stopped ≡ false) (empty : f.held ≡ []) (asked : (t : ℕ) → is_it x t ≡ true → is_it (Some f.who) t ≡ false → times t (whos (f ∷ below)) + times t m.fresh < app.limit t) where
      rises : Rises app (f ∷ below)
      rises = rises_of (record m { stack = f ∷ below }) meets.shaped.reached

      gone : times f.who (whos below) ≡ 0
      gone = times_below app f.who below (rises_below app sound (app.level f.who) below rises.0 rises.1)

      counted : (t : ℕ) → times t (requested x m.fresh) ≡ times t m.fresh + (if is_it x t then 1 else 0)
      counted t = go x
        where
          more_one : (ts : List ℕ) (y : ℕ) → times t (ts ++ y ∷ []) ≡ times t ts + (if y == t then 1 else 0)
          more_one [] y = grind (arith, nat_tests)
          more_one (z ∷ zs) y = let ih = more_one zs y in grind (arith, nat_tests)

          go : (o : Option ℕ) → times t (requested o m.fresh) ≡ times t m.fresh + (if is_it o t then 1 else 0)
          go None = omega arith
          go (Some y) = more_one m.fresh y

      kept_below : (e : ℕ) (b : Bool) → (f.who == e) ≡ b → held_of e below ≡ (if b then f.held else held_of e below)
      kept_below e true k =
          let same : f.who ≡ e = grind (arith, nat_tests) in
          let none : times e (whos below) ≡ 0 = subst (λ z. times z (whos below) ≡ 0) same gone in
          held_none e below none ∙ sym empty
      kept_below e false k = refl

      pop_change : IsChange app plan (end_change f.who x None) (record m { stack = f ∷ below }) (record m { stack = below; fresh = requested x m.fresh })
      pop_change =
          record {
            on = λ y lt. let g = gone in grind (arith, nat_tests);
            count = λ y lt. let g = gone in let k = counted y in grind (arith, nat_tests);
            waits = λ l. requested_at app x m.fresh l;
            held = λ r lt. let two : times r f.held ≡ 0 = ap (times r) empty in omega arith;
            kept = λ e lt. kept_below e (f.who == e) refl;
            ended = λ y e. grind (arith, nat_tests);
            asked = asked;
          }

      -- nobody starts
      popped : ((u : ℕ) → u < plan.tasks → truth (value_in p.width s.cells (may_start app plan f.who x u)) ≡ false) → ((l : ℕ) → level_of_top app below < l → fresh_at app l (requested x m.fresh) ≡ []) → IsReached app (record m { stack = below; fresh = requested x m.fresh }) → IsFired app code plan p s (end_rules app plan f.who x) (record m { stack = below; fresh = requested x m.fresh })
      popped none calm reached =
          record {
            rule = plain (Const 1) (change_sets app plan (end_change f.who x None)) Pop;
            first = starts_miss f.who x plan.tasks _ none;
            led =
                record {
                  plainly = refl;
                  stack = places plan below;
                  leads = ap (stack_after p.depth Pop) meets.stack ∙ moved_pop plan p.depth (plan.number f.who f.state) below;
                  meets =
                      changes app code plan p chosen made s (record m { stack = f ∷ below }) (record m { stack = below; fresh = requested x m.fresh }) (end_change f.who x None) meets pop_change (λ q. refl) runs
                      (record {
                        limits = limits_after app code plan p chosen made (record m { stack = f ∷ below }) (record m { stack = below; fresh = requested x m.fresh }) (end_change f.who x None) meets.shaped pop_change;
                        plain = meets.shaped.plain.2;
                        single = single_after app code plan p chosen made (record m { stack = f ∷ below }) (record m { stack = below; fresh = requested x m.fresh }) (end_change f.who x None) meets.shaped pop_change meets.shaped.plain.2;
                        sections = meets.shaped.sections;
                        calm = calm;
                        known = meets.shaped.known.1;
                        reached = reached;
                      });
                };
          }

      start_change : (t : ℕ) → IsForemost app (requested x m.fresh) t → standing_of_top app below < app.level t → IsChange app plan (end_change f.who x (Some t)) (record m { stack = f ∷ below }) (record m { stack = begun (steps_of code) t ∷ below; fresh = without t (requested x m.fresh) })
      start_change t most up =
          record {
            on = λ y lt. let g = gone in let n = nobody in grind (arith, nat_tests);
            count = λ y lt. let g = gone in let k = counted y in let c = most.counts y in grind (arith, nat_tests);
            waits = λ l. waits l (app.level t == l) refl;
            held = λ r lt. let two : times r f.held ≡ 0 = ap (times r) empty in omega arith;
            kept = λ e lt. starts_empty e (t == e) refl;
            ended = λ y e. grind (arith, nat_tests);
            asked = asked;
          }
        where
          nobody : times t (whos below) ≡ 0
          nobody = times_below app t below (rises_below app sound (app.level t) below up rises.1)

          starts_empty : (e : ℕ) (b : Bool) → (t == e) ≡ b → (if b then [] else held_of e below) ≡ (if f.who == e then f.held else held_of e below)
          starts_empty e true k =
              let same : t ≡ e = grind (arith, nat_tests) in
              let none : times e (whos below) ≡ 0 = subst (λ z. times z (whos below) ≡ 0) same nobody in
              sym (held_none e below none) ∙ kept_below e (f.who == e) refl
          starts_empty e false k = kept_below e (f.who == e) refl

          tail_if : (b : Bool) (es : List Entry) → tail (if b then put_on x es else es) ≡ (if b then tail (put_on x es) else tail es)
          tail_if true es = refl
          tail_if false es = refl

          waits : (l : ℕ) (b : Bool) → (app.level t == l) ≡ b → fresh_at app l (without t (requested x m.fresh)) ≡ (if b then (if is_level app x l then tail (put_on x (fresh_at app l m.fresh)) else tail (fresh_at app l m.fresh)) else (if is_level app x l then put_on x (fresh_at app l m.fresh) else fresh_at app l m.fresh))
          waits l true e =
              let same : app.level t ≡ l = grind (arith, nat_tests) in
              sym (ap tail (subst (λ k. fresh_at app k (requested x m.fresh) ≡ Fresh t ∷ fresh_at app k (without t (requested x m.fresh))) same most.same))
              ∙ (ap tail (requested_at app x m.fresh l) ∙ tail_if (is_level app x l) (fresh_at app l m.fresh))
          waits l false e =
              let differ : l ≢ app.level t = grind (arith, nat_tests) in
              sym (most.others l differ) ∙ requested_at app x m.fresh l

      -- the foremost request is among the tasks that may follow
      follows : (t : ℕ) → foremost app (requested x m.fresh) ≡ Some t → may_follow app plan f.who x t ≡ true
      follows t first = go x refl
        where
          most : IsForemost app (requested x m.fresh) t
          most = foremost_some app (requested x m.fresh) t first

          calm : (l : ℕ) → app.run_level f.who < l → fresh_at app l m.fresh ≡ []
          calm l lt =
              let same : current app f.who f.held ≡ app.run_level f.who = ap (current app f.who) empty in
              meets.shaped.calm l (omega arith)

          -- what waits above the run level was put just now
          waited : (o : Option ℕ) → x ≡ o → app.run_level f.who < app.level t → is_it o t ≡ true
          waited o is lt = cases o (is_level app o (app.level t)) refl here
            where
              here : (if is_level app o (app.level t) then put_on o [] else []) ≡ Fresh t ∷ fresh_at app (app.level t) (without t (requested x m.fresh))
              here =
                  ap (λ es. if is_level app o (app.level t) then put_on o es else es) (sym (calm (app.level t) lt))
                  ∙ (ap (λ z. if is_level app z (app.level t) then put_on z (fresh_at app (app.level t) m.fresh) else fresh_at app (app.level t) m.fresh) (sym is)
                  ∙ (sym (requested_at app x m.fresh (app.level t)) ∙ most.same))

              cases : (o : Option ℕ) (b : Bool) → is_level app o (app.level t) ≡ b → (if b then put_on o [] else []) ≡ Fresh t ∷ fresh_at app (app.level t) (without t (requested x m.fresh)) → is_it o t ≡ true
              cases o false e k = absurd (let z : ◌≡◌ {A = List Entry} [] (Fresh t ∷ fresh_at app (app.level t) (without t (requested x m.fresh))) = k in cc)
              cases None true e k = absurd (let z : false ≡ true = e in cc)
              cases (Some y) true e k =
                  let same : y ≡ t = cc in
                  grind (arith, nat_tests)

          either_way : (o : Option ℕ) → x ≡ o → (nat_le (app.level t) (app.run_level f.who) || is_it o t) ≡ true
          either_way o is = pick (nat_le (app.level t) (app.run_level f.who)) refl
            where
              pick : (b : Bool) → nat_le (app.level t) (app.run_level f.who) ≡ b → (b || is_it o t) ≡ true
              pick true e = refl
              pick false e =
                  let lt : app.run_level f.who < app.level t = grind (arith, nat_tests) in
                  waited o is lt

          lower : (y : ℕ) → x ≡ Some y → nat_le (app.level y) (app.level t) ≡ true
          lower y is = pick (nat_le (app.level y) (app.level t)) refl
            where
              pick : (b : Bool) → nat_le (app.level y) (app.level t) ≡ b → b ≡ true
              pick true e = refl
              pick false e =
                  let lt : app.level t < app.level y = grind (arith, nat_tests) in
                  let same : (app.level y == app.level y) ≡ true = grind (arith, nat_tests) in
                  let none : fresh_at app (app.level y) m.fresh ++ Fresh y ∷ [] ≡ [] =
                  sym (ap (λ b. if b then fresh_at app (app.level y) m.fresh ++ Fresh y ∷ [] else fresh_at app (app.level y) m.fresh) same)
                  ∙ (sym (requested_at app (Some y) m.fresh (app.level y)) ∙ (ap (λ z. fresh_at app (app.level y) (requested z m.fresh)) (sym is) ∙ most.above (app.level y) lt)) in
                  absurd (some (fresh_at app (app.level y) m.fresh) none)
                where
                  some : (es : List Entry) → es ++ Fresh y ∷ [] ≡ [] → ⊥
                  some [] h = let z : ◌≡◌ {A = List Entry} (Fresh y ∷ []) [] = h in cc
                  some (e ∷ es) h = let z : ◌≡◌ {A = List Entry} (e ∷ (es ++ Fresh y ∷ [])) [] = h in cc

          go : (o : Option ℕ) → x ≡ o → ((nat_le (app.level t) (app.run_level f.who) || is_it o t) && no_lower app plan o t) ≡ true
          go None is = ap (λ b. b && true) (either_way None is)
          go (Some y) is = ap₂ (λ a b. a && b) (either_way (Some y) is) (lower y is)

      -- the foremost request starts
      started : (fresh : AreTasks app (requested x m.fresh)) (t : ℕ) → foremost app (requested x m.fresh) ≡ Some t → standing_of_top app below < app.level t → IsReached app (record m { stack = begun (steps_of code) t ∷ below; fresh = without t (requested x m.fresh) }) → IsFired app code plan p s (end_rules app plan f.who x) (record m { stack = begun (steps_of code) t ∷ below; fresh = without t (requested x m.fresh) })
      started fresh t first up reached =
          let most = foremost_some app (requested x m.fresh) t first in
          let change = start_change t most up in
          record {
            rule = start_rule app plan f.who x t;
            first =
                starts_hit f.who x plan.tasks _ t
                (in_range app plan p.width code.cells made.layout s.cells (record m { stack = f ∷ below }) meets.holds sound f below refl rises x fresh t first)
                (follows t first)
                (start_here app plan p.width code.cells made.layout s.cells (record m { stack = f ∷ below }) meets.holds sound f below refl rises x fresh t first empty (all_low (app.level t) below meets.shaped.plain.2 up rises.1))
                (start_other app plan p.width code.cells made.layout s.cells (record m { stack = f ∷ below }) meets.holds sound f below refl rises x fresh t first);
            led =
                record {
                  plainly = refl;
                  stack = places plan (begun (steps_of code) t ∷ below);
                  leads = ap (stack_after p.depth (PopPush (plan.number t 0))) meets.stack ∙ moved_pop_push plan p.depth (plan.number f.who f.state) (plan.number t 0) below;
                  meets =
                      changes app code plan p chosen made s (record m { stack = f ∷ below }) (record m { stack = begun (steps_of code) t ∷ below; fresh = without t (requested x m.fresh) }) (end_change f.who x (Some t)) meets change (λ q. refl) runs
                      (record {
                        limits = limits_after app code plan p chosen made (record m { stack = f ∷ below }) (record m { stack = begun (steps_of code) t ∷ below; fresh = without t (requested x m.fresh) }) (end_change f.who x (Some t)) meets.shaped change;
                        plain = (refl, tt, meets.shaped.plain.2);
                        single = single_after app code plan p chosen made (record m { stack = f ∷ below }) (record m { stack = begun (steps_of code) t ∷ below; fresh = without t (requested x m.fresh) }) (end_change f.who x (Some t)) meets.shaped change (refl, tt, meets.shaped.plain.2);
                        sections = meets.shaped.sections;
                        calm =
                            λ l above.
                            let higher : app.level t < l = omega (arith, sound.runs_above t) in
                            let differ : l ≢ app.level t = λ z. absurd (omega arith) in
                            sym (most.others l differ) ∙ most.above l higher;
                        known = (form.begins t (most.task fresh), meets.shaped.known.1);
                        reached = reached;
                      });
                };
          }

      level_below : standing_of_top app below ≡ level_of_top app below
      level_below = go below meets.shaped.plain.2
        where
          go : (fs : List (Frame ℕ)) → ArePlain plan.resources fs → standing_of_top app fs ≡ level_of_top app fs
          go [] h = refl
          go (g ∷ gs) h = plain_standing g h.0

      blocked : (fresh : AreTasks app (requested x m.fresh)) (t : ℕ) → foremost app (requested x m.fresh) ≡ Some t → app.level t ≤ standing_of_top app below → (u : ℕ) → u < plan.tasks → truth (value_in p.width s.cells (may_start app plan f.who x u)) ≡ false
      blocked fresh t first low u lt = go (u == t) refl
        where
          most : IsForemost app (requested x m.fresh) t
          most = foremost_some app (requested x m.fresh) t first

          itself : (fs : List (Frame ℕ)) → below ≡ fs → truth (value_in p.width s.cells (may_start app plan f.who x t)) ≡ false
          itself [] is =
              let positive = sound.above_idle t (most.task fresh) in
              absurd (omega (arith, ap (standing_of_top app) is))
          itself (g ∷ gs) is =
              let plain_g = subst (ArePlain plan.resources) is meets.shaped.plain.2 in
              let stands : standing app g ≡ current app g.who g.held = plain_standing g plain_g.0 in
              let own = level_within g in
              let is' : standing_of_top app below ≡ standing app g = ap (standing_of_top app) is in
              let up : app.level t ≤ current app g.who g.held = omega arith in
              let high : current app g.who g.held < app.level f.who = omega (arith, rises.0) in
              let tasks = tasks_of (record m { stack = f ∷ below }) meets.shaped.reached in
              let task = subst (λ fs. AreTasks app (whos fs)) is tasks.1 in
              why g gs is plain_g.1 task.0 own high (reason app g.who (app.level t) g.held up)
            where
              why : (g : Frame ℕ) (gs : List (Frame ℕ)) → below ≡ g ∷ gs → AreUnder plan.resources g.held → app.is_task g.who ≡ true → app.level g.who ≤ current app g.who g.held → current app g.who g.held < app.level f.who → Reason app g.who (app.level t) g.held → truth (value_in p.width s.cells (may_start app plan f.who x t)) ≡ false
              why g gs is under task own high (Runs k) =
                  let here : 0 < times g.who (whos (f ∷ g ∷ gs)) = grind (arith, nat_tests) in
                  start_blocked app plan p.width code.cells made.layout s.cells (record m { stack = f ∷ below }) meets.holds sound f below refl rises x fresh t first g.who (made.layout.tasks g.who task) k (omega arith) (subst (λ fs. 0 < times g.who (whos (f ∷ fs))) (sym is) here)
              why g gs is under task own high (Holds q some k) =
                  let within = in_current app g.who q g.held some in
                  let here : 0 < held_times q (f ∷ g ∷ gs) = omega arith in
                  start_held app plan p.width code.cells made.layout s.cells (record m { stack = f ∷ below }) meets.holds sound f below refl rises x fresh t first q (under_at plan.resources q g.held under some) k (omega arith) (subst (λ fs. 0 < held_times q (f ∷ fs)) (sym is) here)

          go : (b : Bool) → (u == t) ≡ b → truth (value_in p.width s.cells (may_start app plan f.who x u)) ≡ false
          go true e =
              let same : t ≡ u = grind (arith, nat_tests) in
              subst (λ k. truth (value_in p.width s.cells (may_start app plan f.who x k)) ≡ false) same (itself below refl)
          go false e =
              let differ : u ≢ t = grind (arith, nat_tests) in
              start_other app plan p.width code.cells made.layout s.cells (record m { stack = f ∷ below }) meets.holds sound f below refl rises x fresh t first u lt differ

      -- the end of the top, and what the settling does
      pub ends : AreTasks app (requested x m.fresh) → IsReached app (settle app (steps_of code) (record m { stack = below; fresh = requested x m.fresh })) → IsFired app code plan p s (end_rules app plan f.who x) (settle app (steps_of code) (record m { stack = below; fresh = requested x m.fresh }))
      ends fresh reached = go (foremost app (requested x m.fresh)) refl reached
        where
          pops : ((u : ℕ) → u < plan.tasks → truth (value_in p.width s.cells (may_start app plan f.who x u)) ≡ false) → ((l : ℕ) → level_of_top app below < l → fresh_at app l (requested x m.fresh) ≡ []) → IsReached app (record m { stack = run_on below; fresh = requested x m.fresh }) → IsFired app code plan p s (end_rules app plan f.who x) (record m { stack = run_on below; fresh = requested x m.fresh })
          pops none calm r =
              let same = run_on_plain plan.resources below meets.shaped.plain.2 in
              subst (λ fs. IsFired app code plan p s (end_rules app plan f.who x) (record m { stack = fs; fresh = requested x m.fresh })) (sym same)
              (popped none calm (subst (λ fs. IsReached app (record m { stack = fs; fresh = requested x m.fresh })) same r))

          go : (o : Option ℕ) → foremost app (requested x m.fresh) ≡ o → IsReached app (settle_with app (steps_of code) o (record m { stack = below; fresh = requested x m.fresh })) → IsFired app code plan p s (end_rules app plan f.who x) (settle_with app (steps_of code) o (record m { stack = below; fresh = requested x m.fresh }))
          go None e r =
              pops
              (λ u lt. start_none app plan p.width code.cells made.layout s.cells (record m { stack = f ∷ below }) meets.holds f.who x u lt e)
              (λ l above. ap (fresh_at app l) (foremost_none app (requested x m.fresh) e))
              r
          go (Some t) e r = test (nat_lt (standing_of_top app below) (app.level t)) refl r
            where
              test : (b : Bool) → nat_lt (standing_of_top app below) (app.level t) ≡ b → IsReached app (if b then record m { stack = begun (steps_of code) t ∷ below; fresh = without t (requested x m.fresh) } else record m { stack = run_on below; fresh = requested x m.fresh }) → IsFired app code plan p s (end_rules app plan f.who x) (if b then record m { stack = begun (steps_of code) t ∷ below; fresh = without t (requested x m.fresh) } else record m { stack = run_on below; fresh = requested x m.fresh })
              test true k r =
                  let up : standing_of_top app below < app.level t = grind (arith, nat_tests) in
                  started fresh t e up r
              test false k r =
                  let low : app.level t ≤ standing_of_top app below = grind (arith, nat_tests) in
                  pops (blocked fresh t e low)
                  (λ l above.
                  let higher : app.level t < l = omega (arith, level_below) in
                  (foremost_some app (requested x m.fresh) t e).above l higher)
                  r
