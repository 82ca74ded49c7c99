-- An activation by a task: the task that is activated is pushed where its level is above the caller's, and else waits.
use Rattle.std.proofs.Common.{◌≡◌, ◌≢◌, ℕ, suc, ◌+◌, ◌<◌, ◌≤◌, Bool, true, false, List, [], ◌∷◌, ◌++◌, length, Option, Some, None, refl, sym, ap, subst, ◌∙◌, arith, nat_lt, nat_le, ◌==◌, if◌then◌else◌}
use Rattle.std.proofs.lemmas.Bool.Decides.{nat_tests}
use Rattle.chk_base.specs.Operators.{truth}
use Rattle.chk_base.specs.Term.{Term}
use Rattle.chk_base.specs.declared.word.Width.{Width}
use Rattle.guard_prog.specs.GuardedRun.{Program, State as Standing, value_in, cell_after_sets, stack_after}
use Rattle.guard_prog.specs.declared.draft.Control.TheVariants.{Goto, Push}
use Rattle.guard_prog.specs.declared.draft.Control.{Control}
use Rattle.one_stack.proofs.Choosing.{first_rule}
use Rattle.one_stack.proofs.Ends.{IsFired, plain_standing, rises_of, run_on_plain, held_none, all_low, Reason, Runs, Holds, reason, under_at}
use Rattle.one_stack.proofs.Kept.{IsChange}
use Rattle.one_stack.proofs.Meeting.{IsProgram, IsReached, Meets, changes, limits_after, single_after}
use Rattle.one_stack.proofs.Own.{Fires, next_fires}
use Rattle.one_stack.proofs.Settling.{requested_at, none_of_true, none_of_false, held_cell, held_low}
use Rattle.one_stack.specs.Built.{places, held_times, held_of}
use Rattle.one_stack.specs.PlainCode.{PlainCode, steps_of}
use Rattle.one_stack.specs.Rules.{Plan, Rule, is_it, change_sets, plain, pushed, added, next_rules, activate_rules, guarded, none_held, both, Held}
use Rattle.one_stack.specs.TaskForm.{Has, IsTaskForm}
use Rattle.trace_law.proofs.Rising.{rising_lem}
use Rattle.step_ir.proofs.Lists.{foremost_some, foremost_none}
use Rattle.step_ir.proofs.Stacks.{rises_below, times_below, current_above}
use Rattle.step_ir.specs.Agreement.{fresh_at, Rises, IsForemost}
use Rattle.step_ir.specs.Numbers.{times, tail}
use Rattle.step_ir.specs.OneStackMachine.{Stacked, Frame, whos, standing, settle, settle_with, run_on, begun, without}
use Rattle.step_ir.specs.PointStep.{Bits, first}
use Rattle.step_ir.specs.SchedulerState.{Fresh}
use Rattle.step_ir.specs.Setting.{Setting, foremost, current, IsSound}
use Rattle.step_ir.specs.declared.event.Choice.{Choice}

pub length-places : (plan : Plan) (fs : List (Frame ℕ)) → length (places plan fs) ≡ suc (length fs)
length-places plan [] = refl
length-places plan (f ∷ fs) = ap suc (length-places plan fs)

not_empty : (ts : List ℕ) (x : ℕ) → ts ++ x ∷ [] ≡ [] → ⊥
not_empty [] x h = cc
not_empty (t ∷ ts) x h = cc

more_one : (t : ℕ) (ts : List ℕ) (y : ℕ) → times t (ts ++ y ∷ []) ≡ times t ts + (if y == t then 1 else 0)
more_one t [] y = grind (arith, nat_tests)
more_one t (z ∷ zs) y = let ih = more_one t zs y in grind (arith, nat_tests)

-- rules that count where this holds
pub guarded_fires : (app : Setting) (plan : Plan) (w : ℕ → Width) (cl : ℕ → ℕ) (c : Term) (rs rest : List Rule) (sets : List (ℕ × Term)) (control : Control) → truth (value_in w cl c) ≡ true → Fires (value_in w cl) rs sets control → Fires (value_in w cl) (guarded c rs ++ rest) sets control
guarded_fires app plan w cl c [] rest sets control h f = absurd (let z : ◌≡◌ {A = Option Rule} None (Some (record { guard = f.guard; sets = sets; control = control; input = None })) = f.is in cc)
guarded_fires app plan w cl c (x ∷ xs) rest sets control h f = go (truth (value_in w cl x.guard)) refl f.is (λ k. guarded_fires app plan w cl c xs rest sets control h (record { guard = f.guard; is = k }))
  where
    go : (b : Bool) → truth (value_in w cl x.guard) ≡ b → (if b then Some x else first_rule (value_in w cl) xs) ≡ Some (record { guard = f.guard; sets = sets; control = control; input = None }) → (first_rule (value_in w cl) xs ≡ Some (record { guard = f.guard; sets = sets; control = control; input = None }) → Fires (value_in w cl) (guarded c xs ++ rest) sets control) → Fires (value_in w cl) (guarded c (x ∷ xs) ++ rest) sets control
    go true e k ih =
        let same : x ≡ record { guard = f.guard; sets = sets; control = control; input = None } = cc in
        record {
          guard = both c x.guard;
          is =
              ap (λ b. if b then Some (record x { guard = both c x.guard }) else first_rule (value_in w cl) (guarded c xs ++ rest)) (ap (λ b. truth (if b then value_in w cl x.guard else 0)) h ∙ e)
              ∙ ap (λ (y : Rule). Some (record y { guard = both c x.guard })) same;
        }
    go false e k ih =
        let rest_fires = ih k in
        record {
          guard = rest_fires.guard;
          is =
              ap (λ b. if b then Some (record x { guard = both c x.guard }) else first_rule (value_in w cl) (guarded c xs ++ rest)) (ap (λ b. truth (if b then value_in w cl x.guard else 0)) h ∙ e)
              ∙ rest_fires.is;
        }

pub guarded_shut : (app : Setting) (plan : Plan) (w : ℕ → Width) (cl : ℕ → ℕ) (c : Term) (rs rest : List Rule) → truth (value_in w cl c) ≡ false → first_rule (value_in w cl) (guarded c rs ++ rest) ≡ first_rule (value_in w cl) rest
guarded_shut app plan w cl c [] rest h = refl
guarded_shut app plan w cl c (x ∷ xs) rest h =
    ap (λ b. if b then Some (record x { guard = both c x.guard }) else first_rule (value_in w cl) (guarded c xs ++ rest)) (ap (λ b. truth (if b then value_in w cl x.guard else 0)) h)
    ∙ guarded_shut app plan w cl c xs rest h

module _ (app : Setting) (sound : IsSound app) (code : PlainCode) {resources : ℕ} (form : IsTaskForm app resources code) (plan : Plan) (p : Program) (chosen : ℕ → ℕ → Choice) (made : IsProgram app code plan p chosen) where
  pub deep : (m : Stacked ℕ Bits) → IsReached app m → length m.stack ≤ p.depth
  deep m r =
      let bound = (rising_lem app sound (steps_of code) r.state m r.agrees).depth in
      let enough = made.depth in
      omega arith

  module _ (s : Standing) (m : Stacked ℕ Bits) (f : Frame ℕ) (below : List (Frame ℕ)) (x n : ℕ) (meets : Meets app code plan p s (record m { stack = f ∷ below })) (runs : m.is_stopped ≡ false) (task : app.is_task x ≡ true) (has : Has (code.points f.who) n) (room : times x (whos (f ∷ below)) + times x m.fresh < app.limit x) where
    rises : Rises app (f ∷ below)
    rises = rises_of app sound code form plan p chosen made (record m { stack = f ∷ below }) meets.shaped.reached

    stands : standing app f ≡ current app f.who f.held
    stands = plain_standing app sound code form plan p chosen made f meets.shaped.plain.0

    calm : (l : ℕ) → current app f.who f.held < l → fresh_at app l m.fresh ≡ []
    calm l lt =
        meets.shaped.calm l lt

    asked : (t : ℕ) → is_it (Some x) t ≡ true → is_it None t ≡ false → times t (whos (f ∷ below)) + times t m.fresh < app.limit t
    asked t e g =
        let same : x ≡ t = grind (arith, nat_tests) in
        subst (λ k. times k (whos (f ∷ below)) + times k m.fresh < app.limit k) same room

    -- the task waits
    waiting : Stacked ℕ Bits
    waiting = record m { stack = record f { state = n } ∷ below; fresh = m.fresh ++ x ∷ [] }

    added_change : IsChange app plan (added x) (record m { stack = f ∷ below }) (record m { stack = record f { state = n } ∷ below; fresh = m.fresh ++ x ∷ [] })
    added_change =
        record {
          on = λ y lt. refl;
          count = λ y lt. let k = more_one y m.fresh x in grind (arith, nat_tests);
          waits = λ l. requested_at app (Some x) m.fresh l;
          held = λ r lt. refl;
          kept = λ e lt. refl;
          ended = λ y e. absurd (let z : false ≡ true = e in cc);
          asked = asked;
        }

    pub waits : (nexts : List (Term × ℕ)) → app.level x ≤ current app f.who f.held → first (value_in p.width (cell_after_sets p.width s.cells [])) nexts ≡ Some n → IsReached app (record m { stack = record f { state = n } ∷ below; fresh = m.fresh ++ x ∷ [] }) → IsFired app code plan p s (next_rules app plan p.width [] (change_sets app plan (added x)) (λ k. Goto (plan.number f.who k)) nexts) (record m { stack = record f { state = n } ∷ below; fresh = m.fresh ++ x ∷ [] })
    waits nexts low next reached =
        let fires = next_fires app plan p.width s.cells [] (change_sets app plan (added x)) (λ k. Goto (plan.number f.who k)) nexts n next in
        record {
          rule = plain fires.guard (change_sets app plan (added x)) (Goto (plan.number f.who n));
          first = fires.is;
          led =
              record {
                plainly = refl;
                stack = places plan (record f { state = n } ∷ below);
                leads = ap (stack_after p.depth (Goto (plan.number f.who n))) meets.stack;
                meets =
                    changes app code plan p chosen made s (record m { stack = f ∷ below }) (record m { stack = record f { state = n } ∷ below; fresh = m.fresh ++ x ∷ [] }) (added x) meets added_change (λ q. refl) runs
                    (record {
                      limits = limits_after app code plan p chosen made (record m { stack = f ∷ below }) (record m { stack = record f { state = n } ∷ below; fresh = m.fresh ++ x ∷ [] }) (added x) meets.shaped added_change;
                      plain = meets.shaped.plain;
                      single = meets.shaped.single;
                      sections = meets.shaped.sections;
                      calm =
                          λ l above.
                          let higher : current app f.who f.held < l = above in
                          let off : (app.level x == l) ≡ false = grind (arith, nat_tests) in
                          requested_at app (Some x) m.fresh l
                          ∙ (ap (λ b. if b then fresh_at app l m.fresh ++ Fresh x ∷ [] else fresh_at app l m.fresh) off ∙ calm l higher);
                      known = (has, meets.shaped.known.1);
                      reached = reached;
                    });
              };
        }

    -- the task is pushed
    push_change : current app f.who f.held < app.level x → IsForemost app (m.fresh ++ x ∷ []) x → IsChange app plan (pushed x) (record m { stack = f ∷ below }) (record m { stack = begun (steps_of code) x ∷ record f { state = n } ∷ below; fresh = without x (m.fresh ++ x ∷ []) })
    push_change up most =
        record {
          on = λ y lt. let k = nobody in grind (arith, nat_tests);
          count = λ y lt. let k = more_one y m.fresh x in let c = most.counts y in grind (arith, nat_tests);
          waits = λ l. same l (app.level x == l) refl;
          held = λ r lt. omega arith;
          kept = λ e lt. begins_empty e (x == e) refl;
          ended = λ y e. absurd (let z : false ≡ true = e in cc);
          asked = asked;
        }
      where
        nobody : times x (whos (f ∷ below)) ≡ 0
        nobody = times_below app x (f ∷ below) (rises_below app sound (app.level x) (f ∷ below) (omega (arith, stands)) rises)

        begins_empty : (e : ℕ) (b : Bool) → (x == e) ≡ b → (if b then [] else held_of e (f ∷ below)) ≡ held_of e (f ∷ below)
        begins_empty e true k =
            let is : x ≡ e = grind (arith, nat_tests) in
            sym (held_none e (f ∷ below) (subst (λ z. times z (whos (f ∷ below)) ≡ 0) is nobody))
        begins_empty e false k = refl

        same : (l : ℕ) (b : Bool) → (app.level x == l) ≡ b → fresh_at app l (without x (m.fresh ++ x ∷ [])) ≡ fresh_at app l m.fresh
        same l true e =
            let at : app.level x ≡ l = grind (arith, nat_tests) in
            let none : fresh_at app l m.fresh ≡ [] = calm l (omega arith) in
            sym (ap tail (subst (λ k. fresh_at app k (m.fresh ++ x ∷ []) ≡ Fresh x ∷ fresh_at app k (without x (m.fresh ++ x ∷ []))) at most.same))
            ∙ (ap tail (requested_at app (Some x) m.fresh l ∙ ap (λ b. if b then fresh_at app l m.fresh ++ Fresh x ∷ [] else fresh_at app l m.fresh) e)
            ∙ (ap (λ es. tail (es ++ Fresh x ∷ [])) none ∙ sym none))
        same l false e =
            let differ : l ≢ app.level x = grind (arith, nat_tests) in
            sym (most.others l differ)
            ∙ (requested_at app (Some x) m.fresh l ∙ ap (λ b. if b then fresh_at app l m.fresh ++ Fresh x ∷ [] else fresh_at app l m.fresh) e)

    -- no resource of the caller's stands in the way
    free_true : current app f.who f.held < app.level x → truth (value_in p.width s.cells (none_held app plan (app.level x))) ≡ true
    free_true up =
        none_of_true app plan p.width code.cells made.layout s.cells (record m { stack = f ∷ below }) meets.holds Held (λ r. nat_le (app.level x) (app.ceiling r)) (λ r. held_times r (f ∷ below)) plan.resources
        (held_cell app plan p.width code.cells made.layout s.cells (record m { stack = f ∷ below }) meets.holds)
        (λ r lt e.
        let above : app.level x ≤ app.ceiling r = grind (arith, nat_tests) in
        held_low app (app.level x) r (f ∷ below) above (all_low app sound code form plan p chosen made (app.level x) (f ∷ below) meets.shaped.plain (omega (arith, stands)) rises))

    free_false : app.run_level f.who < app.level x → app.level x ≤ current app f.who f.held → truth (value_in p.width s.cells (none_held app plan (app.level x))) ≡ false
    free_false run high = why (reason app f.who (app.level x) f.held high)
      where
        why : Reason app f.who (app.level x) f.held → truth (value_in p.width s.cells (none_held app plan (app.level x))) ≡ false
        why (Runs k) = absurd (omega arith)
        why (Holds q some k) =
            none_of_false app plan p.width code.cells made.layout s.cells (record m { stack = f ∷ below }) meets.holds Held (λ r. nat_le (app.level x) (app.ceiling r)) (λ r. held_times r (f ∷ below)) plan.resources q
            (held_cell app plan p.width code.cells made.layout s.cells (record m { stack = f ∷ below }) meets.holds)
            (under_at plan.resources q f.held meets.shaped.plain.1 some) (grind (arith, nat_tests)) (omega arith)

    pushes : (nexts : List (Term × ℕ)) (rest : List Rule) → current app f.who f.held < app.level x → foremost app (m.fresh ++ x ∷ []) ≡ Some x → first (value_in p.width (cell_after_sets p.width s.cells [])) nexts ≡ Some n → IsReached app (record m { stack = begun (steps_of code) x ∷ record f { state = n } ∷ below; fresh = without x (m.fresh ++ x ∷ []) }) → IsFired app code plan p s (guarded (none_held app plan (app.level x)) (next_rules app plan p.width [] (change_sets app plan (pushed x)) (λ k. Push (plan.number f.who k) (plan.number x 0)) nexts) ++ rest) (record m { stack = begun (steps_of code) x ∷ record f { state = n } ∷ below; fresh = without x (m.fresh ++ x ∷ []) })
    pushes nexts rest up foremost_is next reached =
        let fires = guarded_fires app plan p.width s.cells (none_held app plan (app.level x)) (next_rules app plan p.width [] (change_sets app plan (pushed x)) (λ k. Push (plan.number f.who k) (plan.number x 0)) nexts) rest (change_sets app plan (pushed x)) (Push (plan.number f.who n) (plan.number x 0)) (free_true up) (next_fires app plan p.width s.cells [] (change_sets app plan (pushed x)) (λ k. Push (plan.number f.who k) (plan.number x 0)) nexts n next) in
        let most = foremost_some app (m.fresh ++ x ∷ []) x foremost_is in
        let change = push_change up most in
        record {
          rule = plain fires.guard (change_sets app plan (pushed x)) (Push (plan.number f.who n) (plan.number x 0));
          first = fires.is;
          led =
              record {
                plainly = refl;
                stack = places plan (begun (steps_of code) x ∷ record f { state = n } ∷ below);
                leads = ap (stack_after p.depth (Push (plan.number f.who n) (plan.number x 0))) meets.stack ∙ fits_depth;
                meets =
                    changes app code plan p chosen made s (record m { stack = f ∷ below }) (record m { stack = begun (steps_of code) x ∷ record f { state = n } ∷ below; fresh = without x (m.fresh ++ x ∷ []) }) (pushed x) meets change (λ q. refl) runs
                    (record {
                      limits = limits_after app code plan p chosen made (record m { stack = f ∷ below }) (record m { stack = begun (steps_of code) x ∷ record f { state = n } ∷ below; fresh = without x (m.fresh ++ x ∷ []) }) (pushed x) meets.shaped change;
                      plain = (refl, tt, meets.shaped.plain);
                      single = single_after app code plan p chosen made (record m { stack = f ∷ below }) (record m { stack = begun (steps_of code) x ∷ record f { state = n } ∷ below; fresh = without x (m.fresh ++ x ∷ []) }) (pushed x) meets.shaped change (refl, tt, meets.shaped.plain);
                      sections = meets.shaped.sections;
                      calm =
                          λ l above.
                          let higher : app.level x < l = omega (arith, sound.runs_above x) in
                          let differ : l ≢ app.level x = λ z. absurd (omega arith) in
                          sym (most.others l differ) ∙ most.above l higher;
                      known = (form.begins x task, (has, meets.shaped.known.1));
                      reached = reached;
                    });
              };
        }
      where
        fits_depth : stack_after p.depth (Push (plan.number f.who n) (plan.number x 0)) (places plan (f ∷ below)) ≡ Some (places plan (begun (steps_of code) x ∷ record f { state = n } ∷ below))
        fits_depth =
            let d = deep (record m { stack = begun (steps_of code) x ∷ record f { state = n } ∷ below; fresh = without x (m.fresh ++ x ∷ []) }) reached in
            let l = length-places plan (f ∷ below) in
            let room_left : length (places plan (f ∷ below)) ≤ p.depth = omega arith in
            let enough : nat_le (length (places plan (f ∷ below))) p.depth ≡ true = grind (arith, nat_tests) in
            ap (λ b. if b then Some (plan.number x 0 ∷ plan.number f.who n ∷ places plan below) else None) enough

    -- the foremost request, where the task was put last
    foremost_up : current app f.who f.held < app.level x → (t : ℕ) → foremost app (m.fresh ++ x ∷ []) ≡ Some t → t ≡ x
    foremost_up up t e = go (app.level x == app.level t) refl
      where
        most : IsForemost app (m.fresh ++ x ∷ []) t
        most = foremost_some app (m.fresh ++ x ∷ []) t e

        at_x : fresh_at app (app.level x) (m.fresh ++ x ∷ []) ≡ Fresh x ∷ []
        at_x =
            let same : (app.level x == app.level x) ≡ true = grind (arith, nat_tests) in
            requested_at app (Some x) m.fresh (app.level x)
            ∙ (ap (λ b. if b then fresh_at app (app.level x) m.fresh ++ Fresh x ∷ [] else fresh_at app (app.level x) m.fresh) same
            ∙ ap (λ es. es ++ Fresh x ∷ []) (calm (app.level x) up))

        go : (b : Bool) → (app.level x == app.level t) ≡ b → t ≡ x
        go true k =
            let levels : app.level x ≡ app.level t = grind (arith, nat_tests) in
            let same : Fresh x ∷ [] ≡ Fresh t ∷ fresh_at app (app.level t) (without t (m.fresh ++ x ∷ [])) = sym at_x ∙ (ap (λ l. fresh_at app l (m.fresh ++ x ∷ [])) levels ∙ most.same) in
            cc
        go false k = below_or_above (nat_lt (app.level t) (app.level x)) refl
          where
            below_or_above : (b : Bool) → nat_lt (app.level t) (app.level x) ≡ b → t ≡ x
            below_or_above true j =
                let lt : app.level t < app.level x = grind (arith, nat_tests) in
                let none : Fresh x ∷ [] ≡ [] = sym at_x ∙ most.above (app.level x) lt in
                cc
            below_or_above false j =
                let lt : current app f.who f.held < app.level t = grind (arith, nat_tests) in
                let none : [] ≡ Fresh t ∷ fresh_at app (app.level t) (without t (m.fresh ++ x ∷ [])) =
                sym (calm (app.level t) lt)
                ∙ (sym (ap (λ b. if b then fresh_at app (app.level t) m.fresh ++ Fresh x ∷ [] else fresh_at app (app.level t) m.fresh) k)
                ∙ (sym (requested_at app (Some x) m.fresh (app.level t)) ∙ most.same)) in
                cc

    foremost_low : app.level x ≤ current app f.who f.held → (t : ℕ) → foremost app (m.fresh ++ x ∷ []) ≡ Some t → app.level t ≤ current app f.who f.held
    foremost_low low t e = go (nat_le (app.level t) (current app f.who f.held)) refl
      where
        most : IsForemost app (m.fresh ++ x ∷ []) t
        most = foremost_some app (m.fresh ++ x ∷ []) t e

        go : (b : Bool) → nat_le (app.level t) (current app f.who f.held) ≡ b → app.level t ≤ current app f.who f.held
        go true j = grind (arith, nat_tests)
        go false j =
            let lt : current app f.who f.held < app.level t = grind (arith, nat_tests) in
            let off : (app.level x == app.level t) ≡ false = grind (arith, nat_tests) in
            let none : [] ≡ Fresh t ∷ fresh_at app (app.level t) (without t (m.fresh ++ x ∷ [])) =
            sym (calm (app.level t) lt)
            ∙ (sym (ap (λ b. if b then fresh_at app (app.level t) m.fresh ++ Fresh x ∷ [] else fresh_at app (app.level t) m.fresh) off)
            ∙ (sym (requested_at app (Some x) m.fresh (app.level t)) ∙ most.same)) in
            absurd (cc)

    -- an activation, and what the settling does
    pub activates : (nexts : List (Term × ℕ)) → first (value_in p.width (cell_after_sets p.width s.cells [])) nexts ≡ Some n → IsReached app (settle app (steps_of code) (record m { stack = record f { state = n } ∷ below; fresh = m.fresh ++ x ∷ [] })) → IsFired app code plan p s (activate_rules app plan p.width f.who x nexts) (settle app (steps_of code) (record m { stack = record f { state = n } ∷ below; fresh = m.fresh ++ x ∷ [] }))
    activates nexts next reached = split (nat_lt (app.run_level f.who) (app.level x)) refl
      where
        after : Option ℕ → Stacked ℕ Bits
        after o = settle_with app (steps_of code) o (record m { stack = record f { state = n } ∷ below; fresh = m.fresh ++ x ∷ [] })

        awake : run_on (record f { state = n } ∷ below) ≡ record f { state = n } ∷ below
        awake = run_on_plain plan.resources (record f { state = n } ∷ below) meets.shaped.plain

        up_case : nat_lt (current app f.who f.held) (app.level x) ≡ true → IsFired app code plan p s (guarded (none_held app plan (app.level x)) (next_rules app plan p.width [] (change_sets app plan (pushed x)) (λ k. Push (plan.number f.who k) (plan.number x 0)) nexts) ++ (next_rules app plan p.width [] (change_sets app plan (added x)) (λ k. Goto (plan.number f.who k)) nexts)) (settle app (steps_of code) (record m { stack = record f { state = n } ∷ below; fresh = m.fresh ++ x ∷ [] }))
        up_case e = go (foremost app (m.fresh ++ x ∷ [])) refl reached
          where
            up : current app f.who f.held < app.level x
            up = grind (arith, nat_tests)

            go : (o : Option ℕ) → foremost app (m.fresh ++ x ∷ []) ≡ o → IsReached app (settle_with app (steps_of code) o (record m { stack = record f { state = n } ∷ below; fresh = m.fresh ++ x ∷ [] })) → IsFired app code plan p s (guarded (none_held app plan (app.level x)) (next_rules app plan p.width [] (change_sets app plan (pushed x)) (λ k. Push (plan.number f.who k) (plan.number x 0)) nexts) ++ (next_rules app plan p.width [] (change_sets app plan (added x)) (λ k. Goto (plan.number f.who k)) nexts)) (settle_with app (steps_of code) o (record m { stack = record f { state = n } ∷ below; fresh = m.fresh ++ x ∷ [] }))
            go None k r = absurd (not_empty m.fresh x (foremost_none app (m.fresh ++ x ∷ []) k))
            go (Some t) k r =
                let same : t ≡ x = foremost_up up t k in
                let is : foremost app (m.fresh ++ x ∷ []) ≡ Some x = k ∙ ap Some same in
                let test : nat_lt (standing app (record f { state = n })) (app.level x) ≡ true = (let st = stands in grind (arith, nat_tests)) in
                let result : settle_with app (steps_of code) (Some t) (record m { stack = record f { state = n } ∷ below; fresh = m.fresh ++ x ∷ [] }) ≡ record m { stack = begun (steps_of code) x ∷ record f { state = n } ∷ below; fresh = without x (m.fresh ++ x ∷ []) } =
                ap (λ u. settle_with app (steps_of code) (Some u) (record m { stack = record f { state = n } ∷ below; fresh = m.fresh ++ x ∷ [] })) same
                ∙ ap (λ b. if b then record m { stack = begun (steps_of code) x ∷ record f { state = n } ∷ below; fresh = without x (m.fresh ++ x ∷ []) } else record m { stack = run_on (record f { state = n } ∷ below); fresh = m.fresh ++ x ∷ [] }) test in
                subst (λ z. IsFired app code plan p s (guarded (none_held app plan (app.level x)) (next_rules app plan p.width [] (change_sets app plan (pushed x)) (λ k. Push (plan.number f.who k) (plan.number x 0)) nexts) ++ (next_rules app plan p.width [] (change_sets app plan (added x)) (λ k. Goto (plan.number f.who k)) nexts)) z) (sym result)
                (pushes nexts (next_rules app plan p.width [] (change_sets app plan (added x)) (λ k. Goto (plan.number f.who k)) nexts) up is next (subst (λ z. IsReached app z) result r))

        low_case : app.level x ≤ current app f.who f.held → IsFired app code plan p s (next_rules app plan p.width [] (change_sets app plan (added x)) (λ k. Goto (plan.number f.who k)) nexts) (settle app (steps_of code) (record m { stack = record f { state = n } ∷ below; fresh = m.fresh ++ x ∷ [] }))
        low_case low = go (foremost app (m.fresh ++ x ∷ [])) refl reached
          where
            stays : (st : List (Frame ℕ)) → st ≡ record f { state = n } ∷ below → IsReached app (record m { stack = st; fresh = m.fresh ++ x ∷ [] }) → IsFired app code plan p s (next_rules app plan p.width [] (change_sets app plan (added x)) (λ k. Goto (plan.number f.who k)) nexts) (record m { stack = st; fresh = m.fresh ++ x ∷ [] })
            stays st is r =
                subst (λ z. IsFired app code plan p s (next_rules app plan p.width [] (change_sets app plan (added x)) (λ k. Goto (plan.number f.who k)) nexts) (record m { stack = z; fresh = m.fresh ++ x ∷ [] })) (sym is)
                (waits nexts low next (subst (λ z. IsReached app (record m { stack = z; fresh = m.fresh ++ x ∷ [] })) is r))

            go : (o : Option ℕ) → foremost app (m.fresh ++ x ∷ []) ≡ o → IsReached app (settle_with app (steps_of code) o (record m { stack = record f { state = n } ∷ below; fresh = m.fresh ++ x ∷ [] })) → IsFired app code plan p s (next_rules app plan p.width [] (change_sets app plan (added x)) (λ k. Goto (plan.number f.who k)) nexts) (settle_with app (steps_of code) o (record m { stack = record f { state = n } ∷ below; fresh = m.fresh ++ x ∷ [] }))
            go None k r = stays (run_on (record f { state = n } ∷ below)) awake r
            go (Some t) k r =
                let le : app.level t ≤ current app f.who f.held = foremost_low low t k in
                let test : nat_lt (standing app (record f { state = n })) (app.level t) ≡ false = (let st = stands in grind (arith, nat_tests)) in
                let result : settle_with app (steps_of code) (Some t) (record m { stack = record f { state = n } ∷ below; fresh = m.fresh ++ x ∷ [] }) ≡ record m { stack = run_on (record f { state = n } ∷ below); fresh = m.fresh ++ x ∷ [] } =
                ap (λ b. if b then record m { stack = begun (steps_of code) t ∷ record f { state = n } ∷ below; fresh = without t (m.fresh ++ x ∷ []) } else record m { stack = run_on (record f { state = n } ∷ below); fresh = m.fresh ++ x ∷ [] }) test in
                subst (λ z. IsFired app code plan p s (next_rules app plan p.width [] (change_sets app plan (added x)) (λ k. Goto (plan.number f.who k)) nexts) z) (sym result)
                (stays (run_on (record f { state = n } ∷ below)) awake (subst (λ z. IsReached app z) result r))

        split : (b : Bool) → nat_lt (app.run_level f.who) (app.level x) ≡ b → IsFired app code plan p s (if b then guarded (none_held app plan (app.level x)) (next_rules app plan p.width [] (change_sets app plan (pushed x)) (λ k. Push (plan.number f.who k) (plan.number x 0)) nexts) ++ (next_rules app plan p.width [] (change_sets app plan (added x)) (λ k. Goto (plan.number f.who k)) nexts) else (next_rules app plan p.width [] (change_sets app plan (added x)) (λ k. Goto (plan.number f.who k)) nexts)) (settle app (steps_of code) (record m { stack = record f { state = n } ∷ below; fresh = m.fresh ++ x ∷ [] }))
        split true e = inner (nat_lt (current app f.who f.held) (app.level x)) refl
          where
            inner : (b : Bool) → nat_lt (current app f.who f.held) (app.level x) ≡ b → IsFired app code plan p s (guarded (none_held app plan (app.level x)) (next_rules app plan p.width [] (change_sets app plan (pushed x)) (λ k. Push (plan.number f.who k) (plan.number x 0)) nexts) ++ (next_rules app plan p.width [] (change_sets app plan (added x)) (λ k. Goto (plan.number f.who k)) nexts)) (settle app (steps_of code) (record m { stack = record f { state = n } ∷ below; fresh = m.fresh ++ x ∷ [] }))
            inner true k = up_case k
            inner false k =
                let run : app.run_level f.who < app.level x = grind (arith, nat_tests) in
                let high : app.level x ≤ current app f.who f.held = grind (arith, nat_tests) in
                let w : IsFired app code plan p s (next_rules app plan p.width [] (change_sets app plan (added x)) (λ k. Goto (plan.number f.who k)) nexts) (settle app (steps_of code) (record m { stack = record f { state = n } ∷ below; fresh = m.fresh ++ x ∷ [] })) = low_case high in
                record {
                  rule = w.rule;
                  first = guarded_shut app plan p.width s.cells (none_held app plan (app.level x)) (next_rules app plan p.width [] (change_sets app plan (pushed x)) (λ k. Push (plan.number f.who k) (plan.number x 0)) nexts) (next_rules app plan p.width [] (change_sets app plan (added x)) (λ k. Goto (plan.number f.who k)) nexts) (free_false run high) ∙ w.first;
                  led = w.led;
                }
        split false e =
            let run : app.level x ≤ app.run_level f.who = grind (arith, nat_tests) in
            let within = current_above app f.who f.held in
            low_case (omega arith)
