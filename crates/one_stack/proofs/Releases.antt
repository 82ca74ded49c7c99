-- A resource is released, and a task that waited for it may start.
use Rattle.std.proofs.Common.{◌≡◌, ◌≢◌, ℕ, zero, suc, ◌+◌, ◌<◌, ◌≤◌, Bool, true, false, not, ◌&&◌, List, [], ◌∷◌, ◌++◌, length, Option, Some, None, refl, sym, ap, subst, ◌∙◌, arith, nat_lt, nat_le, ◌==◌, if◌then◌else◌, append_assoc}
use Rattle.std.proofs.lemmas.Bool.Decides.{nat_tests}
use Rattle.chk_base.specs.Operators.{truth}
use Rattle.chk_base.specs.Term.{Term}
use Rattle.guard_prog.specs.GuardedRun.{Program, State as Standing, value_in, cell_after_sets, stack_after}
use Rattle.guard_prog.specs.declared.draft.Control.TheVariants.{Goto, Push}
use Rattle.one_stack.proofs.Activates.{guarded_fires, guarded_shut, deep, length-places}
use Rattle.one_stack.proofs.Choosing.{first_rule}
use Rattle.one_stack.proofs.Ends.{IsFired, plain_standing, rises_of, run_on_plain, held_none, all_low, Reason, Runs, Holds, reason, under_at}
use Rattle.one_stack.proofs.Kept.{IsChange}
use Rattle.one_stack.proofs.Meeting.{IsProgram, IsReached, Meets, ArePlain, changes, limits_after, single_after}
use Rattle.one_stack.proofs.Own.{Fires, next_fires}
use Rattle.one_stack.proofs.Settling.{held_low, ceiling_low, none_of_true, none_of_false, held_cell, other_shut, first_open, first_shut, none_shut}
use Rattle.one_stack.specs.Built.{places, held_times, held_of}
use Rattle.one_stack.specs.PlainCode.{PlainCode, steps_of}
use Rattle.one_stack.specs.Rules.{Plan, Rule, Held, change_sets, plain, released, next_rules, guarded, may_push, none_held_but, push_rules, release_rules}
use Rattle.one_stack.specs.TaskForm.{Has, IsTaskForm}
use Rattle.step_ir.proofs.Lists.{foremost_some, foremost_none}
use Rattle.step_ir.proofs.Stacks.{rises_below, times_below, current_above}
use Rattle.step_ir.specs.Agreement.{fresh_at, Rises, IsForemost}
use Rattle.step_ir.specs.Numbers.{times, tail, AreUnder}
use Rattle.step_ir.specs.OneStackMachine.{Stacked, Frame, whos, standing, standing_of_top, settle, settle_with, run_on, begun, without}
use Rattle.step_ir.specs.PointStep.{Bits, first}
use Rattle.step_ir.specs.SchedulerState.{Fresh}
use Rattle.step_ir.specs.Setting.{Setting, current, foremost, IsSound, AreTasks}
use Rattle.step_ir.specs.declared.event.Choice.{Choice}

module _ (app : Setting) (sound : IsSound app) (code : PlainCode) {resources : ℕ} (form : IsTaskForm app resources code) (plan : Plan) (p : Program) (chosen : ℕ → ℕ → Choice) (made : IsProgram app code plan p chosen) where
  module _ (s : Standing) (m : Stacked ℕ Bits) (f : Frame ℕ) (below : List (Frame ℕ)) (r n : ℕ) (rest : List ℕ) (meets : Meets app code plan p s (record m { stack = f ∷ below })) (runs : m.is_stopped ≡ false) (has_next : Has (code.points f.who) n) (took : f.held ≡ r ∷ rest) where
    rises : Rises app (f ∷ below)
    rises = rises_of app sound code form plan p chosen made (record m { stack = f ∷ below }) meets.shaped.reached

    left : tail f.held ≡ rest
    left = ap tail took

    -- nobody holds it afterwards
    times_left : (q : ℕ) (b : Bool) → (r == q) ≡ b → times q (tail f.held) + held_times q below ≡ (if b then 0 else times q f.held + held_times q below)
    times_left q true k =
        let same : r ≡ q = grind (arith, nat_tests) in
        let one = meets.shaped.single q in
        let whole : times q f.held ≡ (if r == q then times q rest + 1 else times q rest) = ap (times q) took in
        let whole' : times q f.held ≡ times q rest + 1 = whole ∙ ap (λ b. if b then times q rest + 1 else times q rest) k in
        let part : times q (tail f.held) ≡ times q rest = ap (times q) left in
        omega arith
    times_left q false k =
        let whole : times q f.held ≡ (if r == q then times q rest + 1 else times q rest) = ap (times q) took in
        let whole' : times q f.held ≡ times q rest = whole ∙ ap (λ b. if b then times q rest + 1 else times q rest) k in
        let part : times q (tail f.held) ≡ times q rest = ap (times q) left in
        omega arith

    kept_left : (e : ℕ) (b : Bool) → (if b then tail f.held else held_of e below) ≡ (if b then tail (if b then f.held else held_of e below) else (if b then f.held else held_of e below))
    kept_left e true = refl
    kept_left e false = refl

    plain_left : ArePlain plan.resources (record f { state = n; held = tail f.held } ∷ below)
    plain_left = (meets.shaped.plain.0, under f.held meets.shaped.plain.1, meets.shaped.plain.2)
      where
        under : (rs : List ℕ) → AreUnder plan.resources rs → AreUnder plan.resources (tail rs)
        under [] h = tt
        under (x ∷ xs) h = h.1

    release_change : IsChange app plan (released f.who r None) (record m { stack = f ∷ below }) (record m { stack = record f { state = n; held = tail f.held } ∷ below })
    release_change =
        record {
          on = λ y lt. refl;
          count = λ y lt. refl;
          waits = λ l. refl;
          held = λ q lt. times_left q (r == q) refl;
          kept = λ e lt. kept_left e (f.who == e);
          ended = λ y e. absurd (let z : false ≡ true = e in cc);
          asked = λ y e. absurd (let z : false ≡ true = e in cc);
        }

    -- the caller goes on
    stays : (rules nexts_before : List Rule) (nexts : List (Term × ℕ)) → first_rule (value_in p.width s.cells) rules ≡ first_rule (value_in p.width s.cells) (next_rules app plan p.width [] (change_sets app plan (released f.who r None)) (λ k. Goto (plan.number f.who k)) nexts) → first (value_in p.width (cell_after_sets p.width s.cells [])) nexts ≡ Some n → ((l : ℕ) → current app f.who (tail f.held) < l → fresh_at app l m.fresh ≡ []) → IsReached app (record m { stack = record f { state = n; held = tail f.held } ∷ below }) → IsFired app code plan p s rules (record m { stack = record f { state = n; held = tail f.held } ∷ below })
    stays rules nexts_before nexts same next calm reached =
        let fires = next_fires app plan p.width s.cells [] (change_sets app plan (released f.who r None)) (λ k. Goto (plan.number f.who k)) nexts n next in
        record {
          rule = plain fires.guard (change_sets app plan (released f.who r None)) (Goto (plan.number f.who n));
          first = same ∙ fires.is;
          led =
              record {
                plainly = refl;
                stack = places plan (record f { state = n; held = tail f.held } ∷ below);
                leads = ap (stack_after p.depth (Goto (plan.number f.who n))) meets.stack;
                meets =
                    changes app code plan p chosen made s (record m { stack = f ∷ below }) (record m { stack = record f { state = n; held = tail f.held } ∷ below }) (released f.who r None) meets release_change (λ q. refl) runs
                    (record {
                      limits = meets.shaped.limits;
                      plain = plain_left;
                      single = single_after app code plan p chosen made (record m { stack = f ∷ below }) (record m { stack = record f { state = n; held = tail f.held } ∷ below }) (released f.who r None) meets.shaped release_change plain_left;
                      sections = meets.shaped.sections;
                      calm = calm;
                      known = (has_next, meets.shaped.known.1);
                      reached = reached;
                    });
              };
        }

    module _ (t : ℕ) (most_is : foremost app m.fresh ≡ Some t) where
      most : IsForemost app m.fresh t
      most = foremost_some app m.fresh t most_is

      task : app.is_task t ≡ true
      task = most.task meets.shaped.reached.agrees.agreed.fresh

      -- it waits no higher than the current level was
      not_calm : app.level t ≤ current app f.who f.held
      not_calm = go (nat_le (app.level t) (current app f.who f.held)) refl
        where
          go : (b : Bool) → nat_le (app.level t) (current app f.who f.held) ≡ b → app.level t ≤ current app f.who f.held
          go true e = grind (arith, nat_tests)
          go false e =
              let above : current app f.who f.held < app.level t = grind (arith, nat_tests) in
              let none : [] ≡ Fresh t ∷ fresh_at app (app.level t) (without t m.fresh) = sym (meets.shaped.calm (app.level t) above) ∙ most.same in
              absurd (cc)

      -- its guard
      free_true : current app f.who (tail f.held) < app.level t → truth (value_in p.width s.cells (none_held_but app plan r (app.level t))) ≡ true
      free_true up =
          none_of_true app plan p.width code.cells made.layout s.cells (record m { stack = f ∷ below }) meets.holds Held (λ q. not (q == r) && nat_le (app.level t) (app.ceiling q)) (λ q. held_times q (f ∷ below)) plan.resources
          (held_cell app plan p.width code.cells made.layout s.cells (record m { stack = f ∷ below }) meets.holds)
          (λ q lt e.
          let other : q ≢ r = grind (arith, nat_tests) in
          let above : app.level t ≤ app.ceiling q = grind (arith, nat_tests) in
          let off : (r == q) ≡ false = grind (arith, nat_tests) in
          let part = times_left q (r == q) refl in
          let run = current_above app f.who (tail f.held) in
          let own = sound.runs_above f.who in
          let below_low : standing_of_top app below < app.level t = omega (arith, rises.0) in
          let mine = ceiling_low app f.who (app.level t) q (tail f.held) above up in
          let theirs = held_low app (app.level t) q below above (all_low app sound code form plan p chosen made (app.level t) below meets.shaped.plain.2 below_low rises.1) in
          let whole : times q (tail f.held) + held_times q below ≡ times q f.held + held_times q below = times_left q false off in
          omega arith)

      free_false : app.run_level f.who < app.level t → app.level t ≤ current app f.who (tail f.held) → truth (value_in p.width s.cells (none_held_but app plan r (app.level t))) ≡ false
      free_false run high = why (reason app f.who (app.level t) (tail f.held) high)
        where
          why : Reason app f.who (app.level t) (tail f.held) → truth (value_in p.width s.cells (none_held_but app plan r (app.level t))) ≡ false
          why (Runs k) = absurd (omega arith)
          why (Holds q some k) = here (r == q) refl
            where
              here : (b : Bool) → (r == q) ≡ b → truth (value_in p.width s.cells (none_held_but app plan r (app.level t))) ≡ false
              here true e =
                  let none = times_left q true e in
                  absurd (omega arith)
              here false e =
                  let whole = times_left q false e in
                  none_of_false app plan p.width code.cells made.layout s.cells (record m { stack = f ∷ below }) meets.holds Held (λ q. not (q == r) && nat_le (app.level t) (app.ceiling q)) (λ q. held_times q (f ∷ below)) plan.resources q
                  (held_cell app plan p.width code.cells made.layout s.cells (record m { stack = f ∷ below }) meets.holds)
                  (under_at plan.resources q (tail f.held) plain_left.1 some) (grind (arith, nat_tests)) (omega arith)

      push_change : app.run_level f.who < app.level t → standing app f ≡ current app f.who f.held → times t (whos (f ∷ below)) ≡ 0 → IsChange app plan (released f.who r (Some t)) (record m { stack = f ∷ below }) (record m { stack = begun (steps_of code) t ∷ record f { state = n; held = tail f.held } ∷ below; fresh = without t m.fresh })
      push_change up stands nobody =
          record {
            on = λ y lt. let k = nobody in grind (arith, nat_tests);
            count = λ y lt. let c = most.counts y in grind (arith, nat_tests);
            waits = λ l. waits l (app.level t == l) refl;
            held = λ q lt. let z = times_left q (r == q) refl in omega arith;
            kept = λ e lt. kept e (t == e) refl;
            ended = λ y e. absurd (let z : false ≡ true = e in cc);
            asked = λ y e. absurd (let z : false ≡ true = e in cc);
          }
        where
          kept : (e : ℕ) (b : Bool) → (t == e) ≡ b → (if b then [] else (if f.who == e then tail f.held else held_of e below)) ≡ (if f.who == e then tail (held_of e (f ∷ below)) else held_of e (f ∷ below))
          kept e true k =
              let is : t ≡ e = grind (arith, nat_tests) in
              let none : times e (whos (f ∷ below)) ≡ 0 = subst (λ z. times z (whos (f ∷ below)) ≡ 0) is nobody in
              let off : (f.who == e) ≡ false = grind (arith, nat_tests) in
              sym (held_none e (f ∷ below) none) ∙ ap (λ b. if b then tail (held_of e (f ∷ below)) else held_of e (f ∷ below)) (sym off)
          kept e false k = kept_left e (f.who == e)

          waits : (l : ℕ) (b : Bool) → (app.level t == l) ≡ b → fresh_at app l (without t m.fresh) ≡ (if b then tail (fresh_at app l m.fresh) else fresh_at app l m.fresh)
          waits l true e =
              let same : app.level t ≡ l = grind (arith, nat_tests) in
              sym (ap tail (subst (λ k. fresh_at app k m.fresh ≡ Fresh t ∷ fresh_at app k (without t m.fresh)) same most.same))
          waits l false e =
              let differ : l ≢ app.level t = grind (arith, nat_tests) in
              sym (most.others l differ)

    push_miss : (nexts : List (Term × ℕ)) (rest_rules : List Rule) (k : ℕ) → ((u : ℕ) → u < k → (nat_lt (app.run_level f.who) (app.level u) && nat_le (app.level u) (app.ceiling r)) ≡ true → truth (value_in p.width s.cells (may_push app plan r u)) ≡ false) → first_rule (value_in p.width s.cells) (push_rules app plan p.width f.who r nexts k ++ rest_rules) ≡ first_rule (value_in p.width s.cells) rest_rules
    push_miss nexts rest_rules zero h = refl
    push_miss nexts rest_rules (suc t) h = go (nat_lt (app.run_level f.who) (app.level t) && nat_le (app.level t) (app.ceiling r)) refl (push_miss nexts rest_rules t (λ u lt c. h u (omega arith) c))
      where
        go : (b : Bool) → (nat_lt (app.run_level f.who) (app.level t) && nat_le (app.level t) (app.ceiling r)) ≡ b → first_rule (value_in p.width s.cells) (push_rules app plan p.width f.who r nexts t ++ rest_rules) ≡ first_rule (value_in p.width s.cells) rest_rules → first_rule (value_in p.width s.cells) ((if b then guarded (may_push app plan r t) (next_rules app plan p.width [] (change_sets app plan (released f.who r (Some t))) (λ k. Push (plan.number f.who k) (plan.number t 0)) nexts) ++ push_rules app plan p.width f.who r nexts t else push_rules app plan p.width f.who r nexts t) ++ rest_rules) ≡ first_rule (value_in p.width s.cells) rest_rules
        go true e ih =
            ap (first_rule (value_in p.width s.cells)) (append_assoc (guarded (may_push app plan r t) (next_rules app plan p.width [] (change_sets app plan (released f.who r (Some t))) (λ k. Push (plan.number f.who k) (plan.number t 0)) nexts)) (push_rules app plan p.width f.who r nexts t) rest_rules)
            ∙ (guarded_shut app plan p.width s.cells (may_push app plan r t) (next_rules app plan p.width [] (change_sets app plan (released f.who r (Some t))) (λ k. Push (plan.number f.who k) (plan.number t 0)) nexts) (push_rules app plan p.width f.who r nexts t ++ rest_rules) (h t (omega arith) e) ∙ ih)
        go false e ih = ih

    push_hit : (nexts : List (Term × ℕ)) (rest_rules : List Rule) (k t : ℕ) → t < k → (nat_lt (app.run_level f.who) (app.level t) && nat_le (app.level t) (app.ceiling r)) ≡ true → truth (value_in p.width s.cells (may_push app plan r t)) ≡ true → ((u : ℕ) → u < k → u ≢ t → truth (value_in p.width s.cells (may_push app plan r u)) ≡ false) → Fires (value_in p.width s.cells) (next_rules app plan p.width [] (change_sets app plan (released f.who r (Some t))) (λ k. Push (plan.number f.who k) (plan.number t 0)) nexts) (change_sets app plan (released f.who r (Some t))) (Push (plan.number f.who n) (plan.number t 0)) → Fires (value_in p.width s.cells) (push_rules app plan p.width f.who r nexts k ++ rest_rules) (change_sets app plan (released f.who r (Some t))) (Push (plan.number f.who n) (plan.number t 0))
    push_hit nexts rest_rules zero t lt there here others fires = absurd (omega arith)
    push_hit nexts rest_rules (suc w) t lt there here others fires = go (w == t) refl (nat_lt (app.run_level f.who) (app.level w) && nat_le (app.level w) (app.ceiling r)) refl (λ l. push_hit nexts rest_rules w t l there here (λ u lu d. others u (omega arith) d) fires)
      where
        go : (a : Bool) → (w == t) ≡ a → (b : Bool) → (nat_lt (app.run_level f.who) (app.level w) && nat_le (app.level w) (app.ceiling r)) ≡ b → (t < w → Fires (value_in p.width s.cells) (push_rules app plan p.width f.who r nexts w ++ rest_rules) (change_sets app plan (released f.who r (Some t))) (Push (plan.number f.who n) (plan.number t 0))) → Fires (value_in p.width s.cells) ((if b then guarded (may_push app plan r w) (next_rules app plan p.width [] (change_sets app plan (released f.who r (Some w))) (λ k. Push (plan.number f.who k) (plan.number w 0)) nexts) ++ push_rules app plan p.width f.who r nexts w else push_rules app plan p.width f.who r nexts w) ++ rest_rules) (change_sets app plan (released f.who r (Some t))) (Push (plan.number f.who n) (plan.number t 0))
        go true e true g ih =
            let same : t ≡ w = grind (arith, nat_tests) in
            let fires' = guarded_fires app plan p.width s.cells (may_push app plan r t) (next_rules app plan p.width [] (change_sets app plan (released f.who r (Some t))) (λ k. Push (plan.number f.who k) (plan.number t 0)) nexts) (push_rules app plan p.width f.who r nexts w ++ rest_rules) (change_sets app plan (released f.who r (Some t))) (Push (plan.number f.who n) (plan.number t 0)) here fires in
            subst (λ xs. Fires (value_in p.width s.cells) xs (change_sets app plan (released f.who r (Some t))) (Push (plan.number f.who n) (plan.number t 0))) (sym (append_assoc (guarded (may_push app plan r w) (next_rules app plan p.width [] (change_sets app plan (released f.who r (Some w))) (λ k. Push (plan.number f.who k) (plan.number w 0)) nexts)) (push_rules app plan p.width f.who r nexts w) rest_rules))
            (subst (λ z. Fires (value_in p.width s.cells) (guarded (may_push app plan r z) (next_rules app plan p.width [] (change_sets app plan (released f.who r (Some z))) (λ k. Push (plan.number f.who k) (plan.number z 0)) nexts) ++ (push_rules app plan p.width f.who r nexts w ++ rest_rules)) (change_sets app plan (released f.who r (Some t))) (Push (plan.number f.who n) (plan.number t 0))) same fires')
        go true e false g ih =
            let same : w ≡ t = grind (arith, nat_tests) in
            absurd (let z : true ≡ false = sym there ∙ (sym (ap (λ u. (nat_lt (app.run_level f.who) (app.level u) && nat_le (app.level u) (app.ceiling r))) same) ∙ g) in cc)
        go false e true g ih =
            let differ : w ≢ t = grind (arith, nat_tests) in
            let rest_fires = ih (omega arith) in
            record {
              guard = rest_fires.guard;
              is =
                  ap (first_rule (value_in p.width s.cells)) (append_assoc (guarded (may_push app plan r w) (next_rules app plan p.width [] (change_sets app plan (released f.who r (Some w))) (λ k. Push (plan.number f.who k) (plan.number w 0)) nexts)) (push_rules app plan p.width f.who r nexts w) rest_rules)
                  ∙ (guarded_shut app plan p.width s.cells (may_push app plan r w) (next_rules app plan p.width [] (change_sets app plan (released f.who r (Some w))) (λ k. Push (plan.number f.who k) (plan.number w 0)) nexts) (push_rules app plan p.width f.who r nexts w ++ rest_rules) (others w (omega arith) differ) ∙ rest_fires.is);
            }
        go false e false g ih =
            let differ : w ≢ t = grind (arith, nat_tests) in
            ih (omega arith)

    standing_left : standing app (record f { state = n; held = tail f.held }) ≡ current app f.who (tail f.held)
    standing_left = plain_standing app sound code form plan p chosen made (record f { state = n; held = tail f.held }) meets.shaped.plain.0

    pushes : (nexts : List (Term × ℕ)) (t : ℕ) → foremost app m.fresh ≡ Some t → current app f.who (tail f.held) < app.level t → first (value_in p.width (cell_after_sets p.width s.cells [])) nexts ≡ Some n → IsReached app (record m { stack = begun (steps_of code) t ∷ record f { state = n; held = tail f.held } ∷ below; fresh = without t m.fresh }) → IsFired app code plan p s (release_rules app plan p.width f.who r nexts) (record m { stack = begun (steps_of code) t ∷ record f { state = n; held = tail f.held } ∷ below; fresh = without t m.fresh })
    pushes nexts t first_is up next reached =
        let most' = foremost_some app m.fresh t first_is in
        let is_task = most'.task meets.shaped.reached.agrees.agreed.fresh in
        let run = current_above app f.who (tail f.held) in
        let high : app.run_level f.who < app.level t = omega arith in
        let not_above = not_calm t first_is in
        let take : current app f.who f.held ≡ current app f.who (r ∷ rest) = ap (current app f.who) took in
        let drop_it : current app f.who (tail f.held) ≡ current app f.who rest = ap (current app f.who) left in
        let within : app.level t ≤ app.ceiling r = omega arith in
        let there : (nat_lt (app.run_level f.who) (app.level t) && nat_le (app.level t) (app.ceiling r)) ≡ true = grind (arith, nat_tests) in
        let fires = push_hit nexts (next_rules app plan p.width [] (change_sets app plan (released f.who r None)) (λ k. Goto (plan.number f.who k)) nexts) plan.tasks t (made.layout.tasks t is_task) there
        (first_open app plan p.width code.cells made.layout s.cells (record m { stack = f ∷ below }) meets.holds sound f below refl rises None meets.shaped.reached.agrees.agreed.fresh t first_is _ (free_true t first_is up))
        (λ u lu d. other_shut app plan p.width code.cells made.layout s.cells (record m { stack = f ∷ below }) meets.holds sound f below refl rises None meets.shaped.reached.agrees.agreed.fresh t first_is u _ lu d)
        (next_fires app plan p.width s.cells [] (change_sets app plan (released f.who r (Some t))) (λ k. Push (plan.number f.who k) (plan.number t 0)) nexts n next) in
        let change = push_change t first_is high (plain_standing app sound code form plan p chosen made f meets.shaped.plain.0) (nobody t high) in
        record {
          rule = plain fires.guard (change_sets app plan (released f.who r (Some t))) (Push (plan.number f.who n) (plan.number t 0));
          first = fires.is;
          led =
              record {
                plainly = refl {a = None};
                stack = places plan (begun (steps_of code) t ∷ record f { state = n; held = tail f.held } ∷ below);
                leads = ap (stack_after p.depth (Push (plan.number f.who n) (plan.number t 0))) meets.stack ∙ fits_depth;
                meets =
                    changes app code plan p chosen made s (record m { stack = f ∷ below }) (record m { stack = begun (steps_of code) t ∷ record f { state = n; held = tail f.held } ∷ below; fresh = without t m.fresh }) (released f.who r (Some t)) meets change (λ q. refl) runs
                    (record {
                      limits = limits_after app code plan p chosen made (record m { stack = f ∷ below }) (record m { stack = begun (steps_of code) t ∷ record f { state = n; held = tail f.held } ∷ below; fresh = without t m.fresh }) (released f.who r (Some t)) meets.shaped change;
                      plain = (refl, tt, plain_left);
                      single = single_after app code plan p chosen made (record m { stack = f ∷ below }) (record m { stack = begun (steps_of code) t ∷ record f { state = n; held = tail f.held } ∷ below; fresh = without t m.fresh }) (released f.who r (Some t)) meets.shaped change (refl, tt, plain_left);
                      sections = meets.shaped.sections;
                      calm =
                          λ l above.
                          let higher : app.level t < l = omega (arith, sound.runs_above t) in
                          let differ : l ≢ app.level t = λ z. absurd (omega arith) in
                          sym (most'.others l differ) ∙ most'.above l higher;
                      known = (form.begins t is_task, (has_next, meets.shaped.known.1));
                      reached = reached;
                    });
              };
        }
      where
        nobody : (t : ℕ) → app.run_level f.who < app.level t → times t (whos (f ∷ below)) ≡ 0
        nobody t high =
            let own = sound.runs_above f.who in
            let differ : f.who ≢ t = λ z. absurd (omega (arith, ap app.level z)) in
            let low : standing_of_top app below < app.level t = omega (arith, rises.0) in
            let none = times_below app t below (rises_below app sound (app.level t) below low rises.1) in
            grind (arith, nat_tests)

        fits_depth : stack_after p.depth (Push (plan.number f.who n) (plan.number t 0)) (places plan (f ∷ below)) ≡ Some (places plan (begun (steps_of code) t ∷ record f { state = n; held = tail f.held } ∷ below))
        fits_depth =
            let d = deep app sound code form plan p chosen made (record m { stack = begun (steps_of code) t ∷ record f { state = n; held = tail f.held } ∷ below; fresh = without t m.fresh }) reached in
            let l = length-places plan (f ∷ below) in
            let room_left : length (places plan (f ∷ below)) ≤ p.depth = omega arith in
            let enough : nat_le (length (places plan (f ∷ below))) p.depth ≡ true = grind (arith, nat_tests) in
            ap (λ b. if b then Some (plan.number t 0 ∷ plan.number f.who n ∷ places plan below) else None) enough

    awake : run_on (record f { state = n; held = tail f.held } ∷ below) ≡ record f { state = n; held = tail f.held } ∷ below
    awake = run_on_plain plan.resources (record f { state = n; held = tail f.held } ∷ below) plain_left

    rests : (nexts : List (Term × ℕ)) → first (value_in p.width (cell_after_sets p.width s.cells [])) nexts ≡ Some n → ((u : ℕ) → u < plan.tasks → (nat_lt (app.run_level f.who) (app.level u) && nat_le (app.level u) (app.ceiling r)) ≡ true → truth (value_in p.width s.cells (may_push app plan r u)) ≡ false) → ((l : ℕ) → current app f.who (tail f.held) < l → fresh_at app l m.fresh ≡ []) → IsReached app (record m { stack = record f { state = n; held = tail f.held } ∷ below }) → IsFired app code plan p s (release_rules app plan p.width f.who r nexts) (record m { stack = record f { state = n; held = tail f.held } ∷ below })
    rests nexts next none calm reached =
        stays (release_rules app plan p.width f.who r nexts) [] nexts (push_miss nexts (next_rules app plan p.width [] (change_sets app plan (released f.who r None)) (λ k. Goto (plan.number f.who k)) nexts) plan.tasks none) next calm reached

    -- a release, and what the settling does
    pub releases : (nexts : List (Term × ℕ)) → first (value_in p.width (cell_after_sets p.width s.cells [])) nexts ≡ Some n → IsReached app (settle app (steps_of code) (record m { stack = record f { state = n; held = tail f.held } ∷ below })) → IsFired app code plan p s (release_rules app plan p.width f.who r nexts) (settle app (steps_of code) (record m { stack = record f { state = n; held = tail f.held } ∷ below }))
    releases nexts next reached = go (foremost app m.fresh) refl reached
      where
        runs_on : ((u : ℕ) → u < plan.tasks → (nat_lt (app.run_level f.who) (app.level u) && nat_le (app.level u) (app.ceiling r)) ≡ true → truth (value_in p.width s.cells (may_push app plan r u)) ≡ false) → ((l : ℕ) → current app f.who (tail f.held) < l → fresh_at app l m.fresh ≡ []) → IsReached app (record m { stack = run_on (record f { state = n; held = tail f.held } ∷ below) }) → IsFired app code plan p s (release_rules app plan p.width f.who r nexts) (record m { stack = run_on (record f { state = n; held = tail f.held } ∷ below) })
        runs_on none calm rr =
            subst (λ fs. IsFired app code plan p s (release_rules app plan p.width f.who r nexts) (record m { stack = fs })) (sym awake)
            (rests nexts next none calm (subst (λ fs. IsReached app (record m { stack = fs })) awake rr))

        go : (o : Option ℕ) → foremost app m.fresh ≡ o → IsReached app (settle_with app (steps_of code) o (record m { stack = record f { state = n; held = tail f.held } ∷ below })) → IsFired app code plan p s (release_rules app plan p.width f.who r nexts) (settle_with app (steps_of code) o (record m { stack = record f { state = n; held = tail f.held } ∷ below }))
        go None e rr =
            runs_on
            (λ u lu c. none_shut app plan p.width code.cells made.layout s.cells (record m { stack = f ∷ below }) meets.holds None u _ lu e)
            (λ l above. ap (fresh_at app l) (foremost_none app m.fresh e))
            rr
        go (Some t) e rr = test (nat_lt (standing app (record f { state = n; held = tail f.held })) (app.level t)) refl rr
          where
            test : (b : Bool) → nat_lt (standing app (record f { state = n; held = tail f.held })) (app.level t) ≡ b → IsReached app (if b then record m { stack = begun (steps_of code) t ∷ record f { state = n; held = tail f.held } ∷ below; fresh = without t m.fresh } else record m { stack = run_on (record f { state = n; held = tail f.held } ∷ below) }) → IsFired app code plan p s (release_rules app plan p.width f.who r nexts) (if b then record m { stack = begun (steps_of code) t ∷ record f { state = n; held = tail f.held } ∷ below; fresh = without t m.fresh } else record m { stack = run_on (record f { state = n; held = tail f.held } ∷ below) })
            test true k rr =
                let st = standing_left in
                let up : current app f.who (tail f.held) < app.level t = grind (arith, nat_tests) in
                pushes nexts t e up next rr
            test false k rr =
                let st = standing_left in
                let high : app.level t ≤ current app f.who (tail f.held) = grind (arith, nat_tests) in
                runs_on (shut high)
                (λ l above.
                let higher : app.level t < l = omega arith in
                (foremost_some app m.fresh t e).above l higher)
                rr
              where
                shut : app.level t ≤ current app f.who (tail f.held) → (u : ℕ) → u < plan.tasks → (nat_lt (app.run_level f.who) (app.level u) && nat_le (app.level u) (app.ceiling r)) ≡ true → truth (value_in p.width s.cells (may_push app plan r u)) ≡ false
                shut high u lu c = pick (u == t) refl
                  where
                    pick : (b : Bool) → (u == t) ≡ b → truth (value_in p.width s.cells (may_push app plan r u)) ≡ false
                    pick true q =
                        let same : t ≡ u = grind (arith, nat_tests) in
                        let c' : (nat_lt (app.run_level f.who) (app.level t) && nat_le (app.level t) (app.ceiling r)) ≡ true = ap (λ z. (nat_lt (app.run_level f.who) (app.level z) && nat_le (app.level z) (app.ceiling r))) same ∙ c in
                        let run : app.run_level f.who < app.level t = grind (arith, nat_tests) in
                        subst (λ z. truth (value_in p.width s.cells (may_push app plan r z)) ≡ false) same
                        (first_shut app plan p.width code.cells made.layout s.cells (record m { stack = f ∷ below }) meets.holds sound f below refl rises None meets.shaped.reached.agrees.agreed.fresh t e _ (free_false t e run high))
                    pick false q =
                        let differ : u ≢ t = grind (arith, nat_tests) in
                        other_shut app plan p.width code.cells made.layout s.cells (record m { stack = f ∷ below }) meets.holds sound f below refl rises None meets.shaped.reached.agrees.agreed.fresh t e u _ lu differ

    none_high : (l : ℕ) (ts : List ℕ) → AreTasks app ts → ((t : ℕ) → app.is_task t ≡ true → app.level t < l) → fresh_at app l ts ≡ []
    none_high l [] h low = refl
    none_high l (t ∷ ts) h low =
        let less = low t h.0 in
        let off : (app.level t == l) ≡ false = grind (arith, nat_tests) in
        ap (λ b. if b then Fresh t ∷ fresh_at app l ts else fresh_at app l ts) off ∙ none_high l ts h.1 low

    -- the caller isn't preemptive
    pub keeps_on : (nexts : List (Term × ℕ)) → ((t : ℕ) → app.is_task t ≡ true → app.level t ≤ app.run_level f.who) → first (value_in p.width (cell_after_sets p.width s.cells [])) nexts ≡ Some n → IsReached app (record m { stack = record f { state = n; held = tail f.held } ∷ below }) → IsFired app code plan p s (release_rules app plan p.width f.who r nexts) (record m { stack = record f { state = n; held = tail f.held } ∷ below })
    keeps_on nexts low next reached =
        rests nexts next
        (λ u lu c. let le = low u (made.layout.are_tasks u lu) in absurd (grind (arith, nat_tests)))
        (λ l above. none_high l m.fresh meets.shaped.reached.agrees.agreed.fresh (λ t h. let le = low t h in let run = current_above app f.who (tail f.held) in omega arith))
        reached
