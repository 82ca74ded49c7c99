-- The program that is built meets what the proof of its runs asks of a program.
use Rattle.std.proofs.Common.{◌≡◌, ◌≢◌, ℕ, zero, suc, ◌+◌, ◌-◌, ◌<◌, ◌≤◌, ◌%◌, Bool, true, false, List, [], ◌∷◌, ◌++◌, length, map, Option, Some, None, refl, sym, ap, ap₂, subst, ◌∙◌, arith, nat_lt, ◌==◌, if◌then◌else◌, slice_get, length-append, append-nil, append_assoc}
use Rattle.std.proofs.lemmas.Bool.Decides.{nat_tests}
use Rattle.std.proofs.lemmas.List.{length-map, reverse-reverse}
use Rattle.std.proofs.lemmas.Option.{slice_get_within, slice_get-map}
use Rattle.chk_base.specs.Widths.{limit_of}
use Rattle.chk_base.specs.declared.word.Width.TheVariants.{W1, W8, W32}
use Rattle.std.specs.Prelude.{unwrap_or}
use Rattle.guard_prog.specs.GuardedRun.{PlainAlternative}
use Rattle.one_stack.proofs.Exact.{AreActing, IsStarting, acting, is_exact}
use Rattle.one_stack.proofs.Kept.{IsLayout}
use Rattle.one_stack.proofs.Meeting.{IsProgram}
use Rattle.one_stack.proofs.Slots.{IsValid, IsApart}
use Rattle.one_stack.proofs.Tables.{item, sum-more, sum-mono, sum-add, sum-at, length-table, after_list, in_list, get-table, length-concat, get-concat}
use Rattle.one_stack.specs.BuildExact.{IsExact}
use Rattle.one_stack.specs.Built.{sum_below, table, concat_below, view, places, room_of, points_before, place_of, plan_of, widths_of, starts_of, points_of, first_state, built, go_alone}
use Rattle.one_stack.specs.PlainCode.{PlainCode, steps_of}
use Rattle.one_stack.specs.Rules.{Slot, On, Count, Waits, Held, Kept, point_alternatives}
use Rattle.one_stack.specs.TaskForm.{IsTaskForm, IsNumbered, FitsAction}
use Rattle.step_ir.specs.Agreement.{fresh_at}
use Rattle.step_ir.specs.Numbers.{times}
use Rattle.step_ir.specs.Points.{PlainPoint}
use Rattle.step_ir.specs.SchedulerState.{Fresh}
use Rattle.step_ir.specs.Setting.{Setting, IsSound, AreTasks}

module _ (app : Setting) (sound : IsSound app) (code : PlainCode) (resources : ℕ) (form : IsTaskForm app resources code) (numbered : IsNumbered app) (few : resources ≤ 17) where
  n : ℕ
  n = app.entities

  levels_apart : (l k i : ℕ) → l < k → i < room_of app code resources l → sum_below l (room_of app code resources) + i < sum_below k (room_of app code resources)
  levels_apart l k i lt li =
      let up : sum_below (suc l) (room_of app code resources) ≤ sum_below k (room_of app code resources) = sum-more (suc l) k (room_of app code resources) (omega arith) in
      omega arith

  kept_apart : (l k i : ℕ) → l < k → i < resources → sum_below l (λ x. resources) + i < sum_below k (λ x. resources)
  kept_apart l k i lt li =
      let up : sum_below (suc l) (λ x. resources) ≤ sum_below k (λ x. resources) = sum-more (suc l) k (λ x. resources) (omega arith) in
      omega arith

  total : ℕ
  total = sum_below (app.top + 1) (room_of app code resources)

  pub apart : IsApart app (plan_of app code resources) code.cells
  apart = record { above = above; apart = places_apart }
    where
      above : (s : Slot) → IsValid app (plan_of app code resources) s → code.cells ≤ place_of app code resources s
      above (On x) v = omega arith
      above (Count t) v = omega arith
      above (Waits l i) v = omega arith
      above (Held r) v = omega arith
      above (Kept e i) v = omega arith

      places_apart : (s u : Slot) → IsValid app (plan_of app code resources) s → IsValid app (plan_of app code resources) u → place_of app code resources s ≡ place_of app code resources u → s ≡ u
      places_apart (On x) (On y) v w e = ap On (omega arith)
      places_apart (On x) (Count t) v w e = absurd (omega arith)
      places_apart (On x) (Waits l i) v w e = absurd (omega arith)
      places_apart (Count t) (On y) v w e = absurd (omega arith)
      places_apart (Count t) (Count u) v w e = ap Count (omega arith)
      places_apart (Count t) (Waits l i) v w e = absurd (omega arith)
      places_apart (Waits l i) (On y) v w e = absurd (omega arith)
      places_apart (Waits l i) (Count t) v w e = absurd (omega arith)
      places_apart (On x) (Held r) v w e = absurd (omega arith)
      places_apart (On x) (Kept k j) v w e = absurd (omega arith)
      places_apart (Count t) (Held r) v w e = absurd (omega arith)
      places_apart (Count t) (Kept k j) v w e = absurd (omega arith)
      places_apart (Held r) (On y) v w e = absurd (omega arith)
      places_apart (Held r) (Count t) v w e = absurd (omega arith)
      places_apart (Held r) (Held q) v w e = ap Held (omega arith)
      places_apart (Held r) (Kept k j) v w e = let lt : r < resources = v in absurd (omega arith)
      places_apart (Held r) (Waits l i) v w e = let less = levels_apart l (app.top + 1) i (let z = w.0 in omega arith) w.1 in absurd (omega arith)
      places_apart (Waits l i) (Held r) v w e = let less = levels_apart l (app.top + 1) i (let z = v.0 in omega arith) v.1 in absurd (omega arith)
      places_apart (Waits l i) (Kept k j) v w e = let less = levels_apart l (app.top + 1) i (let z = v.0 in omega arith) v.1 in absurd (omega arith)
      places_apart (Kept k j) (Waits l i) v w e = let less = levels_apart l (app.top + 1) i (let z = w.0 in omega arith) w.1 in absurd (omega arith)
      places_apart (Kept k j) (On y) v w e = absurd (omega arith)
      places_apart (Kept k j) (Count t) v w e = absurd (omega arith)
      places_apart (Kept k j) (Held r) v w e = let lt : r < resources = w in absurd (omega arith)
      places_apart (Kept k j) (Kept h i) v w e = keeps (k == h) refl (nat_lt k h) refl
        where
          keeps : (a : Bool) → (k == h) ≡ a → (b : Bool) → nat_lt k h ≡ b → Kept k j ≡ Kept h i
          keeps true f b g =
              let same : k ≡ h = grind (arith, nat_tests) in
              let sums : sum_below k (λ x. resources) ≡ sum_below h (λ x. resources) = ap (λ z. sum_below z (λ x. resources)) same in
              let at : j ≡ i = omega arith in
              ap₂ Kept same at
          keeps false f true g =
              let lt : k < h = grind (arith, nat_tests) in
              let less = kept_apart k h j lt v.1 in
              absurd (omega arith)
          keeps false f false g =
              let lt : h < k = grind (arith, nat_tests) in
              let less = kept_apart h k i lt w.1 in
              absurd (omega arith)
      places_apart (Waits l i) (Waits k j) v w e = go (l == k) refl (nat_lt l k) refl
        where
          go : (a : Bool) → (l == k) ≡ a → (b : Bool) → nat_lt l k ≡ b → Waits l i ≡ Waits k j
          go true f b g =
              let same : l ≡ k = grind (arith, nat_tests) in
              let sums : sum_below l (room_of app code resources) ≡ sum_below k (room_of app code resources) = ap (λ z. sum_below z (room_of app code resources)) same in
              let at : i ≡ j = omega arith in
              ap₂ Waits same at
          go false f true g =
              let lt : l < k = grind (arith, nat_tests) in
              let less = levels_apart l k i lt v.1 in
              absurd (omega arith)
          go false f false g =
              let lt : k < l = grind (arith, nat_tests) in
              let less = levels_apart k l j lt w.1 in
              absurd (omega arith)

  width_low : (q : ℕ) → q < code.cells → item (widths_of app code resources) q W32 ≡ code.width q
  width_low q lt =
      in_list (table code.cells code.width) _ code.cells q W32 (length-table code.cells code.width) lt
      ∙ get-table code.cells q code.width W32 lt

  width_on : (x : ℕ) → x < app.entities → item (widths_of app code resources) (place_of app code resources (On x)) W32 ≡ W1
  width_on x lt =
      after_list (table code.cells code.width) _ code.cells x W32 (length-table code.cells code.width)
      ∙ (in_list (table app.entities (λ z. W1)) _ app.entities x W32 (length-table app.entities (λ z. W1)) lt
      ∙ get-table app.entities x (λ z. W1) W32 lt)

  width_count : (t : ℕ) → t < app.entities → item (widths_of app code resources) (place_of app code resources (Count t)) W32 ≡ W8
  width_count t lt =
      after_list (table code.cells code.width) _ code.cells (app.entities + t) W32 (length-table code.cells code.width)
      ∙ (after_list (table app.entities (λ z. W1)) _ app.entities t W32 (length-table app.entities (λ z. W1))
      ∙ (in_list (table app.entities (λ z. W8)) _ app.entities t W32 (length-table app.entities (λ z. W8)) lt
      ∙ get-table app.entities t (λ z. W8) W32 lt))

  width_waits : (l i : ℕ) → l ≤ app.top → i < room_of app code resources l → item (widths_of app code resources) (place_of app code resources (Waits l i)) W32 ≡ W8
  width_waits l i le li =
      let inside : sum_below l (room_of app code resources) + i < sum_below (app.top + 1) (room_of app code resources) = levels_apart l (app.top + 1) i (omega arith) li in
      after_list (table code.cells code.width) _ code.cells (app.entities + (app.entities + (sum_below l (room_of app code resources) + i))) W32 (length-table code.cells code.width)
      ∙ (after_list (table app.entities (λ z. W1)) _ app.entities (app.entities + (sum_below l (room_of app code resources) + i)) W32 (length-table app.entities (λ z. W1))
      ∙ (after_list (table app.entities (λ z. W8)) _ app.entities (sum_below l (room_of app code resources) + i) W32 (length-table app.entities (λ z. W8))
      ∙ (in_list (table (sum_below (app.top + 1) (room_of app code resources)) (λ z. W8)) _ (sum_below (app.top + 1) (room_of app code resources)) (sum_below l (room_of app code resources) + i) W32 (length-table (sum_below (app.top + 1) (room_of app code resources)) (λ z. W8)) inside
      ∙ get-table (sum_below (app.top + 1) (room_of app code resources)) (sum_below l (room_of app code resources) + i) (λ z. W8) W32 inside)))

  width_held : (r : ℕ) → r < resources → item (widths_of app code resources) (place_of app code resources (Held r)) W32 ≡ W1
  width_held r lt =
      after_list (table code.cells code.width) _ code.cells (app.entities + (app.entities + (sum_below (app.top + 1) (room_of app code resources) + r))) W32 (length-table code.cells code.width)
      ∙ (after_list (table app.entities (λ z. W1)) _ app.entities (app.entities + (sum_below (app.top + 1) (room_of app code resources) + r)) W32 (length-table app.entities (λ z. W1))
      ∙ (after_list (table app.entities (λ z. W8)) _ app.entities (sum_below (app.top + 1) (room_of app code resources) + r) W32 (length-table app.entities (λ z. W8))
      ∙ (after_list (table (sum_below (app.top + 1) (room_of app code resources)) (λ z. W8)) _ (sum_below (app.top + 1) (room_of app code resources)) r W32 (length-table (sum_below (app.top + 1) (room_of app code resources)) (λ z. W8))
      ∙ (in_list (table resources (λ z. W1)) _ resources r W32 (length-table resources (λ z. W1)) lt
      ∙ get-table resources r (λ z. W1) W32 lt))))

  width_kept : (e i : ℕ) → e < app.entities → i < resources → item (widths_of app code resources) (place_of app code resources (Kept e i)) W32 ≡ W8
  width_kept e i le li =
      after_list (table code.cells code.width) _ code.cells (app.entities + (app.entities + (sum_below (app.top + 1) (room_of app code resources) + (resources + (sum_below e (λ x. resources) + i))))) W32 (length-table code.cells code.width)
      ∙ (after_list (table app.entities (λ z. W1)) _ app.entities (app.entities + (sum_below (app.top + 1) (room_of app code resources) + (resources + (sum_below e (λ x. resources) + i)))) W32 (length-table app.entities (λ z. W1))
      ∙ (after_list (table app.entities (λ z. W8)) _ app.entities (sum_below (app.top + 1) (room_of app code resources) + (resources + (sum_below e (λ x. resources) + i))) W32 (length-table app.entities (λ z. W8))
      ∙ (after_list (table (sum_below (app.top + 1) (room_of app code resources)) (λ z. W8)) _ (sum_below (app.top + 1) (room_of app code resources)) (resources + (sum_below e (λ x. resources) + i)) W32 (length-table (sum_below (app.top + 1) (room_of app code resources)) (λ z. W8))
      ∙ (after_list (table resources (λ z. W1)) _ resources (sum_below e (λ x. resources) + i) W32 (length-table resources (λ z. W1))
      ∙ get-table (sum_below app.entities (λ x. resources)) (sum_below e (λ x. resources) + i) (λ z. W8) W32 (kept_apart e app.entities i le li)))))

  -- a task's requests have room at its level
  roomy : (t : ℕ) → t < app.entities → app.limit t ≤ room_of app code resources (app.level t)
  roomy t lt =
      let at = sum-at app.entities t (app.limit t) lt in
      let more = sum-mono app.entities (λ k. if t == k then app.limit t else 0) (λ k. if app.level k == app.level t then app.limit k else 0) each in
      omega arith
    where
      each : (k : ℕ) → k < app.entities → (if t == k then app.limit t else 0) ≤ (if app.level k == app.level t then app.limit k else 0)
      each k l = go (t == k) refl
        where
          go : (b : Bool) → (t == k) ≡ b → (if b then app.limit t else 0) ≤ (if app.level k == app.level t then app.limit k else 0)
          go true e =
              let same : t ≡ k = grind (arith, nat_tests) in
              let limits : app.limit t ≡ app.limit k = ap app.limit same in
              let levels : app.level t ≡ app.level k = ap app.level same in
              grind (arith, nat_tests)
          go false e = omega arith

  rooms : (fresh : List ℕ) → AreTasks app fresh → ((t : ℕ) → t < app.entities → times t fresh ≤ app.limit t) → (l : ℕ) → length (fresh_at app l fresh) ≤ room_of app code resources l
  rooms fresh tasks few l =
      let all = counted fresh tasks in
      let more = sum-mono app.entities (λ t. if app.level t == l then times t fresh else 0) (λ t. if app.level t == l then app.limit t else 0) each in
      omega arith
    where
      each : (t : ℕ) → t < app.entities → (if app.level t == l then times t fresh else 0) ≤ (if app.level t == l then app.limit t else 0)
      each t lt = go (app.level t == l)
        where
          go : (b : Bool) → (if b then times t fresh else 0) ≤ (if b then app.limit t else 0)
          go true = few t lt
          go false = omega arith

      counted : (ts : List ℕ) → AreTasks app ts → length (fresh_at app l ts) ≤ sum_below app.entities (λ t. if app.level t == l then times t ts else 0)
      counted [] h = omega arith
      counted (x ∷ xs) h =
          let ih = counted xs h.1 in
          let at = sum-at app.entities x (if app.level x == l then 1 else 0) (numbered.tasks x h.0) in
          let add = sum-add app.entities (λ t. if app.level t == l then times t xs else 0) (λ t. if x == t then (if app.level x == l then 1 else 0) else 0) in
          let all = sum-mono app.entities (λ t. (if app.level t == l then times t xs else 0) + (if x == t then (if app.level x == l then 1 else 0) else 0)) (λ t. if app.level t == l then times t (x ∷ xs) else 0) one in
          let longer : length (fresh_at app l (x ∷ xs)) ≡ (if app.level x == l then 1 else 0) + length (fresh_at app l xs) = grow (app.level x == l) in
          omega arith
        where
          grow : (b : Bool) → length (if b then Fresh x ∷ fresh_at app l xs else fresh_at app l xs) ≡ (if b then 1 else 0) + length (fresh_at app l xs)
          grow true = omega arith
          grow false = omega arith

          one : (t : ℕ) → t < app.entities → (if app.level t == l then times t xs else 0) + (if x == t then (if app.level x == l then 1 else 0) else 0) ≤ (if app.level t == l then times t (x ∷ xs) else 0)
          one t lt = go (x == t) refl
            where
              go : (b : Bool) → (x == t) ≡ b → (if app.level t == l then times t xs else 0) + (if b then (if app.level x == l then 1 else 0) else 0) ≤ (if app.level t == l then (if b then times t xs + 1 else times t xs) else 0)
              go true e =
                  let same : x ≡ t = grind (arith, nat_tests) in
                  let levels : app.level x ≡ app.level t = ap app.level same in
                  grind (arith, nat_tests)
              go false e = grind (arith, nat_tests)

  pub layout : IsLayout app (plan_of app code resources) (λ q. item (widths_of app code resources) q W32) code.cells
  layout =
      record {
        apart = apart;
        on_wide = λ x lt. subst (λ w. 1 < limit_of w) (sym (width_on x lt)) (omega arith);
        count_wide = λ t lt. let few = numbered.limits t in subst (λ w. app.limit t < limit_of w) (sym (width_count t lt)) (omega arith);
        mark_wide =
            λ t l i lt level li.
            let few = numbered.few in
            let high = top_level t lt in
            let le : l ≤ app.top = omega arith in
            subst (λ w. t + 1 < limit_of w) (sym (width_waits l i le li)) (omega arith);
        mark_positive = λ t. omega arith;
        marks = λ t u level e. omega arith;
        few = numbered.limits;
        tasks = numbered.tasks;
        are_tasks = numbered.all;
        roomy = λ t lt. let some = numbered.some t lt in let has = roomy t lt in omega arith;
        levels = top_level;
        held_wide = λ r lt. subst (λ x. 1 < limit_of x) (sym (width_held r lt)) (omega arith);
        kept_wide = λ e i le li. subst (λ x. resources < limit_of x) (sym (width_kept e i le li)) (omega arith);
      }
    where
      top_level : (t : ℕ) → t < app.entities → app.level t ≤ app.top
      top_level t lt =
          let a = sound.runs_above t in
          let b = sound.run_levels t in
          omega arith

  pub program : IsProgram app code (plan_of app code resources) (built app code resources) go_alone
  program =
      record {
        layout = layout;
        widths = width_low;
        idle = refl;
        at = at;
        depth = omega arith;
        resources =
            λ e k point r is act.
            (subst (λ a. FitsAction app resources code (code.points e) point.nexts a) act (form.points e k point is).action).0;
        labels = λ e k. refl;
        rooms = rooms;
      }
    where
      choose : ℕ → PlainPoint → List PlainAlternative
      choose e = point_alternatives app (plan_of app code resources) (λ q. item (widths_of app code resources) q W32) e

      at : (e k : ℕ) (point : PlainPoint) → slice_get (code.points e) k ≡ Some point → item (points_of app code resources) (1 + (points_before app code resources e + k)) [] ≡ point_alternatives app (plan_of app code resources) (λ q. item (widths_of app code resources) q W32) e point
      at e k point is =
          let inside = slice_get_within (code.points e) k point is in
          after_list ([] ∷ []) _ 1 (points_before app code resources e + k) [] refl
          ∙ (get-concat app.entities e k (λ x. map (point_alternatives app (plan_of app code resources) (λ q. item (widths_of app code resources) q W32) x) (code.points x)) (λ x. length (code.points x)) [] (λ x. length-map (code.points x) _) (known e k point is) inside
          ∙ ap (λ o. unwrap_or o [])
          (slice_get-map (point_alternatives app (plan_of app code resources) (λ q. item (widths_of app code resources) q W32) e) (code.points e) k ∙ ap (Rattle.std.proofs.Common.option_map (point_alternatives app (plan_of app code resources) (λ q. item (widths_of app code resources) q W32) e)) is))
        where
          known : (e k : ℕ) (point : PlainPoint) → slice_get (code.points e) k ≡ Some point → e < app.entities
          known e k point is = form.entities e k point is

  pub starting : IsStarting app code (plan_of app code resources) (built app code resources)
  starting =
      record {
        low = start_low;
        fits = λ q lt. subst (λ w. item (starts_of app code resources) q 0 < limit_of w) (sym (width_low q lt)) (subst (λ v. v < limit_of (code.width q)) (sym (start_low q lt)) (form.starts q lt));
        holds = holds;
        first = reverse-reverse (places (plan_of app code resources) (first_state app code resources).stack);
        few =
            λ t lt.
            let a = numbered.once t in
            let b = numbered.some t lt in
            omega arith;
      }
    where
      start_low : (q : ℕ) → q < code.cells → item (starts_of app code resources) q 0 ≡ code.start q
      start_low q lt =
          in_list (table code.cells code.start) _ code.cells q 0 (length-table code.cells code.start) lt
          ∙ get-table code.cells q code.start 0 lt

      holds : (slot : Slot) → IsValid app (plan_of app code resources) slot → item (starts_of app code resources) (place_of app code resources slot) 0 ≡ view app (plan_of app code resources) (first_state app code resources) slot
      holds (On x) lt =
          after_list (table code.cells code.start) _ code.cells x 0 (length-table code.cells code.start)
          ∙ (in_list (table app.entities (λ z. view app (plan_of app code resources) (first_state app code resources) (On z))) _ app.entities x 0 (length-table app.entities (λ z. view app (plan_of app code resources) (first_state app code resources) (On z))) lt
          ∙ get-table app.entities x (λ z. view app (plan_of app code resources) (first_state app code resources) (On z)) 0 lt)
      holds (Count t) lt =
          after_list (table code.cells code.start) _ code.cells (app.entities + t) 0 (length-table code.cells code.start)
          ∙ (after_list (table app.entities (λ z. view app (plan_of app code resources) (first_state app code resources) (On z))) _ app.entities t 0 (length-table app.entities (λ z. view app (plan_of app code resources) (first_state app code resources) (On z)))
          ∙ (in_list (table app.entities (λ z. view app (plan_of app code resources) (first_state app code resources) (Count z))) _ app.entities t 0 (length-table app.entities (λ z. view app (plan_of app code resources) (first_state app code resources) (Count z))) lt
          ∙ get-table app.entities t (λ z. view app (plan_of app code resources) (first_state app code resources) (Count z)) 0 lt))
      holds (Waits l i) v =
          let level : l < app.top + 1 = omega (arith, v.0) in
          after_list (table code.cells code.start) _ code.cells (app.entities + (app.entities + (sum_below l (room_of app code resources) + i))) 0 (length-table code.cells code.start)
          ∙ (after_list (table app.entities (λ z. view app (plan_of app code resources) (first_state app code resources) (On z))) _ app.entities (app.entities + (sum_below l (room_of app code resources) + i)) 0 (length-table app.entities (λ z. view app (plan_of app code resources) (first_state app code resources) (On z)))
          ∙ (after_list (table app.entities (λ z. view app (plan_of app code resources) (first_state app code resources) (Count z))) _ app.entities (sum_below l (room_of app code resources) + i) 0 (length-table app.entities (λ z. view app (plan_of app code resources) (first_state app code resources) (Count z)))
          ∙ (in_list (concat_below (app.top + 1) (λ k. table (room_of app code resources k) (λ j. view app (plan_of app code resources) (first_state app code resources) (Waits k j)))) _ (sum_below (app.top + 1) (room_of app code resources)) (sum_below l (room_of app code resources) + i) 0 (length-concat (app.top + 1) (λ k. table (room_of app code resources k) (λ j. view app (plan_of app code resources) (first_state app code resources) (Waits k j))) (room_of app code resources) (λ k. length-table (room_of app code resources k) (λ j. view app (plan_of app code resources) (first_state app code resources) (Waits k j)))) (levels_apart l (app.top + 1) i level v.1)
          ∙ (get-concat (app.top + 1) l i (λ k. table (room_of app code resources k) (λ j. view app (plan_of app code resources) (first_state app code resources) (Waits k j))) (room_of app code resources) 0 (λ k. length-table (room_of app code resources k) (λ j. view app (plan_of app code resources) (first_state app code resources) (Waits k j))) level v.1
          ∙ get-table (room_of app code resources l) i (λ j. view app (plan_of app code resources) (first_state app code resources) (Waits l j)) 0 v.1))))
      holds (Held r) lt =
          after_list (table code.cells code.start) _ code.cells (app.entities + (app.entities + ((sum_below (app.top + 1) (room_of app code resources)) + r))) 0 (length-table code.cells code.start)
          ∙ (after_list (table app.entities (λ z. view app (plan_of app code resources) (first_state app code resources) (On z))) _ app.entities (app.entities + ((sum_below (app.top + 1) (room_of app code resources)) + r)) 0 (length-table app.entities (λ z. view app (plan_of app code resources) (first_state app code resources) (On z)))
          ∙ (after_list (table app.entities (λ z. view app (plan_of app code resources) (first_state app code resources) (Count z))) _ app.entities ((sum_below (app.top + 1) (room_of app code resources)) + r) 0 (length-table app.entities (λ z. view app (plan_of app code resources) (first_state app code resources) (Count z)))
          ∙ (after_list (concat_below (app.top + 1) (λ k. table (room_of app code resources k) (λ j. view app (plan_of app code resources) (first_state app code resources) (Waits k j)))) _ (sum_below (app.top + 1) (room_of app code resources)) r 0 (length-concat (app.top + 1) (λ k. table (room_of app code resources k) (λ j. view app (plan_of app code resources) (first_state app code resources) (Waits k j))) (room_of app code resources) (λ k. length-table (room_of app code resources k) (λ j. view app (plan_of app code resources) (first_state app code resources) (Waits k j))))
          ∙ (in_list (table resources (λ z. view app (plan_of app code resources) (first_state app code resources) (Held z))) _ resources r 0 (length-table resources (λ z. view app (plan_of app code resources) (first_state app code resources) (Held z))) lt
          ∙ get-table resources r (λ z. view app (plan_of app code resources) (first_state app code resources) (Held z)) 0 lt))))
      holds (Kept e i) v =
          after_list (table code.cells code.start) _ code.cells (app.entities + (app.entities + ((sum_below (app.top + 1) (room_of app code resources)) + (resources + (sum_below e (λ x. resources) + i))))) 0 (length-table code.cells code.start)
          ∙ (after_list (table app.entities (λ z. view app (plan_of app code resources) (first_state app code resources) (On z))) _ app.entities (app.entities + ((sum_below (app.top + 1) (room_of app code resources)) + (resources + (sum_below e (λ x. resources) + i)))) 0 (length-table app.entities (λ z. view app (plan_of app code resources) (first_state app code resources) (On z)))
          ∙ (after_list (table app.entities (λ z. view app (plan_of app code resources) (first_state app code resources) (Count z))) _ app.entities ((sum_below (app.top + 1) (room_of app code resources)) + (resources + (sum_below e (λ x. resources) + i))) 0 (length-table app.entities (λ z. view app (plan_of app code resources) (first_state app code resources) (Count z)))
          ∙ (after_list (concat_below (app.top + 1) (λ k. table (room_of app code resources k) (λ j. view app (plan_of app code resources) (first_state app code resources) (Waits k j)))) _ (sum_below (app.top + 1) (room_of app code resources)) (resources + (sum_below e (λ x. resources) + i)) 0 (length-concat (app.top + 1) (λ k. table (room_of app code resources k) (λ j. view app (plan_of app code resources) (first_state app code resources) (Waits k j))) (room_of app code resources) (λ k. length-table (room_of app code resources k) (λ j. view app (plan_of app code resources) (first_state app code resources) (Waits k j))))
          ∙ (after_list (table resources (λ z. view app (plan_of app code resources) (first_state app code resources) (Held z))) _ resources (sum_below e (λ x. resources) + i) 0 (length-table resources (λ z. view app (plan_of app code resources) (first_state app code resources) (Held z)))
          ∙ (get-concat app.entities e i (λ k. table resources (λ j. view app (plan_of app code resources) (first_state app code resources) (Kept k j))) (λ x. resources) 0 (λ k. length-table resources (λ j. view app (plan_of app code resources) (first_state app code resources) (Kept k j))) v.0 v.1
          ∙ get-table resources i (λ j. view app (plan_of app code resources) (first_state app code resources) (Kept e j)) 0 v.1)))))

  -- the runs of the built program are the choice lists of the one-stack machine
  pub build_lem : (arrivals : ℕ) → IsExact app (steps_of code) code.start arrivals (built app code resources) go_alone
  build_lem arrivals = is_exact app sound code form (plan_of app code resources) (built app code resources) go_alone program starting arrivals

  -- each label of its runs is of the entity that acts
  pub acting_lem : AreActing app code (plan_of app code resources) (built app code resources) go_alone
  acting_lem = acting app sound code form (plan_of app code resources) (built app code resources) go_alone program starting
