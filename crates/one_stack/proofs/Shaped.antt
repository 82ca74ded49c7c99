-- A draft that is the built program is well shaped, and runs as the program does.
use Rattle.std.proofs.Common.{◌≡◌, ℕ, zero, suc, ◌+◌, ◌*◌, ◌<◌, ◌≤◌, ◌^◌, Bool, true, false, not, ◌&&◌, List, [], ◌∷◌, ◌++◌, length, map, Option, Some, None, refl, sym, ap, ap₂, subst, ◌∙◌, arith, nat_lt, nat_le, ◌==◌, if◌then◌else◌, slice_get, unwrap_or, length-append}
use Rattle.std.proofs.lemmas.Bool.Decides.{nat_tests}
use Rattle.std.proofs.lemmas.List.{length-map}
use Rattle.std.proofs.lemmas.Nat.{mul-le}
use Rattle.std.proofs.Math.Path.{fun_ext}
use Rattle.std.specs.List.{list_all}
use Rattle.std.specs.Prelude.{reverse}
use Rattle.chk_base.specs.declared.word.Width.{Width}
use Rattle.chk_base.specs.declared.word.Width.TheVariants.{W1, W8, W32}
use Rattle.chk_base.specs.Term.{Const}
use Rattle.chk_base.specs.Widths.{limit_of}
use Rattle.guard_prog.specs.declared.draft.Alternative.{Alternative}
use Rattle.guard_prog.specs.declared.draft.Draft.{Draft}
use Rattle.guard_prog.specs.Drafts.{plain_alternatives, point_of, program_of}
use Rattle.guard_prog.specs.GuardedRun.{PlainAlternative, Program}
use Rattle.guard_prog.specs.WellShaped.{IsWellShaped, begins_idle, first_fits, is_idle_control, sizes_fit, starts_fit}
use Rattle.one_stack.proofs.Apart.{and_true}
use Rattle.one_stack.proofs.Exact.{AreActing, IsStarting, start_shaped}
use Rattle.one_stack.proofs.Fine.{AreGood, IsRoomy, alternatives_good, good_less, point_count, point_fine}
use Rattle.one_stack.proofs.Slots.{IsValid}
use Rattle.one_stack.proofs.Tables.{length-concat, length-table, sum-mono, sum-more}
use Rattle.one_stack.proofs.Passing.{AreStarts, cells_pass, controls_pass, inputs_pass, labels_distinct, labels_within, none_plain, plain_point, starts-append, starts_pass}
use Rattle.one_stack.proofs.Whole.{acting_lem, apart, build_lem, layout}
use Rattle.one_stack.specs.BuildExact.{IsExact}
use Rattle.one_stack.specs.Built.{IsBuilt, built, concat_below, entity_points, first_of, first_state, go_alone, held_of, held_times, kept_at, mark_at, place_of, places, plan_of, points_before, points_of, room_of, starts_of, sum_below, table, view, width_of, widths_of}
use Rattle.one_stack.specs.PlainCode.{PlainCode, steps_of}
use Rattle.one_stack.specs.Rules.{Slot, On, Count, Waits, Held, Kept, point_alternatives, point_rules}
use Rattle.one_stack.specs.TaskForm.{Has, IsNumbered, IsTaskForm}
use Rattle.step_ir.specs.Agreement.{fresh_at}
use Rattle.step_ir.specs.Numbers.{AreUnder, times}
use Rattle.step_ir.specs.OneStackMachine.{Frame, Stacked, begun, settle_with, whos, without}
use Rattle.step_ir.specs.Points.{PlainPoint}
use Rattle.step_ir.specs.PointStep.{Bits}
use Rattle.step_ir.specs.Setting.{AreTasks, IsSound, Setting, foremost}

-- all points have well-shaped alternatives
abbrev AllGood : ℕ → ℕ → List (List PlainAlternative) → Type 0
AllGood n m [] = Unit {0}
AllGood n m (x ∷ xs) = AreGood n m 0 x × AllGood n m xs

good-append : (n m : ℕ) (xs ys : List (List PlainAlternative)) → AllGood n m xs → AllGood n m ys → AllGood n m (xs ++ ys)
good-append n m [] ys h k = k
good-append n m (x ∷ xs) ys h k = (h.0, good-append n m xs ys h.1 k)

good-concat : (n m e : ℕ) (f : ℕ → List (List PlainAlternative)) → ((x : ℕ) → x < e → AllGood n m (f x)) → AllGood n m (concat_below e f)
good-concat n m zero f h = tt
good-concat n m (suc e) f h = good-append n m (concat_below e f) (f e) (good-concat n m e f (λ x lt. h x (omega arith))) (h e (omega arith))

good_item : (n m : ℕ) (xs : List (List PlainAlternative)) (i : ℕ) → AllGood n m xs → AreGood n m 0 (unwrap_or (slice_get xs i) [])
good_item n m [] i h = tt
good_item n m (x ∷ xs) zero h = h.0
good_item n m (x ∷ xs) (suc i) h = good_item n m xs i h.1

-- numbers below a bound
under-append : (b : ℕ) (xs ys : List ℕ) → AreUnder b xs → AreUnder b ys → AreUnder b (xs ++ ys)
under-append b [] ys h k = k
under-append b (x ∷ xs) ys h k = (h.0, under-append b xs ys h.1 k)

under-table : (b n : ℕ) (f : ℕ → ℕ) → ((k : ℕ) → k < n → f k < b) → AreUnder b (table n f)
under-table b zero f h = tt
under-table b (suc n) f h = under-append b (table n f) (f n ∷ []) (under-table b n f (λ k lt. h k (omega arith))) (h n (omega arith), tt)

under-concat : (b n : ℕ) (f : ℕ → List ℕ) → ((k : ℕ) → k < n → AreUnder b (f k)) → AreUnder b (concat_below n f)
under-concat b zero f h = tt
under-concat b (suc n) f h = under-append b (concat_below n f) (f n) (under-concat b n f (λ k lt. h k (omega arith))) (h n (omega arith))

-- a table of one width begins with it
table_cons : (n : ℕ) (w : Width) → table (suc n) (λ q. w) ≡ w ∷ table n (λ q. w)
table_cons zero w = refl
table_cons (suc n) w = ap (λ xs. xs ++ w ∷ []) (table_cons n w)

flat_starts : (w : Width) (n : ℕ) (vs : List ℕ) → length vs ≡ n → AreUnder (limit_of w) vs → AreStarts (table n (λ q. w)) vs
flat_starts w zero [] is h = tt
flat_starts w zero (v ∷ vs) is h = absurd (omega arith)
flat_starts w (suc n) [] is h = absurd (omega arith)
flat_starts w (suc n) (v ∷ vs) is h =
    subst (λ ws. AreStarts ws (v ∷ vs)) (sym (table_cons n w)) (h.0, flat_starts w n vs (omega arith) h.1)

table_starts : (n : ℕ) (f : ℕ → Width) (g : ℕ → ℕ) → ((k : ℕ) → k < n → g k < limit_of (f k)) → AreStarts (table n f) (table n g)
table_starts zero f g h = tt
table_starts (suc n) f g h =
    starts-append (table n f) (f n ∷ []) (table n g) (g n ∷ []) (table_starts n f g (λ k lt. h k (omega arith))) (h n (omega arith), tt)

-- sums
sum-swap : (n k : ℕ) (f : ℕ → ℕ → ℕ) → sum_below n (λ l. sum_below k (λ t. f l t)) ≡ sum_below k (λ t. sum_below n (λ l. f l t))
sum-swap zero zero f = refl
sum-swap zero (suc k) f = let ih = sum-swap zero k f in omega arith
sum-swap (suc n) k f = ap (λ s. s + sum_below k (λ t. f n t)) (sum-swap n k f) ∙ sym (Rattle.one_stack.proofs.Tables.sum-add k (λ t. sum_below n (λ l. f l t)) (λ t. f n t))

sum-one : (n l v : ℕ) → sum_below n (λ k. if l == k then v else 0) ≤ v
sum-one zero l v = omega arith
sum-one (suc n) l v = go (l == n) refl (sum-one n l v)
  where
    none : (k : ℕ) → k ≤ l → sum_below k (λ j. if l == j then v else 0) ≡ 0
    none zero le = refl
    none (suc k) le =
        let ih = none k (omega arith) in
        let off : (l == k) ≡ false = grind (arith, nat_tests) in
        ap (λ b. sum_below k (λ j. if l == j then v else 0) + (if b then v else 0)) off ∙ omega arith

    go : (b : Bool) → (l == n) ≡ b → sum_below n (λ k. if l == k then v else 0) ≤ v → sum_below n (λ k. if l == k then v else 0) + (if b then v else 0) ≤ v
    go true e ih = let before = none n (grind (arith, nat_tests)) in omega arith
    go false e ih = omega arith

sum-most : (n v : ℕ) (f : ℕ → ℕ) → ((k : ℕ) → k < n → f k ≤ v) → sum_below n f ≤ n * v
sum-most zero v f h = omega arith
sum-most (suc n) v f h =
    let ih = sum-most n v f (λ k lt. h k (omega arith)) in
    let last = h n (omega arith) in
    let more : suc n * v ≡ n * v + v = grind arith in
    omega arith

module _ (app : Setting) (sound : IsSound app) (code : PlainCode) (resources : ℕ) (form : IsTaskForm app resources code) (numbered : IsNumbered app) (few : resources ≤ 17) where
  -- the cells and points of the program
  abbrev n : ℕ
  n = length (widths_of app code resources)

  abbrev m : ℕ
  m = length (points_of app code resources)

  rooms_few : sum_below (app.top + 1) (room_of app code resources) ≤ 128
  rooms_few =
      let swap = sum-swap (app.top + 1) app.entities (λ l t. if app.level t == l then app.limit t else 0) in
      let each = sum-most app.entities 8 (λ t. sum_below (app.top + 1) (λ l. if app.level t == l then app.limit t else 0)) (λ t lt. let one = sum-one (app.top + 1) (app.level t) (app.limit t) in let most = numbered.limits t in omega arith) in
      let entities = numbered.few in
      omega arith

  kept_few : sum_below app.entities (λ x. resources) ≤ 272
  kept_few =
      let each = sum-most app.entities 17 (λ x. resources) (λ x lt. few) in
      let entities = numbered.few in
      omega arith

  n_is : n ≡ code.cells + (app.entities + (app.entities + (sum_below (app.top + 1) (room_of app code resources) + (resources + sum_below app.entities (λ x. resources)))))
  n_is =
      length-append (table code.cells code.width) _
      ∙ ap₂ (λ a b. a + b) (length-table code.cells code.width)
      (length-append (table app.entities (λ x. W1)) _
      ∙ ap₂ (λ a b. a + b) (length-table app.entities (λ x. W1))
      (length-append (table app.entities (λ x. W8)) _
      ∙ ap₂ (λ a b. a + b) (length-table app.entities (λ x. W8))
      (length-append (table (sum_below (app.top + 1) (room_of app code resources)) (λ x. W8)) _
      ∙ ap₂ (λ a b. a + b) (length-table (sum_below (app.top + 1) (room_of app code resources)) (λ x. W8))
      (length-append (table resources (λ x. W1)) _
      ∙ ap₂ (λ a b. a + b) (length-table resources (λ x. W1)) (length-table (sum_below app.entities (λ x. resources)) (λ x. W8))))))

  m_is : m ≡ 1 + points_before app code resources app.entities
  m_is =
      ap suc (length-concat app.entities (entity_points app code resources) (λ e. length (code.points e)) (λ e. length-map (code.points e) (point_alternatives app (plan_of app code resources) (width_of app code resources) e)))
      ∙ omega arith

  high : (s : Slot) → IsValid app (plan_of app code resources) s → place_of app code resources s < n
  high (On x) v = let is = n_is in let lt : x < app.entities = v in omega arith
  high (Count t) v = let is = n_is in let lt : t < app.entities = v in omega arith
  high (Waits l i) v =
      let is = n_is in
      let lt : i < room_of app code resources l = v.1 in
      let le : l ≤ app.top = v.0 in
      let up : sum_below (suc l) (room_of app code resources) ≤ sum_below (app.top + 1) (room_of app code resources) = sum-more (suc l) (app.top + 1) (room_of app code resources) (omega arith) in
      omega arith
  high (Held r) v = let is = n_is in let lt : r < resources = v in omega arith
  high (Kept e i) v =
      let is = n_is in
      let lt : i < resources = v.1 in
      let le : e < app.entities = v.0 in
      let up : sum_below (suc e) (λ x. resources) ≤ sum_below app.entities (λ x. resources) = sum-more (suc e) app.entities (λ x. resources) (omega arith) in
      omega arith

  entity_of : (e k : ℕ) → Has (code.points e) k → e < app.entities
  entity_of e k has = form.entities e k has.point has.is

  numbers : (e k : ℕ) → Has (code.points e) k → (0 < 1 + (points_before app code resources e + k)) × (1 + (points_before app code resources e + k) < m)
  numbers e k has =
      let is = m_is in
      let inside = Rattle.std.proofs.lemmas.Option.slice_get_within (code.points e) k has.point has.is in
      let lt = entity_of e k has in
      let up : points_before app code resources (suc e) ≤ points_before app code resources app.entities = sum-more (suc e) app.entities (λ x. length (code.points x)) (omega arith) in
      (omega arith, omega arith)

  roomy_all : IsRoomy app (plan_of app code resources) code n m
  roomy_all =
      let lay = layout app sound code resources form numbered few in
      record {
        apart = apart app sound code resources form numbered few;
        high = high;
        low = let is = n_is in omega arith;
        tasks = lay.tasks;
        roomy = lay.roomy;
        levels = lay.levels;
        numbers = numbers;
        begins = λ t lt. form.begins t (numbered.all t lt);
        few = numbered.few;
      }

  module _ (short : (e k : ℕ) (p : PlainPoint) → slice_get (code.points e) k ≡ Some p → length p.nexts ≤ 2048) where
    -- the alternatives of a point
    label_within : (e j : ℕ) → e < app.entities → j < 34817 → (1 ≤ 1 + (e + app.entities * j)) × (1 + (e + app.entities * j) < 2 ^ 20)
    label_within e j lt le =
        let some = numbered.few in
        let most = mul-le app.entities j 16 34816 some (omega arith) in
        (omega arith, omega arith)

    label_rises : (e j : ℕ) → e < app.entities → 1 + (e + app.entities * j) < 1 + (e + app.entities * (j + 1))
    label_rises e j lt =
        let more : app.entities * (j + 1) ≡ app.entities * j + app.entities = grind arith in
        omega arith

    point_good : (e k : ℕ) (p : PlainPoint) → slice_get (code.points e) k ≡ Some p → AreGood n m 0 (point_alternatives app (plan_of app code resources) (width_of app code resources) e p)
    point_good e k p is =
        let lt = form.entities e k p is in
        let fine = point_fine app (plan_of app code resources) code n m roomy_all (width_of app code resources) e lt p (form.points e k p is) in
        let count = point_count app (plan_of app code resources) code n m roomy_all (width_of app code resources) e lt p (short e k p is) in
        good_less n m 0 (1 + (e + app.entities * 0)) (point_alternatives app (plan_of app code resources) (width_of app code resources) e p) (omega arith)
        (alternatives_good n m 34817 (λ j. 1 + (e + app.entities * j)) (λ j. label_rises e j lt) (λ j le. label_within e j lt le) (Const 1) 0 (point_rules app (plan_of app code resources) (width_of app code resources) e p) tt (omega arith) fine)

    map_good : (e : ℕ) (ps : List PlainPoint) → ((k : ℕ) (p : PlainPoint) → slice_get ps k ≡ Some p → AreGood n m 0 (point_alternatives app (plan_of app code resources) (width_of app code resources) e p)) → AllGood n m (map (point_alternatives app (plan_of app code resources) (width_of app code resources) e) ps)
    map_good e [] h = tt
    map_good e (p ∷ ps) h = (h 0 p refl, map_good e ps (λ k q is. h (suc k) q is))

    points_good : AllGood n m (points_of app code resources)
    points_good = (tt, good-concat n m app.entities (entity_points app code resources) (λ e lt. map_good e (code.points e) (λ k p is. point_good e k p is)))

    module _ (points_few : points_before app code resources app.entities ≤ 2048) (cells_few : code.cells ≤ 8192) (starting : IsStarting app code (plan_of app code resources) (built app code resources)) where
      -- the machine at the start
      shaped : Rattle.one_stack.proofs.Meeting.IsShaped app code (plan_of app code resources) (first_state app code resources)
      shaped = start_shaped app sound code form (plan_of app code resources) (built app code resources) go_alone (Rattle.one_stack.proofs.Whole.program app sound code resources form numbered few) starting

      -- the stack at the start is empty or has one task
      data IsFirst (fs : List (Frame ℕ)) : Type 0 where
        Nobody : fs ≡ [] → IsFirst fs
        Somebody : (t : ℕ) → t < app.entities → fs ≡ begun (steps_of code) t ∷ [] → IsFirst fs

      abbrev before : Stacked ℕ Bits
      before = record { globals = code.start; stack = []; fresh = app.autostart; sections = []; is_stopped = false }

      first_is : (o : Option ℕ) → foremost app app.autostart ≡ o → IsFirst (settle_with app (steps_of code) o before).stack
      first_is None e = Nobody refl
      first_is (Some t) e = go (nat_lt 0 (app.level t))
        where
          most : Rattle.step_ir.specs.Agreement.IsForemost app app.autostart t
          most = Rattle.step_ir.proofs.Lists.foremost_some app app.autostart t e

          go : (b : Bool) → (let z : Stacked ℕ Bits = if b then record before { stack = begun (steps_of code) t ∷ []; fresh = without t app.autostart } else record before { stack = [] } in IsFirst z.stack)
          go true = Somebody t (numbered.tasks t (most.task sound.started)) refl
          go false = Nobody refl

      the_first : IsFirst (first_state app code resources).stack
      the_first = first_is (foremost app app.autostart) refl

      -- so nothing is held
      held_none : (r : ℕ) (fs : List (Frame ℕ)) → IsFirst fs → held_times r fs ≡ 0
      held_none r fs (Nobody is) = ap (held_times r) is
      held_none r fs (Somebody t lt is) = ap (held_times r) is

      kept_none : (e i : ℕ) (fs : List (Frame ℕ)) → IsFirst fs → kept_at (held_of e fs) i ≡ 0
      kept_none e i fs (Nobody is) = ap (λ gs. kept_at (held_of e gs) i) is
      kept_none e i fs (Somebody t lt is) = ap (λ gs. kept_at (held_of e gs) i) is ∙ go (t == e)
        where
          go : (b : Bool) → kept_at (if b then [] else []) i ≡ 0
          go true = refl
          go false = refl

      on_most : (x : ℕ) (fs : List (Frame ℕ)) → IsFirst fs → times x (whos fs) ≤ 1
      on_most x fs (Nobody is) = subst (λ gs. times x (whos gs) ≤ 1) (sym is) (omega arith)
      on_most x fs (Somebody t lt is) = subst (λ gs. times x (whos gs) ≤ 1) (sym is) (go (t == x))
        where
          go : (b : Bool) → (if b then 0 + 1 else 0) ≤ 1
          go true = omega arith
          go false = omega arith

      view_first : Slot → ℕ
      view_first s = view app (plan_of app code resources) (first_state app code resources) s

      starts_good : AreStarts (widths_of app code resources) (starts_of app code resources)
      starts_good =
          starts-append (table code.cells code.width) _ (table code.cells code.start) _ (table_starts code.cells code.width code.start form.starts)
          (starts-append (table app.entities (λ x. W1)) _ (table app.entities (λ x. view app (plan_of app code resources) (first_state app code resources) (On x))) _
          (flat_starts W1 app.entities _ (length-table app.entities _) (under-table 2 app.entities _ (λ x lt. let most = on_most x (first_state app code resources).stack the_first in omega arith)))
          (starts-append (table app.entities (λ x. W8)) _ (table app.entities (λ t. view app (plan_of app code resources) (first_state app code resources) (Count t))) _
          (flat_starts W8 app.entities _ (length-table app.entities _) (under-table 256 app.entities _ (λ t lt. let most = shaped.limits t lt in let eight = numbered.limits t in omega arith)))
          (starts-append (table (sum_below (app.top + 1) (room_of app code resources)) (λ q. W8)) _ (concat_below (app.top + 1) (λ l. table (room_of app code resources l) (λ i. view app (plan_of app code resources) (first_state app code resources) (Waits l i)))) _
          (flat_starts W8 (sum_below (app.top + 1) (room_of app code resources)) _ (length-concat (app.top + 1) _ (room_of app code resources) (λ l. length-table (room_of app code resources l) _)) (under-concat 256 (app.top + 1) _ (λ l lt. under-table 256 (room_of app code resources l) _ (λ i li. marks l i))))
          (starts-append (table resources (λ q. W1)) _ (table resources (λ q. view app (plan_of app code resources) (first_state app code resources) (Held q))) _
          (flat_starts W1 resources _ (length-table resources _) (under-table 2 resources _ (λ r lt. let none = held_none r (first_state app code resources).stack the_first in omega arith)))
          (flat_starts W8 (sum_below app.entities (λ x. resources)) _ (length-concat app.entities _ (λ x. resources) (λ e. length-table resources _)) (under-concat 256 app.entities _ (λ e lt. under-table 256 resources _ (λ i li. let none = kept_none e i (first_state app code resources).stack the_first in omega arith))))))))
        where
          -- marks are few
          few_marks : (l i : ℕ) (ts : List ℕ) → AreTasks app ts → mark_at (λ t. t + 1) (fresh_at app l ts) i < 256
          few_marks l i [] h = omega arith
          few_marks l i (t ∷ ts) h = go (app.level t == l) i (λ k. few_marks l k ts h.1)
            where
              go : (b : Bool) (k : ℕ) → ((j : ℕ) → mark_at (λ t. t + 1) (fresh_at app l ts) j < 256) → mark_at (λ t. t + 1) (if b then Rattle.step_ir.specs.SchedulerState.Fresh t ∷ fresh_at app l ts else fresh_at app l ts) k < 256
              go true zero ih = let lt = numbered.tasks t h.0 in let entities = numbered.few in omega arith
              go true (suc k) ih = ih k
              go false k ih = ih k

          marks : (l i : ℕ) → mark_at (λ t. t + 1) (fresh_at app l (first_state app code resources).fresh) i < 256
          marks l i = few_marks l i (first_state app code resources).fresh shaped.reached.agrees.agreed.fresh

      module _ (draft : Draft) (is : IsBuilt app code resources draft) where
        widths_same : length draft.widths ≡ n
        widths_same = ap length is.widths

        points_same : length draft.points ≡ m
        points_same = sym (length-map draft.points plain_alternatives) ∙ ap length is.points

        point_at : (i : ℕ) → plain_alternatives (point_of draft i) ≡ unwrap_or (slice_get (points_of app code resources) i) []
        point_at i = plain_point draft.points i ∙ ap (λ xs. unwrap_or (slice_get xs i) []) is.points

        good_at : (i : ℕ) → AreGood (length draft.widths) (length draft.points) 0 (plain_alternatives (point_of draft i))
        good_at i =
            subst (λ k. AreGood k (length draft.points) 0 (plain_alternatives (point_of draft i))) (sym widths_same)
            (subst (λ k. AreGood n k 0 (plain_alternatives (point_of draft i))) (sym points_same)
            (subst (AreGood n m 0) (sym (point_at i)) (good_item n m (points_of app code resources) i points_good)))

        idle_none : point_of draft 0 ≡ []
        idle_none = none_plain (point_of draft 0) (point_at 0)

        sizes : sizes_fit draft ≡ true
        sizes =
            let count = points_same in
            let points = m_is in
            let wide = widths_same in
            let cells = n_is in
            let rooms = rooms_few in
            let kept = kept_few in
            let entities = numbered.few in
            let one : nat_le 1 (length draft.points) ≡ true = grind (arith, nat_tests) in
            let two : nat_le (length draft.points) (2 ^ 16) ≡ true = grind (arith, nat_tests) in
            let three : nat_lt (length draft.widths) (2 ^ 16) ≡ true = grind (arith, nat_tests) in
            let four : starts_fit draft.widths draft.starts ≡ true =
            starts_pass draft.widths draft.starts (subst (λ ws. AreStarts ws draft.starts) (sym is.widths) (subst (AreStarts (widths_of app code resources)) (sym is.starts) starts_good)) in
            and_true (nat_le 1 (length draft.points)) _ one
            (and_true (nat_le (length draft.points) (2 ^ 16)) _ two
            (and_true (nat_lt (length draft.widths) (2 ^ 16)) (starts_fit draft.widths draft.starts) three four))

        -- a stack of at most one task, with the idle point at the bottom
        stack_passes : (fs : List (Frame ℕ)) → IsFirst fs → (begins_idle (reverse (places (plan_of app code resources) fs)) && (list_all (λ q. nat_lt q (length draft.points)) (reverse (places (plan_of app code resources) fs)) && nat_le (length (reverse (places (plan_of app code resources) fs))) (draft.depth + 1))) ≡ true
        stack_passes fs (Nobody e) = subst (λ gs. (begins_idle (reverse (places (plan_of app code resources) gs)) && (list_all (λ q. nat_lt q (length draft.points)) (reverse (places (plan_of app code resources) gs)) && nat_le (length (reverse (places (plan_of app code resources) gs))) (draft.depth + 1))) ≡ true) (sym e) here
          where
            here : ((true && true) && ((nat_lt 0 (length draft.points) && true) && nat_le 1 (draft.depth + 1))) ≡ true
            here =
                let count = points_same in
                let points = m_is in
                let one : nat_lt 0 (length draft.points) ≡ true = grind (arith, nat_tests) in
                let two : nat_le 1 (draft.depth + 1) ≡ true = grind (arith, nat_tests) in
                and_true true ((nat_lt 0 (length draft.points) && true) && nat_le 1 (draft.depth + 1)) refl
                (and_true (nat_lt 0 (length draft.points) && true) (nat_le 1 (draft.depth + 1)) (and_true (nat_lt 0 (length draft.points)) true one refl) two)
        stack_passes fs (Somebody t lt e) = subst (λ gs. (begins_idle (reverse (places (plan_of app code resources) gs)) && (list_all (λ q. nat_lt q (length draft.points)) (reverse (places (plan_of app code resources) gs)) && nat_le (length (reverse (places (plan_of app code resources) gs))) (draft.depth + 1))) ≡ true) (sym e) here
          where
            q : ℕ
            q = 1 + (points_before app code resources t + 0)

            here : ((true && (not (q == 0) && true)) && ((nat_lt 0 (length draft.points) && (nat_lt q (length draft.points) && true)) && nat_le 2 (draft.depth + 1))) ≡ true
            here =
                let count = points_same in
                let points = m_is in
                let number = (numbers t 0 (form.begins t (numbered.all t lt))).1 in
                let depth = is.depth in
                let zero' : (q == 0) ≡ false = grind (arith, nat_tests) in
                let one : nat_lt 0 (length draft.points) ≡ true = grind (arith, nat_tests) in
                let two : nat_lt q (length draft.points) ≡ true = grind (arith, nat_tests) in
                let three : nat_le 2 (draft.depth + 1) ≡ true = grind (arith, nat_tests) in
                and_true (true && (not (q == 0) && true)) _ (and_true (not (q == 0)) true (ap not zero') refl)
                (and_true (nat_lt 0 (length draft.points) && (nat_lt q (length draft.points) && true)) (nat_le 2 (draft.depth + 1))
                (and_true (nat_lt 0 (length draft.points)) (nat_lt q (length draft.points) && true) one (and_true (nat_lt q (length draft.points)) true two refl)) three)

        first : first_fits draft ≡ true
        first = subst (λ qs. (begins_idle qs && (list_all (λ q. nat_lt q (length draft.points)) qs && nat_le (length qs) (draft.depth + 1))) ≡ true) (sym is.first) (stack_passes (first_state app code resources).stack the_first)

        -- the draft is well shaped
        pub well_shaped : IsWellShaped draft
        well_shaped =
            record {
              sizes = sizes;
              first = first;
              idle = ap (list_all (λ (a : Alternative). is_idle_control a.control)) idle_none;
              controls = λ i. controls_pass (length draft.widths) (length draft.points) i 0 (point_of draft i) (good_at i);
              labels =
                  λ i.
                  and_true _ _ (labels_distinct (length draft.widths) (length draft.points) 0 (point_of draft i) (good_at i))
                  (labels_within (length draft.widths) (length draft.points) 0 (point_of draft i) (good_at i));
              cells = λ i. cells_pass (length draft.widths) (length draft.points) 0 (point_of draft i) (good_at i);
              inputs = λ i. inputs_pass (length draft.widths) (length draft.points) draft.widths 0 (point_of draft i) (good_at i);
            }

  -- the draft's program is the built one
  pub same_program : (draft : Draft) → IsBuilt app code resources draft → built app code resources ≡ program_of draft
  same_program draft is =
      ap (λ ws. record { width = λ q. unwrap_or (slice_get ws q) W32; starts = λ q. unwrap_or (slice_get (starts_of app code resources) q) 0; first = first_of app code resources; points = λ i. unwrap_or (slice_get (points_of app code resources) i) []; depth = app.entities }) (sym is.widths)
      ∙ (ap (λ vs. record { width = λ q. unwrap_or (slice_get draft.widths q) W32; starts = λ q. unwrap_or (slice_get vs q) 0; first = first_of app code resources; points = λ i. unwrap_or (slice_get (points_of app code resources) i) []; depth = app.entities }) (sym is.starts)
      ∙ (ap (λ qs. record { width = λ q. unwrap_or (slice_get draft.widths q) W32; starts = λ q. unwrap_or (slice_get draft.starts q) 0; first = qs; points = λ i. unwrap_or (slice_get (points_of app code resources) i) []; depth = app.entities }) (sym is.first)
      ∙ (ap (λ ps. record { width = λ q. unwrap_or (slice_get draft.widths q) W32; starts = λ q. unwrap_or (slice_get draft.starts q) 0; first = draft.first; points = ps; depth = app.entities }) (fun_ext (λ i. sym (plain_point draft.points i ∙ ap (λ xs. unwrap_or (slice_get xs i) []) is.points)))
      ∙ ap (λ d. record { width = λ q. unwrap_or (slice_get draft.widths q) W32; starts = λ q. unwrap_or (slice_get draft.starts q) 0; first = draft.first; points = λ i. plain_alternatives (point_of draft i); depth = d }) (sym is.depth))))

  pub drafts_lem : (draft : Draft) → IsBuilt app code resources draft → (arrivals : ℕ) → IsExact app (steps_of code) code.start arrivals (program_of draft) go_alone
  drafts_lem draft is arrivals =
      subst (λ (p : Program). IsExact app (steps_of code) code.start arrivals p go_alone) (same_program draft is) (build_lem app sound code resources form numbered few arrivals)

  pub drafts_act : (draft : Draft) → IsBuilt app code resources draft → AreActing app code (plan_of app code resources) (program_of draft) go_alone
  drafts_act draft is =
      subst (λ (p : Program). AreActing app code (plan_of app code resources) p go_alone) (same_program draft is) (acting_lem app sound code resources form numbered few)
