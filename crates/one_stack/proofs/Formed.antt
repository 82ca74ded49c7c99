-- An application in order and a code that fits it, of the task form, meet what the proof of the built program asks.
use Rattle.std.proofs.Common.{◌≡◌, ℕ, zero, suc, ◌+◌, ◌-◌, ◌<◌, ◌≤◌, Bool, true, false, not, List, [], ◌∷◌, length, map, Option, Some, None, refl, sym, ap, subst, ◌∙◌, arith, nat_le, ◌==◌, if◌then◌else◌, slice_get}
use Rattle.std.proofs.lemmas.Bool.{and_parts}
use Rattle.std.proofs.lemmas.Bool.Decides.{nat_tests}
use Rattle.std.proofs.lemmas.List.{length-map}
use Rattle.std.proofs.lemmas.Option.{get_or_from_slice_get, slice_get_within}
use Rattle.std.specs.List.{list_all}
use Rattle.application.specs.declared.app.App.{App}
use Rattle.application.specs.declared.app.Routine.{Routine}
use Rattle.application.specs.declared.app.Task.{Task}
use Rattle.application.specs.InOrder.{IsInOrder, IsTaskInOrder}
use Rattle.application.specs.Levels.{internal_level, levels_of, greatest}
use Rattle.chk_base.specs.Term.{Term, Const, Cell, Pick, Un, Bin, Choose}
use Rattle.one_stack.specs.PlainCode.{plain_code}
use Rattle.one_stack.specs.TaskForm.{is_form_action, is_form_entity, is_form_point, is_form_service, is_task_form, resource_count, Reads, Has, FitsNexts, EndsOne, FitsGoing, FitsTerms, FitsIndex, FitsTarget, FitsSets, FitsSet, FitsService, FitsAction, FitsPoint, IsTaskForm, IsNumbered}
use Rattle.step_ir.proofs.Greatest.{level_in_all}
use Rattle.step_ir.proofs.Within.{first_cell_within, globals_within}
use Rattle.step_ir.specs.declared.code.Code.{Code}
use Rattle.step_ir.specs.declared.code.EntityCode.{EntityCode}
use Rattle.step_ir.specs.declared.event.Service.{Service}
use Rattle.step_ir.specs.declared.event.Service.TheVariants.{Activate, Terminate, Chain, Schedule, Get, Release, DisableAll, EnableAll, SuspendAll, ResumeAll, SuspendOs, ResumeOs}
use Rattle.step_ir.specs.Fits.{AreNextsFit, AreSetsFit, AreTrapsFit, EndsInOne, Fits, IsActionFit, IsIndexFit, IsPointFit, IsReturnFit, IsServiceFit, IsTargetFit, ReadsBetween, is_last}
use Rattle.step_ir.specs.Numbers.{times}
use Rattle.step_ir.specs.Points.{PlainTarget, PlainAction, Read, Write, Local, Branch, Input, Call, Return, Invoke, Assert, End, PlainPoint, cells_of, first_cell, plain_of, points_in, points_of}
use Rattle.step_ir.specs.Setting.{by_kind, setting_of, started_from}

-- what reads cells between bounds reads cells between wider ones
reads_wider : (low high n : ℕ) (t : Term) → ReadsBetween low high t → high ≤ n → Reads n t
reads_wider low high n (Const k) reads le = tt
reads_wider low high n (Cell at s) reads le = let below = reads.1 in (omega arith, omega arith)
reads_wider low high n (Pick base len s index) reads le =
    let some = reads.0 in
    let below = reads.2 in
    (some, omega arith, omega arith, reads_wider low high n index reads.3 le)
reads_wider low high n (Un op a) reads le = reads_wider low high n a reads le
reads_wider low high n (Bin op a b) reads le = (reads_wider low high n a reads.0 le, reads_wider low high n b reads.1 le)
reads_wider low high n (Choose c a b) reads le = (
  reads_wider low high n c reads.0 le,
  reads_wider low high n a reads.1 le,
  reads_wider low high n b reads.2 le,
)

-- what all pass, each passes
pub passes_at : {X : Type 0} (test : X → Bool) (xs : List X) (k : ℕ) (x : X) → list_all test xs ≡ true → slice_get xs k ≡ Some x → test x ≡ true
passes_at {X = X} test [] k x all at = absurd (let z : ◌≡◌ {A = Option X} None (Some x) = at in cc)
passes_at {X = X} test (y ∷ ys) zero x all at =
    let same : y ≡ x = cc in
    ap test (sym same) ∙ (and_parts (test y) (list_all test ys) all).0
passes_at {X = X} test (y ∷ ys) (suc k) x all at = passes_at test ys k x (and_parts (test y) (list_all test ys) all).1 at

-- where a list of images has an item, the list has one whose image it is
pub record IsImage {X Y : Type 0} (f : X → Y) (xs : List X) (k : ℕ) (y : Y) : Type 0 where
  pub item : X
  pub at : slice_get xs k ≡ Some item
  pub is : f item ≡ y

pub image_at : {X Y : Type 0} (f : X → Y) (xs : List X) (k : ℕ) (y : Y) → slice_get (map f xs) k ≡ Some y → IsImage f xs k y
image_at {X = X} {Y = Y} f [] k y at = absurd (let z : ◌≡◌ {A = Option Y} None (Some y) = at in cc)
image_at {X = X} {Y = Y} f (x ∷ xs) zero y at = record { item = x; at = refl; is = let z : ◌≡◌ {A = Option Y} (Some (f x)) (Some y) = at in cc }
image_at {X = X} {Y = Y} f (x ∷ xs) (suc k) y at = let r = image_at f xs k y at in record { item = r.item; at = r.at; is = r.is }

-- a list has an item at each number below its length
pub has_at : (points : List PlainPoint) (k : ℕ) → k < length points → Has points k
has_at [] k lt = absurd (omega arith)
has_at (p ∷ ps) zero lt = record { point = p; is = refl }
has_at (p ∷ ps) (suc k) lt = let r = has_at ps k (omega arith) in record { point = r.point; is = r.is }

-- no list of length 0 has an item
none_of_none : {X : Type 0} (xs : List X) → (length xs == 0) ≡ true → xs ≡ []
none_of_none [] h = refl
none_of_none (x ∷ xs) h = absurd (grind (arith, nat_tests))

-- a task that is started has a number from that of the first on, and each number comes once
started_once : (n : ℕ) (ts : List Task) (t : ℕ) → (times t (started_from n ts) ≤ 1) × (t < n → times t (started_from n ts) ≡ 0)
started_once n [] t = (omega arith, λ lt. refl)
started_once n (x ∷ xs) t = go x.autostart (started_once (n + 1) xs t)
  where
    go : (b : Bool) → (times t (started_from (n + 1) xs) ≤ 1) × (t < n + 1 → times t (started_from (n + 1) xs) ≡ 0) → (times t (if b then n ∷ started_from (n + 1) xs else started_from (n + 1) xs) ≤ 1) × (t < n → times t (if b then n ∷ started_from (n + 1) xs else started_from (n + 1) xs) ≡ 0)
    go false ih = (ih.0, λ lt. ih.1 (omega arith))
    go true ih = (most (n == t) refl, λ lt. none lt)
      where
        most : (c : Bool) → (n == t) ≡ c → (if c then times t (started_from (n + 1) xs) + 1 else times t (started_from (n + 1) xs)) ≤ 1
        most true e =
            let same : t < n + 1 = grind (arith, nat_tests) in
            let zero_times = ih.1 same in
            omega arith
        most false e = ih.0

        none : t < n → times t (n ∷ started_from (n + 1) xs) ≡ 0
        none lt =
            let differ : (n == t) ≡ false = grind (arith, nat_tests) in
            ap (λ c. if c then times t (started_from (n + 1) xs) + 1 else times t (started_from (n + 1) xs)) differ ∙ ih.1 (omega arith)

module _ (app : App) (code : Code) (order : IsInOrder app) (fits : Fits app code) (form : is_task_form app code ≡ true) where
  -- there is no routine
  no_routines : app.routines ≡ []
  no_routines = none_of_none app.routines (and_parts (length app.routines == 0) (list_all is_form_entity code.entities) form).0

  -- a number that is said to be a routine's
  routine_at : (o : Option Task) (k : ℕ) → by_kind (λ t. false) (λ r. true) false o (slice_get app.routines k) ≡ false
  routine_at (Some t) k = refl
  routine_at None k = ap (λ rs. by_kind {A = Bool} (λ t. false) (λ r. true) false None (slice_get rs k)) no_routines

  -- a task by its number
  record IsTaskAt (e : ℕ) : Type 0 where
    task : Task
    at : slice_get app.tasks e ≡ Some task
    ordered : IsTaskInOrder app task

  task_of_number : (e : ℕ) (o : Option Task) → slice_get app.tasks e ≡ o → by_kind (λ t. true) (λ r. false) false o (slice_get app.routines (e - length app.tasks)) ≡ true → IsTaskAt e
  task_of_number e (Some t) at is =
      record {
        task = t;
        at = at;
        ordered = subst (IsTaskInOrder app) (get_or_from_slice_get app.tasks e t t at) (order.tasks e t (slice_get_within app.tasks e t at));
      }
  task_of_number e None at is = absurd (none (slice_get app.routines (e - length app.tasks)) is)
    where
      none : (o : Option Routine) → by_kind (λ t. true) (λ r. false) false None o ≡ true → ⊥
      none None h = let z : false ≡ true = h in cc
      none (Some r) h = let z : false ≡ true = h in cc

  task_at : (e : ℕ) → (setting_of app).is_task e ≡ true → IsTaskAt e
  task_at e is = task_of_number e (slice_get app.tasks e) refl is

  -- each number of an entity is a task's
  tasks_alone : length app.tasks + length app.routines ≡ length app.tasks
  tasks_alone = let none : length app.routines ≡ 0 = ap length no_routines in omega arith

  is_task_below : (e : ℕ) (ts : List Task) (rest : Option Routine) → e < length ts → by_kind (λ t. true) (λ r. false) false (slice_get ts e) rest ≡ true
  is_task_below e [] rest lt = absurd (omega arith)
  is_task_below zero (t ∷ ts) rest lt = refl
  is_task_below (suc e) (t ∷ ts) rest lt = is_task_below e ts rest (omega arith)

  -- what is said of the number of requests
  limit_at : (e : ℕ) (o : Option Task) (p : Option Routine) → slice_get app.tasks e ≡ o → by_kind (λ t. t.requests) (λ r. 0) 0 o p ≤ 8
  limit_at e (Some t) p at =
      let ordered : IsTaskInOrder app t = subst (IsTaskInOrder app) (get_or_from_slice_get app.tasks e t t at) (order.tasks e t (slice_get_within app.tasks e t at)) in
      ordered.few_requests
  limit_at e None (Some r) at = omega arith
  limit_at e None None at = omega arith

  some_at : (e : ℕ) → e < length app.tasks → 1 ≤ (setting_of app).limit e
  some_at e lt =
      let is = is_task_below e app.tasks (slice_get app.routines (e - length app.tasks)) lt in
      let t = task_at e is in
      subst (λ o. 1 ≤ by_kind (λ t. t.requests) (λ r. 0) 0 o (slice_get app.routines (e - length app.tasks))) (sym t.at) t.ordered.requested

  -- tasks have numbers below their count
  pub numbered : IsNumbered (setting_of app)
  numbered =
      record {
        tasks = λ t is. let at = task_at t is in let lt = slice_get_within app.tasks t at.task at.at in let all = tasks_alone in omega arith;
        all = λ t lt. let all = tasks_alone in is_task_below t app.tasks (slice_get app.routines (t - length app.tasks)) (omega arith);
        few = order.few_entities;
        limits = λ t. limit_at t (slice_get app.tasks t) _ refl;
        some = λ t lt. let all = tasks_alone in some_at t (omega arith);
        once = λ t. (started_once 0 app.tasks t).0;
      }

  -- no task is above a task that isn't preemptive
  highest : (e t : ℕ) → (setting_of app).is_task e ≡ true → (setting_of app).is_preemptive e ≡ false → (setting_of app).is_task t ≡ true → (setting_of app).level t ≤ (setting_of app).run_level e
  highest e t is fixed also =
      let one = task_at e is in
      let two = task_at t also in
      let whole : one.task.non_preemptive ≡ true =
      flips one.task.non_preemptive (sym (ap (λ o. by_kind (λ t. not t.non_preemptive) (λ r. false) false o (slice_get app.routines (e - length app.tasks))) one.at) ∙ fixed) in
      let runs : one.task.run_level ≡ greatest (levels_of app.tasks) =
      one.ordered.run_level ∙ ap (λ b. if b then greatest (levels_of app.tasks) else internal_level app one.task.level one.task.internal) whole in
      let low = level_in_all app.tasks t two.task two.at in
      let left : (setting_of app).level t ≡ two.task.level = ap (λ o. by_kind (λ t. t.level) (λ r. r.level) 0 o (slice_get app.routines (t - length app.tasks))) two.at in
      let right : (setting_of app).run_level e ≡ one.task.run_level = ap (λ o. by_kind (λ t. t.run_level) (λ r. r.level) 0 o (slice_get app.routines (e - length app.tasks))) one.at in
      omega arith
    where
      flips : (b : Bool) → not b ≡ false → b ≡ true
      flips true h = refl
      flips false h = absurd (let z : true ≡ false = h in cc)

  -- the code's cells, and those of an entity
  cells : ℕ
  cells = length (cells_of code)

  own_high : (e : ℕ) → first_cell code (e + 1) ≤ length (cells_of code)
  own_high e = first_cell_within code (e + 1)

  reads_own : (e : ℕ) (t : Term) → ReadsBetween (first_cell code e) (first_cell code (e + 1)) t → Reads (length (cells_of code)) t
  reads_own e t r = reads_wider (first_cell code e) (first_cell code (e + 1)) (length (cells_of code)) t r (own_high e)

  module _ (e : ℕ) where
    traps_fit : (xs : List (Term × ℕ)) → AreTrapsFit code e xs → FitsTerms (length (cells_of code)) xs
    traps_fit [] h = tt
    traps_fit (x ∷ xs) h = (reads_own e x.0 h.0, traps_fit xs h.3)

    nexts_fit : (xs : List (Term × ℕ)) → AreNextsFit code e xs → FitsNexts (length (cells_of code)) (points_in code e) xs
    nexts_fit [] h = tt
    nexts_fit (x ∷ xs) h = (reads_own e x.0 h.0, has_at (points_in code e) x.1 h.1, nexts_fit xs h.2)

    ends_fit : (xs : List (Term × ℕ)) → 1 ≤ length xs → EndsInOne xs → EndsOne xs
    ends_fit [] some h = absurd (omega arith)
    ends_fit (x ∷ []) some h = h
    ends_fit (x ∷ y ∷ ys) some h = ends_fit (y ∷ ys) (omega arith) h

    index_fit : (o : Option Term) → IsIndexFit code e o → FitsIndex (length (cells_of code)) o
    index_fit None h = tt
    index_fit (Some t) h = reads_own e t h

    target_fit : (t : PlainTarget) → IsTargetFit code e t → FitsTarget (length (cells_of code)) t
    target_fit t h =
        let within = h.globals in
        let all = globals_within code in
        (h.some, omega arith, index_fit t.index h.index)

    below : (cell : ℕ) → cell < first_cell code (e + 1) → cell < length (cells_of code)
    below cell lt = let high = own_high e in omega arith

    sets_fit : (ss : List (ℕ × Term)) → AreSetsFit code e ss → FitsSets (length (cells_of code)) ss
    sets_fit [] h = tt
    sets_fit (s ∷ ss) h = (below s.0 h.0.cell.below, reads_own e s.1 h.0.value, h.1, sets_fit ss h.2)

    return_fit : (o : Option (ℕ × Term)) → IsReturnFit code e o → FitsSet (length (cells_of code)) o
    return_fit None h = tt
    return_fit (Some s) h = (below s.0 h.cell.below, reads_own e s.1 h.value)

    -- a task that a service names is one
    names_task : (t : ℕ) → t < length app.tasks → (setting_of app).is_task t ≡ true
    names_task t lt = is_task_below t app.tasks (slice_get app.routines (t - length app.tasks)) lt

    service_fit : (service : Service) (nexts : List (Term × ℕ)) → is_form_service service ≡ true → IsServiceFit app service → (is_last (Invoke service) ≡ false → FitsGoing (length (cells_of code)) (points_in code e) nexts) → FitsService (setting_of app) (resource_count app) (length (cells_of code)) (points_in code e) nexts service
    service_fit (Activate t) nexts is h goes = (names_task t.0 h, goes refl)
    service_fit Terminate nexts is h goes = tt
    service_fit (Chain t) nexts is h goes = names_task t.0 h
    service_fit (Get r) nexts is h goes = (omega (arith, h), goes refl)
    service_fit (Release r) nexts is h goes = goes refl
    service_fit Schedule nexts is h goes = absurd (let z : false ≡ true = is in cc)
    service_fit DisableAll nexts is h goes = absurd (let z : false ≡ true = is in cc)
    service_fit EnableAll nexts is h goes = absurd (let z : false ≡ true = is in cc)
    service_fit SuspendAll nexts is h goes = absurd (let z : false ≡ true = is in cc)
    service_fit ResumeAll nexts is h goes = absurd (let z : false ≡ true = is in cc)
    service_fit SuspendOs nexts is h goes = absurd (let z : false ≡ true = is in cc)
    service_fit ResumeOs nexts is h goes = absurd (let z : false ≡ true = is in cc)

    action_fit : (action : PlainAction) (nexts : List (Term × ℕ)) → is_form_action action ≡ true → IsActionFit code e app action → (is_last action ≡ false → FitsGoing (length (cells_of code)) (points_in code e) nexts) → FitsAction (setting_of app) (resource_count app) (plain_code code) (points_in code e) nexts action
    action_fit (Read t into) nexts is h goes = (target_fit t h.0, (below into h.1.below, h.2), goes refl)
    action_fit (Write t term) nexts is h goes = (target_fit t h.0, reads_own e term h.1, goes refl)
    action_fit (Local q term) nexts is h goes = (below q h.0.below, reads_own e term h.1, goes refl)
    action_fit (Branch term) nexts is h goes = (reads_own e term h, goes refl)
    action_fit (Input q) nexts is h goes = absurd (let z : false ≡ true = is in cc)
    action_fit (Call f sets) nexts is h goes = (sets_fit sets h.1, goes refl)
    action_fit (Return set) nexts is h goes = (return_fit set h, goes refl)
    action_fit (Invoke service) nexts is h goes = service_fit service nexts is h goes
    action_fit (Assert term) nexts is h goes = (reads_own e term h, goes refl)
    action_fit End nexts is h goes = tt

    point_fit : (p : PlainPoint) → is_form_action p.action ≡ true → IsPointFit app code e p → FitsPoint (setting_of app) (resource_count app) (plain_code code) (points_in code e) p
    point_fit p is h =
        record {
          traps = traps_fit p.traps h.traps;
          action = action_fit p.action p.nexts is h.action (λ last. (nexts_fit p.nexts h.nexts, ends_fit p.nexts (h.goes_on last) h.ends_in_one));
        }

  -- where an entity has a point, there is such an entity, and the point is of the form
  pub record IsFormPoint (e at : ℕ) (p : PlainPoint) : Type 0 where
    pub counted : e < length code.entities
    pub action : is_form_action p.action ≡ true
    pub few : length p.nexts ≤ 2048

  form_of : (e at : ℕ) (p : PlainPoint) (o : Option EntityCode) → slice_get code.entities e ≡ o → slice_get (map plain_of (points_of o)) at ≡ Some p → IsFormPoint e at p
  form_of e at p None is there = absurd (let z : ◌≡◌ {A = Option PlainPoint} None (Some p) = there in cc)
  form_of e at p (Some entity) is there =
      let all = (and_parts (length app.routines == 0) (list_all is_form_entity code.entities) form).1 in
      let image = image_at plain_of entity.points at p there in
      let here = passes_at is_form_point entity.points at image.item (passes_at is_form_entity code.entities e entity all is) image.at in
      let halves = and_parts (is_form_action (plain_of image.item).action) (nat_le (length image.item.next) 2048) here in
      let short : length image.item.next ≤ 2048 = let z = halves.1 in grind (arith, nat_tests) in
      let same : length (plain_of image.item).nexts ≡ length p.nexts = ap (λ (q : PlainPoint). length q.nexts) image.is in
      let long = length-map image.item.next Rattle.step_ir.specs.Points.item_of in
      record {
        counted = slice_get_within code.entities e entity is;
        action = sym (ap (λ (q : PlainPoint). is_form_action q.action) image.is) ∙ halves.0;
        few = omega arith;
      }

  pub form_at : (e at : ℕ) (p : PlainPoint) → slice_get (points_in code e) at ≡ Some p → IsFormPoint e at p
  form_at e at p is = form_of e at p (slice_get code.entities e) refl is

  -- the setting and the plain code are of the form
  pub formed : IsTaskForm (setting_of app) (resource_count app) (plain_code code)
  formed =
      record {
        non_preemptive = highest;
        routines = λ e. routine_at (slice_get app.tasks e) (e - length app.tasks);
        begins =
            λ e is.
            let task = task_at e is in
            let lt = slice_get_within app.tasks e task.task task.at in
            let count = fits.entities in
            has_at (points_in code e) 0 (let some = fits.begins e (omega arith) in omega arith);
        points = λ e at p is. point_fit e p (form_at e at p is).action (fits.points e at p is);
        entities = λ e at p is. let f = (form_at e at p is).counted in let count = fits.entities in omega arith;
        starts = fits.starts;
      }
