-- What follows where a service has no error.
use Rattle.std.proofs.Common.{◌≡◌, ℕ, ◌-◌, ◌<◌, ◌≤◌, Bool, true, false, not, ◌&&◌, List, [], ◌∷◌, length, Option, Some, None, slice_get, slice_set, slice_index, refl, sym, ap, subst, ◌∙◌, arith, nat_le, if◌then◌else◌, ◌==◌}
use Rattle.std.proofs.lemmas.Bool.Decides.{nat_tests}
use Rattle.std.proofs.lemmas.Option.{slice_get_within, get_or_from_slice_get}
use Rattle.application.specs.InOrder.{IsInOrder, IsTaskInOrder}
use Rattle.application.specs.declared.app.App.{App}
use Rattle.application.specs.declared.app.Routine.{Routine}
use Rattle.application.specs.declared.app.Task.{Task}
use Rattle.osek_machine.proofs.Actors.{actor_first}
use Rattle.osek_machine.proofs.States.{index_set}
use Rattle.osek_machine.specs.Faults.{first_or}
use Rattle.osek_machine.specs.Kept.{Kept, IsKept, AreDescending, state_of, entities_of}
use Rattle.osek_machine.specs.Changing.{IsServable}
use Rattle.osek_machine.proofs.Laws.{IsRequested, MayLeave}
use Rattle.step_ir.specs.Numbers.{is_empty}
use Rattle.step_ir.specs.SchedulerState.{actor, scene}
use Rattle.step_ir.specs.Services.{leaving, others}
use Rattle.step_ir.specs.Setting.{setting_of, by_kind, gives_way}
use Rattle.step_ir.specs.declared.event.Failure.{Failure}
use Rattle.step_ir.specs.declared.event.Service.TheVariants.{Activate, Chain, Get}

-- a task may have at most eight requests at once
limit_low : (app : App) → IsInOrder app → (t : ℕ) → (setting_of app).limit t ≤ 8
limit_low app ok t = go (slice_get app.tasks t) (slice_get app.routines (t - length app.tasks)) refl
  where
    go : (o : Option Task) (p : Option Routine) → slice_get app.tasks t ≡ o → by_kind (λ x. x.requests) (λ r. 0) 0 o p ≤ 8
    go (Some x) p at =
        (subst (IsTaskInOrder app) (get_or_from_slice_get app.tasks t x x at) (ok.tasks t x (slice_get_within app.tasks t x at))).few_requests
    go None (Some r) at = omega arith
    go None None at = omega arith

-- a task that acts is the one that runs
pub task_runs : (k : Kept) (e : ℕ) → IsKept k → actor (setting_of k.app) (state_of k) ≡ Some e → (setting_of k.app).is_task e ≡ true → k.running ≡ Some e
task_runs k e inv acts task = go k.active inv.active (sym (actor_first k.app 81 k.active k.running inv.active) ∙ acts)
  where
    go : (rs : List ℕ) → AreDescending k.app 81 rs → first_or rs k.running ≡ Some e → k.running ≡ Some e
    go [] h is = is
    go (r ∷ rs) h is =
        let same : r ≡ e = cc in
        let ok = inv.fixed.sound in
        let other : (setting_of k.app).is_task e ≡ false = ok.routines e (subst (λ q. (setting_of k.app).is_routine q ≡ true) same h.0) in
        absurd (let x : true ≡ false = sym task ∙ other in cc)

-- of two tests that hold, the first does
and_first : (a b : Bool) → a && b ≡ true → a ≡ true
and_first true b h = refl
and_first false b h = h

-- who gives way is the one that runs
pub way_runs : (k : Kept) (e : ℕ) → IsKept k → actor (setting_of k.app) (state_of k) ≡ Some e → gives_way (setting_of k.app) e ≡ true → k.running ≡ Some e
way_runs k e inv acts way = task_runs k e inv acts (and_first _ _ way)

-- the number of a task
task_within : (app : App) (t : ℕ) → (setting_of app).is_task t ≡ true → t < length app.tasks
task_within app t h = go (slice_get app.tasks t) (slice_get app.routines (t - length app.tasks)) refl h
  where
    go : (o : Option Task) (p : Option Routine) → slice_get app.tasks t ≡ o → by_kind (λ t. true) (λ r. false) false o p ≡ true → t < length app.tasks
    go (Some x) p at h = slice_get_within app.tasks t x at
    go None (Some r) at h = absurd (let x : false ≡ true = h in cc)
    go None None at h = absurd (let x : false ≡ true = h in cc)

-- the number of who acts
pub actor_within : (k : Kept) (e : ℕ) → IsKept k → actor (setting_of k.app) (state_of k) ≡ Some e → e < entities_of k.app
actor_within k e inv acts = go k.active inv.active (sym (actor_first k.app 81 k.active k.running inv.active) ∙ acts)
  where
    go : (rs : List ℕ) → AreDescending k.app 81 rs → first_or rs k.running ≡ Some e → e < entities_of k.app
    go [] h is = let w = inv.queued.runs e is in omega arith
    go (r ∷ rs) h is = let same : r ≡ e = cc in inv.fixed.sound.counted_routines e (subst (λ q. (setting_of k.app).is_routine q ≡ true) same h.0)

-- who leaves the processor is the one that runs
pub leaving_runs : MayLeave → (k : Kept) (e : ℕ) (rest : Option Failure) → IsKept k → actor (setting_of k.app) (state_of k) ≡ Some e → leaving (setting_of k.app) (scene (setting_of k.app) (state_of k) e) rest ≡ None → k.running ≡ Some e
leaving_runs law k e rest inv acts none =
    task_runs k e inv acts (law (setting_of k.app) (scene (setting_of k.app) (state_of k) e) rest none).0

-- what is activated is a task
pub activate_within : IsRequested Activate → (k : Kept) (e t : ℕ) → IsKept k → IsServable k e (Activate (record { 0 = t })) → t < length k.app.tasks
activate_within law k e t inv s =
    task_within k.app t (law (setting_of k.app) inv.fixed.sound (scene (setting_of k.app) (state_of k) e) (record { 0 = t }) s.no_fault)

-- what is chained is a task
pub chain_within : IsRequested Chain → (k : Kept) (e t : ℕ) → IsKept k → IsServable k e (Chain (record { 0 = t })) → t < length k.app.tasks
chain_within law k e t inv s =
    task_within k.app t (law (setting_of k.app) inv.fixed.sound (scene (setting_of k.app) (state_of k) e) (record { 0 = t }) s.no_fault)

-- no failure: the test does not hold
last_none : (a : Bool) (f : Failure) → (if a then Some f else None) ≡ None → a ≡ false
last_none true f h = absurd (let x : ◌≡◌ {A = Option Failure} (Some f) None = h in cc)
last_none false f h = refl

-- no failure: the second test does not hold
second_none : (a b : Bool) (f g : Failure) → (if a then Some f else (if b then Some g else None)) ≡ None → b ≡ false
second_none true b f g h = absurd (let x : ◌≡◌ {A = Option Failure} (Some f) None = h in cc)
second_none false b f g h = last_none b g h

-- the task that is activated may have one more request
pub activate_room : (k : Kept) (e t : ℕ) → IsKept k → IsServable k e (Activate (record { 0 = t })) → slice_index k.requests t < 8
activate_room k e t inv s =
    let low : nat_le ((setting_of k.app).limit t) (slice_index k.requests t) ≡ false = second_none (not (is_empty k.sections)) (nat_le ((setting_of k.app).limit t) (slice_index k.requests t)) (record { number = 8; code = 0 }) (record { number = 2; code = 4 }) s.no_fault in
    let most = limit_low k.app inv.fixed.order t in
    grind (arith, nat_tests)

-- so may the task that is chained, after the request that ends
pub chain_room : MayLeave → (k : Kept) (e t : ℕ) → IsKept k → IsServable k e (Chain (record { 0 = t })) → slice_index (slice_set k.requests e (slice_index k.requests e - 1)) t < 8
chain_room law k e t inv s =
    let parts = law (setting_of k.app) (scene (setting_of k.app) (state_of k) e) _ s.no_fault in
    let low : nat_le ((setting_of k.app).limit t) (others (scene (setting_of k.app) (state_of k) e) t) ≡ false = last_none _ _ parts.2 in
    let most = limit_low k.app inv.fixed.order t in
    let runs = task_runs k e inv s.acts parts.0 in
    let at : slice_index (slice_set k.requests e (slice_index k.requests e - 1)) t ≡ (if t == e then slice_index k.requests e - 1 else slice_index k.requests t) = ap (λ f. f t) (index_set k.requests e (slice_index k.requests e - 1) (omega (arith, inv.queued.runs e runs, inv.queued.requested))) in
    same_room (t == e) refl low at most
  where
    same_room : (b : Bool) → (t == e) ≡ b → nat_le ((setting_of k.app).limit t) (if b then slice_index k.requests t - 1 else slice_index k.requests t) ≡ false → slice_index (slice_set k.requests e (slice_index k.requests e - 1)) t ≡ (if b then slice_index k.requests e - 1 else slice_index k.requests t) → (setting_of k.app).limit t ≤ 8 → slice_index (slice_set k.requests e (slice_index k.requests e - 1)) t < 8
    same_room true is low at most = let same : t ≡ e = grind (arith, nat_tests) in let n : slice_index k.requests t ≡ slice_index k.requests e = ap (slice_index k.requests) same in grind (arith, nat_tests)
    same_room false is low at most = grind (arith, nat_tests)

-- the resource that is taken is free
pub get_free : (k : Kept) (e r : ℕ) → IsServable k e (Get r) → (scene (setting_of k.app) (state_of k) e).is_held r ≡ false
get_free k e r s = second_none _ _ _ _ s.no_fault
