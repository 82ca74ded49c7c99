-- A routine that arrives.
use Rattle.std.proofs.Common.{◌≡◌, ℕ, ◌+◌, ◌<◌, ◌≤◌, Bool, true, false, ◌&&◌, List, [], ◌∷◌, length, Some, None, slice_set, slice_index, refl, sym, ap, ap₂, subst, ◌∙◌, arith, nat_lt, length-set, if◌then◌else◌}
use Rattle.std.proofs.lemmas.Bool.Decides.{nat_tests}
use Rattle.application.specs.declared.app.App.{App}
use Rattle.chk_base.specs.declared.place.Place.{Place}
use Rattle.osek_machine.proofs.Actors.{actor_first}
use Rattle.osek_machine.proofs.Deeds.{levels_low, told_over}
use Rattle.osek_machine.proofs.States.{index_set, held_freed, freed_held}
use Rattle.osek_machine.specs.Faults.{first_or}
use Rattle.osek_machine.specs.Held.{held_by, IsFreed}
use Rattle.osek_machine.specs.Kept.{Kept, IsKept, AreDescending, state_of, entities_of}
use Rattle.osek_machine.specs.Changing.{Changes}
use Rattle.osek_machine.specs.Steps.{IsStep, IsOutcome}
use Rattle.osek_machine.specs.declared.held.Holding.{Holding}
use Rattle.osek_machine.specs.declared.machine.Outcome.TheVariants as answer
use Rattle.step_ir.specs.Deeds.{happened, next_of}
use Rattle.step_ir.specs.Numbers.{is_empty}
use Rattle.step_ir.specs.EntityStep.{is_failure}
use Rattle.step_ir.specs.PointStep.{Bits, behaviour_of}
use Rattle.step_ir.specs.SchedulerState.{State, actor, level_at}
use Rattle.step_ir.specs.SchedulerStep.{may_arrive, arrive, step, step_on, tell}
use Rattle.step_ir.specs.Setting.{setting_of}
use Rattle.step_ir.specs.declared.event.Choice.TheVariants.{Arrive}
use Rattle.step_ir.specs.declared.event.Event.{Event}
use Rattle.step_ir.specs.declared.event.EventAction.TheVariants as Told

-- a routine whose level is above that of who acts
pub record IsArrival (k : Kept) (r : ℕ) : Type 0 where
  pub routine : (setting_of k.app).is_routine r ≡ true
  pub above : level_at (setting_of k.app) (state_of k) (first_or k.active k.running) < (setting_of k.app).level r

-- of two tests that hold, the first does
both_first : (a b : Bool) → a && b ≡ true → a ≡ true
both_first true b h = refl
both_first false b h = h

-- and the second
both_second : (a b : Bool) → a && b ≡ true → b ≡ true
both_second true b h = h
both_second false b h = absurd (let x : false ≡ true = h in cc)

-- a routine that may arrive is one and has such a level
here : (k : Kept) (r : ℕ) → IsKept k → may_arrive (setting_of k.app) (state_of k) r ≡ true → IsArrival k r
here k r inv may =
    let rest : nat_lt (level_at (setting_of k.app) (state_of k) (actor (setting_of k.app) (state_of k))) ((setting_of k.app).level r) && is_empty k.sections ≡ true = both_second ((setting_of k.app).is_routine r) (nat_lt (level_at (setting_of k.app) (state_of k) (actor (setting_of k.app) (state_of k))) ((setting_of k.app).level r) && is_empty k.sections) may in
    let test : nat_lt (level_at (setting_of k.app) (state_of k) (actor (setting_of k.app) (state_of k))) ((setting_of k.app).level r) ≡ true = both_first (nat_lt (level_at (setting_of k.app) (state_of k) (actor (setting_of k.app) (state_of k))) ((setting_of k.app).level r)) (is_empty k.sections) rest in
    let low : level_at (setting_of k.app) (state_of k) (actor (setting_of k.app) (state_of k)) < (setting_of k.app).level r = grind (arith, nat_tests) in
    record {
      routine = both_first _ _ may;
      above = subst (λ o. level_at (setting_of k.app) (state_of k) o < (setting_of k.app).level r) (actor_first k.app 81 k.active k.running inv.active) low;
    }

-- the same for a value that a machine opened
pub arrival : (k old : Kept) (r : ℕ) → IsKept k → k ≡ old → may_arrive (setting_of old.app) (state_of old) r ≡ true → IsArrival k r
arrival k old r inv same may =
    here k r inv (subst (λ (n : Kept). may_arrive (setting_of n.app) (state_of n) r ≡ true) (sym same) may)

-- its level is above those of the active ones
pub descending_below : (k : Kept) (r : ℕ) → IsKept k → IsArrival k r → AreDescending k.app ((setting_of k.app).level r) k.active
descending_below k r inv a = go k.active inv.active a.above
  where
    go : (rs : List ℕ) → AreDescending k.app 81 rs → level_at (setting_of k.app) (state_of k) (first_or rs k.running) < (setting_of k.app).level r → AreDescending k.app ((setting_of k.app).level r) rs
    go [] h low = tt
    go (q ∷ qs) h low =
        let s = inv.fixed.sound in
        let up = inv.fixed.above q (held_by k.held q) in
        let own = s.runs_above q in
        (h.0, omega arith, h.2)

-- routines with falling levels are at most as many as the levels
descending_length : (app : App) (top : ℕ) (rs : List ℕ) → AreDescending app top rs → length rs ≤ top
descending_length app top [] h = omega arith
descending_length app top (r ∷ rs) h = omega (arith, descending_length app ((setting_of app).level r) rs h.2, h.1)

-- so there is room for it
pub arrival_room : (k : Kept) (r : ℕ) → IsKept k → IsArrival k r → length k.active < 81
arrival_room k r inv a =
    omega (arith, descending_length k.app ((setting_of k.app).level r) k.active (descending_below k r inv a), levels_low k inv r)

-- and it has a point
pub arrival_within : (k : Kept) (r : ℕ) → IsKept k → IsArrival k r → r < length k.points
arrival_within k r inv a =
    let known = inv.fixed.sound.counted_routines r a.routine in
    omega (arith, inv.points)

-- what holds of a machine holds after an arrival
pub begun_kept : (k : Kept) (r : ℕ) (points : List ℕ) (held : List Holding) (active : List ℕ) → IsArrival k r → points ≡ slice_set k.points r 0 → IsFreed k.held r held → active ≡ r ∷ k.active → IsKept k → IsKept (record k { points = points; held = held; active = active; arrivals = k.arrivals + 1 })
begun_kept k r points held active a is free more inv =
    subst (λ rs. IsKept (record k { points = points; held = held; active = rs; arrivals = k.arrivals + 1 })) (sym more)
    (record {
      fixed = inv.fixed;
      over = inv.over;
      points = ap length is ∙ length-set k.points r 0 ∙ inv.points;
      queued = inv.queued;
      held = freed_held (entities_of k.app) k.held r held free inv.held;
      active = (a.routine, omega (arith, levels_low k inv r), descending_below k r inv a);
      sections = inv.sections;
    })

-- an arrival changes the state as the scheduler's does
pub begun_changes : (k old : Kept) (r : ℕ) (points : List ℕ) (held : List Holding) (active : List ℕ) → IsKept k → k ≡ old → IsArrival k r → points ≡ slice_set k.points r 0 → IsFreed k.held r held → active ≡ r ∷ k.active → Changes (λ app beh. arrive beh r) old (record k { points = points; held = held; active = active; arrivals = k.arrivals + 1 })
begun_changes k old r points held active inv same a is free more =
    subst (λ o. Changes (λ app beh. arrive beh r) o (record k { points = points; held = held; active = active; arrivals = k.arrivals + 1 })) same
    (record {
      state =
          ap (λ rs. record (state_of k) { state = slice_index points; held = held_by held; active = rs; arrivals = k.arrivals + 1 }) more
          ∙ ap₂ (λ s h. record (state_of k) { state = s; held = h; active = r ∷ k.active; arrivals = k.arrivals + 1 }) (ap slice_index is ∙ index_set k.points r 0 (arrival_within k r inv a)) (held_freed k.held r held free);
      app = refl;
      code = refl;
    })

-- the scheduler's step for an arrival
step_arrive : (k : Kept) (r : ℕ) (b : Bool) → k.stopped ≡ false → may_arrive (setting_of k.app) (state_of k) r ≡ b → step (setting_of k.app) (behaviour_of k.code) (state_of k) (Arrive (record { 0 = r })) ≡ (if b then Some (tell (setting_of k.app) r Told.Arrive ((behaviour_of k.code).place r 0) (arrive (behaviour_of k.code) r (state_of k))) else None)
step_arrive k r b up may =
    ap (λ x. if x then None else step_on (setting_of k.app) (behaviour_of k.code) (state_of k) (Arrive (record { 0 = r }))) up
    ∙ ap (λ x. if x then Some (tell (setting_of k.app) r Told.Arrive ((behaviour_of k.code).place r 0) (arrive (behaviour_of k.code) r (state_of k))) else None) may

-- an arrival that is refused
pub not_arrived : (k new : Kept) (r : ℕ) → k.stopped ≡ false → may_arrive (setting_of k.app) (state_of k) r ≡ false → new ≡ k → IsStep (Arrive (record { 0 = r })) k answer.Refused new
not_arrived k new r up may same =
    record {
      unchanged = same;
      outcome = subst (λ o. IsOutcome o (state_of k) answer.Refused (state_of new)) (sym (step_arrive k r false up may)) (ap state_of same);
      app = ap (λ (n : Kept). n.app) same;
      code = ap (λ (n : Kept). n.code) same;
    }

-- an arrival that is made
pub arrived : (k new : Kept) (r : ℕ) (place : Place) (event : Event) → k.stopped ≡ false → may_arrive (setting_of k.app) (state_of k) r ≡ true → place ≡ (behaviour_of k.code).place r 0 → Changes (λ app beh. arrive beh r) k new → event ≡ happened r Told.Arrive place (next_of new.stopped (actor (setting_of new.app) (state_of new))) → IsStep (Arrive (record { 0 = r })) k (answer.Event event) new
arrived k new r place event up may there change same =
    record {
      unchanged = tt;
      outcome = subst (λ o. IsOutcome o (state_of k) (answer.Event event) (state_of new)) (sym (step_arrive k r true up may))
          (record {
            told =
                told_over k.app new.app r Told.Arrive place event new change.app same
                ∙ ap (λ p. happened r Told.Arrive p (next_of new.stopped (actor (setting_of k.app) (state_of new)))) there
                ∙ ap (λ (s : State ℕ Bits). happened r Told.Arrive ((behaviour_of k.code).place r 0) (next_of s.is_stopped (actor (setting_of k.app) s))) change.state;
            state = change.state;
            failure = ap (λ (e : Event). is_failure e.action) same;
            stopped = ap (λ (s : State ℕ Bits). s.is_stopped) change.state ∙ up;
          });
      app = change.app;
      code = change.code;
    }
