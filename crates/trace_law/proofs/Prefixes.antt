-- Prefixes of permitted schedules, and how many events there are.
use Rattle.std.proofs.Common.{◌≡◌, ℕ, zero, suc, ◌≤◌, List, [], ◌∷◌, length, take, Option, Some, None, refl, sym, ap, subst, ◌∙◌, arith}
use Rattle.step_ir.specs.declared.event.Choice.{Choice}
use Rattle.step_ir.specs.declared.event.Choice.TheVariants.{Go, GoWith, Arrive}
use Rattle.step_ir.specs.declared.event.Event.{Event}
use Rattle.step_ir.specs.EntityStep.{Behaviour}
use Rattle.step_ir.specs.PermittedSchedule.{IsSchedule, arrivals_in, events_from, events_of, follow, prepend, run}
use Rattle.step_ir.specs.SchedulerState.{State}
use Rattle.step_ir.specs.SchedulerStep.{start, step}
use Rattle.step_ir.specs.Setting.{Setting}

-- the events of a step and of a rest, where there are some: the first, those of the rest from the state after it, and how they are joined
pub record IsJoined {A : Type 0} (o : Option (Event × A)) (rest : A → Option (List Event × A)) (events : List Event) : Type 0 where
  pub next : Event × A
  pub later : List Event
  pub first : o ≡ Some next
  pub others : events_of (rest next.1) ≡ Some later
  pub is : events ≡ next.0 ∷ later

module _ {A : Type 0} (rest : A → Option (List Event × A)) where
  -- what is known of the events of a step and a rest
  joined : (o : Option (Event × A)) (events : List Event) → events_of (follow o rest) ≡ Some events → IsJoined o rest events
  joined None events h = absurd (let e : ◌≡◌ {A = Option (List Event)} None (Some events) = h in cc)
  joined (Some next) events h = go (rest next.1) refl h
    where
      go : (o : Option (List Event × A)) → rest next.1 ≡ o → events_of (prepend next.0 o) ≡ Some events → IsJoined (Some next) rest events
      go None is h = absurd (let e : ◌≡◌ {A = Option (List Event)} None (Some events) = h in cc)
      go (Some run) is h =
          let same : next.0 ∷ run.0 ≡ events = (let e : ◌≡◌ {A = Option (List Event)} (Some (next.0 ∷ run.0)) (Some events) = h in cc) in
          record { next = next; later = run.0; first = refl; others = ap events_of is; is = sym same }

-- an event before the events of a rest
prepended : {A : Type 0} (e : Event) (o : Option (List Event × A)) (later : List Event) → events_of o ≡ Some later → events_of (prepend e o) ≡ Some (e ∷ later)
prepended e None later h = absurd (let k : ◌≡◌ {A = Option (List Event)} None (Some later) = h in cc)
prepended e (Some run) later h =
    let same : run.0 ≡ later = (let k : ◌≡◌ {A = Option (List Event)} (Some run.0) (Some later) = h in cc) in
    ap (λ es. Some (e ∷ es)) same

-- a prefix has no more arrivals
arrivals-take : (n : ℕ) (choices : List Choice) → arrivals_in (take n choices) ≤ arrivals_in choices
arrivals-take zero choices = omega arith
arrivals-take (suc n) [] = omega arith
arrivals-take (suc n) (Arrive r ∷ cs) = let rest = arrivals-take n cs in omega arith
arrivals-take (suc n) (Go ∷ cs) = arrivals-take n cs
arrivals-take (suc n) (GoWith w ∷ cs) = arrivals-take n cs

-- a prefix is no longer
length-take : (n : ℕ) (events : List Event) → length (take n events) ≤ length events
length-take zero events = omega arith
length-take (suc n) [] = omega arith
length-take (suc n) (e ∷ es) = let rest = length-take n es in omega arith

module _ {S G : Type 0} (app : Setting) (beh : Behaviour S G) where
  -- a prefix of the choices has that prefix of the events
  events-take : (n : ℕ) (choices : List Choice) (st : State S G) (events : List Event) → events_from app beh choices st ≡ Some events → events_from app beh (take n choices) st ≡ Some (take n events)
  events-take zero choices st events h = refl
  events-take (suc n) [] st events h =
      let none : [] ≡ events = (let e : ◌≡◌ {A = Option (List Event)} (Some []) (Some events) = h in cc) in
      subst (λ es. ◌≡◌ {A = Option (List Event)} (Some []) (Some (take (suc n) es))) none refl
  events-take (suc n) (c ∷ cs) st events h =
      let j = joined (run app beh cs) (step app beh st c) events h in
      ap (λ o. events_of (follow o (run app beh (take n cs)))) j.first
      ∙ prepended j.next.0 (run app beh (take n cs) j.next.1) (take n j.later) (events-take n cs j.next.1 j.later j.others)
      ∙ ap (λ es. Some (take (suc n) es)) (sym j.is)

  -- each choice has one event
  as_many_from : (choices : List Choice) (st : State S G) (events : List Event) → events_from app beh choices st ≡ Some events → length events ≡ length choices
  as_many_from [] st events h =
      let none : [] ≡ events = (let e : ◌≡◌ {A = Option (List Event)} (Some []) (Some events) = h in cc) in
      sym (ap length none)
  as_many_from (c ∷ cs) st events h =
      let j = joined (run app beh cs) (step app beh st c) events h in
      ap length j.is ∙ ap suc (as_many_from cs j.next.1 j.later j.others)

  -- so it is from the start
  pub as_many_lem : (globals : G) (choices : List Choice) (events : List Event) → events_from app beh choices (start app beh globals) ≡ Some events → length events ≡ length choices
  as_many_lem globals choices events h = as_many_from choices (start app beh globals) events h

  -- every prefix of a permitted schedule is one
  pub prefixes_lem : (globals : G) (k m n : ℕ) (events : List Event) → IsSchedule app beh globals k m events → IsSchedule app beh globals k m (take n events)
  prefixes_lem globals k m n events s =
      record {
        choices = take n s.choices;
        permitted = events-take n s.choices (start app beh globals) events s.permitted;
        short = let few = length-take n events in let bound = s.short in omega arith;
        few = let few = arrivals-take n s.choices in let bound = s.few in omega arith;
      }
