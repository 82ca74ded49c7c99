-- Where no input is taken and no routine arrives there is only one run: every permitted schedule is a prefix of it.
use Rattle.std.proofs.Common.{◌≡◌, ◌≢◌, ℕ, zero, suc, ◌≤◌, ◌<◌, Bool, true, false, if◌then◌else◌, List, [], ◌∷◌, ◌++◌, length, Option, Some, None, refl, sym, ap, subst, ◌∙◌, slice_get, arith}
use Rattle.std.specs.Prelude.{option_map}
use Rattle.application.specs.declared.app.App.{App}
use Rattle.chk_base.specs.declared.word.Width.{Width}
use Rattle.chk_base.specs.Operators.{truth}
use Rattle.chk_base.specs.Term.{Term}
use Rattle.chk_base.specs.Widths.{PlainWord}
use Rattle.osek_machine.specs.Kept.{Kept, state_of}
use Rattle.osek_machine.specs.Steps.{HasRun, step_of}
use Rattle.step_ir.specs.declared.code.Code.{Code}
use Rattle.step_ir.specs.declared.event.Choice.{Choice}
use Rattle.step_ir.specs.declared.event.Choice.TheVariants.{Go, GoWith, Arrive}
use Rattle.step_ir.specs.declared.event.Event.{Event}
use Rattle.step_ir.specs.declared.event.Failure.{Failure}
use Rattle.step_ir.specs.Deeds.{action_of, deed_of}
use Rattle.step_ir.specs.EntityStep.{Behaviour, Want, Does, Inputs, Calls, Ends, Fails, InputFails, is_failure}
use Rattle.step_ir.specs.PermittedSchedule.{arrivals_in, events_from, events_of, fails, follow, prepend, run}
use Rattle.step_ir.specs.Points.{PlainAction, PlainPoint, Read, Write, Local, Branch, Input, Call, Return, Invoke, Assert, End, points_in, width_in}
use Rattle.step_ir.specs.PointStep
use Rattle.step_ir.specs.PointStep.{Bits, behaviour_of, first, val}
use Rattle.step_ir.specs.SchedulerState.{State, actor, scene}
use Rattle.step_ir.specs.SchedulerStep.{act, go, step, tell}
use Rattle.step_ir.specs.Services.{Scene}
use Rattle.step_ir.specs.Setting.{Setting, setting_of}
use Rattle.one_run.specs.OneRun.{NoneFails, TakesNoInput, steps}

-- ---- who takes no input takes no word

-- what an entity wants takes no word
abbrev WantsNoWord : {S G : Type 0} → Want S G → Type 0
WantsNoWord (Inputs width action after) = ⊥
WantsNoWord (InputFails width failure) = ⊥
WantsNoWord _ = Unit {0}

-- whatever the entities want takes no word
abbrev WantNoWords : {S G : Type 0} → Behaviour S G → Type 0
WantNoWords {S} {G} beh = (e : ℕ) (state : S) (globals : G) → WantsNoWord (beh.wants e state globals)

-- neither does one of two wants that take none
asserted : (b : Bool) (does fails : Want ℕ Bits) → WantsNoWord does → WantsNoWord fails → WantsNoWord (if b then does else fails)
asserted true does fails first second = first
asserted false does fails first second = second

-- nor does an action that is no input
act_no_word : (width : ℕ → Width) (action : PlainAction) (nexts : List (Term × ℕ)) (bits : Bits) → ((cell : ℕ) → action ≢ Input cell) → WantsNoWord (PointStep.act width action nexts bits)
act_no_word width (Read t into) nexts bits is = tt
act_no_word width (Write t term) nexts bits is = tt
act_no_word width (Local cell term) nexts bits is = tt
act_no_word width (Branch term) nexts bits is = tt
act_no_word width (Input cell) nexts bits is = absurd (is cell refl)
act_no_word width (Call f sets) nexts bits is = tt
act_no_word width (Return None) nexts bits is = tt
act_no_word width (Return (Some s)) nexts bits is = tt
act_no_word width (Invoke service) nexts bits is = tt
act_no_word width (Assert term) nexts bits is = asserted (truth (val width bits term)) _ _ tt tt
act_no_word width End nexts bits is = tt

-- nor does its failure
fails_no_word : (width : ℕ → Width) (action : PlainAction) (failure : Failure) → ((cell : ℕ) → action ≢ Input cell) → WantsNoWord (PointStep.fails width action failure)
fails_no_word width (Read t into) failure is = tt
fails_no_word width (Write t term) failure is = tt
fails_no_word width (Local cell term) failure is = tt
fails_no_word width (Branch term) failure is = tt
fails_no_word width (Input cell) failure is = absurd (is cell refl)
fails_no_word width (Call f sets) failure is = tt
fails_no_word width (Return set) failure is = tt
fails_no_word width (Invoke service) failure is = tt
fails_no_word width (Assert term) failure is = tt
fails_no_word width End failure is = tt

-- nor does a point, whether or not a trap catches
unless_no_word : (width : ℕ → Width) (trap : Option ℕ) (p : PlainPoint) (bits : Bits) → ((cell : ℕ) → p.action ≢ Input cell) → WantsNoWord (PointStep.unless width trap p bits)
unless_no_word width None p bits is = act_no_word width p.action p.nexts bits is
unless_no_word width (Some n) p bits is = fails_no_word width p.action _ is

-- nor does a point that may not be there
point_no_word : (width : ℕ → Width) (o : Option PlainPoint) (bits : Bits) → ((p : PlainPoint) → o ≡ Some p → (cell : ℕ) → p.action ≢ Input cell) → WantsNoWord (PointStep.step width o bits)
point_no_word width None bits is = tt
point_no_word width (Some p) bits is = unless_no_word width (first (val width bits) p.traps) p bits (is p refl)

-- the entities of a code without inputs take no word
no_words : (code : Code) → TakesNoInput code → WantNoWords (behaviour_of code)
no_words code none e at bits = point_no_word (width_in code) (slice_get (points_in code e) at) bits (λ p is cell. none e at cell p is)

-- what takes no word does nothing with one
deed_no_word : {S G : Type 0} (app : Setting) (c : Scene) (want : Want S G) (w : PlainWord) → WantsNoWord want → deed_of app c want (GoWith w) ≡ None
deed_no_word app c (Does action after) w none = refl
deed_no_word app c (Inputs width action after) w none = absurd none
deed_no_word app c (Calls service after) w none = refl
deed_no_word app c Ends w none = refl
deed_no_word app c (Fails failure) w none = refl
deed_no_word app c (InputFails width failure) w none = absurd none

-- a choice between nothing and nothing is nothing
none_or_none : {A : Type 0} (b : Bool) (o : Option A) → o ≡ None → (if b then None else o) ≡ None
none_or_none true o is = refl
none_or_none false o is = is

-- ---- the events of a run from a state

-- none of these is a failure
abbrev pub AreHarmless : List Event → Type 0
AreHarmless [] = Unit {0}
AreHarmless (e ∷ es) = (is_failure e.action ≡ false) × AreHarmless es

-- one more event that ends no failing list is harmless
pub harmless-append : (es : List Event) (e : Event) → AreHarmless es → fails (es ++ e ∷ []) ≡ false → AreHarmless (es ++ e ∷ [])
harmless-append [] e harmless unfailed = (unfailed, tt)
harmless-append (f ∷ []) e harmless unfailed = (harmless.0, harmless-append [] e tt unfailed)
harmless-append (f ∷ g ∷ es) e harmless unfailed = (harmless.0, harmless-append (g ∷ es) e harmless.1 unfailed)

-- a harmless event before events that don't fail
unfailing : (e : Event) (es : List Event) → is_failure e.action ≡ false → fails es ≡ false → fails (e ∷ es) ≡ false
unfailing e [] first rest = first
unfailing e (f ∷ es) first rest = rest

-- the parts of two pairs that are the same are the same
both : {A B : Type 0} (a b : A) (x y : B) → ◌≡◌ {A = Option (A × B)} (Some (a, x)) (Some (b, y)) → (a ≡ b) × (x ≡ y)
both {A} {B} a b x y is =
    let pair : ◌≡◌ {A = A × B} (a, x) (b, y) = cc in
    (ap (λ (p : A × B). p.0) pair, ap (λ (p : A × B). p.1) pair)

-- events with a state that are an event before a rest
record IsPrepended {A : Type 0} (event : Event) (o : Option (List Event × A)) (events : List Event) (last : A) : Type 0 where
  later : List Event
  rest : o ≡ Some (later, last)
  is : events ≡ event ∷ later

-- events that are an event before a rest, with the state that they end in
prepended : {A : Type 0} (event : Event) (o : Option (List Event × A)) (events : List Event) (last : A) → prepend event o ≡ Some (events, last) → IsPrepended event o events last
prepended event None events last h = absurd cc
prepended event (Some rest) events last h =
    let same = both (event ∷ rest.0) events rest.1 last h in
    record { later = rest.0; rest = ap (λ a. Some (rest.0, a)) same.1; is = sym same.0 }

-- events that are an event before a rest, whatever they end in
record IsEventBefore {A : Type 0} (event : Event) (o : Option (List Event × A)) (events : List Event) : Type 0 where
  later : List Event
  rest : events_of o ≡ Some later
  is : events ≡ event ∷ later

-- events that begin with an event are that event before a rest
event_before : {A : Type 0} (event : Event) (o : Option (List Event × A)) (events : List Event) → events_of (prepend event o) ≡ Some events → IsEventBefore event o events
event_before event None events h = absurd cc
event_before event (Some rest) events h = record { later = rest.0; rest = refl; is = cc }

module _ {S G : Type 0} (app : Setting) (beh : Behaviour S G) (none : WantNoWords beh) where
  -- who runs makes no step with a word
  go_no_word : (st : State S G) (w : PlainWord) (o : Option ℕ) → go app beh st (GoWith w) o ≡ None
  go_no_word st w None = refl
  go_no_word st w (Some e) =
      ap
      (option_map (λ d. tell app e (action_of d) (beh.place e (st.state e)) (act app beh e d st)))
      (deed_no_word app (scene app st e) (beh.wants e (st.state e) st.globals) w (none e (st.state e) st.globals))

  -- there is no step with a word
  step_no_word : (st : State S G) (w : PlainWord) → step app beh st (GoWith w) ≡ None
  step_no_word st w = none_or_none st.is_stopped _ (go_no_word st w (actor app st))

  -- a permitted list of choices without arrivals has no failure, where so many steps of who runs have none, and it has no more events or there is no further step
  abbrev Only : List Choice → ℕ → Type 0
  Only choices n = (st last : State S G) (chosen events : List Event) → arrivals_in choices ≤ 0 → events_from app beh choices st ≡ Some chosen → run app beh (steps n) st ≡ Some (events, last) → AreHarmless events → (n < length chosen → step app beh last Go ≡ None) → fails chosen ≡ false

  -- it holds of every list of choices
  only : (choices : List Choice) (n : ℕ) → Only choices n
  only [] n st last chosen events few permitted ran harmless ends =
      let same : [] ≡ chosen = cc in
      subst (λ (es : List Event). fails es ≡ false) same refl
  only (Arrive r ∷ cs) n st last chosen events few permitted ran harmless ends = absurd (omega (arith, few))
  only (GoWith w ∷ cs) n st last chosen events few permitted ran harmless ends =
      absurd
      (let e : events_of (follow (step app beh st (GoWith w)) (run app beh cs)) ≡ None = ap (λ (o : Option (Event × State S G)). events_of (follow o (run app beh cs))) (step_no_word st w) in
      let h : ◌≡◌ {A = Option (List Event)} None (Some chosen) = sym e ∙ permitted in cc)
  only (Go ∷ cs) zero st last chosen events few permitted ran harmless ends = absurd (over (step app beh st Go) refl permitted)
    where
      same : st ≡ last
      same = (both [] events st last ran).1

      over : (o : Option (Event × State S G)) → step app beh st Go ≡ o → events_of (follow o (run app beh cs)) ≡ Some chosen → ⊥
      over None is h = let k : ◌≡◌ {A = Option (List Event)} None (Some chosen) = h in cc
      over (Some next) is h =
          let before = event_before next.0 (run app beh cs next.1) chosen h in
          let count : length chosen ≡ suc (length before.later) = ap length before.is in
          let stuck = ends (omega (arith, count)) in
          let k : ◌≡◌ {A = Option (Event × State S G)} (Some next) None = sym is ∙ ap (λ (s : State S G). step app beh s Go) same ∙ stuck in cc
  only (Go ∷ cs) (suc n) st last chosen events few permitted ran harmless ends = on (only cs n) (step app beh st Go) permitted ran
    where
      on : Only cs n → (o : Option (Event × State S G)) → events_of (follow o (run app beh cs)) ≡ Some chosen → follow o (run app beh (steps n)) ≡ Some (events, last) → fails chosen ≡ false
      on later None h k = absurd (let l : ◌≡◌ {A = Option (List Event)} None (Some chosen) = h in cc)
      on later (Some next) h k =
          let before = event_before next.0 (run app beh cs next.1) chosen h in
          let so_far = prepended next.0 (run app beh (steps n) next.1) events last k in
          let safe : AreHarmless (next.0 ∷ so_far.later) = subst AreHarmless so_far.is harmless in
          let count : length chosen ≡ suc (length before.later) = ap length before.is in
          let rest = later next.1 last before.later so_far.later few before.rest so_far.rest safe.1 (λ more. ends (omega (arith, count, more))) in
          subst (λ (es : List Event). fails es ≡ false) (sym before.is) (unfailing next.0 before.later safe.0 rest)

-- no permitted schedule of at most k events fails, where the one run has no failure and k events or no further step
pub none_fails : (app : App) (code : Code) → TakesNoInput code → (k : ℕ) (events : List Event) (m : Kept) → HasRun app code (steps (length events)) events m → AreHarmless events → (length events < k → step_of app code (state_of m) Go ≡ None) → NoneFails app code k
none_fails app code none k events m ran harmless ends es schedule =
    only
    (setting_of app)
    (behaviour_of code)
    (no_words code none)
    schedule.choices
    (length events)
    _
    (state_of m)
    es
    events
    schedule.few
    schedule.permitted
    ran.run
    harmless
    (λ more. ends (let short = schedule.short in omega (arith, more, short)))
