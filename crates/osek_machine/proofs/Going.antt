-- A step of the actor.
use Rattle.std.proofs.Common.{◌≡◌, ℕ, Bool, true, false, List, Option, Some, None, option_map, slice_index, sym, ap, subst, ◌∙◌, if◌then◌else◌}
use Rattle.chk_base.specs.Widths.{PlainWord}
use Rattle.chk_base.specs.declared.place.Place.{Place}
use Rattle.osek_machine.proofs.Passing.{told_failure}
use Rattle.osek_machine.specs.CellWords.{bits}
use Rattle.osek_machine.specs.Kept.{Kept, state_of}
use Rattle.osek_machine.specs.Performing.{IsPerformed, choice_of}
use Rattle.osek_machine.specs.Changing.{IsToldAs, IsFinished}
use Rattle.osek_machine.specs.Steps.{IsStep, IsAnswered, IsOutcome, Stays}
use Rattle.osek_machine.specs.declared.machine.Outcome.TheVariants as answer
use Rattle.osek_machine.specs.declared.machine.Outcome.{Outcome}
use Rattle.osek_machine.specs.declared.perform.Performed.TheVariants as of
use Rattle.osek_machine.specs.declared.perform.Performed.{Performed}
use Rattle.step_ir.specs.Deeds.{Deed, Moves, Stops, action_of, happened, next_of, deed_of, serve, end_of}
use Rattle.step_ir.specs.EntityStep.{TellsNoFailures, Want, is_failure}
use Rattle.step_ir.specs.PointStep.{Bits, behaviour_of}
use Rattle.step_ir.specs.SchedulerState.{State, actor, scene}
use Rattle.step_ir.specs.SchedulerStep.{act, step, step_on, go, tell}
use Rattle.step_ir.specs.Services.{fault_of}
use Rattle.step_ir.specs.Setting.{setting_of}
use Rattle.step_ir.specs.declared.event.Choice.{Choice}
use Rattle.step_ir.specs.declared.event.Event.{Event}

-- where nothing has stopped, a step is that of the actor
on_actor : (k : Kept) (word : Option PlainWord) → k.stopped ≡ false → step (setting_of k.app) (behaviour_of k.code) (state_of k) (choice_of word) ≡ go (setting_of k.app) (behaviour_of k.code) (state_of k) (choice_of word) (actor (setting_of k.app) (state_of k))
on_actor k None up = ap (λ b. if b then None else step_on (setting_of k.app) (behaviour_of k.code) (state_of k) (choice_of None)) up
on_actor k (Some w) up = ap (λ b. if b then None else step_on (setting_of k.app) (behaviour_of k.code) (state_of k) (choice_of (Some w))) up

-- the scheduler's step, by what the actor has to do
wanted : (k : Kept) (word : Option PlainWord) (e : ℕ) (o : Option (Deed ℕ Bits)) → k.stopped ≡ false → actor (setting_of k.app) (state_of k) ≡ Some e → deed_of (setting_of k.app) (scene (setting_of k.app) (state_of k) e) ((behaviour_of k.code).wants e (slice_index k.points e) (bits k.cells)) (choice_of word) ≡ o → step (setting_of k.app) (behaviour_of k.code) (state_of k) (choice_of word) ≡ option_map (λ d. tell (setting_of k.app) e (action_of d) ((behaviour_of k.code).place e (slice_index k.points e)) (act (setting_of k.app) (behaviour_of k.code) e d (state_of k))) o
wanted k word e o up acts is =
    on_actor k word up
    ∙ ap (go (setting_of k.app) (behaviour_of k.code) (state_of k) (choice_of word)) acts
    ∙ ap (option_map (λ d. tell (setting_of k.app) e (action_of d) ((behaviour_of k.code).place e (slice_index k.points e)) (act (setting_of k.app) (behaviour_of k.code) e d (state_of k)))) is

-- an event that was told is an outcome
told_out : (old new st : State ℕ Bits) (result : Outcome) (event event' : Event) → is_failure event.action ≡ new.is_stopped → IsToldAs result event new.is_stopped → event ≡ event' → new ≡ st → IsOutcome (Some (event', st)) old result new
told_out old new st (answer.Event x) event event' fails told same is =
    record { told = told.0 ∙ same; state = is; failure = ap (λ (e : Event). is_failure e.action) told.0 ∙ fails ∙ told.1; stopped = told.1 }
told_out old new st (answer.Failed x) event event' fails told same is =
    record { told = told.0 ∙ same; state = is; failure = ap (λ (e : Event). is_failure e.action) told.0 ∙ fails ∙ told.1; stopped = told.1 }
told_out old new st answer.Refused event event' fails told same is = told

-- a deed that was done and told answers the choice
decided : (k new : Kept) → TellsNoFailures (behaviour_of k.code) → (word : Option PlainWord) (e : ℕ) (d : Deed ℕ Bits) (place : Place) (result : Outcome) → k.stopped ≡ false → actor (setting_of k.app) (state_of k) ≡ Some e → place ≡ (behaviour_of k.code).place e (slice_index k.points e) → deed_of (setting_of k.app) (scene (setting_of k.app) (state_of k) e) ((behaviour_of k.code).wants e (slice_index k.points e) (bits k.cells)) (choice_of word) ≡ Some d → state_of new ≡ act (setting_of k.app) (behaviour_of k.code) e d (state_of k) → IsToldAs result (happened e (action_of d) place (next_of new.stopped (actor (setting_of k.app) (state_of new)))) new.stopped → IsAnswered (choice_of word) k result new
decided k new law word e d place result up acts there is state told =
    subst (λ o. IsOutcome o (state_of k) result (state_of new)) (sym (wanted k word e (Some d) up acts is))
    (told_out (state_of k) (state_of new) (act (setting_of k.app) (behaviour_of k.code) e d (state_of k)) result _ _
    (told_failure (setting_of k.app) k.code law e (slice_index k.points e) (state_of k) (scene (setting_of k.app) (state_of k) e) (choice_of word) d up is ∙ ap (λ (s : State ℕ Bits). s.is_stopped) (sym state))
    told
    (ap (λ p. happened e (action_of d) p (next_of new.stopped (actor (setting_of k.app) (state_of new)))) there ∙ ap (λ (s : State ℕ Bits). happened e (action_of d) ((behaviour_of k.code).place e (slice_index k.points e)) (next_of s.is_stopped (actor (setting_of k.app) s))) state)
    state)

-- without a deed the choice is refused
refused : (k new : Kept) (word : Option PlainWord) (e : ℕ) (result : Outcome) → k.stopped ≡ false → actor (setting_of k.app) (state_of k) ≡ Some e → deed_of (setting_of k.app) (scene (setting_of k.app) (state_of k) e) ((behaviour_of k.code).wants e (slice_index k.points e) (bits k.cells)) (choice_of word) ≡ None → result ≡ answer.Refused → state_of new ≡ state_of k → IsAnswered (choice_of word) k result new
refused k new word e result up acts is out same =
    subst (λ o. IsOutcome o (state_of k) result (state_of new)) (sym (wanted k word e None up acts is))
    (subst (λ r. IsOutcome None (state_of k) r (state_of new)) (sym out) same)

-- over cells that the point left
over : Kept → Bits → State ℕ Bits
over k g = record (state_of k) { globals = g }

-- a deed was done over these cells, and told
record IsLeft (k : Kept) (new : Kept) (e : ℕ) (d : Deed ℕ Bits) (place : Place) (result : Outcome) (g : Bits) : Type 0 where
  pub state : state_of new ≡ act (setting_of k.app) (behaviour_of k.code) e d (record (state_of k) { globals = g })
  pub told : IsToldAs result (happened e (action_of d) place (next_of new.stopped (actor (setting_of k.app) (state_of new)))) new.stopped

-- what was done after the point's own part answers the choice
finish_at : (k new : Kept) → TellsNoFailures (behaviour_of k.code) → (word : Option PlainWord) (e : ℕ) (r : Performed) (place : Place) (result : Outcome) (cells : List PlainWord) → k.stopped ≡ false → actor (setting_of k.app) (state_of k) ≡ Some e → place ≡ (behaviour_of k.code).place e (slice_index k.points e) → IsPerformed ((behaviour_of k.code).wants e (slice_index k.points e) (bits k.cells)) (choice_of word) k.cells r cells → IsFinished r e place (record k { cells = cells }) result new → IsAnswered (choice_of word) k result new
finish_at k new law word e (of.Did action next) place result cells up acts there is fin =
    decided k new law word e (Moves action (record { state = next; globals = bits cells })) place result up acts there (is (setting_of k.app) (scene (setting_of k.app) (state_of k) e)) fin.state fin.told
finish_at k new law word e (of.Calls service next) place result cells up acts there is fin =
    let at : IsLeft k new e (serve service (record { state = next; globals = bits cells }) (fault_of (setting_of k.app) (scene (setting_of k.app) (state_of k) e) service)) place result (bits cells) = record { state = fin.state; told = fin.told } in
    let all = subst (λ g. IsLeft k new e (serve service (record { state = next; globals = g }) (fault_of (setting_of k.app) (scene (setting_of k.app) (state_of k) e) service)) place result g) (ap bits is.0) at in
    decided k new law word e (serve service (record { state = next; globals = bits k.cells }) (fault_of (setting_of k.app) (scene (setting_of k.app) (state_of k) e) service)) place result up acts there (is.1 (setting_of k.app) (scene (setting_of k.app) (state_of k) e)) all.state all.told
finish_at k new law word e of.Ends place result cells up acts there is fin =
    let at : IsLeft k new e (end_of (setting_of k.app) (scene (setting_of k.app) (state_of k) e)) place result (bits cells) = record { state = fin.state; told = fin.told } in
    let all = subst (λ g. IsLeft k new e (end_of (setting_of k.app) (scene (setting_of k.app) (state_of k) e)) place result g) (ap bits is.0) at in
    decided k new law word e (end_of (setting_of k.app) (scene (setting_of k.app) (state_of k) e)) place result up acts there (is.1 (setting_of k.app) (scene (setting_of k.app) (state_of k) e)) all.state all.told
finish_at k new law word e (of.Fails failure) place result cells up acts there is fin =
    let at : IsLeft k new e (Stops failure None) place result (bits cells) = record { state = fin.state; told = fin.told } in
    let all = subst (λ g. IsLeft k new e (Stops failure None) place result g) (ap bits is.0) at in
    decided k new law word e (Stops failure None) place result up acts there (is.1 (setting_of k.app) (scene (setting_of k.app) (state_of k) e)) all.state all.told
finish_at k new law word e of.Refused place result cells up acts there is fin =
    refused k new word e result up acts (is.1 (setting_of k.app) (scene (setting_of k.app) (state_of k) e)) fin.0 (ap state_of fin.1 ∙ ap (λ g. record (state_of k) { globals = g }) (ap bits is.0))

-- it keeps application and code
finished_over : (mid new : Kept) (e : ℕ) (r : Performed) (place : Place) (result : Outcome) → IsFinished r e place mid result new → (new.app ≡ mid.app) × (new.code ≡ mid.code)
finished_over mid new e (of.Did action next) place result fin = (fin.app, fin.code)
finished_over mid new e (of.Calls service next) place result fin = (fin.app, fin.code)
finished_over mid new e of.Ends place result fin = (fin.app, fin.code)
finished_over mid new e (of.Fails failure) place result fin = (fin.app, fin.code)
finished_over mid new e of.Refused place result fin = (ap (λ (n : Kept). n.app) fin.1, ap (λ (n : Kept). n.code) fin.1)

-- what was told is no refusal
told_stays : (k new : Kept) (result : Outcome) (event : Event) (stopped : Bool) → IsToldAs result event stopped → Stays result k new
told_stays k new (answer.Event x) event stopped told = tt
told_stays k new (answer.Failed x) event stopped told = tt
told_stays k new answer.Refused event stopped told = absurd told

-- and a refusal changes nothing
finished_stays : (k new : Kept) (want : Want ℕ Bits) (choice : Choice) (e : ℕ) (r : Performed) (place : Place) (result : Outcome) (cells : List PlainWord) → IsPerformed want choice k.cells r cells → IsFinished r e place (record k { cells = cells }) result new → Stays result k new
finished_stays k new want choice e (of.Did action next) place result cells is fin = told_stays k new result _ _ fin.told
finished_stays k new want choice e (of.Calls service next) place result cells is fin = told_stays k new result _ _ fin.told
finished_stays k new want choice e of.Ends place result cells is fin = told_stays k new result _ _ fin.told
finished_stays k new want choice e (of.Fails failure) place result cells is fin = told_stays k new result _ _ fin.told
finished_stays k new want choice e of.Refused place result cells is fin =
    subst (λ r. Stays r k new) (sym fin.0) (fin.1 ∙ ap (λ cs. record k { cells = cs }) is.0)

-- so the machine's step is the scheduler's
pub finished : (k mid new : Kept) → TellsNoFailures (behaviour_of k.code) → (word : Option PlainWord) (e : ℕ) (r : Performed) (place : Place) (result : Outcome) → k.stopped ≡ false → actor (setting_of k.app) (state_of k) ≡ Some e → place ≡ (behaviour_of k.code).place e (slice_index k.points e) → IsPerformed ((behaviour_of k.code).wants e (slice_index k.points e) (bits k.cells)) (choice_of word) k.cells r mid.cells → mid ≡ record k { cells = mid.cells } → IsFinished r e place mid result new → IsStep (choice_of word) k result new
finished k mid new law word e r place result up acts there is kept fin =
    let both = finished_over mid new e r place result fin in
    let there_after = subst (λ m. IsFinished r e place m result new) kept fin in
    record {
      unchanged = finished_stays k new ((behaviour_of k.code).wants e (slice_index k.points e) (bits k.cells)) (choice_of word) e r place result mid.cells is there_after;
      outcome = finish_at k new law word e r place result mid.cells up acts there is there_after;
      app = both.0 ∙ ap (λ (n : Kept). n.app) kept;
      code = both.1 ∙ ap (λ (n : Kept). n.code) kept;
    }

-- where nobody acts the choice is refused
pub nobody : (k new : Kept) (word : Option PlainWord) → k.stopped ≡ false → actor (setting_of k.app) (state_of k) ≡ None → new ≡ k → IsStep (choice_of word) k answer.Refused new
nobody k new word up none same =
    record {
      unchanged = same;
      outcome = subst (λ o. IsOutcome o (state_of k) answer.Refused (state_of new)) (sym (on_actor k word up ∙ ap (go (setting_of k.app) (behaviour_of k.code) (state_of k) (choice_of word)) none)) (ap state_of same);
      app = ap (λ (n : Kept). n.app) same;
      code = ap (λ (n : Kept). n.code) same;
    }

-- after a failure the choice is refused
pub stopped_step : (k new : Kept) (choice : Choice) → k.stopped ≡ true → new ≡ k → IsStep choice k answer.Refused new
stopped_step k new choice down same =
    record {
      unchanged = same;
      outcome = subst (λ o. IsOutcome o (state_of k) answer.Refused (state_of new)) (sym (ap (λ b. if b then None else step_on (setting_of k.app) (behaviour_of k.code) (state_of k) choice) down)) (ap state_of same);
      app = ap (λ (n : Kept). n.app) same;
      code = ap (λ (n : Kept). n.code) same;
    }

-- the place of the point at which the entity stands
pub place_there : (k old : Kept) (e n : ℕ) (points : List ℕ) (place : Place) → k ≡ old → points ≡ k.points → n ≡ slice_index points e → place ≡ (behaviour_of k.code).place e n → place ≡ (behaviour_of old.code).place e (slice_index old.points e)
place_there k old e n points place same list is there =
    let P : Kept → Type 0 = λ m. place ≡ (behaviour_of m.code).place e (slice_index m.points e) in
    subst P same (there ∙ ap ((behaviour_of k.code).place e) (is ∙ ap (λ xs. slice_index xs e) list))
