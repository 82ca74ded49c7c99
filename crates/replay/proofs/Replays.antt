-- Replays: where a machine stands after the choices so far.
use Rattle.std.proofs.Common.{◌≡◌, ℕ, suc, ◌+◌, ◌<◌, ◌≤◌, List, [], ◌∷◌, ◌++◌, length, take, drop, Some, None, get_or, refl, sym, ap, ◌∙◌, add-one, subst, arith}
use Rattle.std.proofs.lemmas.List.{length-take-le}
use Rattle.std.proofs.Math.Seq.{split_at, take-suc}
use Rattle.application.specs.declared.app.App.{App}
use Rattle.osek_machine.specs.declared.machine.Outcome.{Outcome}
use Rattle.osek_machine.specs.declared.machine.Outcome.TheVariants as answer
use Rattle.osek_machine.specs.Kept.{Kept, state_of}
use Rattle.osek_machine.specs.Steps.{HasAnswered, HasRun, IsStep, step_of, view_of}
use Rattle.replay.specs.Replaying.{IsRefused, failure_of, last_failure, shown, told}
use Rattle.step_ir.specs.declared.code.Code.{Code}
use Rattle.step_ir.specs.declared.event.Choice.{Choice}
use Rattle.step_ir.specs.declared.event.Event.{Event}

-- the choices so far, and the next one
pub taken : (cs : List Choice) (i : ℕ) (c : Choice) → i < length cs → c ≡ get_or cs i c → take (i + 1) cs ≡ take i cs ++ c ∷ []
taken cs i c within is = rw (add-one, take-suc cs i c, ← is) refl

-- the last of events is the one that was put at their end
pub last_failure-append : (es : List Event) (e : Event) → last_failure (es ++ e ∷ []) ≡ failure_of e.action
last_failure-append [] e = refl
last_failure-append (f ∷ []) e = refl
last_failure-append (f ∷ g ∷ es) e = last_failure-append (g ∷ es) e

-- a step that was made is one event more
pub made : (app : App) (code : Code) (cs : List Choice) (es : List Event) (c : Choice) (e : Event) (old new : Kept) (outcome : Outcome) → told outcome ≡ Some e → HasAnswered app code cs es c old outcome new → HasRun app code (cs ++ c ∷ []) (es ++ e ∷ []) new
made app code cs es c e old new (answer.Event event) is answered =
    let same : event ≡ e = cc in subst (λ (x : Event). HasRun app code (cs ++ c ∷ []) (es ++ x ∷ []) new) same answered.0
made app code cs es c e old new (answer.Failed event) is answered =
    let same : event ≡ e = cc in subst (λ (x : Event). HasRun app code (cs ++ c ∷ []) (es ++ x ∷ []) new) same answered.0
made app code cs es c e old new answer.Refused is answered = absurd cc

-- the same over a list of choices
pub goes_on : (app : App) (code : Code) (cs : List Choice) (i : ℕ) (es next : List Event) (c : Choice) (e : Event) (old new : Kept) (outcome : Outcome) → i < length cs → c ≡ get_or cs i c → told outcome ≡ Some e → HasAnswered app code (take i cs) es c old outcome new → next ≡ es ++ e ∷ [] → HasRun app code (take (i + 1) cs) next new
goes_on app code cs i es next c e old new outcome within is some answered more =
    rw (taken cs i c within is, more) (made app code (take i cs) es c e old new outcome some answered)

-- the choices are those so far, this one and the others
parted : (cs : List Choice) (i : ℕ) (c : Choice) → i < length cs → c ≡ get_or cs i c → cs ≡ take i cs ++ c ∷ drop (suc i) cs
parted cs i c within is = split_at cs i c within ∙ ap (λ (x : Choice). take i cs ++ x ∷ drop (suc i) cs) (sym is)

-- a step that was refused is the first choice that isn't permitted
pub refused : (app : App) (code : Code) (cs : List Choice) (i : ℕ) (es : List Event) (c : Choice) (old new : Kept) (outcome : Outcome) → i < length cs → c ≡ get_or cs i c → told outcome ≡ None → IsStep c old outcome new → HasAnswered app code (take i cs) es c old outcome new → IsRefused app code cs (i + 1) (view_of new) es
refused app code cs i es c old new (answer.Event event) within is none step answered = absurd cc
refused app code cs i es c old new (answer.Failed event) within is none step answered = absurd cc
refused app code cs i es c old new answer.Refused within is none step answered =
    let stays : new ≡ old = step.unchanged in
    let some : i ≤ length cs = omega (arith, within) in
    record {
      before = take i cs;
      choice = c;
      after = drop (suc i) cs;
      parts = parted cs i c within is;
      counted = ap (λ (n : ℕ). n + 1) (sym (length-take-le i cs some));
      reached = state_of new;
      run = answered.0.run;
      refused = subst (λ (m : Kept). step_of app code (state_of m) c ≡ None) (sym stays) answered.1;
      kept = ap (λ (a : App). shown a (state_of new)) answered.0.same_app;
    }
