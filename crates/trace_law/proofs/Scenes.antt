-- In states that agree a service finds the same.
use Rattle.std.proofs.Common.{◌≡◌, ◌≢◌, ℕ, zero, suc, ◌+◌, ◌-◌, ◌<◌, Bool, true, false, not, ◌&&◌, List, [], ◌∷◌, ◌++◌, Option, Some, None, refl, sym, ap, ap₂, subst, ◌∙◌, arith, nat_le, ◌==◌, ◌||◌, if◌then◌else◌}
use Rattle.std.proofs.lemmas.Bool.Decides.{nat_tests}
use Rattle.application.specs.Levels.{has_number}
use Rattle.trace_law.proofs.Deeds.{IsAllowed}
use Rattle.step_ir.proofs.Served.{is_empty_true}
use Rattle.step_ir.specs.declared.event.Choice.{Choice}
use Rattle.step_ir.specs.declared.event.Choice.TheVariants.{Go, GoWith}
use Rattle.step_ir.specs.declared.event.Failure.{Failure}
use Rattle.step_ir.specs.declared.event.Service.{Service}
use Rattle.step_ir.specs.declared.event.Service.TheVariants.{Activate, Terminate, Chain, Schedule, Get, Release, DisableAll, EnableAll, SuspendAll, ResumeAll, SuspendOs, ResumeOs}
use Rattle.step_ir.specs.Agreement.{Matches, IsAgreed}
use Rattle.step_ir.specs.Deeds.{Deed, Moves, Leaves, Stops, deed_of, end_of, serve, same_width}
use Rattle.step_ir.specs.EntityStep.{Behaviour, After, Want, Does, Inputs, Calls, Ends, Fails, InputFails}
use Rattle.step_ir.specs.Numbers.{is_empty, times}
use Rattle.step_ir.specs.OneStackMachine
use Rattle.step_ir.specs.OneStackMachine.{Stacked, Frame, whos, any_frame}
use Rattle.step_ir.specs.SchedulerState
use Rattle.step_ir.specs.SchedulerState.{State, any_below}
use Rattle.step_ir.specs.Services.{Scene, fault_if, fault_of, leaving, others, opening, closing, is_disabled, is_all_suspended, is_os_suspended, status, fault}
use Rattle.step_ir.specs.Setting.{Setting, IsSound, AreTasks, AreRoutines}

-- the two find the same, but for requests of what is no task
pub record IsSameScene (app : Setting) (c d : Scene) : Type 0 where
  pub caller : c.caller ≡ d.caller
  pub held : c.held ≡ d.held
  pub is_held : (r : ℕ) → c.is_held r ≡ d.is_held r
  pub sections : c.sections ≡ d.sections
  pub requests : (t : ℕ) → app.is_task t ≡ true → c.requests t ≡ d.requests t

module _ (app : Setting) (ok : IsSound app) (c d : Scene) (same : IsSameScene app c d) where
  -- the limit of what is no task is 0, so its requests do not matter
  by_task : (t : ℕ) (n k : ℕ) → (app.is_task t ≡ true → n ≡ k) → nat_le (app.limit t) n ≡ nat_le (app.limit t) k
  by_task t n k h = go (app.is_task t) refl
    where
      go : (b : Bool) → app.is_task t ≡ b → nat_le (app.limit t) n ≡ nat_le (app.limit t) k
      go true e = ap (nat_le (app.limit t)) (h e)
      go false e =
          let none : app.limit t ≡ 0 = ok.tasks_alone t e in
          grind (arith, nat_tests)

  -- the requests after one of the caller has ended
  others_same : (t : ℕ) → app.is_task t ≡ true → others c t ≡ others d t
  others_same t task =
      ap₂ (λ who n. if t == who then n - 1 else n) same.caller (same.requests t task)

  -- the errors of a service by which its caller leaves
  leaving_same : (x y : Option Failure) → x ≡ y → leaving app c x ≡ leaving app d y
  leaving_same x y e =
      let a = same.sections in
      let b = same.caller in
      let h = same.held in
      cc

  -- the first error of a service
  fault_same : (service : Service) → fault_of app c service ≡ fault_of app d service
  fault_same (Activate t) =
      let a = same.sections in
      let b = by_task t.0 (c.requests t.0) (d.requests t.0) (same.requests t.0) in
      cc
  fault_same Terminate = leaving_same None None refl
  fault_same (Chain t) =
      leaving_same _ _ (ap (λ b. fault_if b (status 4) None) (by_task t.0 (others c t.0) (others d t.0) (others_same t.0)))
  fault_same Schedule = leaving_same None None refl
  fault_same (Get r) =
      let a = same.sections in
      let b = same.is_held r in
      cc
  fault_same (Release r) =
      let a = same.sections in
      let b = same.held in
      cc
  fault_same DisableAll = ap (λ ss. fault_if (not (is_empty ss)) (fault 8) None) same.sections
  fault_same EnableAll = ap (closing is_disabled) same.sections
  fault_same SuspendAll = ap opening same.sections
  fault_same ResumeAll = ap (closing is_all_suspended) same.sections
  fault_same SuspendOs = ap opening same.sections
  fault_same ResumeOs = ap (closing is_os_suspended) same.sections

module _ {S G : Type 0} (app : Setting) (ok : IsSound app) (beh : Behaviour S G) where
  -- the end of a body
  end_same : (c d : Scene) → IsSameScene app c d → end_of {S = S} {G = G} app c ≡ end_of app d
  end_same c d same =
      let a = same.sections in
      let b = same.caller in
      let h = same.held in
      cc

  -- what is to be done
  pub deed_same : (c d : Scene) → IsSameScene app c d → (want : Want S G) (choice : Choice) → deed_of app c want choice ≡ deed_of app d want choice
  deed_same c d same (Calls service after) Go = ap (λ f. Some (serve service after f)) (fault_same app ok c d same service)
  deed_same c d same Ends Go = ap Some (end_same c d same)
  deed_same c d same _ _ = refl

  abbrev pub IsAllowedIf : Scene → Option (Deed S G) → Type 0
  IsAllowedIf c None = Unit {0}
  IsAllowedIf c (Some deed) = IsAllowed app ok beh c deed

  -- a service that is done has no error
  serve_allowed : (c : Scene) (service : Service) (after : After S G) (f : Option Failure) → fault_of app c service ≡ f → IsAllowed app ok beh c (serve service after f)
  serve_allowed c service after None e = e
  serve_allowed c service after (Some f) e = tt

  -- a routine that leaves holds nothing
  end_allowed : (c : Scene) → IsAllowed app ok beh c (end_of app c)
  end_allowed c = go (app.is_task c.caller) refl
    where
      inner : (b e : Bool) → is_empty c.held ≡ e → app.is_task c.caller ≡ false → IsAllowed app ok beh c (if b && e then Leaves else Stops (fault 9) None)
      inner true true e other = (other, is_empty_true c.held e)
      inner true false e other = tt
      inner false e h other = tt

      go : (b : Bool) → app.is_task c.caller ≡ b → IsAllowed app ok beh c (if b then Stops (fault 7) None else (if is_empty c.sections && is_empty c.held then Leaves else Stops (fault 9) None))
      go true e = tt
      go false e = inner (is_empty c.sections) (is_empty c.held) refl e

  -- what is permitted at one width alone
  width_allowed : (c : Scene) (b : Bool) (deed : Deed S G) → IsAllowed app ok beh c deed → IsAllowedIf c (if b then Some deed else None)
  width_allowed c true deed h = h
  width_allowed c false deed h = tt

  -- what is to be done is allowed
  pub deed_allowed : (c : Scene) (want : Want S G) (choice : Choice) → IsAllowedIf c (deed_of app c want choice)
  deed_allowed c (Does action after) Go = tt
  deed_allowed c (Inputs width action after) (GoWith w) = width_allowed c (same_width w.width width) (Moves (action w) (after w)) tt
  deed_allowed c (Calls service after) Go = serve_allowed c service after (fault_of app c service) refl
  deed_allowed c Ends Go = end_allowed c
  deed_allowed c (Fails failure) Go = tt
  deed_allowed c (InputFails width failure) (GoWith w) = width_allowed c (same_width w.width width) (Stops failure None) tt
  deed_allowed c _ _ = tt

  -- the tests of who holds a resource agree
  any_here : (n q : ℕ) (p : ℕ → Bool) → q < n → p q ≡ true → any_below n p ≡ true
  any_here zero q p lt h = absurd (omega arith)
  any_here (suc n) q p lt h = go (p n) refl (λ below. any_here n q p below h)
    where
      go : (b : Bool) → p n ≡ b → (q < n → any_below n p ≡ true) → (b || any_below n p) ≡ true
      go true e ih = refl
      go false e ih =
          let differ : q ≢ n = λ z. absurd (let w : true ≡ false = sym h ∙ (ap p z ∙ e) in cc) in
          ih (omega arith)

  -- it holds for none
  any_none : (n : ℕ) (p : ℕ → Bool) → ((q : ℕ) → p q ≡ false) → any_below n p ≡ false
  any_none zero p h = refl
  any_none (suc n) p h = rw (h n) (any_none n p h)

  abbrev InRange : ℕ → List (Frame S) → Type 0
  InRange n [] = Unit {0}
  InRange n (f ∷ fs) = (f.who < n) × InRange n fs

  -- who holds a resource on the stack holds it in the state
  holds : (n : ℕ) (state : ℕ → S) (held : ℕ → List ℕ) (r : ℕ) (fs : List (Frame S)) → Matches state held fs → InRange n fs → any_frame fs r ≡ true → any_below n (λ q. has_number (held q) r) ≡ true
  holds n state held r [] m low h = absurd (let e : false ≡ true = h in cc)
  holds n state held r (f ∷ fs) m low h = go (has_number f.held r) refl h (λ k. holds n state held r fs m.2 low.1 k)
    where
      go : (b : Bool) → has_number f.held r ≡ b → (b || any_frame fs r) ≡ true → (any_frame fs r ≡ true → any_below n (λ q. has_number (held q) r) ≡ true) → any_below n (λ q. has_number (held q) r) ≡ true
      go true e k ih = any_here n f.who (λ q. has_number (held q) r) low.0 (ap (λ xs. has_number xs r) m.1 ∙ e)
      go false e k ih = ih k

  -- neither of two holds
  or_false : (a b : Bool) → (a || b) ≡ false → (a ≡ false) × (b ≡ false)
  or_false true b h = absurd (let e : true ≡ false = h in cc)
  or_false false b h = (refl, h)

  -- a resource that none on the stack holds is free in the state
  free : (state : ℕ → S) (held : ℕ → List ℕ) (r q : ℕ) (fs : List (Frame S)) → Matches state held fs → any_frame fs r ≡ false → (times q (whos fs) ≡ 0 → held q ≡ []) → has_number (held q) r ≡ false
  free state held r q [] m h none = ap (λ xs. has_number xs r) (none refl)
  free state held r q (f ∷ fs) m h none =
      go (f.who == q) refl (or_false (has_number f.held r) (any_frame fs r) h) (λ k z. free state held r q fs m.2 k z)
    where
      go : (b : Bool) → (f.who == q) ≡ b → (has_number f.held r ≡ false) × (any_frame fs r ≡ false) → (any_frame fs r ≡ false → (times q (whos fs) ≡ 0 → held q ≡ []) → has_number (held q) r ≡ false) → has_number (held q) r ≡ false
      go true e o ih =
          let same : f.who ≡ q = grind (arith, nat_tests) in
          subst (λ x. has_number (held x) r ≡ false) same (ap (λ xs. has_number xs r) m.1 ∙ o.0)
      go false e o ih = ih o.1 (λ z. none (grind (arith, nat_tests)))

  -- the two tests of a resource agree
  held_same : (n : ℕ) (state : ℕ → S) (held : ℕ → List ℕ) (r : ℕ) (fs : List (Frame S)) → Matches state held fs → InRange n fs → ((q : ℕ) → times q (whos fs) ≡ 0 → held q ≡ []) → any_below n (λ q. has_number (held q) r) ≡ any_frame fs r
  held_same n state held r fs m low none = go (any_frame fs r) refl
    where
      go : (b : Bool) → any_frame fs r ≡ b → any_below n (λ q. has_number (held q) r) ≡ any_frame fs r
      go true e = holds n state held r fs m low e ∙ sym e
      go false e = any_none n (λ q. has_number (held q) r) (λ q. free state held r q fs m e (none q)) ∙ sym e

  -- tasks have numbers below the count of entities
  tasks_in_range : (fs : List (Frame S)) → AreTasks app (whos fs) → InRange app.entities fs
  tasks_in_range [] h = tt
  tasks_in_range (f ∷ fs) h = (ok.counted_tasks f.who h.0, tasks_in_range fs h.1)

  -- so have routines and tasks together
  in_range : (over under : List (Frame S)) → AreRoutines app (whos over) → AreTasks app (whos under) → InRange app.entities (over ++ under)
  in_range [] under h k = tasks_in_range under k
  in_range (f ∷ fs) under h k = (ok.counted_routines f.who h.0, in_range fs under h.1 k)

  -- a task stands among the tasks alone
  times-routines : (t : ℕ) (over under : List (Frame S)) → app.is_task t ≡ true → AreRoutines app (whos over) → times t (whos (over ++ under)) ≡ times t (whos under)
  times-routines t [] under task h = refl
  times-routines t (f ∷ fs) under task h =
      let other = ok.routines f.who h.0 in
      let differ : f.who ≢ t = λ z. absurd (let w : true ≡ false = sym task ∙ (ap app.is_task (sym z) ∙ other) in cc) in
      let rest = times-routines t fs under task h.1 in
      grind (arith, nat_tests)

  -- where the states agree, a service finds the same
  pub scene_same : (st : State S G) (m : Stacked S G) (over under : List (Frame S)) (f : Frame S) → st.held f.who ≡ f.held → IsAgreed app st m over under → IsSameScene app (SchedulerState.scene app st f.who) (OneStackMachine.scene m f)
  scene_same st m over under f here a =
      record {
        caller = refl;
        held = here;
        is_held = λ r. held_same app.entities st.state st.held r (over ++ under) a.matches (in_range over under a.routines a.tasks) a.unheld ∙ ap (λ fs. any_frame fs r) (sym a.stack);
        sections = a.sections;
        requests = λ t task. a.requests t ∙ ap (λ n. n + times t m.fresh) (sym (times-routines t over under task a.routines) ∙ ap (λ fs. times t (whos fs)) (sym a.stack));
      }
