-- Effects of services, put together.
use Rattle.std.proofs.Common.{◌≡◌, ◌≢◌, ℕ, suc, ◌-◌, ◌*◌, ◌<◌, ◌≤◌, Bool, true, false, ◌||◌, List, [], ◌∷◌, length, Option, Some, None, slice_set, slice_index, IfNone, IfSome, refl, sym, ap, subst, ◌∙◌, arith, if◌then◌else◌, ◌==◌}
use Rattle.std.proofs.Math.Path.{fun_ext}
use Rattle.std.proofs.lemmas.Bool.Decides.{nat_tests}
use Rattle.osek_machine.proofs.Actors.{any_holder}
use Rattle.osek_machine.proofs.States.{index_set}
use Rattle.osek_machine.specs.Held.{held_by, any_holds, resources_of, AreHolders, IsHeld, IsReleased}
use Rattle.osek_machine.specs.Kept.{Kept, IsKept, state_of, entities_of}
use Rattle.osek_machine.specs.Changing.{Changes}
use Rattle.osek_machine.specs.declared.held.Holding.{Holding}
use Rattle.osek_machine.proofs.Laws.{AreFew}
use Rattle.step_ir.specs.EntityStep.{Behaviour}
use Rattle.step_ir.specs.Numbers.{AreUnder, tail, times, put}
use Rattle.step_ir.specs.PointStep.{Bits, behaviour_of}
use Rattle.step_ir.specs.Reschedule.{reschedule, reschedule_after, dispatch, put_back, give_back}
use Rattle.step_ir.specs.SchedulerState.{State, scene}
use Rattle.step_ir.specs.SchedulerStep.{effect, queue, end_request}
use Rattle.step_ir.specs.Setting.{setting_of, highest_level, Setting, gives_way, current}
use Rattle.step_ir.specs.declared.event.Service.TheVariants.{Activate, Terminate, Chain, Release}

-- a change of the scheduler
abbrev pub Change : Type 0
Change = Setting → Behaviour ℕ Bits → State ℕ Bits → State ℕ Bits

-- one change after another
pub then_change : (f g : Change) (a b c : Kept) → Changes f a b → Changes g b c → Changes (λ app beh st. g app beh (f app beh st)) a c
then_change f g a b c first second =
    record {
      state =
          second.state
          ∙ ap (λ x. g (setting_of x) (behaviour_of b.code) (state_of b)) first.app
          ∙ ap (λ x. g (setting_of a.app) (behaviour_of x) (state_of b)) first.code
          ∙ ap (g (setting_of a.app) (behaviour_of a.code)) first.state;
      app = second.app ∙ first.app;
      code = second.code ∙ first.code;
    }

-- a change that is known exactly
pub exact : (f : Change) (a b n : Kept) → b ≡ n → state_of n ≡ f (setting_of a.app) (behaviour_of a.code) (state_of a) → n.app ≡ a.app → n.code ≡ a.code → Changes f a b
exact f a b n is state app code = subst (Changes f a) (sym is) (record { state = state; app = app; code = code })

-- the running task's request ends
pub ended : (k mid : Kept) (e : ℕ) → IsKept k → k.running ≡ Some e → mid ≡ record k { running = None; requests = slice_set k.requests e (slice_index k.requests e - 1) } → Changes (λ app beh. end_request e) k mid
ended k mid e inv runs is =
    exact (λ app beh. end_request e) k mid (record k { running = None; requests = slice_set k.requests e (slice_index k.requests e - 1) }) is
    (ap (λ r. record (state_of k) { running = None; requests = r }) (index_set k.requests e (slice_index k.requests e - 1) (omega (arith, inv.queued.runs e runs, inv.queued.requested)))) refl refl

-- `TerminateTask` is the end of the request and a dispatch
pub terminated : (k mid new : Kept) (e : ℕ) → IsKept k → k.running ≡ Some e → mid ≡ record k { running = None; requests = slice_set k.requests e (slice_index k.requests e - 1) } → Changes (λ app beh. dispatch app beh) mid new → Changes (λ app beh. effect app beh e Terminate) k new
terminated k mid new e inv runs is change =
    then_change (λ app beh. end_request e) (λ app beh. dispatch app beh) k mid new (ended k mid e inv runs is) change

-- `ChainTask` is the end of the request, a request and a dispatch
pub chained : (k mid queued new : Kept) (e t : ℕ) → IsKept k → k.running ≡ Some e → mid ≡ record k { running = None; requests = slice_set k.requests e (slice_index k.requests e - 1) } → Changes (λ app beh. queue app t) mid queued → Changes (λ app beh. dispatch app beh) queued new → Changes (λ app beh. effect app beh e (Chain (record { 0 = t }))) k new
chained k mid queued new e t inv runs is more change =
    then_change (λ app beh st. queue app t (end_request e st)) (λ app beh. dispatch app beh) k queued new
    (then_change (λ app beh. end_request e) (λ app beh. queue app t) k mid queued (ended k mid e inv runs is) more) change

-- a reschedule is putting back and a dispatch
pub rescheduled : (k mid new : Kept) (e level : ℕ) → k.running ≡ Some e → gives_way (setting_of k.app) e ≡ true → level ≡ current (setting_of k.app) e (held_by k.held e) → Changes (λ app beh. put_back level e) k mid → Changes (λ app beh. dispatch app beh) mid new → Changes (λ app beh. reschedule_after app beh e) k new
rescheduled k mid new e level runs way is back change =
    let all = then_change (λ app beh. put_back level e) (λ app beh. dispatch app beh) k mid new back change in
    record {
      state =
          all.state
          ∙ ap (λ l. dispatch (setting_of k.app) (behaviour_of k.code) (put_back l e (state_of k))) is
          ∙ sym (ap (λ o. dispatch (setting_of k.app) (behaviour_of k.code) (give_back (setting_of k.app) o (state_of k))) runs)
          ∙ sym (ap (λ b. if b then reschedule (setting_of k.app) (behaviour_of k.code) (state_of k) else state_of k) way);
      app = all.app;
      code = all.code;
    }

-- who gives no way stays
pub not_rescheduled : (k new : Kept) (e : ℕ) → gives_way (setting_of k.app) e ≡ false → new ≡ k → Changes (λ app beh. reschedule_after app beh e) k new
not_rescheduled k new e stays same =
    exact (λ app beh. reschedule_after app beh e) k new k same (sym (ap (λ b. if b then reschedule (setting_of k.app) (behaviour_of k.code) (state_of k) else state_of k) stays)) refl refl

-- a current level is a level of a list
pub current_low : (k : Kept) (e l : ℕ) (held : List Holding) → IsKept k → l ≡ current (setting_of k.app) e (held_by held e) → l ≤ highest_level
current_low k e l held inv is =
    let low = inv.fixed.below e (held_by held e) in omega arith

-- so is a level
pub level_low : (k : Kept) (e l : ℕ) → IsKept k → l ≡ (setting_of k.app).level e → l ≤ highest_level
level_low k e l inv is = let s = inv.fixed.sound in omega (arith, s.runs_above e, s.run_levels e)

-- `ActivateTask` is a request and a reschedule
pub activated : (k mid new : Kept) (e t : ℕ) → Changes (λ app beh. queue app t) k mid → Changes (λ app beh. reschedule_after app beh e) mid new → Changes (λ app beh. effect app beh e (Activate (record { 0 = t }))) k new
activated k mid new e t more change = then_change (λ app beh. queue app t) (λ app beh. reschedule_after app beh e) k mid new more change

-- `ReleaseResource` is freeing and a reschedule
pub released_resource : (k mid new : Kept) (e r : ℕ) → Changes (λ app beh st. record st { held = put st.held e (tail (st.held e)) }) k mid → Changes (λ app beh. reschedule_after app beh e) mid new → Changes (λ app beh. effect app beh e (Release r)) k new
released_resource k mid new e r first change =
    then_change (λ app beh st. record st { held = put st.held e (tail (st.held e)) }) (λ app beh. reschedule_after app beh e) k mid new first change

-- held resources
not_there : (r : ℕ) (hs : List Holding) → any_holds r hs ≡ false → times r (resources_of hs) ≡ 0
not_there r [] h = refl
not_there r (x ∷ xs) h = go (x.resource == r) refl h (λ g. not_there r xs g)
  where
    go : (b : Bool) → (x.resource == r) ≡ b → (b || any_holds r xs) ≡ false → (any_holds r xs ≡ false → times r (resources_of xs) ≡ 0) → times r (resources_of (x ∷ xs)) ≡ 0
    go true e g ih = absurd (let w : true ≡ false = g in cc)
    go false e g ih = let i = ih g in grind (arith, nat_tests)

-- the numbers of held resources are below 256
under_all : (n : ℕ) (hs : List Holding) → AreHolders n hs → AreUnder 256 (resources_of hs)
under_all n [] h = tt
under_all n (x ∷ xs) h = (h.1, under_all n xs h.2)

-- there are as many resources as holdings
length-resources_of : (hs : List Holding) → length (resources_of hs) ≡ length hs
length-resources_of [] = refl
length-resources_of (h ∷ hs) = ap suc (length-resources_of hs)

-- where a resource is free there is room to hold it
pub hold_room : AreFew → (n r : ℕ) (hs : List Holding) → IsHeld n hs → any_holds r hs ≡ false → r < 256 → length hs < 256
hold_room law n r hs inv free small =
    let all : length (r ∷ resources_of hs) ≤ 256 * 1 = law 256 1 (r ∷ resources_of hs) (small, under_all n hs inv.holders) few in
    let same = length-resources_of hs in
    omega arith
  where
    few : (q : ℕ) → times q (r ∷ resources_of hs) ≤ 1
    few q =
        let a = inv.once q in
        let b = not_there r hs free in
        go (r == q) refl
      where
        go : (b : Bool) → (r == q) ≡ b → times q (r ∷ resources_of hs) ≤ 1
        go true e = let same : r ≡ q = grind (arith, nat_tests) in let none : times q (resources_of hs) ≡ 0 = subst (λ x. times x (resources_of hs) ≡ 0) same (not_there r hs free) in grind (arith, nat_tests)
        go false e = let a = inv.once q in grind (arith, nat_tests)

-- what holds of a machine holds after a resource was taken
pub hold_kept : (k : Kept) (e r : ℕ) (held : List Holding) → held ≡ record { entity = e; resource = r } ∷ k.held → e < entities_of k.app → r < 256 → any_holds r k.held ≡ false → IsKept k → IsKept (record k { held = held })
hold_kept k e r held is known small free inv =
    subst (λ hs. IsKept (record k { held = hs })) (sym is)
    (record {
      fixed = inv.fixed;
      over = inv.over;
      points = inv.points;
      queued = inv.queued;
      held = record { holders = (known, small, inv.held.holders); once = λ q. few q (r == q) refl };
      active = inv.active;
      sections = inv.sections;
    })
  where
    few : (q : ℕ) (b : Bool) → (r == q) ≡ b → times q (r ∷ resources_of k.held) ≤ 1
    few q true e = let same : r ≡ q = grind (arith, nat_tests) in let none : times q (resources_of k.held) ≡ 0 = subst (λ x. times x (resources_of k.held) ≡ 0) same (not_there r k.held free) in grind (arith, nat_tests)
    few q false e = let a = inv.held.once q in grind (arith, nat_tests)

-- a resource that no entity holds is not in the list of all
pub free_in : (k old : Kept) (e r : ℕ) → IsKept k → k ≡ old → (scene (setting_of old.app) (state_of old) e).is_held r ≡ false → any_holds r k.held ≡ false
free_in k old e r inv same h =
    let here : (scene (setting_of k.app) (state_of k) e).is_held r ≡ false = subst (λ (n : Kept). (scene (setting_of n.app) (state_of n) e).is_held r ≡ false) (sym same) h in
    sym (any_holder r (entities_of k.app) k.held inv.held.holders) ∙ here

-- taking a resource changes the state as the scheduler's does
pub hold_changes : (k old : Kept) (e r : ℕ) (held : List Holding) → k ≡ old → held ≡ record { entity = e; resource = r } ∷ k.held → Changes (λ app beh st. record st { held = put st.held e (r ∷ st.held e) }) old (record k { held = held })
hold_changes k old e r held same is =
    subst (λ o. Changes (λ app beh st. record st { held = put st.held e (r ∷ st.held e) }) o (record k { held = held })) same
    (record { state = ap (λ h. record (state_of k) { held = h }) (ap held_by is ∙ fun_ext (λ q. grind (arith, nat_tests))); app = refl; code = refl })

-- the last taken, if there is one, was taken out
abbrev pub IsReleasing : Option ℕ → List Holding → ℕ → List Holding → Type 0
IsReleasing None old e new = (held_by old e ≡ []) × (new ≡ old)
IsReleasing (Some r) old e new = IsReleased old e r new

-- it was, by what taking out answers
pub releasing : (o : Option ℕ) (old new : List Holding) (e : ℕ) → IfNone o (held_by old e ≡ []) → IfNone o (new ≡ old) → IfSome o (λ r. IsReleased old e r new) → IsReleasing o old e new
releasing None old new e a b c = (a, b)
releasing (Some r) old new e a b c = c

-- what holds of a machine holds after a resource was freed
pub release_kept : (k : Kept) (o : Option ℕ) (e : ℕ) (held : List Holding) → IsReleasing o k.held e held → IsKept k → IsKept (record k { held = held })
release_kept k None e held h inv = subst (λ hs. IsKept (record k { held = hs })) (sym h.1) inv
release_kept k (Some r) e held out inv =
    record {
      fixed = inv.fixed;
      over = inv.over;
      points = inv.points;
      queued = inv.queued;
      held = record { holders = out.holders (entities_of k.app) inv.held.holders; once = λ q. omega (arith, out.counts q, inv.held.once q) };
      active = inv.active;
      sections = inv.sections;
    }

-- the last taken of the entity is gone, and nothing else
held_released : (o : Option ℕ) (old new : List Holding) (e : ℕ) → IsReleasing o old e new → held_by new ≡ put (held_by old) e (tail (held_by old e))
held_released None old new e h = ap held_by h.1 ∙ fun_ext (λ q. go q (q == e) refl)
  where
    go : (q : ℕ) (b : Bool) → (q == e) ≡ b → held_by old q ≡ (if b then tail (held_by old e) else held_by old q)
    go q true is = let here : q ≡ e = grind (arith, nat_tests) in ap (held_by old) here ∙ h.0 ∙ ap tail (sym h.0)
    go q false is = refl
held_released (Some r) old new e out = fun_ext (λ q. go q (q == e) refl)
  where
    go : (q : ℕ) (b : Bool) → (q == e) ≡ b → held_by new q ≡ (if b then tail (held_by old e) else held_by old q)
    go q true is = let here : q ≡ e = grind (arith, nat_tests) in ap (held_by new) here ∙ sym (ap tail out.same)
    go q false is = let other : q ≢ e = λ same. absurd (grind (arith, nat_tests)) in sym (out.others q other)

-- freeing a resource changes the state as the scheduler's does
pub release_changes : (k old : Kept) (o : Option ℕ) (e : ℕ) (held : List Holding) → k ≡ old → IsReleasing o k.held e held → Changes (λ app beh st. record st { held = put st.held e (tail (st.held e)) }) old (record k { held = held })
release_changes k old o e held same h =
    subst (λ x. Changes (λ app beh st. record st { held = put st.held e (tail (st.held e)) }) x (record k { held = held })) same
    (record { state = ap (λ x. record (state_of k) { held = x }) (held_released o k.held held e h); app = refl; code = refl })

-- a reschedule, for a value that a machine opened
pub rescheduled_from : (k old mid new : Kept) (e level : ℕ) (held : List Holding) (b : Bool) → k ≡ old → (gives_way (setting_of old.app) e ≡ true → old.running ≡ Some e) → b ≡ gives_way (setting_of k.app) e → b ≡ true → held ≡ k.held → level ≡ current (setting_of k.app) e (held_by held e) → Changes (λ app beh. put_back level e) old mid → Changes (λ app beh. dispatch app beh) mid new → Changes (λ app beh. reschedule_after app beh e) old new
rescheduled_from k old mid new e level held b same runs test is list low back change =
    let way : gives_way (setting_of old.app) e ≡ true = ap (λ (n : Kept). gives_way (setting_of n.app) e) (sym same) ∙ (sym test ∙ is) in
    let level' : level ≡ current (setting_of old.app) e (held_by old.held e) = low ∙ ap (λ h. current (setting_of k.app) e (held_by h e)) list ∙ ap (λ (n : Kept). current (setting_of n.app) e (held_by n.held e)) same in
    rescheduled old mid new e level (runs way) way level' back change
