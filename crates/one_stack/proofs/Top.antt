-- The step of the top of the stack: one alternative of its point is open, and it does what the machine does.
use Rattle.std.proofs.Common.{◌≡◌, ℕ, ◌+◌, ◌-◌, ◌<◌, ◌≤◌, Bool, true, false, not, ◌&&◌, List, [], ◌∷◌, ◌++◌, Option, Some, None, refl, sym, ap, subst, ◌∙◌, arith, nat_lt, nat_le, ◌==◌, if◌then◌else◌}
use Rattle.std.proofs.lemmas.Bool.Decides.{nat_tests}
use Rattle.chk_base.specs.Operators.{truth, one_if}
use Rattle.chk_base.specs.Term.{Term, Const, Pick, Bin}
use Rattle.chk_base.specs.Widths.{limit_of}
use Rattle.chk_base.specs.declared.expr.BinOp.TheVariants as bin
use Rattle.guard_prog.specs.GuardedRun.{Program, State as Standing, value_in, cell_after_sets, value_set}
use Rattle.guard_prog.specs.declared.draft.Control.TheVariants.{Goto, Push, Fail}
use Rattle.one_stack.proofs.Activates.{activates, waits}
use Rattle.one_stack.proofs.Choosing.{first_rule}
use Rattle.one_stack.proofs.Ends.{IsFired, tasks_of, ends}
use Rattle.one_stack.proofs.Gets.{any_is, gets}
use Rattle.one_stack.proofs.Kept.{cell_is}
use Rattle.one_stack.proofs.Meeting.{IsProgram, IsReached, Meets, fails, goes}
use Rattle.one_stack.proofs.Own.{counts, any_of_is, first_same, next_terms, IsNext, next_of, next_fires, IsSameBelow, same_val, one_set, whole_set, read_small, one_low, sets_after, sets_low, read_is, write_is, write_low}
use Rattle.one_stack.proofs.Releases.{releases, keeps_on}
use Rattle.one_stack.proofs.Settling.{requested}
use Rattle.one_stack.proofs.Values.{val_local, truth-one_if, negated_true, negated_false}
use Rattle.one_stack.specs.Built.{held_times, held_of, kept_at}
use Rattle.one_stack.specs.PlainCode.{PlainCode, steps_of}
use Rattle.one_stack.specs.Rules.{Plan, Rule, Slot, Count, plain, either, negated, any_of, full, full_others, action_error, action_rules, service_error, service_rules, last_kept, Held, Kept, point_rules, next_rules, goes_on, index_term, write_sets, return_sets, is_it, cell}
use Rattle.one_stack.specs.TaskForm.{FitsGoing, FitsService, FitsAction, FitsPoint, IsTaskForm}
use Rattle.step_ir.proofs.Stacks.{current_above}
use Rattle.step_ir.specs.Deeds.{Deed, Moves, Serves, Stops, deed_of, serve, end_of}
use Rattle.step_ir.specs.EntityStep.{After, Want, Does, Calls, Fails}
use Rattle.step_ir.specs.Numbers.{times, is_empty, tail, AreUnder}
use Rattle.step_ir.specs.OneStackMachine.{Stacked, Frame, whos, settle, scene, act, any_frame}
use Rattle.step_ir.specs.PointStep as points
use Rattle.step_ir.specs.PointStep.{Bits, first, or_zero, stored, set_all, cell_of, inside, go_on, unless}
use Rattle.step_ir.specs.Points.{PlainPoint, PlainAction, Read, Write, Local, Branch, Input, Call, Return, Invoke, Assert, End}
use Rattle.step_ir.specs.Services.{Scene, fault_if, fault, status, others, leaving, last_taken}
use Rattle.step_ir.specs.Setting.{Setting, current, IsSound, AreTasks}
use Rattle.step_ir.specs.declared.event.Choice.TheVariants.{Go}
use Rattle.step_ir.specs.declared.event.Choice.{Choice}
use Rattle.step_ir.specs.declared.event.EventAction.TheVariants as Told
use Rattle.step_ir.specs.declared.event.EventAction.{EventAction}
use Rattle.step_ir.specs.declared.event.Failure.{Failure}
use Rattle.step_ir.specs.declared.event.Service.TheVariants.{Activate, Terminate, Chain, Schedule, Get, Release, DisableAll, EnableAll, SuspendAll, ResumeAll, SuspendOs, ResumeOs}
use Rattle.step_ir.specs.declared.event.Service.{Service}

module _ (app : Setting) (sound : IsSound app) (code : PlainCode) {resources : ℕ} (form : IsTaskForm app resources code) (plan : Plan) (p : Program) (chosen : ℕ → ℕ → Choice) (made : IsProgram app code plan p chosen) where
  module _ (s : Standing) (m : Stacked ℕ Bits) (f : Frame ℕ) (below : List (Frame ℕ)) (meets : Meets app code plan p s (record m { stack = f ∷ below })) (runs : m.is_stopped ≡ false) where
    -- what is to be done is this, and the first of these rules that counts does it
    pub record IsGone (want : Want ℕ Bits) (rules : List Rule) : Type 0 where
      pub deed : Deed ℕ Bits
      pub is : deed_of app (scene (record m { stack = f ∷ below }) f) want Go ≡ Some deed
      pub fired : IsFired app code plan p s rules (act app (steps_of code) f below deed (record m { stack = f ∷ below }))

    -- wherever this leads is reached
    abbrev pub Reaches : Want ℕ Bits → Type 0
    Reaches want = (d : Deed ℕ Bits) → deed_of app (scene (record m { stack = f ∷ below }) f) want Go ≡ Some d → IsReached app (act app (steps_of code) f below d (record m { stack = f ∷ below }))

    v : Term → ℕ
    v t = value_in p.width s.cells t

    task : app.is_task f.who ≡ true
    task = (tasks_of app sound code form plan p chosen made (record m { stack = f ∷ below }) meets.shaped.reached).0

    same : IsSameBelow code.cells p.width code.width s.cells m.globals
    same = record { wide = made.widths; same = meets.low; fits = meets.fits }

    -- the failure comes first
    stops : (guard : Term) (rules : List Rule) (want : Want ℕ Bits) (failure : Failure) (service : Option Service) → truth (value_in p.width s.cells guard) ≡ true → deed_of app (scene (record m { stack = f ∷ below }) f) want Go ≡ Some (Stops failure service) → Reaches want → IsGone want (plain guard [] Fail ∷ rules)
    stops guard rules want failure service opened is reaches =
        record {
          deed = Stops failure service;
          is = is;
          fired =
              record {
                rule = plain guard [] Fail;
                first = ap (λ b. if b then Some (plain guard [] Fail) else first_rule (value_in p.width s.cells) rules) opened;
                led = fails app code plan p chosen made s m f below guard meets (reaches (Stops failure service) is);
              };
        }

    -- there is none
    passes : (guard : Term) (rules : List Rule) (want : Want ℕ Bits) → truth (value_in p.width s.cells guard) ≡ false → IsGone want rules → IsGone want (plain guard [] Fail ∷ rules)
    passes guard rules want shut g =
        record {
          deed = g.deed;
          is = g.is;
          fired =
              record {
                rule = g.fired.rule;
                first =
                    ap (λ b. if b then Some (plain guard [] Fail) else first_rule (value_in p.width s.cells) rules) shut ∙ g.fired.first;
                led = g.fired.led;
              };
        }

    -- a step of the entity's own
    own_step : (action : EventAction) (own : List (ℕ × Term)) (bits : Bits) (nexts : List (Term × ℕ)) → FitsGoing code.cells (code.points f.who) nexts → ((q : ℕ) → q < code.cells → cell_after_sets p.width s.cells own q ≡ bits q) → ((q : ℕ) → code.cells ≤ q → value_set p.width s.cells own q ≡ None) → Reaches (Does action (go_on code.width nexts bits)) → IsGone (Does action (go_on code.width nexts bits)) (goes_on app plan p.width f.who own nexts)
    own_step action own bits nexts fits is above reaches =
        record {
          deed = Moves action (go_on code.width nexts bits);
          is = refl;
          fired = subst (λ k. IsFired app code plan p s (goes_on app plan p.width f.who own nexts) (record m { globals = bits; stack = record f { state = k } ∷ below })) (sym at) (here (subst (λ k. IsReached app (record m { globals = bits; stack = record f { state = k } ∷ below })) at (reaches (Moves action (go_on code.width nexts bits)) refl)));
        }
      where
        next : IsNext (value_in code.width bits) (code.points f.who) nexts
        next = next_of (value_in code.width bits) code.cells (code.points f.who) nexts refl fits.0 fits.1

        at : or_zero (first (value_in code.width bits) nexts) ≡ next.at
        at = ap or_zero next.first_is

        here : IsReached app (record m { globals = bits; stack = record f { state = next.at } ∷ below }) → IsFired app code plan p s (goes_on app plan p.width f.who own nexts) (record m { globals = bits; stack = record f { state = next.at } ∷ below })
        here reached =
            let along : first (value_in p.width (cell_after_sets p.width s.cells own)) nexts ≡ Some next.at =
            first_same (value_in p.width (cell_after_sets p.width s.cells own)) (value_in code.width bits) code.cells nexts (λ t h. val_local p.width code.width code.cells (cell_after_sets p.width s.cells own) bits t made.widths is h) (next_terms code.cells (code.points f.who) nexts fits.0)
            ∙ next.first_is in
            let fires = next_fires app plan p.width s.cells own [] (λ k. Goto (plan.number f.who k)) nexts next.at along in
            record {
              rule = plain fires.guard (own ++ []) (Goto (plan.number f.who next.at));
              first = fires.is;
              led = goes app code plan p chosen made s m f below fires.guard own next.at bits runs next.exists is above meets reached;
            }

    -- a service finds no section, and its caller is a task
    leaving_is : (rest : Option Failure) → leaving app (scene (record m { stack = f ∷ below }) f) rest ≡ fault_if (not (is_empty f.held)) (status 6) rest
    leaving_is rest =
        ap (λ ss. fault_if (not (is_empty ss)) (fault 8) (fault_if (not (app.is_task f.who)) (status 2) (fault_if (not (is_empty f.held)) (status 6) rest))) meets.shaped.sections
        ∙ ap (λ b. fault_if (not b) (status 2) (fault_if (not (is_empty f.held)) (status 6) rest)) task

    last_is : value_in p.width s.cells (last_kept app plan f.who) ≡ kept_at f.held 0
    last_is = go (nat_lt 0 plan.resources) refl
      where
        itself : held_of f.who (f ∷ below) ≡ f.held
        itself =
            let same : (f.who == f.who) ≡ true = grind (arith, nat_tests) in
            ap (λ b. if b then f.held else held_of f.who below) same

        nothing : (rs : List ℕ) → AreUnder plan.resources rs → plan.resources ≤ 0 → 0 ≡ kept_at rs 0
        nothing [] a le = refl
        nothing (x ∷ xs) a le = let b = a.0 in absurd (omega arith)

        go : (b : Bool) → nat_lt 0 plan.resources ≡ b → value_in p.width s.cells (if b then cell app plan (Kept f.who 0) else Const 0) ≡ kept_at f.held 0
        go true e =
            let some : 0 < plan.resources = grind (arith, nat_tests) in
            cell_is app plan p.width code.cells made.layout s.cells (record m { stack = f ∷ below }) meets.holds (Kept f.who 0) (made.layout.tasks f.who task, some)
            ∙ ap (λ rs. kept_at rs 0) itself
        go false e =
            let none : plan.resources ≤ 0 = grind (arith, nat_tests) in
            nothing f.held meets.shaped.plain.1 none

    keeps_is : truth (value_in p.width s.cells (last_kept app plan f.who)) ≡ not (is_empty f.held)
    keeps_is = ap truth last_is ∙ go f.held
      where
        go : (rs : List ℕ) → truth (kept_at rs 0) ≡ not (is_empty rs)
        go [] = refl
        go (x ∷ xs) = let z : (x + 1 == 0) ≡ false = grind (arith, nat_tests) in ap not z

    empty_is : (rs : List ℕ) → is_empty rs ≡ true → rs ≡ []
    empty_is [] h = refl
    empty_is (x ∷ xs) h = absurd (let z : false ≡ true = h in cc)

    full_is : (x : ℕ) → app.is_task x ≡ true → truth (value_in p.width s.cells (full app plan x)) ≡ nat_le (app.limit x) (times x (whos (f ∷ below)) + times x m.fresh)
    full_is x t =
        truth-one_if (nat_le (app.limit x) (value_in p.width s.cells (cell app plan (Count x))))
        ∙ ap (nat_le (app.limit x)) (cell_is app plan p.width code.cells made.layout s.cells (record m { stack = f ∷ below }) meets.holds (Count x) (made.layout.tasks x t))

    others_is : (x : ℕ) → app.is_task x ≡ true → truth (value_in p.width s.cells (full_others app plan f.who x)) ≡ nat_le (app.limit x) (others (scene (record m { stack = f ∷ below }) f) x)
    others_is x t = go (x == f.who) refl
      where
        go : (b : Bool) → (x == f.who) ≡ b → truth (value_in p.width s.cells (if b then Const 0 else full app plan x)) ≡ nat_le (app.limit x) (if b then times x (whos (f ∷ below)) + times x m.fresh - 1 else times x (whos (f ∷ below)) + times x m.fresh)
        go true e =
            let same : f.who ≡ x = grind (arith, nat_tests) in
            let within = meets.shaped.limits x (made.layout.tasks x t) in
            let some : 0 < times x (whos (f ∷ below)) = grind (arith, nat_tests) in
            let none : nat_le (app.limit x) (times x (whos (f ∷ below)) + times x m.fresh - 1) ≡ false = grind (arith, nat_tests) in
            sym none
        go false e = full_is x t

    -- the end of a task, with or without a request before
    ended : (service : Service) (x : Option ℕ) (after : After ℕ Bits) → f.held ≡ [] → act app (steps_of code) f below (Serves service after) (record m { stack = f ∷ below }) ≡ settle app (steps_of code) (record m { stack = below; fresh = requested x m.fresh }) → AreTasks app (requested x m.fresh) → ((t : ℕ) → is_it x t ≡ true → is_it (Some f.who) t ≡ false → times t (whos (f ∷ below)) + times t m.fresh < app.limit t) → IsReached app (act app (steps_of code) f below (Serves service after) (record m { stack = f ∷ below })) → IsFired app code plan p s (Rattle.one_stack.specs.Rules.end_rules app plan f.who x) (act app (steps_of code) f below (Serves service after) (record m { stack = f ∷ below }))
    ended service x after empty is tasks asked reached =
        subst (λ z. IsFired app code plan p s (Rattle.one_stack.specs.Rules.end_rules app plan f.who x) z) (sym is)
        (ends app sound code form plan p chosen made s m f below x meets runs empty asked tasks (subst (λ z. IsReached app z) is reached))

    more_tasks : (ts : List ℕ) (x : ℕ) → AreTasks app ts → app.is_task x ≡ true → AreTasks app (ts ++ x ∷ [])
    more_tasks [] x h k = (k, tt)
    more_tasks (t ∷ ts) x h k = (h.0, more_tasks ts x h.1 k)

    calls : (service : Service) (nexts : List (Term × ℕ)) (traps : Term) → truth (value_in p.width s.cells traps) ≡ false → FitsService app resources code.cells (code.points f.who) nexts service → ((r : ℕ) → service ≡ Get r → r < plan.resources) → Reaches (Calls service (go_on code.width nexts m.globals)) → IsGone (Calls service (go_on code.width nexts m.globals)) (plain (either traps (service_error app plan f.who service)) [] Fail ∷ service_rules app plan p.width f.who service nexts)
    calls Terminate nexts traps quiet fits known reaches = go (is_empty f.held) refl
      where
        go : (b : Bool) → is_empty f.held ≡ b → IsGone (Calls Terminate (go_on code.width nexts m.globals)) (plain (either traps (last_kept app plan f.who)) [] Fail ∷ Rattle.one_stack.specs.Rules.end_rules app plan f.who None)
        go true e =
            let served : deed_of app (scene (record m { stack = f ∷ below }) f) (Calls Terminate (go_on code.width nexts m.globals)) Go ≡ Some (Serves Terminate (go_on code.width nexts m.globals)) =
            ap (λ o. Some (serve Terminate (go_on code.width nexts m.globals) o)) (leaving_is None ∙ ap (λ b. fault_if (not b) (status 6) None) e) in
            passes (either traps (last_kept app plan f.who)) _ _ (ap (λ b. truth (if b then 1 else value_in p.width s.cells (last_kept app plan f.who))) quiet ∙ (keeps_is ∙ ap not e))
            (record {
              deed = Serves Terminate (go_on code.width nexts m.globals);
              is = served;
              fired =
                  ended Terminate None (go_on code.width nexts m.globals) (empty_is f.held e) refl meets.shaped.reached.agrees.agreed.fresh (λ t e g. absurd (let z : false ≡ true = e in cc))
                  (reaches (Serves Terminate (go_on code.width nexts m.globals)) served);
            })
        go false e =
            stops (either traps (last_kept app plan f.who)) _ _ (status 6) (Some Terminate)
            (ap (λ b. truth (if b then 1 else value_in p.width s.cells (last_kept app plan f.who))) quiet ∙ (keeps_is ∙ ap not e))
            (ap (λ o. Some (serve Terminate (go_on code.width nexts m.globals) o)) (leaving_is None ∙ ap (λ b. fault_if (not b) (status 6) None) e))
            reaches
    calls (Chain x) nexts traps quiet fits known reaches = go (is_empty f.held) refl (nat_le (app.limit x.0) (others (scene (record m { stack = f ∷ below }) f) x.0)) refl
      where
        error : ℕ
        error = value_in p.width s.cells (full_others app plan f.who x.0)

        guard_is : (a : Bool) → is_empty f.held ≡ a → truth (value_in p.width s.cells (either traps (either (last_kept app plan f.who) (full_others app plan f.who x.0)))) ≡ truth (if not a then 1 else value_in p.width s.cells (full_others app plan f.who x.0))
        guard_is a e =
            ap (λ b. truth (if b then 1 else (if truth (value_in p.width s.cells (last_kept app plan f.who)) then 1 else value_in p.width s.cells (full_others app plan f.who x.0)))) quiet
            ∙ ap (λ b. truth (if b then 1 else value_in p.width s.cells (full_others app plan f.who x.0))) (keeps_is ∙ ap not e)

        go : (a : Bool) → is_empty f.held ≡ a → (b : Bool) → nat_le (app.limit x.0) (others (scene (record m { stack = f ∷ below }) f) x.0) ≡ b → IsGone (Calls (Chain x) (go_on code.width nexts m.globals)) (plain (either traps (either (last_kept app plan f.who) (full_others app plan f.who x.0))) [] Fail ∷ Rattle.one_stack.specs.Rules.end_rules app plan f.who (Some x.0))
        go false k b e =
            stops (either traps (either (last_kept app plan f.who) (full_others app plan f.who x.0))) _ _ (status 6) (Some (Chain x))
            (guard_is false k)
            (ap (λ o. Some (serve (Chain x) (go_on code.width nexts m.globals) o)) (leaving_is (fault_if (nat_le (app.limit x.0) (others (scene (record m { stack = f ∷ below }) f) x.0)) (status 4) None) ∙ ap (λ c. fault_if (not c) (status 6) (fault_if (nat_le (app.limit x.0) (others (scene (record m { stack = f ∷ below }) f) x.0)) (status 4) None)) k))
            reaches
        go true k true e =
            stops (either traps (either (last_kept app plan f.who) (full_others app plan f.who x.0))) _ _ (status 4) (Some (Chain x))
            (guard_is true k ∙ (others_is x.0 fits ∙ e))
            (ap (λ o. Some (serve (Chain x) (go_on code.width nexts m.globals) o)) (leaving_is (fault_if (nat_le (app.limit x.0) (others (scene (record m { stack = f ∷ below }) f) x.0)) (status 4) None) ∙ (ap (λ c. fault_if (not c) (status 6) (fault_if (nat_le (app.limit x.0) (others (scene (record m { stack = f ∷ below }) f) x.0)) (status 4) None)) k ∙ ap (λ b. fault_if b (status 4) None) e)))
            reaches
        go true k false e =
            let served : deed_of app (scene (record m { stack = f ∷ below }) f) (Calls (Chain x) (go_on code.width nexts m.globals)) Go ≡ Some (Serves (Chain x) (go_on code.width nexts m.globals)) =
            ap (λ o. Some (serve (Chain x) (go_on code.width nexts m.globals) o)) (leaving_is (fault_if (nat_le (app.limit x.0) (others (scene (record m { stack = f ∷ below }) f) x.0)) (status 4) None) ∙ (ap (λ c. fault_if (not c) (status 6) (fault_if (nat_le (app.limit x.0) (others (scene (record m { stack = f ∷ below }) f) x.0)) (status 4) None)) k ∙ ap (λ b. fault_if b (status 4) None) e)) in
            passes (either traps (either (last_kept app plan f.who) (full_others app plan f.who x.0))) _ _ (guard_is true k ∙ (others_is x.0 fits ∙ e))
            (record {
              deed = Serves (Chain x) (go_on code.width nexts m.globals);
              is = served;
              fired =
                  ended (Chain x) (Some x.0) (go_on code.width nexts m.globals) (empty_is f.held k) refl (more_tasks m.fresh x.0 meets.shaped.reached.agrees.agreed.fresh fits) asked
                  (reaches (Serves (Chain x) (go_on code.width nexts m.globals)) served);
            })
          where
            asked : (t : ℕ) → is_it (Some x.0) t ≡ true → is_it (Some f.who) t ≡ false → times t (whos (f ∷ below)) + times t m.fresh < app.limit t
            asked t g h =
                let same : x.0 ≡ t = grind (arith, nat_tests) in
                let apart : (x.0 == f.who) ≡ false = grind (arith, nat_tests) in
                let room : nat_le (app.limit x.0) (times x.0 (whos (f ∷ below)) + times x.0 m.fresh) ≡ false =
                sym (ap (λ b. nat_le (app.limit x.0) (if b then times x.0 (whos (f ∷ below)) + times x.0 m.fresh - 1 else times x.0 (whos (f ∷ below)) + times x.0 m.fresh)) apart) ∙ e in
                let less : times x.0 (whos (f ∷ below)) + times x.0 m.fresh < app.limit x.0 = grind (arith, nat_tests, room) in
                subst (λ k. times k (whos (f ∷ below)) + times k m.fresh < app.limit k) same less
    calls (Get r) nexts traps quiet fits known reaches = go (any_frame (f ∷ below) r) refl
      where
        fault_is : Rattle.step_ir.specs.Services.fault_of app (scene (record m { stack = f ∷ below }) f) (Get r) ≡ fault_if (any_frame (f ∷ below) r) (status 1) None
        fault_is = ap (λ ss. fault_if (not (is_empty ss)) (fault 8) (fault_if (any_frame (f ∷ below) r) (status 1) None)) meets.shaped.sections

        held_is : truth (value_in p.width s.cells (cell app plan (Held r))) ≡ any_frame (f ∷ below) r
        held_is =
            ap truth (cell_is app plan p.width code.cells made.layout s.cells (record m { stack = f ∷ below }) meets.holds (Held r) (known r refl))
            ∙ sym (any_is r (f ∷ below))

        next : IsNext (value_in code.width m.globals) (code.points f.who) nexts
        next = next_of (value_in code.width m.globals) code.cells (code.points f.who) nexts refl fits.1.0 fits.1.1

        at : or_zero (first (value_in code.width m.globals) nexts) ≡ next.at
        at = ap or_zero next.first_is

        along : first (value_in p.width (cell_after_sets p.width s.cells [])) nexts ≡ Some next.at
        along =
            first_same (value_in p.width s.cells) (value_in code.width m.globals) code.cells nexts (λ t h. val_local p.width code.width code.cells s.cells m.globals t made.widths meets.low h) (next_terms code.cells (code.points f.who) nexts fits.1.0)
            ∙ next.first_is

        go : (b : Bool) → any_frame (f ∷ below) r ≡ b → IsGone (Calls (Get r) (go_on code.width nexts m.globals)) (plain (either traps (cell app plan (Held r))) [] Fail ∷ service_rules app plan p.width f.who (Get r) nexts)
        go true e =
            stops (either traps (cell app plan (Held r))) _ _ (status 1) (Some (Get r))
            (ap (λ b. truth (if b then 1 else value_in p.width s.cells (cell app plan (Held r)))) quiet ∙ (held_is ∙ e))
            (ap (λ o. Some (serve (Get r) (go_on code.width nexts m.globals) o)) (fault_is ∙ ap (λ b. fault_if b (status 1) None) e))
            reaches
        go false e =
            let served : deed_of app (scene (record m { stack = f ∷ below }) f) (Calls (Get r) (go_on code.width nexts m.globals)) Go ≡ Some (Serves (Get r) (go_on code.width nexts m.globals)) =
            ap (λ o. Some (serve (Get r) (go_on code.width nexts m.globals) o)) (fault_is ∙ ap (λ b. fault_if b (status 1) None) e) in
            let none : truth (held_times r (f ∷ below)) ≡ false = sym (any_is r (f ∷ below)) ∙ e in
            let free : held_times r (f ∷ below) ≡ 0 = grind (arith, nat_tests) in
            passes (either traps (cell app plan (Held r))) _ _ (ap (λ b. truth (if b then 1 else value_in p.width s.cells (cell app plan (Held r)))) quiet ∙ (held_is ∙ e))
            (record {
              deed = Serves (Get r) (go_on code.width nexts m.globals);
              is = served;
              fired =
                  subst (λ k. IsFired app code plan p s (service_rules app plan p.width f.who (Get r) nexts) (record m { stack = record f { state = k; held = r ∷ f.held } ∷ below })) (sym at)
                  (gets app sound code form plan p chosen made s m f below r next.at meets runs next.exists (known r refl) free nexts along
                  (subst (λ k. IsReached app (record m { stack = record f { state = k; held = r ∷ f.held } ∷ below })) at (reaches (Serves (Get r) (go_on code.width nexts m.globals)) served)));
            })
    calls (Activate x) nexts traps quiet fits known reaches = go (nat_le (app.limit x.0) (times x.0 (whos (f ∷ below)) + times x.0 m.fresh)) refl
      where
        fault_is : Rattle.step_ir.specs.Services.fault_of app (scene (record m { stack = f ∷ below }) f) (Activate x) ≡ fault_if (nat_le (app.limit x.0) (times x.0 (whos (f ∷ below)) + times x.0 m.fresh)) (status 4) None
        fault_is =
            ap (λ ss. fault_if (not (is_empty ss)) (fault 8) (fault_if (nat_le (app.limit x.0) (times x.0 (whos (f ∷ below)) + times x.0 m.fresh)) (status 4) None)) meets.shaped.sections

        next : IsNext (value_in code.width m.globals) (code.points f.who) nexts
        next = next_of (value_in code.width m.globals) code.cells (code.points f.who) nexts refl fits.1.0 fits.1.1

        at : or_zero (first (value_in code.width m.globals) nexts) ≡ next.at
        at = ap or_zero next.first_is

        along : first (value_in p.width (cell_after_sets p.width s.cells [])) nexts ≡ Some next.at
        along =
            first_same (value_in p.width s.cells) (value_in code.width m.globals) code.cells nexts (λ t h. val_local p.width code.width code.cells s.cells m.globals t made.widths meets.low h) (next_terms code.cells (code.points f.who) nexts fits.1.0)
            ∙ next.first_is

        -- with a settling, and without one where the caller isn't preemptive
        result : (b : Bool) → app.is_preemptive f.who ≡ b → act app (steps_of code) f below (Serves (Activate x) (go_on code.width nexts m.globals)) (record m { stack = f ∷ below }) ≡ (if b then settle app (steps_of code) (record m { stack = record f { state = next.at } ∷ below; fresh = m.fresh ++ x.0 ∷ [] }) else (record m { stack = record f { state = next.at } ∷ below; fresh = m.fresh ++ x.0 ∷ [] }))
        result b k =
            ap (λ y. if y && app.is_preemptive f.who then settle app (steps_of code) (record m { stack = record f { state = or_zero (first (value_in code.width m.globals) nexts) } ∷ below; fresh = m.fresh ++ x.0 ∷ [] }) else (record m { stack = record f { state = or_zero (first (value_in code.width m.globals) nexts) } ∷ below; fresh = m.fresh ++ x.0 ∷ [] })) task
            ∙ (ap (λ y. if y then settle app (steps_of code) (record m { stack = record f { state = or_zero (first (value_in code.width m.globals) nexts) } ∷ below; fresh = m.fresh ++ x.0 ∷ [] }) else (record m { stack = record f { state = or_zero (first (value_in code.width m.globals) nexts) } ∷ below; fresh = m.fresh ++ x.0 ∷ [] })) k
            ∙ ap (λ z. if b then settle app (steps_of code) (record m { stack = record f { state = z } ∷ below; fresh = m.fresh ++ x.0 ∷ [] }) else record m { stack = record f { state = z } ∷ below; fresh = m.fresh ++ x.0 ∷ [] }) at)

        fired : (b : Bool) → app.is_preemptive f.who ≡ b → times x.0 (whos (f ∷ below)) + times x.0 m.fresh < app.limit x.0 → IsReached app (act app (steps_of code) f below (Serves (Activate x) (go_on code.width nexts m.globals)) (record m { stack = f ∷ below })) → IsFired app code plan p s (Rattle.one_stack.specs.Rules.activate_rules app plan p.width f.who x.0 nexts) (act app (steps_of code) f below (Serves (Activate x) (go_on code.width nexts m.globals)) (record m { stack = f ∷ below }))
        fired true k room reached =
            subst (λ z. IsFired app code plan p s (Rattle.one_stack.specs.Rules.activate_rules app plan p.width f.who x.0 nexts) z) (sym (result true k))
            (activates app sound code form plan p chosen made s m f below x.0 next.at meets runs fits.0 next.exists room nexts along (subst (λ z. IsReached app z) (result true k) reached))
        fired false k room reached =
            let low : app.level x.0 ≤ app.run_level f.who = form.non_preemptive f.who x.0 task k fits.0 in
            let off : nat_lt (app.run_level f.who) (app.level x.0) ≡ false = grind (arith, nat_tests) in
            let within = current_above app f.who f.held in
            let low' : app.level x.0 ≤ current app f.who f.held = omega arith in
            subst (λ z. IsFired app code plan p s (Rattle.one_stack.specs.Rules.activate_rules app plan p.width f.who x.0 nexts) z) (sym (result false k))
            (subst (λ y. IsFired app code plan p s (if y then Rattle.one_stack.specs.Rules.guarded (Rattle.one_stack.specs.Rules.none_held app plan (app.level x.0)) (next_rules app plan p.width [] (Rattle.one_stack.specs.Rules.change_sets app plan (Rattle.one_stack.specs.Rules.pushed x.0)) (λ n. Push (plan.number f.who n) (plan.number x.0 0)) nexts) ++ (next_rules app plan p.width [] (Rattle.one_stack.specs.Rules.change_sets app plan (Rattle.one_stack.specs.Rules.added x.0)) (λ n. Goto (plan.number f.who n)) nexts) else next_rules app plan p.width [] (Rattle.one_stack.specs.Rules.change_sets app plan (Rattle.one_stack.specs.Rules.added x.0)) (λ n. Goto (plan.number f.who n)) nexts) (record m { stack = record f { state = next.at } ∷ below; fresh = m.fresh ++ x.0 ∷ [] })) (sym off)
            (waits app sound code form plan p chosen made s m f below x.0 next.at meets runs fits.0 next.exists room nexts low' along (subst (λ z. IsReached app z) (result false k) reached)))

        go : (b : Bool) → nat_le (app.limit x.0) (times x.0 (whos (f ∷ below)) + times x.0 m.fresh) ≡ b → IsGone (Calls (Activate x) (go_on code.width nexts m.globals)) (plain (either traps (full app plan x.0)) [] Fail ∷ Rattle.one_stack.specs.Rules.activate_rules app plan p.width f.who x.0 nexts)
        go true e =
            stops (either traps (full app plan x.0)) _ _ (status 4) (Some (Activate x))
            (ap (λ b. truth (if b then 1 else value_in p.width s.cells (full app plan x.0))) quiet ∙ (full_is x.0 fits.0 ∙ e))
            (ap (λ o. Some (serve (Activate x) (go_on code.width nexts m.globals) o)) (fault_is ∙ ap (λ b. fault_if b (status 4) None) e))
            reaches
        go false e =
            let served : deed_of app (scene (record m { stack = f ∷ below }) f) (Calls (Activate x) (go_on code.width nexts m.globals)) Go ≡ Some (Serves (Activate x) (go_on code.width nexts m.globals)) =
            ap (λ o. Some (serve (Activate x) (go_on code.width nexts m.globals) o)) (fault_is ∙ ap (λ b. fault_if b (status 4) None) e) in
            let room : times x.0 (whos (f ∷ below)) + times x.0 m.fresh < app.limit x.0 = grind (arith, nat_tests) in
            passes (either traps (full app plan x.0)) _ _ (ap (λ b. truth (if b then 1 else value_in p.width s.cells (full app plan x.0))) quiet ∙ (full_is x.0 fits.0 ∙ e))
            (record {
              deed = Serves (Activate x) (go_on code.width nexts m.globals);
              is = served;
              fired = fired (app.is_preemptive f.who) refl room (reaches (Serves (Activate x) (go_on code.width nexts m.globals)) served);
            })
    calls Schedule nexts traps quiet fits known reaches = absurd fits
    calls (Release r) nexts traps quiet fits known reaches = go (last_taken r f.held) refl
      where
        error : Term
        error = negated (Bin bin.Eq (last_kept app plan f.who) (Const (r + 1)))

        fault_is : Rattle.step_ir.specs.Services.fault_of app (scene (record m { stack = f ∷ below }) f) (Release r) ≡ fault_if (not (last_taken r f.held)) (status 5) None
        fault_is = ap (λ ss. fault_if (not (is_empty ss)) (fault 8) (fault_if (not (last_taken r f.held)) (status 5) None)) meets.shaped.sections

        taken_is : (hs : List ℕ) → (kept_at hs 0 == (r + 1)) ≡ last_taken r hs
        taken_is [] = grind (arith, nat_tests)
        taken_is (x ∷ xs) = grind (arith, nat_tests)

        error_is : (b : Bool) → last_taken r f.held ≡ b → truth (value_in p.width s.cells (negated (Bin bin.Eq (last_kept app plan f.who) (Const (r + 1))))) ≡ not b
        error_is b e =
            ap (λ n. truth (one_if (one_if (n == (r + 1)) == 0))) last_is ∙ (ap (λ c. truth (one_if (one_if c == 0))) (taken_is f.held ∙ e) ∙ flips b)
          where
            flips : (b : Bool) → truth (one_if (one_if b == 0)) ≡ not b
            flips true = refl
            flips false = refl

        next : IsNext (value_in code.width m.globals) (code.points f.who) nexts
        next = next_of (value_in code.width m.globals) code.cells (code.points f.who) nexts refl fits.0 fits.1

        at : or_zero (first (value_in code.width m.globals) nexts) ≡ next.at
        at = ap or_zero next.first_is

        along : first (value_in p.width (cell_after_sets p.width s.cells [])) nexts ≡ Some next.at
        along =
            first_same (value_in p.width s.cells) (value_in code.width m.globals) code.cells nexts (λ t h. val_local p.width code.width code.cells s.cells m.globals t made.widths meets.low h) (next_terms code.cells (code.points f.who) nexts fits.0)
            ∙ next.first_is

        -- with a settling, and without one where the caller isn't preemptive
        result : (b : Bool) → app.is_preemptive f.who ≡ b → act app (steps_of code) f below (Serves (Release r) (go_on code.width nexts m.globals)) (record m { stack = f ∷ below }) ≡ (if b then settle app (steps_of code) (record m { stack = record f { state = next.at; held = tail f.held } ∷ below }) else (record m { stack = record f { state = next.at; held = tail f.held } ∷ below }))
        result b k =
            ap (λ y. if y && app.is_preemptive f.who then settle app (steps_of code) (record m { stack = record f { state = or_zero (first (value_in code.width m.globals) nexts); held = tail f.held } ∷ below }) else (record m { stack = record f { state = or_zero (first (value_in code.width m.globals) nexts); held = tail f.held } ∷ below })) task
            ∙ (ap (λ y. if y then settle app (steps_of code) (record m { stack = record f { state = or_zero (first (value_in code.width m.globals) nexts); held = tail f.held } ∷ below }) else (record m { stack = record f { state = or_zero (first (value_in code.width m.globals) nexts); held = tail f.held } ∷ below })) k
            ∙ ap (λ z. if b then settle app (steps_of code) (record m { stack = record f { state = z; held = tail f.held } ∷ below }) else (record m { stack = record f { state = z; held = tail f.held } ∷ below })) at)

        fired : (hs : List ℕ) → f.held ≡ hs → last_taken r hs ≡ true → (b : Bool) → app.is_preemptive f.who ≡ b → IsReached app (act app (steps_of code) f below (Serves (Release r) (go_on code.width nexts m.globals)) (record m { stack = f ∷ below })) → IsFired app code plan p s (Rattle.one_stack.specs.Rules.release_rules app plan p.width f.who r nexts) (act app (steps_of code) f below (Serves (Release r) (go_on code.width nexts m.globals)) (record m { stack = f ∷ below }))
        fired [] is e b k reached = absurd (let z : false ≡ true = e in cc)
        fired (x ∷ xs) is e true k reached =
            let same : x ≡ r = grind (arith, nat_tests) in
            subst (λ z. IsFired app code plan p s (Rattle.one_stack.specs.Rules.release_rules app plan p.width f.who r nexts) z) (sym (result true k))
            (releases app sound code form plan p chosen made s m f below r next.at xs meets runs next.exists (is ∙ ap (λ z. z ∷ xs) same) nexts along (subst (λ z. IsReached app z) (result true k) reached))
        fired (x ∷ xs) is e false k reached =
            let same : x ≡ r = grind (arith, nat_tests) in
            subst (λ z. IsFired app code plan p s (Rattle.one_stack.specs.Rules.release_rules app plan p.width f.who r nexts) z) (sym (result false k))
            (keeps_on app sound code form plan p chosen made s m f below r next.at xs meets runs next.exists (is ∙ ap (λ z. z ∷ xs) same) nexts (λ t h. form.non_preemptive f.who t task k h) along (subst (λ z. IsReached app z) (result false k) reached))

        go : (b : Bool) → last_taken r f.held ≡ b → IsGone (Calls (Release r) (go_on code.width nexts m.globals)) (plain (either traps (negated (Bin bin.Eq (last_kept app plan f.who) (Const (r + 1))))) [] Fail ∷ Rattle.one_stack.specs.Rules.release_rules app plan p.width f.who r nexts)
        go false e =
            stops (either traps (negated (Bin bin.Eq (last_kept app plan f.who) (Const (r + 1))))) _ _ (status 5) (Some (Release r))
            (ap (λ b. truth (if b then 1 else value_in p.width s.cells (negated (Bin bin.Eq (last_kept app plan f.who) (Const (r + 1)))))) quiet ∙ error_is false e)
            (ap (λ o. Some (serve (Release r) (go_on code.width nexts m.globals) o)) (fault_is ∙ ap (λ b. fault_if (not b) (status 5) None) e))
            reaches
        go true e =
            let served : deed_of app (scene (record m { stack = f ∷ below }) f) (Calls (Release r) (go_on code.width nexts m.globals)) Go ≡ Some (Serves (Release r) (go_on code.width nexts m.globals)) =
            ap (λ o. Some (serve (Release r) (go_on code.width nexts m.globals) o)) (fault_is ∙ ap (λ b. fault_if (not b) (status 5) None) e) in
            passes (either traps (negated (Bin bin.Eq (last_kept app plan f.who) (Const (r + 1))))) _ _ (ap (λ b. truth (if b then 1 else value_in p.width s.cells (negated (Bin bin.Eq (last_kept app plan f.who) (Const (r + 1)))))) quiet ∙ error_is true e)
            (record {
              deed = Serves (Release r) (go_on code.width nexts m.globals);
              is = served;
              fired = fired f.held refl e (app.is_preemptive f.who) refl (reaches (Serves (Release r) (go_on code.width nexts m.globals)) served);
            })
    calls DisableAll nexts traps quiet fits known reaches = absurd fits
    calls EnableAll nexts traps quiet fits known reaches = absurd fits
    calls SuspendAll nexts traps quiet fits known reaches = absurd fits
    calls ResumeAll nexts traps quiet fits known reaches = absurd fits
    calls SuspendOs nexts traps quiet fits known reaches = absurd fits
    calls ResumeOs nexts traps quiet fits known reaches = absurd fits

    none_set : (q : ℕ) → code.cells ≤ q → value_set p.width s.cells [] q ≡ None
    none_set q h = refl

    acts : (action : PlainAction) (nexts : List (Term × ℕ)) (traps : Term) → truth (value_in p.width s.cells traps) ≡ false → FitsAction app resources code (code.points f.who) nexts action → ((r : ℕ) → action ≡ Invoke (Get r) → r < plan.resources) → Reaches (points.act code.width action nexts m.globals) → IsGone (points.act code.width action nexts m.globals) (plain (either traps (action_error app plan f.who action)) [] Fail ∷ action_rules app plan p.width f.who action nexts)
    acts (Read t into) nexts traps quiet fits known reaches =
        passes (either traps (Const 0)) _ _ (ap (λ b. truth (if b then 1 else 0)) quiet)
        (own_step _ ((into, Pick t.base t.len false (index_term t.index)) ∷ []) _ nexts fits.2
        (whole_set code.cells p.width code.width s.cells m.globals same into (Pick t.base t.len false (index_term t.index)) _ (read_is code.cells p.width code.width s.cells m.globals same t fits.0)
        (subst (λ w. (if inside (value_in code.width m.globals) t then m.globals (cell_of (value_in code.width m.globals) t) else 0) < limit_of w) (sym fits.1.1) (read_small code.cells p.width code.width s.cells m.globals same t fits.0)))
        (one_low code.cells p.width code.width s.cells m.globals same into (Pick t.base t.len false (index_term t.index)) fits.1.0)
        reaches)
    acts (Write t term) nexts traps quiet fits known reaches =
        passes (either traps (Const 0)) _ _ (ap (λ b. truth (if b then 1 else 0)) quiet)
        (own_step _ (write_sets t.base (index_term t.index) term t.len) _ nexts fits.2
        (write_is code.cells p.width code.width s.cells m.globals same t term fits.0 fits.1)
        (write_low code.cells p.width code.width s.cells m.globals same t.base (index_term t.index) term t.len fits.0.1)
        reaches)
    acts (Local q term) nexts traps quiet fits known reaches =
        passes (either traps (Const 0)) _ _ (ap (λ b. truth (if b then 1 else 0)) quiet)
        (own_step _ ((q, term) ∷ []) _ nexts fits.2
        (one_set code.cells p.width code.width s.cells m.globals same q term _ (same_val code.cells p.width code.width s.cells m.globals same term fits.1))
        (one_low code.cells p.width code.width s.cells m.globals same q term fits.0)
        reaches)
    acts (Branch term) nexts traps quiet fits known reaches =
        passes (either traps (Const 0)) _ _ (ap (λ b. truth (if b then 1 else 0)) quiet)
        (own_step _ [] m.globals nexts fits.1 meets.low none_set reaches)
    acts (Input q) nexts traps quiet fits known reaches = absurd fits
    acts (Call g sets) nexts traps quiet fits known reaches =
        passes (either traps (Const 0)) _ _ (ap (λ b. truth (if b then 1 else 0)) quiet)
        (own_step _ sets _ nexts fits.1
        (sets_after code.cells p.width code.width s.cells m.globals same sets fits.0)
        (sets_low code.cells p.width code.width s.cells m.globals same sets fits.0)
        reaches)
    acts (Return None) nexts traps quiet fits known reaches =
        passes (either traps (Const 0)) _ _ (ap (λ b. truth (if b then 1 else 0)) quiet)
        (own_step _ [] m.globals nexts fits.1 meets.low none_set reaches)
    acts (Return (Some x)) nexts traps quiet fits known reaches =
        passes (either traps (Const 0)) _ _ (ap (λ b. truth (if b then 1 else 0)) quiet)
        (own_step _ (x ∷ []) _ nexts fits.1
        (one_set code.cells p.width code.width s.cells m.globals same x.0 x.1 _ (same_val code.cells p.width code.width s.cells m.globals same x.1 fits.0.1))
        (one_low code.cells p.width code.width s.cells m.globals same x.0 x.1 fits.0.0)
        reaches)
    acts (Invoke service) nexts traps quiet fits known reaches = calls service nexts traps quiet fits (λ r e. known r (ap Invoke e)) reaches
    acts (Assert term) nexts traps quiet fits known reaches = go (truth (value_in code.width m.globals term)) refl reaches
      where
        here : value_in p.width s.cells term ≡ value_in code.width m.globals term
        here = same_val code.cells p.width code.width s.cells m.globals same term fits.0

        go : (b : Bool) → truth (value_in code.width m.globals term) ≡ b → Reaches (if b then Does Told.Assert (go_on code.width nexts m.globals) else Fails (fault 1)) → IsGone (if b then Does Told.Assert (go_on code.width nexts m.globals) else Fails (fault 1)) (plain (either traps (negated term)) [] Fail ∷ goes_on app plan p.width f.who [] nexts)
        go true e r =
            passes (either traps (negated term)) _ _
            (ap (λ b. truth (if b then 1 else value_in p.width s.cells (negated term))) quiet ∙ negated_true (value_in p.width s.cells term) (ap truth here ∙ e))
            (own_step Told.Assert [] m.globals nexts fits.1 meets.low none_set r)
        go false e r =
            stops (either traps (negated term)) _ _ (fault 1) None
            (ap (λ b. truth (if b then 1 else value_in p.width s.cells (negated term))) quiet ∙ negated_false (value_in p.width s.cells term) (ap truth here ∙ e))
            refl r
    acts End nexts traps quiet fits known reaches =
        stops (either traps (Const 1)) _ _ (fault 7) None
        (ap (λ b. truth (if b then 1 else 1)) quiet)
        (ap (λ b. Some (if b then Stops (fault 7) None else (if is_empty m.sections && is_empty f.held then Rattle.step_ir.specs.Deeds.Leaves else Stops (fault 9) None))) task)
        reaches

    -- a trap of the form takes no word
    no_input : (action : PlainAction) (nexts : List (Term × ℕ)) (failure : Failure) → FitsAction app resources code (code.points f.who) nexts action → points.fails code.width action failure ≡ Fails failure
    no_input (Read t into) nexts failure fits = refl
    no_input (Write t term) nexts failure fits = refl
    no_input (Local q term) nexts failure fits = refl
    no_input (Branch term) nexts failure fits = refl
    no_input (Input q) nexts failure fits = absurd fits
    no_input (Call g sets) nexts failure fits = refl
    no_input (Return set) nexts failure fits = refl
    no_input (Invoke service) nexts failure fits = refl
    no_input (Assert term) nexts failure fits = refl
    no_input End nexts failure fits = refl

    -- the step of the top's point
    pub tops : (point : PlainPoint) → ((r : ℕ) → point.action ≡ Invoke (Get r) → r < plan.resources) → FitsPoint app resources code (code.points f.who) point → Reaches (unless code.width (first (value_in code.width m.globals) point.traps) point m.globals) → IsGone (unless code.width (first (value_in code.width m.globals) point.traps) point m.globals) (point_rules app plan p.width f.who point)
    tops point known fits reaches = go (first (value_in code.width m.globals) point.traps) refl reaches
      where
        trap_is : truth (value_in p.width s.cells (any_of point.traps)) ≡ counts (first (value_in code.width m.globals) point.traps)
        trap_is =
            any_of_is p.width s.cells point.traps
            ∙ ap counts (first_same (value_in p.width s.cells) (value_in code.width m.globals) code.cells point.traps (λ t h. val_local p.width code.width code.cells s.cells m.globals t made.widths meets.low h) fits.traps)

        go : (o : Option ℕ) → first (value_in code.width m.globals) point.traps ≡ o → Reaches (unless code.width o point m.globals) → IsGone (unless code.width o point m.globals) (point_rules app plan p.width f.who point)
        go None e r = acts point.action point.nexts (any_of point.traps) (trap_is ∙ ap counts e) fits.action known r
        go (Some k) e r =
            let same_want = no_input point.action point.nexts (fault k) fits.action in
            subst (λ want. IsGone want (point_rules app plan p.width f.who point)) (sym same_want)
            (stops (either (any_of point.traps) (action_error app plan f.who point.action)) _ _ (fault k) None
            (ap (λ b. truth (if b then 1 else value_in p.width s.cells (action_error app plan f.who point.action))) (trap_is ∙ ap counts e))
            refl (subst (λ want. Reaches want) same_want r))
