-- A state of the guarded program and one of the one-stack machine that meet, and the changes that keep it.
use Rattle.std.proofs.Common.{◌≡◌, ◌≢◌, ℕ, zero, suc, ◌+◌, ◌-◌, ◌<◌, ◌≤◌, ◌%◌, Bool, true, false, List, [], ◌∷◌, ◌++◌, length, Some, None, refl, sym, ap, ap₂, subst, ◌∙◌, arith, nat_lt, ◌==◌, if◌then◌else◌, append-nil, slice_get}
use Rattle.std.proofs.lemmas.Bool.Decides.{nat_tests}
use Rattle.std.specs.Prelude.{unwrap_or}
use Rattle.chk_base.specs.Term.{Term}
use Rattle.chk_base.specs.Widths.{limit_of}
use Rattle.guard_prog.specs.GuardedRun.{Program, State as Standing, value_in, cell_after_sets, value_set, stack_after, is_fail}
use Rattle.guard_prog.specs.declared.draft.Control.TheVariants.{Goto, Fail}
use Rattle.one_stack.proofs.Kept.{IsLayout, IsChange, holds_after, limit_positive}
use Rattle.one_stack.proofs.Slots.{IsValid, change_low}
use Rattle.one_stack.specs.Built.{view, places, held_times, held_of, kept_at}
use Rattle.one_stack.specs.PlainCode.{PlainCode}
use Rattle.one_stack.specs.Rules.{Slot, On, Count, Waits, Held, Kept, Plan, Rule, Change, is_it, is_second, change_sets, point_alternatives}
use Rattle.one_stack.specs.TaskForm.{Has}
use Rattle.step_ir.proofs.Counting.{length_at_most}
use Rattle.step_ir.specs.Agreement.{fresh_at, Agrees}
use Rattle.step_ir.specs.Numbers.{times, AreUnder}
use Rattle.step_ir.specs.OneStackMachine.{Stacked, Frame, whos, level_of_top}
use Rattle.step_ir.specs.PointStep.{Bits}
use Rattle.step_ir.specs.Points.{PlainPoint, Invoke}
use Rattle.step_ir.specs.SchedulerState.{State}
use Rattle.step_ir.specs.Setting.{Setting, AreTasks}
use Rattle.step_ir.specs.declared.event.Choice.TheVariants.{Go}
use Rattle.step_ir.specs.declared.event.Choice.{Choice}
use Rattle.step_ir.specs.declared.event.Service.TheVariants.{Get}

-- the program has these points, cells and labels
pub record IsProgram (app : Setting) (code : PlainCode) (plan : Plan) (p : Program) (chosen : ℕ → ℕ → Choice) : Type 0 where
  pub layout : IsLayout app plan p.width code.cells
  pub widths : (q : ℕ) → q < code.cells → p.width q ≡ code.width q
  pub idle : p.points 0 ≡ []
  pub at : (e n : ℕ) (point : PlainPoint) → slice_get (code.points e) n ≡ Some point → p.points (plan.number e n) ≡ point_alternatives app plan p.width e point
  pub depth : app.entities ≤ p.depth
  pub resources : (e n : ℕ) (point : PlainPoint) (r : ℕ) → slice_get (code.points e) n ≡ Some point → point.action ≡ Invoke (Get r) → r < plan.resources
  pub labels : (e k : ℕ) → chosen (plan.label e k) 0 ≡ Go
  pub rooms : (fresh : List ℕ) → AreTasks app fresh → ((t : ℕ) → t < plan.tasks → times t fresh ≤ app.limit t) → (l : ℕ) → length (fresh_at app l fresh) ≤ plan.room l

-- nobody yielded, and the resources that are held exist
abbrev pub ArePlain : ℕ → List (Frame ℕ) → Type 0
ArePlain n [] = Unit {0}
ArePlain n (f ∷ fs) = (f.yielded ≡ false) × AreUnder n f.held × ArePlain n fs

abbrev pub AreKnown : PlainCode → List (Frame ℕ) → Type 0
AreKnown code [] = Unit {0}
AreKnown code (f ∷ fs) = Has (code.points f.who) f.state × AreKnown code fs

-- the machine's state agrees with one of the standard's scheduler
pub record IsReached (app : Setting) (m : Stacked ℕ Bits) : Type 0 where
  pub state : State ℕ Bits
  pub agrees : Agrees app state m

-- what holds of the machine's states in the task form
pub record IsShaped (app : Setting) (code : PlainCode) (plan : Plan) (m : Stacked ℕ Bits) : Type 0 where
  pub limits : (t : ℕ) → t < plan.tasks → times t (whos m.stack) + times t m.fresh ≤ app.limit t
  pub plain : ArePlain plan.resources m.stack
  -- nobody holds what another holds, nor anything twice
  pub single : (r : ℕ) → held_times r m.stack ≤ 1
  pub sections : m.sections ≡ []
  -- no request waits above the top
  pub calm : (l : ℕ) → level_of_top app m.stack < l → fresh_at app l m.fresh ≡ []
  pub known : AreKnown code m.stack
  pub reached : IsReached app m

-- the two states meet
pub record Meets (app : Setting) (code : PlainCode) (plan : Plan) (p : Program) (s : Standing) (m : Stacked ℕ Bits) : Type 0 where
  pub failed : s.is_failed ≡ m.is_stopped
  pub stack : s.stack ≡ places plan m.stack
  pub low : (q : ℕ) → q < code.cells → s.cells q ≡ m.globals q
  pub fits : (q : ℕ) → q < code.cells → s.cells q < limit_of (p.width q)
  pub holds : (slot : Slot) → IsValid app plan slot → s.cells (plan.place slot) ≡ view app plan m slot
  pub shaped : IsShaped app code plan m

-- the state after a rule
abbrev pub after_rule : Program → Standing → Rule → List ℕ → Standing
after_rule p s r stack =
    record {
      cells = if is_fail r.control then s.cells else cell_after_sets p.width s.cells r.sets;
      stack = stack;
      is_failed = is_fail r.control;
    }

-- this rule leads from one state to another that meets the machine's
pub record IsLed (app : Setting) (code : PlainCode) (plan : Plan) (p : Program) (s : Standing) (r : Rule) (m : Stacked ℕ Bits) : Type 0 where
  pub plainly : r.input ≡ None
  pub stack : List ℕ
  pub leads : stack_after p.depth r.control s.stack ≡ Some stack
  pub meets : Meets app code plan p (after_rule p s r stack) m

module _ (app : Setting) (code : PlainCode) (plan : Plan) (p : Program) (chosen : ℕ → ℕ → Choice) (made : IsProgram app code plan p chosen) where
  -- values fit their cells after sets
  pub fits_after : (c : ℕ → ℕ) (sets : List (ℕ × Term)) → ((q : ℕ) → q < code.cells → c q < limit_of (p.width q)) → (q : ℕ) → q < code.cells → cell_after_sets p.width c sets q < limit_of (p.width q)
  fits_after c [] h q lt = h q lt
  fits_after c (s ∷ ss) h q lt = go (s.0 == q) (fits_after c ss h q lt)
    where
      go : (b : Bool) → unwrap_or (value_set p.width c ss q) (c q) < limit_of (p.width q) → unwrap_or (if b then Some (value_in p.width c s.1 % limit_of (p.width q)) else value_set p.width c ss q) (c q) < limit_of (p.width q)
      go true ih =
          let some = limit_positive (p.width q) in
          omega arith
      go false ih = ih

  pub rooms_of : (m : Stacked ℕ Bits) → IsShaped app code plan m → (l : ℕ) → length (fresh_at app l m.fresh) ≤ plan.room l
  rooms_of m sh l =
      made.rooms m.fresh sh.reached.agrees.agreed.fresh (λ t lt. let all = sh.limits t lt in omega arith) l

  -- nobody holds more than there is
  times_at : (e r : ℕ) (fs : List (Frame ℕ)) → times r (held_of e fs) ≤ held_times r fs
  times_at e r [] = omega arith
  times_at e r (g ∷ gs) = go (g.who == e) (times_at e r gs)
    where
      go : (b : Bool) → times r (held_of e gs) ≤ held_times r gs → times r (if b then g.held else held_of e gs) ≤ times r g.held + held_times r gs
      go true ih = omega arith
      go false ih = omega arith

  under : (e : ℕ) (fs : List (Frame ℕ)) → ArePlain plan.resources fs → AreUnder plan.resources (held_of e fs)
  under e [] h = tt
  under e (g ∷ gs) h = go (g.who == e) (under e gs h.2)
    where
      go : (b : Bool) → AreUnder plan.resources (held_of e gs) → AreUnder plan.resources (if b then g.held else held_of e gs)
      go true ih = h.1
      go false ih = ih

  short : (m : Stacked ℕ Bits) → IsShaped app code plan m → (e : ℕ) → length (held_of e m.stack) ≤ plan.resources
  short m sh e =
      let bound = length_at_most plan.resources 1 (held_of e m.stack) (under e m.stack sh.plain) (λ q. let a = times_at e q m.stack in let b = sh.single q in omega arith) in
      omega arith

  codes : (fs : List (Frame ℕ)) → ArePlain plan.resources fs → (e i : ℕ) → kept_at (held_of e fs) i ≤ plan.resources
  codes fs h e i = go (held_of e fs) i (under e fs h)
    where
      go : (rs : List ℕ) (i : ℕ) → AreUnder plan.resources rs → kept_at rs i ≤ plan.resources
      go [] i a = omega arith
      go (x ∷ xs) zero a = let b = a.0 in omega arith
      go (x ∷ xs) (suc i) a = go xs i a.1

  -- a failure
  pub fails : (s : Standing) (m : Stacked ℕ Bits) (f : Frame ℕ) (below : List (Frame ℕ)) (guard : Term) → Meets app code plan p s (record m { stack = f ∷ below }) → IsReached app (record m { stack = f ∷ below; is_stopped = true }) → IsLed app code plan p s (record { guard = guard; sets = []; control = Fail; input = None }) (record m { stack = f ∷ below; is_stopped = true })
  fails s m f below guard meets reached =
      record {
        plainly = refl;
        stack = places plan (f ∷ below);
        leads = ap (stack_after p.depth Fail) meets.stack;
        meets =
            record {
              failed = refl;
              stack = refl;
              low = meets.low;
              fits = meets.fits;
              holds = meets.holds;
              shaped =
                  record {
                    limits = meets.shaped.limits;
                    plain = meets.shaped.plain;
                    single = meets.shaped.single;
                    sections = meets.shaped.sections;
                    calm = meets.shaped.calm;
                    known = meets.shaped.known;
                    reached = reached;
                  };
            };
      }

  -- the top's own step
  pub goes : (s : Standing) (m : Stacked ℕ Bits) (f : Frame ℕ) (below : List (Frame ℕ)) (guard : Term) (own : List (ℕ × Term)) (n : ℕ) (bits : Bits) → m.is_stopped ≡ false → Has (code.points f.who) n → ((q : ℕ) → q < code.cells → cell_after_sets p.width s.cells own q ≡ bits q) → ((q : ℕ) → code.cells ≤ q → value_set p.width s.cells own q ≡ None) → Meets app code plan p s (record m { stack = f ∷ below }) → IsReached app (record m { globals = bits; stack = record f { state = n } ∷ below }) → IsLed app code plan p s (record { guard = guard; sets = own ++ []; control = Goto (plan.number f.who n); input = None }) (record m { globals = bits; stack = record f { state = n } ∷ below })
  goes s m f below guard own n bits runs has same above meets reached =
      record {
        plainly = refl;
        stack = places plan (record f { state = n } ∷ below);
        leads = ap (stack_after p.depth (Goto (plan.number f.who n))) meets.stack;
        meets =
            record {
              failed = sym runs;
              stack = refl;
              low = λ q lt. ap (λ xs. cell_after_sets p.width s.cells xs q) (append-nil own) ∙ same q lt;
              fits = fits_after s.cells (own ++ []) meets.fits;
              holds =
                  λ slot v.
                  ap (λ xs. cell_after_sets p.width s.cells xs (plan.place slot)) (append-nil own)
                  ∙ (ap (λ o. unwrap_or o (s.cells (plan.place slot))) (above (plan.place slot) (made.layout.apart.above slot v)) ∙ (meets.holds slot v ∙ seen slot));
              shaped =
                  record {
                    limits = meets.shaped.limits;
                    plain = meets.shaped.plain;
                    single = meets.shaped.single;
                    sections = meets.shaped.sections;
                    calm = meets.shaped.calm;
                    known = (has, meets.shaped.known.1);
                    reached = reached;
                  };
            };
      }
    where
      seen : (slot : Slot) → view app plan (record m { stack = f ∷ below }) slot ≡ view app plan (record m { globals = bits; stack = record f { state = n } ∷ below }) slot
      seen (On x) = refl
      seen (Count t) = refl
      seen (Waits l i) = refl
      seen (Held r) = refl
      seen (Kept e i) = refl

  -- a change of the scheduler's state
  pub changes : (s : Standing) (m m' : Stacked ℕ Bits) (c : Change) → Meets app code plan p s m → IsChange app plan c m m' → ((q : ℕ) → m'.globals q ≡ m.globals q) → m'.is_stopped ≡ false → IsShaped app code plan m' → Meets app code plan p (record { cells = cell_after_sets p.width s.cells (change_sets app plan c); stack = places plan m'.stack; is_failed = false }) m'
  changes s m m' c meets change globals runs shaped =
      record {
        failed = sym runs;
        stack = refl;
        low =
            λ q lt.
            ap (λ o. unwrap_or o (s.cells q)) (change_low p.width s.cells app plan code.cells made.layout.apart c q lt)
            ∙ (meets.low q lt ∙ sym (globals q));
        fits = fits_after s.cells (change_sets app plan c) meets.fits;
        holds =
            holds_after app plan p.width code.cells made.layout s.cells m meets.holds m' c [] change shaped.reached.agrees.agreed.fresh meets.shaped.limits shaped.limits
            (λ l le. rooms_of m meets.shaped l)
            (λ e. short m meets.shaped e)
            (λ e i. codes m'.stack shaped.plain e i)
            (λ q le. refl);
        shaped = shaped;
      }

  -- the requests after a change are within the limits
  pub limits_after : (m m' : Stacked ℕ Bits) (c : Change) → IsShaped app code plan m → IsChange app plan c m m' → (t : ℕ) → t < plan.tasks → times t (whos m'.stack) + times t m'.fresh ≤ app.limit t
  limits_after m m' c shaped change t lt = go (is_it c.asks t) refl (is_it c.ends t) refl
    where
      go : (a : Bool) → is_it c.asks t ≡ a → (b : Bool) → is_it c.ends t ≡ b → times t (whos m'.stack) + times t m'.fresh ≤ app.limit t
      go a e b g =
          let is : times t (whos m'.stack) + times t m'.fresh ≡ (if a then (if b then times t (whos m.stack) + times t m.fresh else times t (whos m.stack) + times t m.fresh + 1) else (if b then times t (whos m.stack) + times t m.fresh - 1 else times t (whos m.stack) + times t m.fresh)) =
          change.count t lt ∙ ap₂ (λ x y. if x then (if y then times t (whos m.stack) + times t m.fresh else times t (whos m.stack) + times t m.fresh + 1) else (if y then times t (whos m.stack) + times t m.fresh - 1 else times t (whos m.stack) + times t m.fresh)) e g in
          cases a b e g is
        where
          cases : (a b : Bool) → is_it c.asks t ≡ a → is_it c.ends t ≡ b → times t (whos m'.stack) + times t m'.fresh ≡ (if a then (if b then times t (whos m.stack) + times t m.fresh else times t (whos m.stack) + times t m.fresh + 1) else (if b then times t (whos m.stack) + times t m.fresh - 1 else times t (whos m.stack) + times t m.fresh)) → times t (whos m'.stack) + times t m'.fresh ≤ app.limit t
          cases true true e g is = let h = shaped.limits t lt in omega arith
          cases true false e g is = let h = change.asked t e g in omega arith
          cases false true e g is = let h = shaped.limits t lt in omega arith
          cases false false e g is = let h = shaped.limits t lt in omega arith

  -- and so are the resources
  pub single_after : (m m' : Stacked ℕ Bits) (c : Change) → IsShaped app code plan m → IsChange app plan c m m' → ArePlain plan.resources m'.stack → (r : ℕ) → held_times r m'.stack ≤ 1
  single_after m m' c shaped change plain r = cases (nat_lt r plan.resources) refl
    where
      go : (a b : Bool) → (if a then 1 else (if b then 0 else held_times r m.stack)) ≤ 1
      go true b = omega arith
      go false true = omega arith
      go false false = shaped.single r

      off : (fs : List (Frame ℕ)) → ArePlain plan.resources fs → plan.resources ≤ r → held_times r fs ≡ 0
      off [] h le = refl
      off (g ∷ gs) h le =
          let one = none g.held h.1 in
          let rest = off gs h.2 le in
          omega arith
        where
          none : (rs : List ℕ) → AreUnder plan.resources rs → times r rs ≡ 0
          none [] a = refl
          none (x ∷ xs) a =
              let b = a.0 in
              let ih = none xs a.1 in
              let differ : x ≢ r = λ z. absurd (omega arith) in
              grind (arith, nat_tests)

      cases : (b : Bool) → nat_lt r plan.resources ≡ b → held_times r m'.stack ≤ 1
      cases true e =
          let lt : r < plan.resources = grind (arith, nat_tests) in
          subst (λ k. k ≤ 1) (sym (change.held r lt)) (go (is_second c.gets r) (is_second c.releases r))
      cases false e =
          let le : plan.resources ≤ r = grind (arith, nat_tests) in
          let none = off m'.stack plain le in
          omega arith
