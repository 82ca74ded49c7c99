-- A resource is taken.
use Rattle.std.proofs.Common.{◌≡◌, ℕ, ◌+◌, ◌<◌, Bool, true, false, not, ◌||◌, List, [], ◌∷◌, Some, refl, sym, ap, ap₂, subst, ◌∙◌, arith, ◌==◌, if◌then◌else◌}
use Rattle.std.proofs.lemmas.Bool.Decides.{nat_tests}
use Rattle.application.specs.Levels.{has_number}
use Rattle.chk_base.specs.Operators.{truth}
use Rattle.chk_base.specs.Term.{Term}
use Rattle.guard_prog.specs.GuardedRun.{Program, State as Standing, value_in, cell_after_sets, stack_after}
use Rattle.guard_prog.specs.declared.draft.Control.TheVariants.{Goto}
use Rattle.one_stack.proofs.Ends.{IsFired}
use Rattle.one_stack.proofs.Kept.{IsChange}
use Rattle.one_stack.proofs.Meeting.{IsProgram, IsReached, Meets, changes, single_after}
use Rattle.one_stack.proofs.Own.{next_fires}
use Rattle.one_stack.specs.Built.{places, held_times, held_of}
use Rattle.one_stack.specs.PlainCode.{PlainCode}
use Rattle.one_stack.specs.Rules.{Plan, change_sets, plain, got, next_rules}
use Rattle.one_stack.specs.TaskForm.{Has, IsTaskForm}
use Rattle.step_ir.specs.Numbers.{times}
use Rattle.step_ir.specs.OneStackMachine.{Stacked, Frame, any_frame}
use Rattle.step_ir.specs.PointStep.{Bits, first}
use Rattle.step_ir.specs.Setting.{Setting, current, IsSound}
use Rattle.step_ir.specs.declared.event.Choice.{Choice}

pub has_is : (r : ℕ) (rs : List ℕ) → has_number rs r ≡ truth (times r rs)
has_is r [] = refl
has_is r (x ∷ xs) = go (x == r) (has_is r xs)
  where
    go : (b : Bool) → has_number xs r ≡ truth (times r xs) → (b || has_number xs r) ≡ truth (if b then times r xs + 1 else times r xs)
    go true ih = let z : (times r xs + 1 == 0) ≡ false = grind (arith, nat_tests) in ap not (sym z)
    go false ih = ih

truth-add : (a b : ℕ) → (truth a || truth b) ≡ truth (a + b)
truth-add a b = grind (arith, nat_tests)

-- a resource is held by someone
pub any_is : (r : ℕ) (fs : List (Frame ℕ)) → any_frame fs r ≡ truth (held_times r fs)
any_is r [] = refl
any_is r (f ∷ fs) =
    ap₂ (λ a b. a || b) (has_is r f.held) (any_is r fs) ∙ truth-add (times r f.held) (held_times r fs)

module _ (app : Setting) (sound : IsSound app) (code : PlainCode) {resources : ℕ} (form : IsTaskForm app resources code) (plan : Plan) (p : Program) (chosen : ℕ → ℕ → Choice) (made : IsProgram app code plan p chosen) where
  module _ (s : Standing) (m : Stacked ℕ Bits) (f : Frame ℕ) (below : List (Frame ℕ)) (r n : ℕ) (meets : Meets app code plan p s (record m { stack = f ∷ below })) (runs : m.is_stopped ≡ false) (has_next : Has (code.points f.who) n) (known : r < plan.resources) (free : held_times r (f ∷ below) ≡ 0) where
    got_change : IsChange app plan (got f.who r) (record m { stack = f ∷ below }) (record m { stack = record f { state = n; held = r ∷ f.held } ∷ below })
    got_change =
        record {
          on = λ y lt. refl;
          count = λ y lt. refl;
          waits = λ l. refl;
          held = λ q lt. held q (r == q) refl;
          kept = λ e lt. kept e (f.who == e);
          ended = λ y e. absurd (let z : false ≡ true = e in cc);
          asked = λ y e. absurd (let z : false ≡ true = e in cc);
        }
      where
        held : (q : ℕ) (b : Bool) → (r == q) ≡ b → (if b then times q f.held + 1 else times q f.held) + held_times q below ≡ (if b then 1 else times q f.held + held_times q below)
        held q true k =
            let same : r ≡ q = grind (arith, nat_tests) in
            let none : times q f.held + held_times q below ≡ 0 = subst (λ z. times z f.held + held_times z below ≡ 0) same free in
            omega arith
        held q false k = refl

        kept : (e : ℕ) (b : Bool) → (if b then r ∷ f.held else held_of e below) ≡ (if b then r ∷ (if b then f.held else held_of e below) else (if b then f.held else held_of e below))
        kept e true = refl
        kept e false = refl

    pub gets : (nexts : List (Term × ℕ)) → first (value_in p.width (cell_after_sets p.width s.cells [])) nexts ≡ Some n → IsReached app (record m { stack = record f { state = n; held = r ∷ f.held } ∷ below }) → IsFired app code plan p s (next_rules app plan p.width [] (change_sets app plan (got f.who r)) (λ k. Goto (plan.number f.who k)) nexts) (record m { stack = record f { state = n; held = r ∷ f.held } ∷ below })
    gets nexts next reached =
        let fires = next_fires app plan p.width s.cells [] (change_sets app plan (got f.who r)) (λ k. Goto (plan.number f.who k)) nexts n next in
        record {
          rule = plain fires.guard (change_sets app plan (got f.who r)) (Goto (plan.number f.who n));
          first = fires.is;
          led =
              record {
                plainly = refl;
                stack = places plan (record f { state = n; held = r ∷ f.held } ∷ below);
                leads = ap (stack_after p.depth (Goto (plan.number f.who n))) meets.stack;
                meets =
                    changes app code plan p chosen made s (record m { stack = f ∷ below }) (record m { stack = record f { state = n; held = r ∷ f.held } ∷ below }) (got f.who r) meets got_change (λ q. refl) runs
                    (record {
                      limits = meets.shaped.limits;
                      plain = (meets.shaped.plain.0, (known, meets.shaped.plain.1), meets.shaped.plain.2);
                      single = single_after app code plan p chosen made (record m { stack = f ∷ below }) (record m { stack = record f { state = n; held = r ∷ f.held } ∷ below }) (got f.who r) meets.shaped got_change (meets.shaped.plain.0, (known, meets.shaped.plain.1), meets.shaped.plain.2);
                      sections = meets.shaped.sections;
                      calm =
                          λ l above.
                          let higher : current app f.who f.held < l = omega arith in
                          meets.shaped.calm l higher;
                      known = (has_next, meets.shaped.known.1);
                      reached = reached;
                    });
              };
        }
