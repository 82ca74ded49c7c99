-- Lemmas on stacks whose levels rise.
use Rattle.std.proofs.Common.{◌≡◌, ◌≢◌, ℕ, ◌<◌, ◌≤◌, List, [], ◌∷◌, refl, ap, ◌∙◌, arith}
use Rattle.std.proofs.lemmas.Bool.Decides.{nat_tests}
use Rattle.step_ir.specs.Agreement.{AllBelow, preempted_at, Rises, Matches}
use Rattle.step_ir.specs.Numbers.{times}
use Rattle.step_ir.specs.OneStackMachine.{Frame, standing, standing_of_top, whos}
use Rattle.step_ir.specs.SchedulerState.{Preempted}
use Rattle.step_ir.specs.Setting.{Setting, current, IsSound}

-- a current level is at least the run level
pub current_above : (app : Setting) (e : ℕ) (held : List ℕ) → app.run_level e ≤ current app e held
current_above app e [] = omega arith
current_above app e (r ∷ rs) = omega (arith, current_above app e rs)

-- no current level is above the top
pub current_in_range : (app : Setting) → IsSound app → (e : ℕ) (held : List ℕ) → current app e held ≤ app.top
current_in_range app ok e [] = ok.run_levels e
current_in_range app ok e (r ∷ rs) = omega (arith, current_in_range app ok e rs, ok.ceilings r)

-- a standing level is at least the own level
pub standing_above : {S : Type 0} (app : Setting) → IsSound app → (f : Frame S) → app.level f.who ≤ standing app f
standing_above app ok f =
    let a : app.run_level f.who ≤ current app f.who f.held = current_above app f.who f.held in
    let b : app.level f.who ≤ app.run_level f.who = ok.runs_above f.who in
    grind (arith, nat_tests)

-- no standing level is above the top
pub standing_in_range : {S : Type 0} (app : Setting) → IsSound app → (f : Frame S) → standing app f ≤ app.top
standing_in_range app ok f =
    let a : current app f.who f.held ≤ app.top = current_in_range app ok f.who f.held in
    let b : app.level f.who ≤ app.run_level f.who = ok.runs_above f.who in
    let d : app.run_level f.who ≤ app.top = ok.run_levels f.who in
    grind (arith, nat_tests)

-- what is above the top of a stack that rises is above all its levels
pub rises_below : {S : Type 0} (app : Setting) → IsSound app → (l : ℕ) (fs : List (Frame S)) → standing_of_top app fs < l → Rises app fs → AllBelow app l fs
rises_below app ok l [] h r = tt
rises_below app ok l (f ∷ fs) h r =
    (omega (arith, standing_above app ok f), rises_below app ok l fs (omega (arith, standing_above app ok f, r.0)) r.1)

-- no task stands at a level above the top
pub preempted_none : {S : Type 0} (app : Setting) → IsSound app → (l : ℕ) (fs : List (Frame S)) → standing_of_top app fs < l → Rises app fs → preempted_at app l fs ≡ []
preempted_none app ok l [] h r = refl
preempted_none app ok l (f ∷ fs) h r =
    let lower : standing_of_top app fs < l = omega (arith, standing_above app ok f, r.0) in
    let rest : preempted_at app l fs ≡ [] = preempted_none app ok l fs lower r.1 in
    let s = standing app f in
    let differ : s ≢ l = omega arith in
    grind (arith, nat_tests)

-- at the level of the top stands the top alone
pub preempted_here : {S : Type 0} (app : Setting) → IsSound app → (f : Frame S) (fs : List (Frame S)) → Rises app (f ∷ fs) → preempted_at app (standing app f) (f ∷ fs) ≡ Preempted f.who ∷ []
preempted_here app ok f fs r =
    let lower : standing_of_top app fs < standing app f = omega (arith, standing_above app ok f, r.0) in
    let rest : preempted_at app (standing app f) fs ≡ [] = preempted_none app ok (standing app f) fs lower r.1 in
    grind (arith, nat_tests)

-- what changes at an entity alone, whose level is above these
pub matches_elsewhere : {S : Type 0} (app : Setting) (e : ℕ) (state state' : ℕ → S) (held held' : ℕ → List ℕ) (fs : List (Frame S)) → ((q : ℕ) → q ≢ e → state' q ≡ state q) → ((q : ℕ) → q ≢ e → held' q ≡ held q) → AllBelow app (app.level e) fs → Matches state held fs → Matches state' held' fs
matches_elsewhere app e state state' held held' [] a b low m = tt
matches_elsewhere app e state state' held held' (f ∷ fs) a b low m =
    let differ : f.who ≢ e = λ eq. absurd (omega (arith, ap app.level eq, low.0)) in
    (a f.who differ ∙ m.0, b f.who differ ∙ m.1, matches_elsewhere app e state state' held held' fs a b low.1 m.2)

-- what is above all levels is not on the stack
pub times_below : {S : Type 0} (app : Setting) (e : ℕ) (fs : List (Frame S)) → AllBelow app (app.level e) fs → times e (whos fs) ≡ 0
times_below app e [] low = refl
times_below app e (f ∷ fs) low =
    let differ : f.who ≢ e = λ eq. absurd (omega (arith, ap app.level eq, low.0)) in
    let rest : times e (whos fs) ≡ 0 = times_below app e fs low.1 in
    grind (arith, nat_tests)
