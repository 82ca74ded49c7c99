-- The actor, and who holds a resource.
use Rattle.std.proofs.Common.{◌≡◌, ◌≢◌, ℕ, zero, suc, ◌+◌, ◌<◌, Bool, true, false, ◌||◌, List, [], ◌∷◌, length, Option, Some, None, refl, sym, ap, subst, ◌∙◌, arith, if◌then◌else◌, ◌==◌}
use Rattle.std.proofs.Math.Path.{fun_ext}
use Rattle.std.proofs.lemmas.Bool.Decides.{nat_tests}
use Rattle.application.specs.Levels.{has_number}
use Rattle.application.specs.declared.app.App.{App}
use Rattle.osek_machine.specs.Faults.{first_or}
use Rattle.osek_machine.specs.Held.{held_by, any_holds, AreHolders}
use Rattle.osek_machine.specs.Kept.{Kept, IsKept, AreDescending, state_of, entities_of}
use Rattle.osek_machine.specs.declared.held.Holding.{Holding}
use Rattle.step_ir.specs.SchedulerState.{any_below, actor, actor_of}
use Rattle.step_ir.specs.Setting.{setting_of, foremost, earlier}

-- the first of routines with falling levels has the greatest
head_first : (app : App) (r : ℕ) (rs : List ℕ) → AreDescending app ((setting_of app).level r) rs → earlier (setting_of app) r (first_or rs None) ≡ Some r
head_first app r [] h = refl
head_first app r (q ∷ qs) h = let lower = h.1 in grind (arith, nat_tests)

-- of routines with falling levels the first acts
foremost_is : (app : App) (top : ℕ) (rs : List ℕ) → AreDescending app top rs → foremost (setting_of app) rs ≡ first_or rs None
foremost_is app top [] h = refl
foremost_is app top (r ∷ rs) h = ap (earlier (setting_of app) r) (foremost_is app ((setting_of app).level r) rs h.2) ∙ head_first app r rs h.2

-- so the actor is the first active routine, else who runs
pub actor_first : (app : App) (top : ℕ) (rs : List ℕ) (o : Option ℕ) → AreDescending app top rs → actor_of (setting_of app) rs o ≡ first_or rs o
actor_first app top [] o h = refl
actor_first app top (r ∷ rs) o h = foremost_is app top (r ∷ rs) h

-- the same for a value that a machine opened
pub actor_is : (k old : Kept) (r : Option ℕ) (active : List ℕ) → IsKept k → k ≡ old → active ≡ k.active → r ≡ first_or active k.running → r ≡ actor (setting_of old.app) (state_of old)
actor_is k old r active inv same list is =
    let P : Kept → Type 0 = λ n. r ≡ actor (setting_of n.app) (state_of n) in
    subst P same (is ∙ ap (λ rs. first_or rs k.running) list ∙ sym (actor_first k.app 81 k.active k.running inv.active))

-- a number below n at which a test holds
any_at : (n q : ℕ) (p : ℕ → Bool) → q < n → p q ≡ true → any_below n p ≡ true
any_at zero q p lt h = absurd (omega arith)
any_at (suc n) q p lt h = go (p n) refl (λ below. any_at n q p below h)
  where
    go : (b : Bool) → p n ≡ b → (q < n → any_below n p ≡ true) → (b || any_below n p) ≡ true
    go true e ih = refl
    go false e ih =
        let differ : q ≢ n = λ z. absurd (let w : true ≡ false = sym h ∙ (ap p z ∙ e) in cc) in
        ih (omega arith)

-- a test that never holds
any_nowhere : (n : ℕ) → any_below n (λ q. false) ≡ false
any_nowhere zero = refl
any_nowhere (suc n) = any_nowhere n

-- who holds a resource has it among its own
holds_here : (r n : ℕ) (h : Holding) (hs : List Holding) → (h.resource == r) ≡ true → has_number (held_by (h ∷ hs) h.entity) r ≡ true
holds_here r n h hs e = grind (arith, nat_tests)

-- another resource that is held changes nothing for this one
holds_there : (r : ℕ) (h : Holding) (hs : List Holding) (q : ℕ) → (h.resource == r) ≡ false → has_number (held_by (h ∷ hs) q) r ≡ has_number (held_by hs q) r
holds_there r h hs q e = go (h.entity == q)
  where
    go : (b : Bool) → has_number (if b then h.resource ∷ held_by hs q else held_by hs q) r ≡ has_number (held_by hs q) r
    go true = ap (λ c. c || has_number (held_by hs q) r) e
    go false = refl

-- some entity holds a resource where it stands in the list of all
pub any_holder : (r n : ℕ) (hs : List Holding) → AreHolders n hs → any_below n (λ q. has_number (held_by hs q) r) ≡ any_holds r hs
any_holder r n [] low = any_nowhere n
any_holder r n (h ∷ hs) low = go (h.resource == r) refl (any_holder r n hs low.2)
  where
    go : (b : Bool) → (h.resource == r) ≡ b → any_below n (λ q. has_number (held_by hs q) r) ≡ any_holds r hs → any_below n (λ q. has_number (held_by (h ∷ hs) q) r) ≡ b || any_holds r hs
    go true e ih = any_at n h.entity (λ q. has_number (held_by (h ∷ hs) q) r) low.0 (holds_here r n h hs e)
    go false e ih = ap (any_below n) (fun_ext (λ q. holds_there r h hs q e)) ∙ ih

-- the same for a value that a machine opened
pub taken_is : (k old : Kept) (r : ℕ) (b : Bool) (held : List Holding) → IsKept k → k ≡ old → held ≡ k.held → b ≡ any_holds r held → b ≡ any_below (length old.app.tasks + length old.app.routines) (λ q. has_number ((state_of old).held q) r)
taken_is k old r b held inv same list is =
    let P : Kept → Type 0 = λ n. b ≡ any_below (length n.app.tasks + length n.app.routines) (λ q. has_number ((state_of n).held q) r) in
    subst P same (is ∙ ap (any_holds r) list ∙ sym (any_holder r (entities_of k.app) k.held inv.held.holders))
