-- What services without an error have found.
use Rattle.std.proofs.Common.{◌≡◌, ℕ, Bool, true, false, not, List, [], ◌∷◌, Option, Some, None, refl, sym, arith, nat_le}
use Rattle.std.proofs.lemmas.Bool.Decides.{nat_tests}
use Rattle.application.specs.declared.app.Entity.{Entity}
use Rattle.step_ir.specs.declared.event.Failure.{Failure}
use Rattle.step_ir.specs.declared.event.Service.TheVariants.{Activate, Chain}
use Rattle.step_ir.specs.Numbers.{is_empty}
use Rattle.step_ir.specs.Services.{Scene, fault_if, fault_of, leaving}
use Rattle.step_ir.specs.Setting.{Setting, IsSound}

-- where no error is found, each of its conditions is false
fault_if_none : (b : Bool) (f : Failure) (rest : Option Failure) → fault_if b f rest ≡ None → (b ≡ false) × (rest ≡ None)
fault_if_none true f rest h = absurd (let e : ◌≡◌ {A = Option Failure} (Some f) None = h in cc)
fault_if_none false f rest h = (refl, h)

-- what is not false is true
not_false : (b : Bool) → not b ≡ false → b ≡ true
not_false true h = refl
not_false false h = sym h

-- a list without an item is empty
pub is_empty_true : {A : Type 0} (xs : List A) → is_empty xs ≡ true → xs ≡ []
is_empty_true [] h = refl
is_empty_true (x ∷ xs) h = absurd (let e : false ≡ true = h in cc)

-- a service by which its caller leaves has no error only where a task calls it that holds nothing
pub leaving_none : (app : Setting) (c : Scene) (rest : Option Failure) → leaving app c rest ≡ None → (app.is_task c.caller ≡ true) × (c.held ≡ []) × (rest ≡ None)
leaving_none app c rest h =
    let a = fault_if_none _ _ _ h in
    let b = fault_if_none _ _ _ a.1 in
    let d = fault_if_none _ _ _ b.1 in
    (not_false _ b.0, is_empty_true c.held (not_false _ d.0), d.1)

module _ (app : Setting) (ok : IsSound app) where
  -- what may have a request more is a task
  requested_task : (t n : ℕ) → nat_le (app.limit t) n ≡ false → app.is_task t ≡ true
  requested_task t n h = go (app.is_task t) refl
    where
      go : (b : Bool) → app.is_task t ≡ b → app.is_task t ≡ true
      go true e = e
      go false e =
          let none : app.limit t ≡ 0 = ok.tasks_alone t e in
          absurd (grind (arith, nat_tests))

  -- what is activated without an error is a task
  pub activated_task : (c : Scene) (t : Entity) → fault_of app c (Activate t) ≡ None → app.is_task t.0 ≡ true
  activated_task c t h =
      let a = fault_if_none _ _ _ h in
      let b = fault_if_none _ _ _ a.1 in
      requested_task t.0 _ b.0

  -- what is chained without an error is a task
  pub chained_task : (c : Scene) (t : Entity) → fault_of app c (Chain t) ≡ None → app.is_task t.0 ≡ true
  chained_task c t h =
      let a = leaving_none app c _ h in
      let b = fault_if_none _ _ _ a.2 in
      requested_task t.0 _ b.0
