-- The sizes of a unit that is within the limits.
use Rattle.std.proofs.Common.{◌≡◌, ℕ, zero, suc, ◌+◌, ◌<◌, ◌≤◌, ◌^◌, Bool, true, false, if◌then◌else◌, nat_lt, List, [], ◌∷◌, length, Option, Some, None, refl, sym, ap, ◌∙◌, subst, arith}
use Rattle.std.specs.Prelude.{slice_get}
use Rattle.std.proofs.lemmas.Bool.Decides.{nat_tests}
use Rattle.typed_unit.specs.declared.typed.Taker.{Taker}
use Rattle.typed_unit.specs.Plain.{PlainExpr, PlainFunction, PlainEntity, PlainUnit}
use Rattle.lower_law.specs.Counts.{bit_total, call_depth, if_body, sum_below}
use Rattle.lower_law.specs.Scoped.{IsBody, IsCallTo, IsFunction}
use Rattle.lower_law.specs.Translated.{cell_count, entity_body, is_entity}
use Rattle.scope_law.specs.Right.{AreRight, IsCallIn}
use Rattle.scope_law.specs.Sizes.{AreFew}
use Rattle.lower_code.proofs.Scoping.{body_small}
use Rattle.unit_counts.proofs.CellParts.{cells_few, globals_few}
use Rattle.lower.specs.Ready.{AreSmall, IsReady, IsSmall, IsSmallEntity}
use Rattle.lower.proofs.Exchanging.{some_is}

-- there are few cells
pub few_globals : (u : PlainUnit) (n : ℕ) → bit_total u n ≤ 8192 → cell_count u.globals < 2 ^ 16
few_globals u n few = let c = cells_few u 0 n 8192 few (omega arith) in let g = globals_few u.globals in omega (arith, c, g)

-- what is counted for an entity is counted for all of them
pub entity_counted : (u : PlainUnit) (count : PlainEntity → ℕ) (n e : ℕ) (b : PlainEntity) → e < n → entity_body e u.entities ≡ Some b → count b ≤ sum_below u count n
entity_counted u count zero e b h is = absurd (omega arith)
entity_counted u count (suc n) e b h is = by (nat_lt e n) refl (entity_counted u count n e b) where
  by : (c : Bool) → nat_lt e n ≡ c → (e < n → entity_body e u.entities ≡ Some b → count b ≤ sum_below u count n) → count b ≤ sum_below u count n + if_body count (entity_body n u.entities)
  by true c ih = let k : e < n = grind (arith, nat_tests) in let l = ih k is in omega (arith, l)
  by false c ih =
      let same : e ≡ n = grind (arith, nat_tests) in
      let l : if_body count (entity_body n u.entities) ≡ count b = ap (λ i. if_body count (entity_body i u.entities)) (sym same) ∙ ap (if_body count) is in
      omega (arith, l)

-- nothing is no body
pub none_some : {A : Type 0} → (b : A) → None ≡ Some b → ⊥
none_some b h = cc

-- the body of an entity is one of the unit's
pub body_at : (e : ℕ) (bs : List PlainEntity) (b : PlainEntity) → entity_body e bs ≡ Some b → (i : ℕ) × (slice_get bs i ≡ Some b)
body_at e [] b h = absurd (none_some b h)
body_at e (x ∷ xs) b h = by (is_entity e x.entity) h (body_at e xs b) where
  by : (c : Bool) → (if c then Some x else entity_body e xs) ≡ Some b → (entity_body e xs ≡ Some b → (i : ℕ) × (slice_get xs i ≡ Some b)) → (i : ℕ) × (slice_get (x ∷ xs) i ≡ Some b)
  by true k ih = (0, k)
  by false k ih = let r = ih k in (suc r.0, r.1)

-- a function that is called is one of the unit's
function_there : (P : PlainFunction → Type 0) (fs : List PlainFunction) (f : ℕ) → IsFunction P (slice_get fs f) → f < length fs
function_there P [] f h = absurd h
function_there P (x ∷ xs) zero h = omega arith
function_there P (x ∷ xs) (suc f) h = let k = function_there P xs f h in omega (arith, k)

-- so it is in each chain of calls
call_there : (u : PlainUnit) (d f : ℕ) (args : List PlainExpr) (t : Option Taker) → IsCallTo u d f args t → f < length u.functions
call_there u zero f args t h = absurd h
call_there u (suc d) f args t h = function_there _ u.functions f h

-- the numbers in all functions are small
module _ (u : PlainUnit) (few : AreFew u) where
  -- those of one
  function_small : AreRight u → (g : ℕ) (f : PlainFunction) → slice_get u.functions g ≡ Some f → IsSmall u.globals f
  function_small right g f is =
      let r = right.functions g f is in
      let l = few.locals g f is in
      let k = few.functions in
      record {
        locals = omega (arith, l);
        numbers = body_small u.globals (IsCallIn u) f.locals f.result f.params (2 ^ 16) f.body (omega (arith, l)) r.few (λ i args t call. let h = function_there _ u.functions i call in omega (arith, h, k)) r.body;
      }

  -- those of all
  all_small : (fs : List PlainFunction) → ((g : ℕ) (f : PlainFunction) → slice_get fs g ≡ Some f → IsSmall u.globals f) → AreSmall u.globals fs
  all_small [] h = tt
  all_small (f ∷ fs) h = (h 0 f refl, all_small fs (λ g x is. h (suc g) x is))

  pub functions_small : AreRight u → AreSmall u.globals u.functions
  functions_small right = all_small u.functions (function_small right)

  -- and in the body of each entity
  pub entity_small : (e : ℕ) (b : PlainEntity) → entity_body e u.entities ≡ Some b → IsBody u b → IsSmallEntity u.globals b
  entity_small e b is right =
      let at = body_at e u.entities b is in
      let l = few.entity_locals at.0 b at.1 in
      let k = few.functions in
      record {
        locals = omega (arith, l);
        numbers = body_small u.globals (IsCallTo u call_depth) b.locals None 0 (2 ^ 16) b.body (omega (arith, l)) (omega arith) (λ i args t call. let h = call_there u call_depth i args t call in omega (arith, h, k)) right;
      }

-- the body of an entity is right
pub body_right : (u : PlainUnit) (n e : ℕ) (b : PlainEntity) → IsReady u n → e < n → entity_body e u.entities ≡ Some b → IsBody u b
body_right u n e b ready lt there =
    let h = ready.bodies e lt in
    subst (λ (x : PlainEntity). IsBody u x) (some_is b h.body b (sym h.is ∙ there)) h.right
