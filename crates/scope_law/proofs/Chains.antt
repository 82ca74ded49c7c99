-- Where no chain of calls is too long, each call is right to the depth that is left.
use Rattle.std.proofs.Common.{◌≡◌, ℕ, zero, suc, ◌+◌, ◌-◌, ◌<◌, ◌≤◌, ◌==◌, Bool, true, false, ◌&&◌, ◌||◌, not, is_some, nat_lt, if◌then◌else◌, List, [], ◌∷◌, ◌++◌, length, Option, Some, None, ◌⊎◌, inl, inr, refl, sym, ap, ◌∙◌, arith}
use Rattle.std.specs.List.{flat_map, slice_get}
use Rattle.std.specs.Prelude.{option_map}
use Rattle.std.proofs.lemmas.Bool.{cases_lt, and_parts, eq-eqb, false≢true, or_left, or_right}
use Rattle.std.proofs.lemmas.List.Folds.{list_any-append}
use Rattle.std.proofs.lemmas.Option.{get_or_from_slice_get, slice_get-map, slice_get_within}
use Rattle.application.specs.declared.app.App.{App}
use Rattle.application.specs.declared.app.Entity.{Entity}
use Rattle.c_rules.specs.First.{when}
use Rattle.typed_unit.specs.declared.typed.CType.{CType}
use Rattle.typed_unit.specs.declared.typed.GlobalVar.{GlobalVar}
use Rattle.typed_unit.specs.declared.typed.Taker.{Taker}
use Rattle.typed_unit.specs.Plain.{PlainExpr, PlainStatement, PlainBlock, NoStatement, StatementThen, PlainFunction, PlainEntity, PlainUnit}
use Rattle.typed_unit.specs.Plain as p
use Rattle.static_rules.specs.declared.site.Site.{Site}
use Rattle.static_rules.specs.declared.site.Site.TheVariants as sites
use Rattle.static_rules.specs.Chains.{is_call_of, calls, body, called_after}
use Rattle.static_rules.specs.Rules.{is_body_of, has_body, lacks_body, lacks_task, lacks_routine, first_sites, late_faults, chain_faults, recursion_faults, unless_any, calling_faults, resource_faults, body_faults, size_faults, nameless_faults, repeat_faults, faults}
use Rattle.static_rules.specs.Sites.{sites_in, sites_of, function_bodies}
use Rattle.c_unit.specs.declared.unit.EntityKind.TheVariants as kinds
use Rattle.static_rules.proofs.Bounds.{any_at, any_some}
use Rattle.static_rules.proofs.Reaching.{after_more, called_next}
use Rattle.lower_law.specs.Scoped.{StatementScoped, BlockScoped, known_behind, known_in, IsCallee, IsFunction, IsCallTo}
use Rattle.lower_law.specs.Translated.{is_entity, entity_body}
use Rattle.scope_law.specs.Right.{IsCalled, IsCallIn, AreRight, HasBody}
use Rattle.scope_law.proofs.Parts.{front_none, back_none, nothing_below, is_met}

-- ---- calls that are right in one sense, and in another
module _ (globals : List GlobalVar) (P Q : ℕ → List PlainExpr → Option Taker → Type 0) (locals : ℕ) (result : Option CType) where
  -- each call of these sites that is right in the one sense is right in the other
  abbrev pub AreKept : List Site → Type 0
  AreKept ss = (f : ℕ) (args : List PlainExpr) (t : Option Taker) → calls ss f ≡ true → P f args t → Q f args t

  kept_front : (xs ys : List Site) → AreKept (xs ++ ys) → AreKept xs
  kept_front xs ys k f args t c h = k f args t (list_any-append (is_call_of f) xs ys ∙ or_left (calls xs f) (calls ys f) c) h

  kept_back : (xs ys : List Site) → AreKept (xs ++ ys) → AreKept ys
  kept_back xs ys k f args t c h = k f args t (list_any-append (is_call_of f) xs ys ∙ or_right (calls xs f) (calls ys f) c) h

  mutual
    pub statement_kept : (known : ℕ → Bool) (s : PlainStatement) → AreKept (sites_in s) → StatementScoped globals P locals result known s → StatementScoped globals Q locals result known s
    statement_kept known (p.Set place l v) k h = h
    statement_kept known (p.Write place g v) k h = h
    statement_kept known (p.WriteElement place g len i v) k h = h
    statement_kept known (p.Input place t) k h = h
    statement_kept known (p.Call place name f args t) k h = (h.0, k f args t (or_left (f == f) false (eq-eqb f f refl)) h.1, h.2)
    statement_kept known (p.Serve place service at) k h = h
    statement_kept known (p.Assert place q) k h = h
    statement_kept known (p.If place q on off) k h =
        (h.0, block_kept known on (kept_front (sites_of on) (sites_of off) k) h.1, block_kept known off (kept_back (sites_of on) (sites_of off) k) h.2)
    statement_kept known (p.While place q b) k h = (h.0, block_kept known b k h.1)
    statement_kept known (p.For place start q step b) k h =
        let others = kept_back (sites_of start) (sites_of step ++ sites_of b) k in (
          block_kept known start (kept_front (sites_of start) (sites_of step ++ sites_of b) k) h.0,
          h.1,
          block_kept (known_in known start) step (kept_front (sites_of step) (sites_of b) others) h.2,
          block_kept (known_in known start) b (kept_back (sites_of step) (sites_of b) others) h.3,
        )
    statement_kept known (p.Return place v) k h = h
    statement_kept known (p.Block place b) k h = block_kept known b k h

    pub block_kept : (known : ℕ → Bool) (b : PlainBlock) → AreKept (sites_of b) → BlockScoped globals P locals result known b → BlockScoped globals Q locals result known b
    block_kept known NoStatement k h = h
    block_kept known (StatementThen s b) k h =
        (statement_kept known s (kept_front (sites_in s) (sites_of b) k) h.0, block_kept (known_behind known s) b (kept_back (sites_in s) (sites_of b) k) h.1)

-- ---- a chain of calls
-- its first call is one of the start's
first_call : (bodies : List (List Site)) (start : List Site) (g : ℕ) → called_after bodies start 0 g ≡ calls start g
unfolding called_after
first_call bodies start g = refl

-- where no call is late there is none
no_call : (ss : List Site) (g : ℕ) → flat_map late_faults ss ≡ [] → calls ss g ≡ true → ⊥
unfolding late_faults
no_call [] g e c = false≢true c
no_call (sites.Call f place ∷ ss) g e c = absurd (cc)
no_call (sites.Use r place ∷ ss) g e c = no_call ss g e c

-- the functions of the sixteenth calls have none
ends_there : (bodies : List (List Site)) (start : List Site) (f : ℕ) → chain_faults bodies start ≡ [] → f < length bodies → called_after bodies start 15 f ≡ true → flat_map late_faults (body bodies f) ≡ []
unfolding chain_faults
ends_there bodies start f e inside led =
    sym (ap (λ b. if b then flat_map late_faults (body bodies f) else []) led) ∙ nothing_below (λ f. if called_after bodies start 15 f then flat_map late_faults (body bodies f) else []) (length bodies) f inside e

-- so there is no seventeenth call
none_more : (bodies : List (List Site)) (start : List Site) (g : ℕ) → chain_faults bodies start ≡ [] → called_after bodies start (suc 15) g ≡ true → ⊥
none_more bodies start g e led =
    let one = any_some (λ f. called_after bodies start 15 f && calls (body bodies f) g) (length bodies) (sym (after_more bodies start 15 g) ∙ led) in
    let both = and_parts (called_after bodies start 15 one.0) (calls (body bodies one.0) g) one.2 in
    no_call (body bodies one.0) g (ends_there bodies start one.0 e one.1 both.0) both.1

module _ (u : PlainUnit) where
  -- the sites of a function
  body_at : (f : ℕ) (x : PlainFunction) → slice_get u.functions f ≡ Some x → body (function_bodies u.functions) f ≡ sites_of x.body
  body_at f x e =
      get_or_from_slice_get (function_bodies u.functions) f (sites_of x.body) []
      (slice_get-map (λ (g : PlainFunction). sites_of g.body) u.functions f ∙ ap (option_map (λ (g : PlainFunction). sites_of g.body)) e)

  body_inside : (f : ℕ) (x : PlainFunction) → slice_get u.functions f ≡ Some x → f < length (function_bodies u.functions)
  body_inside f x e =
      slice_get_within (function_bodies u.functions) f (sites_of x.body)
      (slice_get-map (λ (g : PlainFunction). sites_of g.body) u.functions f ∙ ap (option_map (λ (g : PlainFunction). sites_of g.body)) e)

  module _ (right : AreRight u) (start : List Site) (short : chain_faults (function_bodies u.functions) start ≡ []) where
    -- a call that is so many calls from the start of a chain is right to the depth that is left
    pub call_right : (d n f : ℕ) (args : List PlainExpr) (t : Option Taker) → n + d ≡ 16 → called_after (function_bodies u.functions) start n f ≡ true → IsCallIn u f args t → IsCallTo u d f args t
    call_right zero n f args t e led h =
        let last : n ≡ suc 15 = omega arith in
        none_more (function_bodies u.functions) start f short (sym (ap (λ m. called_after (function_bodies u.functions) start m f) last) ∙ led)
    call_right (suc d) n f args t e led h =
        let deeper : suc n + d ≡ 16 = omega arith in
        by (slice_get u.functions f) refl h (λ g es s on q. call_right d (suc n) g es s deeper on q)
      where
        by : (o : Option PlainFunction) → slice_get u.functions f ≡ o → IsFunction (IsCalled args t) o
            → ((g : ℕ) (es : List PlainExpr) (s : Option Taker) → called_after (function_bodies u.functions) start (suc n) g ≡ true → IsCallIn u g es s → IsCallTo u d g es s)
            → IsFunction (IsCallee u.globals (IsCallTo u d) args t) o
        by None is h next = absurd h
        by (Some x) is h next =
            let r = right.functions f x is in
            record {
              count = h.count;
              few = r.few;
              taken = h.taken;
              closed = r.closed;
              body = block_kept u.globals (IsCallIn u) (IsCallTo u d) (length x.locals) x.result (λ i. nat_lt i x.params) x.body
                  (λ g es s c q. next g es s (called_next (function_bodies u.functions) start n f g (body_inside f x is) led (ap (λ ss. calls ss g) (body_at f x is) ∙ c)) q) r.body;
            }

    -- so is each call in a body whose sites begin chains
    pub start_right : (known : ℕ → Bool) (locals : ℕ) (b : PlainBlock) → ((g : ℕ) → calls (sites_of b) g ≡ true → calls start g ≡ true)
        → BlockScoped u.globals (IsCallIn u) locals None known b → BlockScoped u.globals (IsCallTo u 16) locals None known b
    start_right known locals b begins h =
        let whole : 0 + 16 ≡ 16 = omega arith in
        block_kept u.globals (IsCallIn u) (IsCallTo u 16) locals None known b
        (λ g es s c q. call_right 16 0 g es s whole (first_call (function_bodies u.functions) start g ∙ begins g c) q) h

-- ---- the bodies of tasks and routines
-- a body that is found is one of the bodies, and has a number
record IsFound (es : List PlainEntity) (n : ℕ) : Type 0 where
  pub body : PlainEntity
  pub is : entity_body n es ≡ Some body
  pub at : ℕ
  pub listed : slice_get es at ≡ Some body
  pub begins : (g : ℕ) → calls (sites_of body.body) g ≡ true → calls (flat_map first_sites es) g ≡ true

same_test : (n : ℕ) (e : PlainEntity) → is_body_of n e ≡ is_entity n e.entity
same_test n e = by e.entity
  where
    by : (o : Option Entity) → is_body_of n (record e { entity = o }) ≡ is_entity n o
    by None = refl
    by (Some x) = refl

has_number : (n : ℕ) (o : Option Entity) → is_entity n o ≡ true → is_some o ≡ true
has_number n None e = e
has_number n (Some x) e = refl

found : (n : ℕ) (es : List PlainEntity) → has_body es n ≡ true → IsFound es n
found n [] h = absurd (false≢true h)
found n (x ∷ es) h = by (is_entity n x.entity) refl (found n es)
  where
    by : (b : Bool) → is_entity n x.entity ≡ b → (has_body es n ≡ true → IsFound es n) → IsFound (x ∷ es) n
    by true e later = record {
      body = x;
      is = ap (λ b. if b then Some x else entity_body n es) e;
      at = 0;
      listed = refl;
      begins = λ g c.
          list_any-append (is_call_of g) (first_sites x) (flat_map first_sites es)
          ∙ or_left (calls (first_sites x) g) (calls (flat_map first_sites es) g) (ap (λ b. calls (if b then sites_of x.body else []) g) (has_number n x.entity e) ∙ c);
    }
    by false e later =
        let one = later (sym (ap (λ b. b || has_body es n) (same_test n x ∙ e)) ∙ h) in
        record {
          body = one.body;
          is = ap (λ b. if b then Some x else entity_body n es) e ∙ one.is;
          at = suc one.at;
          listed = one.listed;
          begins = λ g c.
              list_any-append (is_call_of g) (first_sites x) (flat_map first_sites es)
              ∙ or_right (calls (first_sites x) g) (calls (flat_map first_sites es) g) (one.begins g c);
        }

-- a body is lacking nowhere
has_each : (es : List PlainEntity) (from count n : ℕ) → lacks_body es from count ≡ false → n < count → has_body es (from + n) ≡ true
has_each es from count n none below = by (has_body es (from + n)) refl
  where
    by : (b : Bool) → has_body es (from + n) ≡ b → b ≡ true
    by true e = refl
    by false e = absurd (false≢true (sym none ∙ any_at (λ k. not (has_body es (from + k))) count n below (ap not e)))

-- the parts of the rules that are needed
short_chains : (u : PlainUnit) (app : App) → faults u app ≡ [] → chain_faults (function_bodies u.functions) (flat_map first_sites u.entities) ≡ []
unfolding faults calling_faults
short_chains u app none =
    let all = front_none (calling_faults (function_bodies u.functions) u.entities) _ none in
    let recursion = front_none (recursion_faults (function_bodies u.functions)) _ all in
    let chains = back_none (recursion_faults (function_bodies u.functions)) _ all in
    sym (ap (λ fs. unless_any fs (chain_faults (function_bodies u.functions) (flat_map first_sites u.entities))) recursion) ∙ chains

no_body_faults : (u : PlainUnit) (app : App) → faults u app ≡ [] → body_faults app u ≡ []
unfolding faults
no_body_faults u app none =
    front_none (body_faults app u) (size_faults u)
    (back_none (resource_faults app (function_bodies u.functions) u.entities) (body_faults app u ++ size_faults u)
    (back_none (calling_faults (function_bodies u.functions) u.entities) (resource_faults app (function_bodies u.functions) u.entities ++ (body_faults app u ++ size_faults u)) none))

record AreThere (u : PlainUnit) (app : App) : Type 0 where
  pub tasks : lacks_task app u.entities ≡ false
  pub routines : lacks_routine app u.entities ≡ false

are_there : (u : PlainUnit) (app : App) → body_faults app u ≡ [] → AreThere u app
unfolding body_faults
are_there u app none =
    let four = when (lacks_task app u.entities) 4 u.end in
    let five = when (lacks_routine app u.entities) 5 u.end in
    let a = back_none (flat_map nameless_faults u.entities) _ none in
    let b = back_none (repeat_faults kinds.Task u.entities) _ a in
    let c = back_none (repeat_faults kinds.Isr u.entities) (four ++ five) b in
    record {
      tasks = is_met (lacks_task app u.entities) 4 u.end (front_none four five c);
      routines = is_met (lacks_routine app u.entities) 5 u.end (back_none four five c);
    }

entity_has : (u : PlainUnit) (app : App) → AreThere u app → (e : ℕ) → e < length app.tasks + length app.routines → has_body u.entities e ≡ true
entity_has u app there e below = by (cases_lt e (length app.tasks))
  where
    by : (e < length app.tasks) ⊎ (length app.tasks ≤ e) → has_body u.entities e ≡ true
    by (inl task) =
        let same : 0 + e ≡ e = omega arith in
        sym (ap (has_body u.entities) same) ∙ has_each u.entities 0 (length app.tasks) e there.tasks task
    by (inr routine) =
        let n = e - length app.tasks in
        let same : length app.tasks + n ≡ e = omega arith in
        sym (ap (has_body u.entities) same) ∙ has_each u.entities (length app.tasks) (length app.routines) n there.routines (omega arith)

-- each task and routine has a body, which is right in every chain of calls
pub bodies : (app : App) (u : PlainUnit) → AreRight u → faults u app ≡ [] → (e : ℕ) → e < length app.tasks + length app.routines → HasBody u e
bodies app u right none e below =
    let one = found e u.entities (entity_has u app (are_there u app (no_body_faults u app none)) e below) in
    record {
      body = one.body;
      is = one.is;
      right =
          start_right u right (flat_map first_sites u.entities) (short_chains u app none) (λ i. nat_lt i 0) (length one.body.locals) one.body.body one.begins (right.entities one.at one.body one.listed);
    }
