-- Each service in a text that breaks no C rule names a task or resource that there is.
use Rattle.std.proofs.Common.{◌≡◌, ℕ, zero, suc, ◌<◌, ◌≤◌, ◌==◌, Bool, true, false, not, is_some, List, [], ◌∷◌, ◌++◌, length, Option, Some, None, refl, sym, ap, subst, ◌∙◌, arith}
use Rattle.std.specs.List.{flat_map, slice_get}
use Rattle.std.specs.Option.{option_map}
use Rattle.std.proofs.lemmas.Bool.{eqb-true, false≢true}
use Rattle.std.proofs.lemmas.Option.{none-some, same_Some}
use Rattle.chk_base.specs.declared.place.Place.{Place}
use Rattle.chk_base.specs.declared.text.Name.{Name}
use Rattle.application.specs.declared.app.App.{App}
use Rattle.step_ir.specs.Fits.{IsServiceFit}
use Rattle.c_unit.specs.declared.expression.Argument.{Argument}
use Rattle.c_unit.specs.declared.expression.Call.{Call}
use Rattle.c_unit.specs.declared.expression.RightSide.{RightSide}
use Rattle.c_unit.specs.declared.expression.RightSide.TheVariants as rights
use Rattle.c_unit.specs.declared.expression.TypeName.{TypeName}
use Rattle.c_unit.specs.declared.statement.Declarator.{Declarator}
use Rattle.c_unit.specs.declared.statement.Simple.{Simple}
use Rattle.c_unit.specs.declared.statement.Simple.TheVariants as simples
use Rattle.c_unit.specs.declared.statement.Start.{Start}
use Rattle.c_unit.specs.declared.statement.Start.TheVariants as starts
use Rattle.c_unit.specs.declared.unit.EntityKind.{EntityKind}
use Rattle.c_unit.specs.declared.unit.External.{External}
use Rattle.c_unit.specs.declared.unit.External.TheVariants as e
use Rattle.c_unit.specs.declared.unit.Function.{Function}
use Rattle.c_unit.specs.declared.unit.Unit.{Unit as WrittenUnit}
use Rattle.c_rules.specs.declared.meaning.Meaning.{Meaning}
use Rattle.c_rules.specs.declared.meaning.Meaning.TheVariants as m
use Rattle.c_rules.specs.declared.meaning.ServiceName.{ServiceName}
use Rattle.c_rules.specs.declared.meaning.ServiceName.TheVariants as names
use Rattle.c_rules.specs.Files.{Known, known_of, meaning}
use Rattle.c_rules.specs.First.{when}
use Rattle.c_rules.specs.Meanings.{is_left_out_meaning, is_nothing, is_variable, is_object, is_input, is_local, takes_other, is_task}
use Rattle.c_rules.specs.Rules.{Means, bare_name, object_faults, argument_faults, called_faults, call_faults, result_faults, right_faults, lone_call_faults, target_faults, expression_faults, optional_faults}
use Rattle.c_rules.specs.Scopes.{Scope, Visible, fresh, is_declared, declared, entered, left}
use Rattle.c_rules.specs.StatementRules.{means_in, simple_faults, initial_faults, declarators_faults, start_faults, after_start, step_faults, after, after_block, after_branches, statement_faults, block_faults, branches_faults}
use Rattle.c_rules.specs.UnitRules.{ninth_faults, parameters_faults, after_parameters, is_main_name, lacks_return, function_faults, external_faults, names_faults, faults}
use Rattle.c_rules.specs.Files.{nothing_of}
use Rattle.c_rules.specs.Written.{WrittenStatement, WrittenBlock, NoStatement, StatementThen, WrittenBranches, NoBranch, BranchThen, written_block}
use Rattle.c_rules.specs.Written as written
use Rattle.typed_unit.specs.declared.typed.CType.{CType}
use Rattle.typed_unit.specs.declared.typed.Taker.{Taker}
use Rattle.typed_unit.specs.Conversions.{ctype_named}
use Rattle.typed_unit.specs.Plain.{PlainExpr, PlainStatement, PlainBlock, PlainFunction, PlainEntity, PlainUnit, block}
use Rattle.typed_unit.specs.Typed.{function_of, functions_in, entity_of, entity_in, typed, Fits}
use Rattle.typed_unit.specs.TypedStatements.{set_of, set_element_of, taker_of, argument_meaning, task_of, resource_of, service_of, input_of, call_by, call_of, assign_of, simple_of, target_of, initial_of, declarators_of, start_of, step_of, typed_statement, typed_statements, typed_branches}
use Rattle.typed_unit.specs.Views.{PlainBranch, chained, branched}
use Rattle.scope_law.specs.Serving.{Serves, AllServe, AreServing}
use Rattle.scope_law.proofs.Objects.{IsInApp, AreInApp, known_is_of, meaning_in_app}
use Rattle.scope_law.proofs.Parts.{front_none, back_none, each_none, is_met, not_not, joined_at}

-- ---- one service
-- what a bare name as an argument means
abbrev named_meaning : Means → Option Name → Meaning
named_meaning means (Some name) = means name.text
named_meaning means None = m.Nothing

meaning_of_bare : (means : Means) (a : Argument) (name : Name) → bare_name a.value ≡ Some name → argument_meaning means (Some a) ≡ means name.text
meaning_of_bare means a name is = ap (named_meaning means) is

module _ (app : App) where
  task_fits : (x : Meaning) → IsInApp app x → is_task x ≡ true → (task_of x).0 < length app.tasks
  task_fits (m.Task n) h is = omega arith
  task_fits _ h is = absurd (false≢true is)

  resource_fits : (x : Meaning) → IsInApp app x → resource_of (length app.resources) x ≤ length app.resources
  resource_fits (m.Resource n) h = omega arith
  resource_fits _ h = omega arith

  module _ (means : Means) (known : (name : List ℕ) → IsInApp app (means name)) where
    argument_in_app : (o : Option Argument) → IsInApp app (argument_meaning means o)
    argument_in_app None = tt
    argument_in_app (Some a) = by (bare_name a.value) refl
      where
        by : (o : Option Name) → bare_name a.value ≡ o → IsInApp app (argument_meaning means (Some a))
        by None is = subst (IsInApp app) (sym (ap (named_meaning means) is)) tt
        by (Some name) is = subst (IsInApp app) (sym (meaning_of_bare means a name is)) (known name.text)

    -- C15: the argument is the name of a task
    task_argument : (a : Argument) → object_faults true means a (bare_name a.value) ≡ [] → is_task (argument_meaning means (Some a)) ≡ true
    task_argument a none = by (bare_name a.value) refl none
      where
        by : (o : Option Name) → bare_name a.value ≡ o → object_faults true means a o ≡ [] → is_task (argument_meaning means (Some a)) ≡ true
        by None is none' = absurd (cc)
        by (Some name) is none' =
            ap is_task (meaning_of_bare means a name is) ∙ not_not (is_task (means name.text)) (is_met (not (is_task (means name.text))) 15 a.place none')

    -- C5: there is an argument
    task_given : (called : Meaning) (arguments : List Argument) → ((a : Argument) → argument_faults called means a ≡ object_faults true means a (bare_name a.value)) → length arguments ≡ 1 → flat_map (argument_faults called means) arguments ≡ []
        → is_task (argument_meaning means (slice_get arguments 0)) ≡ true
    task_given called [] same one none = absurd (cc)
    task_given called (a ∷ arguments) same one none = task_argument a (sym (same a) ∙ front_none (argument_faults called means a) (flat_map (argument_faults called means) arguments) none)

    -- a call with one argument
    one_argument : (called : Meaning) (n : ℕ) (place : Place) → takes_other called n ≡ not (n == 1) → called_faults called n place ≡ [] → n ≡ 1
    unfolding called_faults
    one_argument called n place same none =
        let a = back_none (when (is_left_out_meaning called) 1 place) _ none in
        let b = back_none (when (is_nothing called) 2 place) _ a in
        let c = back_none (when (is_variable called) 4 place) _ b in
        let d = front_none (when (takes_other called n) 5 place) (when (is_object called) 20 place) c in
        eqb-true n 1 (not_not (n == 1) (sym same ∙ is_met (takes_other called n) 5 place d))

    named_task : (called : Meaning) (call : Call) → ((n : ℕ) → takes_other called n ≡ not (n == 1)) → ((a : Argument) → argument_faults called means a ≡ object_faults true means a (bare_name a.value)) → call_faults called means call ≡ []
        → (task_of (argument_meaning means (slice_get call.arguments 0))).0 < length app.tasks
    unfolding call_faults
    named_task called call takes same none =
        let on = front_none (called_faults called (length call.arguments) call.name.place) (flat_map (argument_faults called means) call.arguments) none in
        let ones = back_none (called_faults called (length call.arguments) call.name.place) (flat_map (argument_faults called means) call.arguments) none in
        task_fits (argument_meaning means (slice_get call.arguments 0)) (argument_in_app (slice_get call.arguments 0))
        (task_given called call.arguments same (one_argument called (length call.arguments) call.name.place (takes (length call.arguments)) on) ones)

    service_fits : (s : ServiceName) (call : Call) → call_faults (m.Service s) means call ≡ []
        → IsServiceFit app (service_of s (length app.resources) (argument_meaning means (slice_get call.arguments 0)))
    unfolding argument_faults
    service_fits names.ActivateTask call none = named_task (m.Service names.ActivateTask) call (λ n. refl) (λ a. refl) none
    service_fits names.ChainTask call none = named_task (m.Service names.ChainTask) call (λ n. refl) (λ a. refl) none
    service_fits names.GetResource call none = resource_fits (argument_meaning means (slice_get call.arguments 0)) (argument_in_app (slice_get call.arguments 0))
    service_fits names.ReleaseResource call none = resource_fits (argument_meaning means (slice_get call.arguments 0)) (argument_in_app (slice_get call.arguments 0))
    service_fits names.TerminateTask call none = tt
    service_fits names.Schedule call none = tt
    service_fits names.DisableAllInterrupts call none = tt
    service_fits names.EnableAllInterrupts call none = tt
    service_fits names.SuspendAllInterrupts call none = tt
    service_fits names.ResumeAllInterrupts call none = tt
    service_fits names.SuspendOsInterrupts call none = tt
    service_fits names.ResumeOsInterrupts call none = tt

-- ---- lists of statements
module _ (app : App) where
  all_joined : (xs ys : List PlainStatement) → AllServe app (block xs) → AllServe app (block ys) → AllServe app (block (xs ++ ys))
  all_joined [] ys h k = k
  all_joined (x ∷ xs) ys h k = (h.0, all_joined xs ys h.1 k)

  abbrev BranchesServe : List PlainBranch → Type 0
  BranchesServe [] = Unit {0}
  BranchesServe (b ∷ bs) = AllServe app b.block × BranchesServe bs

  chained_serve : (bs : List PlainBranch) (otherwise : PlainBlock) → BranchesServe bs → AllServe app otherwise → AllServe app (chained bs otherwise)
  chained_serve [] otherwise h k = k
  chained_serve (b ∷ bs) otherwise h k = ((h.0, chained_serve bs otherwise h.1 k), tt)

  branched_serves : (place : Place) (bs : List PlainBranch) (otherwise : PlainBlock) → BranchesServe bs → AllServe app otherwise → Serves app (branched place bs otherwise)
  branched_serves place [] otherwise h k = k
  branched_serves place (b ∷ bs) otherwise h k = (h.0, chained_serve bs otherwise h.1 k)

  -- what sets a variable is no service
  set_serves : (place : Place) (x : Meaning) (value : PlainExpr) → Serves app (set_of place x value)
  set_serves place (m.Local l) value = tt
  set_serves place (m.Variable v) value = tt
  set_serves place _ value = tt

  set_element_serves : (place : Place) (x : Meaning) (index value : PlainExpr) → Serves app (set_element_of place x index value)
  set_element_serves place (m.Variable v) index value = tt
  set_element_serves place _ index value = tt

  input_serves : (place : Place) (taker : Option Taker) → Serves app (input_of place taker)
  input_serves place None = tt
  input_serves place (Some t) = tt

-- ---- statements
module _ (known : Known) (in_app : (visible : List Visible) (name : List ℕ) → IsInApp known.app (meaning known visible name)) where
  module _ (means : Means) (here : (name : List ℕ) → IsInApp known.app (means name)) where
    call_serves : (place : Place) (taker : Option Taker) (call : Call) (x : Meaning) → call_faults x means call ≡ [] → Serves known.app (call_by known place taker means call x)
    call_serves place taker call (m.Function f) none = tt
    call_serves place taker call (m.Service s) none = service_fits known.app means here s call none
    call_serves place taker call m.Input none = input_serves known.app place taker
    call_serves place taker call _ none = tt

    call_of_serves : (place : Place) (taker : Option Taker) (call : Call) → call_faults (means call.name.text) means call ≡ [] → Serves known.app (call_of known place taker means call)
    unfolding call_of
    call_of_serves place taker call none = call_serves place taker call (means call.name.text) none

    assign_serves : (place : Place) (target : Meaning) (to_local : Bool) (right : RightSide) → right_faults to_local means right ≡ [] → Serves known.app (assign_of known place target means right)
    assign_serves place target to_local (rights.Value e) none = set_serves known.app place target _
    assign_serves place target to_local (rights.Call call) none =
        call_of_serves place (taker_of target) call (back_none (result_faults to_local (means call.name.text) call.name.place) (call_faults (means call.name.text) means call) none)

    simple_serves : (s : Simple) → simple_faults means s ≡ [] → Serves known.app (simple_of known means s)
    unfolding simple_faults lone_call_faults simple_of
    simple_serves (simples.Assign name right) none =
        assign_serves name.place (means name.text) (is_local (means name.text)) right (back_none (target_faults false (means name.text) name.place) (right_faults (is_local (means name.text)) means right) none)
    simple_serves (simples.AssignElement name index value) none = set_element_serves known.app name.place (means name.text) _ _
    simple_serves (simples.Update name op value) none = set_serves known.app name.place (means name.text) _
    simple_serves (simples.PostIncrement name) none = set_serves known.app name.place (means name.text) _
    simple_serves (simples.PostDecrement name) none = set_serves known.app name.place (means name.text) _
    simple_serves (simples.PreIncrement place name) none = set_serves known.app place (means name.text) _
    simple_serves (simples.PreDecrement place name) none = set_serves known.app place (means name.text) _
    simple_serves (simples.Call call) none =
        call_of_serves call.name.place None call (back_none (when (is_input (means call.name.text)) 11 call.name.place) (call_faults (means call.name.text) means call) none)
    simple_serves (simples.Assert place condition) none = tt

    initial_serves : (name : Name) (target : Meaning) (o : Option RightSide) → initial_faults means name o ≡ [] → AllServe known.app (block (initial_of known name target means o))
    initial_serves name target None none = tt
    initial_serves name target (Some right) none = (assign_serves name.place target true right none, tt)

    step_serves : (o : Option Simple) → step_faults means o ≡ [] → AllServe known.app (block (step_of known means o))
    step_serves None none = tt
    step_serves (Some s) none = (simple_serves s none, tt)

  declarators_serve : (type_name : TypeName) (constant : Bool) (ds : List Declarator) (scope : Scope) → declarators_faults known type_name constant ds scope ≡ [] → AllServe known.app (block (declarators_of known type_name constant ds scope))
  declarators_serve type_name constant [] scope none = tt
  declarators_serve type_name constant (d ∷ ds) scope none =
      let means = means_in known scope in
      let target = target_of (length scope.locals) type_name in
      let inner = declared d.name type_name constant scope in
      let rest = back_none (when (is_declared scope d.name.text) 3 d.name.place) (initial_faults means d.name d.initial ++ declarators_faults known type_name constant ds inner) none in
      all_joined known.app (initial_of known d.name target means d.initial) (declarators_of known type_name constant ds inner)
      (initial_serves means (in_app scope.visible) d.name target d.initial (front_none (initial_faults means d.name d.initial) (declarators_faults known type_name constant ds inner) rest))
      (declarators_serve type_name constant ds inner (back_none (initial_faults means d.name d.initial) (declarators_faults known type_name constant ds inner) rest))

  start_serves : (o : Option Start) (scope : Scope) → start_faults known o scope ≡ [] → AllServe known.app (block (start_of known o scope))
  start_serves None scope none = tt
  start_serves (Some (starts.Local l)) scope none = declarators_serve l.type_name l.constant l.declarators scope none
  start_serves (Some (starts.Simple s)) scope none = (simple_serves (means_in known scope) (in_app scope.visible) s none, tt)

  module _ (gives : Option CType) (result : Bool) where
    mutual
      statement_serves : (s : WrittenStatement) (scope : Scope) → statement_faults known result s scope ≡ [] → AllServe known.app (block (typed_statement known gives s scope))
      statement_serves (written.Empty place) scope none = tt
      statement_serves (written.Block place body) scope none = (block_serves body (entered scope) none, tt)
      statement_serves (written.Declare place local) scope none = declarators_serve local.type_name local.constant local.declarators scope none
      statement_serves (written.Do place simple) scope none = (simple_serves (means_in known scope) (in_app scope.visible) simple none, tt)
      statement_serves (written.If place branches otherwise) scope none =
          let inner = entered (after_branches branches scope) in
          let one = front_none (branches_faults known result branches scope) (block_faults known result otherwise inner) none in
          let two = back_none (branches_faults known result branches scope) (block_faults known result otherwise inner) none in
          (branched_serves known.app place (typed_branches known gives branches scope) (block (typed_statements known gives otherwise inner)) (branches_serve branches scope one) (block_serves otherwise inner two), tt)
      statement_serves (written.While place condition body) scope none =
          (block_serves body (entered scope) (back_none (expression_faults condition (means_in known scope)) (block_faults known result body (entered scope)) none), tt)
      statement_serves (written.For place start condition step body) scope none =
          let outer = entered scope in
          let inner = after_start start outer in
          let means = means_in known inner in
          let c = block_faults known result body (entered inner) in
          let b = step_faults means step in
          let a = optional_faults condition means in
          let one = front_none (start_faults known start outer) (a ++ (b ++ c)) none in
          let two = back_none a (b ++ c) (back_none (start_faults known start outer) (a ++ (b ++ c)) none) in (
            (
              start_serves start outer one,
              step_serves means (in_app inner.visible) step (front_none b c two),
              block_serves body (entered inner) (back_none b c two),
            ),
            tt,
          )
      statement_serves (written.Return place value) scope none = (tt, tt)

      pub block_serves : (b : WrittenBlock) (scope : Scope) → block_faults known result b scope ≡ [] → AllServe known.app (block (typed_statements known gives b scope))
      block_serves NoStatement scope none = tt
      block_serves (StatementThen s ss) scope none =
          let one = front_none (statement_faults known result s scope) (block_faults known result ss (after s scope)) none in
          let two = back_none (statement_faults known result s scope) (block_faults known result ss (after s scope)) none in
          all_joined known.app (typed_statement known gives s scope) (typed_statements known gives ss (after s scope)) (statement_serves s scope one) (block_serves ss (after s scope) two)

      branches_serve : (bs : WrittenBranches) (scope : Scope) → branches_faults known result bs scope ≡ [] → BranchesServe known.app (typed_branches known gives bs scope)
      branches_serve NoBranch scope none = tt
      branches_serve (BranchThen place condition body more) scope none =
          let next = left scope (after_block body (entered scope)) in
          let a = expression_faults condition (means_in known scope) in
          let b = block_faults known result body (entered scope) in
          let c = branches_faults known result more next in
          let rest = back_none a (b ++ c) none in
          (block_serves body (entered scope) (front_none b c rest), branches_serve more next (back_none b c rest))

  -- ---- functions, and bodies of tasks and routines
  function_serves : (w : Function) → function_faults known w ≡ [] → AllServe known.app (function_of known w).body
  unfolding function_faults function_of
  function_serves w none =
      let main = when (is_main_name w.signature.name.text) 1 w.signature.name.place in
      let ninth = ninth_faults (slice_get w.signature.parameters 8) in
      let params = parameters_faults w.signature.parameters fresh in
      let inside = after_parameters w.signature.parameters fresh in
      let body = block_faults known (is_some w.signature.result) (written_block w.body) inside in
      let last = when (lacks_return (is_some w.signature.result) (written_block w.body)) 14 w.close in
      let a = back_none main (ninth ++ (params ++ (body ++ last))) none in
      let b = back_none ninth (params ++ (body ++ last)) a in
      let c = back_none params (body ++ last) b in
      block_serves (option_map ctype_named w.signature.result) (is_some w.signature.result) (written_block w.body) inside (front_none body last c)

  entity_serves : (kind : EntityKind) (name : Name) (b : WrittenBlock) (close : Place) → block_faults known false b fresh ≡ [] → AllServe known.app (entity_of known kind name b close).body
  unfolding entity_of
  entity_serves kind name b close none = block_serves None false b fresh none

  function_in_serves : (x : External) (i : ℕ) (f : PlainFunction) → external_faults known x ≡ [] → slice_get (functions_in known x) i ≡ Some f → AllServe known.app f.body
  unfolding external_faults
  function_in_serves (e.Function w) zero f none at = subst (λ (g : PlainFunction). AllServe known.app g.body) (same_Some (function_of known w) f at) (function_serves w none)
  function_in_serves (e.Function w) (suc i) f none at = absurd (none-some f at)
  function_in_serves (e.DeclareTask name) i f none at = absurd (none-some f at)
  function_in_serves (e.DeclareResource name) i f none at = absurd (none-some f at)
  function_in_serves (e.Entity kind name body close) i f none at = absurd (none-some f at)
  function_in_serves (e.Variables ds) i f none at = absurd (none-some f at)
  function_in_serves (e.Prototype s) i f none at = absurd (none-some f at)

  entity_in_serves : (x : External) (i : ℕ) (f : PlainEntity) → external_faults known x ≡ [] → slice_get (entity_in known x) i ≡ Some f → AllServe known.app f.body
  unfolding external_faults
  entity_in_serves (e.Entity kind name body close) zero f none at =
      subst (λ (g : PlainEntity). AllServe known.app g.body) (same_Some (entity_of known kind name (written_block body) close) f at) (entity_serves kind name (written_block body) close none)
  entity_in_serves (e.Entity kind name body close) (suc i) f none at = absurd (none-some f at)
  entity_in_serves (e.DeclareTask name) i f none at = absurd (none-some f at)
  entity_in_serves (e.DeclareResource name) i f none at = absurd (none-some f at)
  entity_in_serves (e.Function w) i f none at = absurd (none-some f at)
  entity_in_serves (e.Variables ds) i f none at = absurd (none-some f at)
  entity_in_serves (e.Prototype s) i f none at = absurd (none-some f at)

-- ---- the whole text
externals_met : (unit : WrittenUnit) (app : App) → faults unit app ≡ [] → flat_map (external_faults (known_of app unit)) unit.externals ≡ []
unfolding faults
externals_met unit app none = back_none (names_faults (nothing_of app) unit.externals) (flat_map (external_faults (known_of app unit)) unit.externals) none

typed_serving : (app : App) (unit : WrittenUnit) → faults unit app ≡ [] → AreServing app (typed unit app)
unfolding typed
typed_serving app unit none =
    let known = known_of app unit in
    let of = known_is_of app unit in
    let met = externals_met unit app none in
    let in_app = meaning_in_app known (subst (λ a. AreInApp a known.files) (sym of.same) of.names) in
    record {
      functions = λ g f at.
          let x = joined_at (functions_in known) unit.externals g f at in
          subst (λ a. AllServe a f.body) of.same (function_in_serves known in_app x.from x.inner f (each_none (external_faults known) unit.externals x.at x.from met x.listed) x.is);
      entities = λ i b at.
          let x = joined_at (entity_in known) unit.externals i b at in
          subst (λ a. AllServe a b.body) of.same (entity_in_serves known in_app x.from x.inner b (each_none (external_faults known) unit.externals x.at x.from met x.listed) x.is);
    }

pub serving : (app : App) (u : PlainUnit) → Fits app u → AreServing app u
serving app u h = subst (AreServing app) (sym h.is_typed) (typed_serving app h.unit h.accepted)
