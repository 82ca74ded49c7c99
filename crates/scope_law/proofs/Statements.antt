-- Statements without statements in them that break no rule.
use Rattle.std.proofs.Common.{◌≡◌, ℕ, ◌+◌, ◌<◌, ◌==◌, suc, Bool, true, false, not, is_some, List, [], ◌∷◌, ◌++◌, length, slice_get, Option, Some, None, IsTrue, true≢false, refl, sym, ap, ◌∙◌, subst}
use Rattle.std.specs.List.{flat_map}
use Rattle.std.specs.Option.{option_map}
use Rattle.std.proofs.lemmas.Bool.{eqb-true, not-false}
use Rattle.chk_base.specs.declared.place.Place.{Place}
use Rattle.c_unit.specs.declared.expression.Argument.{Argument}
use Rattle.c_unit.specs.declared.expression.BinaryOperator.{BinaryOperator}
use Rattle.c_unit.specs.declared.expression.BinaryOperator.TheVariants as binary
use Rattle.c_unit.specs.declared.expression.Call.{Call}
use Rattle.c_unit.specs.declared.expression.RightSide.{RightSide}
use Rattle.c_unit.specs.declared.expression.RightSide.TheVariants as rights
use Rattle.c_unit.specs.declared.expression.TypeName.{TypeName}
use Rattle.c_unit.specs.declared.statement.Simple.{Simple}
use Rattle.c_unit.specs.declared.statement.Simple.TheVariants as simples
use Rattle.c_unit.specs.declared.unit.Parameter.{Parameter}
use Rattle.c_rules.specs.declared.meaning.FunctionMeaning.{FunctionMeaning}
use Rattle.c_rules.specs.declared.meaning.LocalMeaning.{LocalMeaning}
use Rattle.c_rules.specs.declared.meaning.Meaning.{Meaning}
use Rattle.c_rules.specs.declared.meaning.Meaning.TheVariants as m
use Rattle.c_rules.specs.First.{when}
use Rattle.c_rules.specs.Meanings.{is_local, is_constant, is_input}
use Rattle.c_rules.specs.Files.{Known}
use Rattle.c_rules.specs.Rules.{Means, use_faults, target_faults, expression_faults, argument_faults, called_faults, call_faults, result_faults, right_faults, lone_call_faults}
use Rattle.c_rules.specs.StatementRules.{simple_faults}
use Rattle.typed_unit.specs.declared.typed.CType.{CType}
use Rattle.typed_unit.specs.declared.typed.Taker.{Taker}
use Rattle.typed_unit.specs.Plain.{PlainExpr, PlainStatement, PlainFunction, PlainUnit}
use Rattle.typed_unit.specs.Conversions.{ctype_named, binary_of}
use Rattle.typed_unit.specs.TypedExpressions.{typed_expression, variable_of}
use Rattle.typed_unit.specs.TypedStatements.{set_of, set_element_of, taker_of, argument_of, arguments_from, parameters_of, input_of, call_by, call_of, assign_of, update_of, one_at, simple_of}
use Rattle.lower_law.specs.Scoped.{AreScoped, IsScoped, IsTaker, IsTaken, IsFunction, StatementScoped, known_behind}
use Rattle.scope_law.specs.Right.{IsCalled, IsCallIn}
use Rattle.scope_law.proofs.Meant.{front_none, back_none, unbroken, IsThere, IsSigned, IsFound, IsMeant}
use Rattle.scope_law.proofs.Expressions.{scalar, array, converted_scoped, promoted_scoped, binary_scoped, value_scoped, expression_scoped}
use Rattle.scope_law.proofs.Locals.{learn_same}

-- a target is there; a local need not be set
abbrev pub IsTarget : PlainUnit → ℕ → Meaning → Type 0
IsTarget u locals (m.Local l) = l.number < locals
IsTarget u locals (m.Variable v) = IsThere (IsFound v.len) (slice_get u.globals v.number)
IsTarget u locals _ = Unit {0}

target_meant : (u : PlainUnit) (locals : ℕ) (ready : ℕ → Bool) (target : Meaning) → IsMeant u locals ready target → IsTarget u locals target
target_meant u locals ready (m.Local l) h = h.1
target_meant u locals ready (m.Variable v) h = h
target_meant u locals ready _ h = tt

-- a target breaks no rule on uses
used : (indexed : Bool) (meaning : Meaning) (place : Place) → target_faults indexed meaning place ≡ [] → use_faults indexed meaning place ≡ []
unfolding target_faults
used indexed meaning place h = front_none (use_faults indexed meaning place) (when (is_constant meaning) 8 place) h

-- a local is used as a scalar
pub local_usable : (l : LocalMeaning) (place : Place) → use_faults false (m.Local l) place ≡ []
unfolding use_faults
local_usable l place = refl

-- only a result is taken
abbrev IsTakenBy : Meaning → Option Taker → Type 0
IsTakenBy (m.Function f) t = IsTaken (option_map ctype_named f.result) t
IsTakenBy _ t = Unit {0}

not_taken : (r : Option CType) → IsTaken r None
not_taken None = tt
not_taken (Some t) = tt

taken_none : (meaning : Meaning) → IsTakenBy meaning None
taken_none (m.Function f) = not_taken (option_map ctype_named f.result)
taken_none _ = tt

result_taken : (r : Option TypeName) (t : Taker) → not (is_some r) ≡ false → IsTaken (option_map ctype_named r) (Some t)
result_taken None t e = absurd (true≢false e)
result_taken (Some x) t e = tt

taken_some : (meaning : Meaning) (t : Taker) (place : Place) → result_faults true meaning place ≡ [] → IsTakenBy meaning (Some t)
unfolding result_faults
taken_some (m.Function f) t place h = result_taken f.result t (unbroken (not (is_some f.result)) 12 place (front_none (when (not (is_some f.result)) 12 place) [] h))
taken_some _ t place h = tt

taken_by : (target meaning : Meaning) (place : Place) → result_faults (is_local target) meaning place ≡ [] → IsTakenBy meaning (taker_of target)
taken_by (m.Local l) meaning place h = taken_some meaning (record { local = l.number; ctype = ctype_named l.type_name }) place h
taken_by _ meaning place h = taken_none meaning

taker_scoped : (u : PlainUnit) (locals : ℕ) (target : Meaning) → IsTarget u locals target → IsTaker locals (taker_of target)
taker_scoped u locals (m.Local l) h = h
taker_scoped u locals _ h = tt

-- a function that is called by its number
callee : (f : FunctionMeaning) (o : Option PlainFunction) (args : List PlainExpr) (t : Option Taker) → IsThere (IsSigned f) o → length args ≡ f.parameters → IsTaken (option_map ctype_named f.result) t → IsFunction (IsCalled args t) o
callee f None args t s c k = absurd s
callee f (Some x) args t s c k = record { count = c ∙ sym s.params; taken = subst (λ r. IsTaken r t) (sym s.result) k }

module _ (u : PlainUnit) (locals : ℕ) (result : Option CType) (ready : ℕ → Bool) where
  -- a statement of this body is right where these locals are set
  abbrev OneScoped : PlainStatement → Type 0
  OneScoped s = StatementScoped u.globals (IsCallIn u) locals result ready s

  set_scoped : (target : Meaning) (at place : Place) (value : PlainExpr) → IsTarget u locals target → use_faults false target place ≡ [] → IsScoped u.globals ready value → OneScoped (set_of at target value)
  unfolding use_faults
  set_scoped (m.Local l) at place value s h q = (converted_scoped u.globals ready (ctype_named l.type_name) value q, s)
  set_scoped (m.Variable v) at place value s h q = (
    converted_scoped u.globals ready (ctype_named v.type_name) value q,
    scalar (slice_get u.globals v.number) v.len s (unbroken (is_some v.len) 10 place (front_none (when (is_some v.len) 10 place) [] h)),
  )
  set_scoped _ at place value s h q = tt

  set_element_scoped : (target : Meaning) (at place : Place) (index value : PlainExpr) → IsTarget u locals target → use_faults true target place ≡ [] → IsScoped u.globals ready index → IsScoped u.globals ready value → OneScoped (set_element_of at target index value)
  unfolding use_faults
  set_element_scoped (m.Variable v) at place index value s h p q = (
    promoted_scoped u.globals ready index p,
    converted_scoped u.globals ready (ctype_named v.type_name) value q,
    array (slice_get u.globals v.number) v.len s (unbroken (not (is_some v.len)) 10 place (front_none (when (not (is_some v.len)) 10 place) [] h)),
  )
  set_element_scoped _ at place index value s h p q = tt

  update_scoped : (target : Meaning) (at place : Place) (op : BinaryOperator) (e : PlainExpr) → IsMeant u locals ready target → use_faults false target place ≡ [] → IsScoped u.globals ready e → OneScoped (update_of at target op e)
  update_scoped target at place op e s h q =
      set_scoped target at place (binary_of at op (variable_of at target) e) (target_meant u locals ready target s) h
      (binary_scoped u.globals ready at op (variable_of at target) e (value_scoped u locals ready target at place s h) q)

  input_scoped : (at : Place) (t : Option Taker) → IsTaker locals t → OneScoped (input_of at t)
  input_scoped at None h = tt
  input_scoped at (Some t) h = h

  module _ (known : Known) (means : Means) (meant : (name : List ℕ) → IsMeant u locals ready (means name)) where
    argument_scoped : (o : Option Parameter) (a : Argument) → expression_faults a.value means ≡ [] → IsScoped u.globals ready (argument_of means o a)
    argument_scoped None a h = expression_scoped u locals ready means meant a.value h
    argument_scoped (Some q) a h = converted_scoped u.globals ready (ctype_named q.type_name) (typed_expression a.value means) (expression_scoped u locals ready means meant a.value h)

    arguments_scoped : (f : FunctionMeaning) (qs : List Parameter) (n : ℕ) (xs : List Argument) → flat_map (argument_faults (m.Function f) means) xs ≡ [] → AreScoped u.globals ready (arguments_from means qs n xs)
    unfolding argument_faults
    arguments_scoped f qs n [] h = tt
    arguments_scoped f qs n (a ∷ more) h =
        let front = front_none (expression_faults a.value means) (flat_map (argument_faults (m.Function f) means) more) h in
        let back = back_none (expression_faults a.value means) (flat_map (argument_faults (m.Function f) means) more) h in
        (argument_scoped (slice_get qs n) a front, arguments_scoped f qs (n + 1) more back)

    arguments_count : (qs : List Parameter) (n : ℕ) (xs : List Argument) → length (arguments_from means qs n xs) ≡ length xs
    arguments_count qs n [] = refl
    arguments_count qs n (a ∷ more) = ap (λ k. suc k) (arguments_count qs (n + 1) more)

    -- a call of what has this meaning
    call_scoped : (meaning : Meaning) (at : Place) (t : Option Taker) (call : Call) → IsMeant u locals ready meaning → call_faults meaning means call ≡ [] → IsTakenBy meaning t → IsTaker locals t → OneScoped (call_by known at t means call meaning)
    unfolding call_faults called_faults
    call_scoped (m.Function f) at t call s h k l =
        let called = called_faults (m.Function f) (length call.arguments) call.name.place in
        let others = flat_map (argument_faults (m.Function f) means) call.arguments in
        let qs = parameters_of (slice_get known.functions f.number) in
        let other = not (length call.arguments == f.parameters) in
        let count = unbroken other 5 call.name.place (front_none (when other 5 call.name.place) [] (front_none called others h)) in
        let same = arguments_count qs 0 call.arguments ∙ eqb-true (length call.arguments) f.parameters (not-false (length call.arguments == f.parameters) count) in (
          arguments_scoped f qs 0 call.arguments (back_none called others h),
          callee f (slice_get u.functions f.number) (arguments_from means qs 0 call.arguments) t s same k,
          l,
        )
    call_scoped m.Input at t call s h k l = input_scoped at t l
    call_scoped (m.Service x) at t call s h k l = tt
    call_scoped (m.Local x) at t call s h k l = tt
    call_scoped (m.Variable v) at t call s h k l = tt
    call_scoped (m.Task n) at t call s h k l = tt
    call_scoped (m.Routine n) at t call s h k l = tt
    call_scoped (m.Resource n) at t call s h k l = tt
    call_scoped m.LeftOut at t call s h k l = tt
    call_scoped m.Nothing at t call s h k l = tt

    -- an assignment to what has this meaning
    pub assign_scoped : (target : Meaning) (at place : Place) (right : RightSide) → IsTarget u locals target → use_faults false target place ≡ [] → right_faults (is_local target) means right ≡ [] → OneScoped (assign_of known at target means right)
    unfolding call_of
    assign_scoped target at place (rights.Value e) s q h = set_scoped target at place (typed_expression e means) s q (expression_scoped u locals ready means meant e h)
    assign_scoped target at place (rights.Call call) s q h =
        let meaning = means call.name.text in
        let taking = result_faults (is_local target) meaning call.name.place in
        let calling = call_faults meaning means call in
        call_scoped meaning at (taker_of target) call (meant call.name.text) (back_none taking calling h)
        (taken_by target meaning call.name.place (front_none taking calling h)) (taker_scoped u locals target s)

    -- what takes a value is set behind it
    call_learns : (meaning : Meaning) (t : Taker) (at place : Place) (call : Call) → result_faults true meaning place ≡ [] → call_faults meaning means call ≡ [] → IsTrue (known_behind ready (call_by known at (Some t) means call meaning) t.local)
    unfolding result_faults call_faults called_faults
    call_learns (m.Function f) t at place call h g = learn_same ready t.local
    call_learns m.Input t at place call h g = learn_same ready t.local
    call_learns (m.Service x) t at place call h g = absurd (cc)
    call_learns (m.Local x) t at place call h g = absurd (cc)
    call_learns (m.Variable v) t at place call h g = absurd (cc)
    call_learns (m.Task n) t at place call h g = absurd (cc)
    call_learns (m.Routine n) t at place call h g = absurd (cc)
    call_learns (m.Resource n) t at place call h g = absurd (cc)
    call_learns m.LeftOut t at place call h g = absurd (cc)
    call_learns m.Nothing t at place call h g = absurd (cc)

    pub assign_learns : (l : LocalMeaning) (at : Place) (right : RightSide) → right_faults true means right ≡ [] → IsTrue (known_behind ready (assign_of known at (m.Local l) means right) l.number)
    unfolding call_of
    assign_learns l at (rights.Value e) h = learn_same ready l.number
    assign_learns l at (rights.Call call) h =
        let meaning = means call.name.text in
        let taking = result_faults true meaning call.name.place in
        let calling = call_faults meaning means call in
        call_learns meaning (record { local = l.number; ctype = ctype_named l.type_name }) at call.name.place call (front_none taking calling h) (back_none taking calling h)

    -- a statement without statements in it
    pub simple_scoped : (s : Simple) → simple_faults means s ≡ [] → OneScoped (simple_of known means s)
    unfolding simple_faults simple_of lone_call_faults call_of
    simple_scoped (simples.Assign name right) h =
        let target = means name.text in
        let one = target_faults false target name.place in
        let two = right_faults (is_local target) means right in
        assign_scoped target name.place name.place right (target_meant u locals ready target (meant name.text)) (used false target name.place (front_none one two h)) (back_none one two h)
    simple_scoped (simples.AssignElement name index value) h =
        let target = means name.text in
        let one = target_faults true target name.place in
        let two = expression_faults index means in
        let three = expression_faults value means in
        let rest = back_none one (two ++ three) h in
        set_element_scoped target name.place name.place (typed_expression index means) (typed_expression value means) (target_meant u locals ready target (meant name.text)) (used true target name.place (front_none one (two ++ three) h))
        (expression_scoped u locals ready means meant index (front_none two three rest)) (expression_scoped u locals ready means meant value (back_none two three rest))
    simple_scoped (simples.Update name op value) h =
        let target = means name.text in
        let one = target_faults false target name.place in
        let two = expression_faults value means in
        update_scoped target name.place name.place op (typed_expression value means) (meant name.text) (used false target name.place (front_none one two h)) (expression_scoped u locals ready means meant value (back_none one two h))
    simple_scoped (simples.PostIncrement name) h =
        update_scoped (means name.text) name.place name.place binary.Add (one_at name.place) (meant name.text) (used false (means name.text) name.place h) tt
    simple_scoped (simples.PostDecrement name) h =
        update_scoped (means name.text) name.place name.place binary.Subtract (one_at name.place) (meant name.text) (used false (means name.text) name.place h) tt
    simple_scoped (simples.PreIncrement place name) h =
        update_scoped (means name.text) place name.place binary.Add (one_at place) (meant name.text) (used false (means name.text) name.place h) tt
    simple_scoped (simples.PreDecrement place name) h =
        update_scoped (means name.text) place name.place binary.Subtract (one_at place) (meant name.text) (used false (means name.text) name.place h) tt
    simple_scoped (simples.Call call) h =
        let meaning = means call.name.text in
        let one = when (is_input meaning) 11 call.name.place in
        let two = call_faults meaning means call in
        call_scoped meaning call.name.place None call (meant call.name.text) (back_none one two h) (taken_none meaning) tt
    simple_scoped (simples.Assert place condition) h = expression_scoped u locals ready means meant condition h
