-- The counts of a unit are those of its points and its cells.
use Rattle.std.proofs.Common.{◌≡◌, ℕ, zero, suc, ◌+◌, ◌*◌, List, [], ◌∷◌, ◌++◌, length, Option, Some, None, refl, ap, ◌∙◌, arith}
use Rattle.std.specs.Prelude.{slice_get}
use Rattle.chk_base.specs.Widths.{bits_of}
use Rattle.step_ir.specs.declared.code.CellName.{CellName}
use Rattle.step_ir.specs.Fits.{bit_count}
use Rattle.typed_unit.specs.declared.typed.GlobalVar.{GlobalVar}
use Rattle.typed_unit.specs.declared.typed.Local.{Local}
use Rattle.typed_unit.specs.Plain.{PlainFunction, PlainEntity, PlainUnit}
use Rattle.lower_law.specs.Counts.{Thing, call_depth, things_in, called, call_bits, local_bits, if_function, function_points, function_bits, entity_points, entity_reads, entity_bits, sum_of, global_bits, if_body, bit_total}
use Rattle.lower_law.specs.Exact.{exchanged, first_position}
use Rattle.lower_law.specs.Layout.{element_names, variable_names, global_names, local_names, called_names, call_names, value_names, if_some, function_names, body_names, entity_names, names_before, layout, cell_width, lowered_points}
use Rattle.lower_law.specs.Lowered.{plan_to, outer, size_all, closing_size}
use Rattle.lower_law.specs.Statements.{CellFunction, rooms_to}
use Rattle.lower_law.specs.Translated.{elements, entity_body, unit_over_cells}
use Rattle.lower_law.proofs.Sizes.{length_plan, sized_to}
use Rattle.lower_law.proofs.Totals.{size_in, plan_points, points_same}
use Rattle.lower_law.proofs.Wholes.{body_stands}

pub bits_append : (xs ys : List CellName) → bit_count (xs ++ ys) ≡ bit_count xs + bit_count ys
bits_append [] ys = omega arith
bits_append (x ∷ xs) ys = let h = bits_append xs ys in omega arith

element_bits : (g : GlobalVar) (at n : ℕ) → bit_count (element_names g at n) ≡ n * bits_of g.ctype.width
element_bits g at zero = omega arith
element_bits g at (suc n) = let h = element_bits g (at + 1) n in omega arith

variable_bits : (g : GlobalVar) (o : Option ℕ) → bit_count (variable_names g o) ≡ elements o * bits_of g.ctype.width
variable_bits g None = omega arith
variable_bits g (Some n) = element_bits g 0 n

pub globals_bits : (gs : List GlobalVar) → bit_count (global_names gs) ≡ sum_of global_bits gs
globals_bits [] = refl
globals_bits (g ∷ gs) = let h = globals_bits gs in let v = variable_bits g g.len in let a = bits_append (variable_names g g.len) (global_names gs) in omega arith

locals_bits : (ls : List Local) → bit_count (local_names ls) ≡ local_bits ls
locals_bits [] = refl
locals_bits (l ∷ ls) = let h = locals_bits ls in omega arith

values_bits : (n : ℕ) → bit_count (value_names n) ≡ 32 * n
values_bits zero = omega arith
values_bits (suc n) = let h = values_bits n in omega arith

calls_bits : (names : ℕ → List CellName) (bits : ℕ → ℕ) (same : (f : ℕ) → bit_count (names f) ≡ bits f) (xs : List Thing) → bit_count (call_names names xs) ≡ call_bits bits xs
calls_bits names bits same [] = refl
calls_bits names bits same (x ∷ xs) =
    let h = calls_bits names bits same xs in
    let c = of_call x.calls in
    let a = bits_append (called_names names x.calls) (call_names names xs) in
    omega arith
  where
    of_call : (o : Option ℕ) → bit_count (called_names names o) ≡ called bits o
    of_call None = refl
    of_call (Some f) = same f

module _ (u : PlainUnit) where
  functions_bits : (d f : ℕ) → bit_count (function_names u d f) ≡ function_bits u d f
  functions_bits zero f = refl
  functions_bits (suc d) f = go (slice_get u.functions f) (functions_bits d) where
    go : (o : Option PlainFunction) → ((f : ℕ) → bit_count (function_names u d f) ≡ function_bits u d f) → bit_count (if_some (λ x. local_names x.locals ++ call_names (function_names u d) (things_in x.body)) o) ≡ if_function (λ x. local_bits x.locals + call_bits (function_bits u d) (things_in x.body)) o
    go None h = refl
    go (Some x) h =
        let a = bits_append (local_names x.locals) (call_names (function_names u d) (things_in x.body)) in
        let b = locals_bits x.locals in
        let c = calls_bits (function_names u d) (function_bits u d) h (things_in x.body) in
        omega arith

  body_bits : (o : Option PlainEntity) → bit_count (if_some (body_names u) o) ≡ if_body (entity_bits u) o
  body_bits None = refl
  body_bits (Some e) =
      let cs = call_names (function_names u call_depth) (things_in e.body) in
      let vs = value_names (entity_reads u e) in
      let a = bits_append (local_names e.locals) (cs ++ vs) in
      let b = bits_append cs vs in
      let c = locals_bits e.locals in
      let d = calls_bits (function_names u call_depth) (function_bits u call_depth) (functions_bits call_depth) (things_in e.body) in
      let v = values_bits (entity_reads u e) in
      omega arith

  -- the cells of the first n entities and of the globals have the bits that are counted
  pub all_bits : (n : ℕ) → bit_count (names_before u n) ≡ bit_total u n
  all_bits zero = let h = globals_bits u.globals in omega arith
  all_bits (suc n) =
      let h = all_bits n in
      let b = body_bits (entity_body n u.entities) in
      let a = bits_append (names_before u n) (entity_names u n) in
      omega arith

  -- an entity has the points that are counted
  pub points_counted : (n e : ℕ) (b : PlainEntity) → entity_body e u.entities ≡ Some b → length (lowered_points u n e) ≡ entity_points u b
  points_counted n e b eb =
      let s = body_stands u e b eb in
      let c = unit_over_cells u in
      let temp = (layout u).temp e in
      let number = exchanged (first_position c call_depth (layout u) (cell_width u n) e) in
      let rooms = rooms_to c call_depth in
      let plans = plan_to number temp c call_depth in
      let l = length_plan number temp c.fun rooms plans (sized_to number temp c call_depth) (c.entity e) (outer ((layout u).first e)) 0 in
      let z = ap (λ (f : CellFunction). size_all number temp c.fun rooms plans f.body + closing_size f.gives) s.body in
      let x = size_in u.globals number temp c.fun rooms plans b.locals b.body in
      let y = points_same (λ f. (plans f).size) (function_points u call_depth) (things_in b.body) (plan_points u number temp call_depth) in
      l ∙ z ∙ omega arith
