-- The code that a typed unit is lowered to fits its application.
use Rattle.std.proofs.Common.{◌≡◌, ℕ, zero, suc, ◌+◌, ◌<◌, ◌≤◌, Bool, true, false, if◌then◌else◌, List, [], ◌∷◌, length, map, Option, Some, None, refl, sym, ap, ◌∙◌, subst, arith}
use Rattle.std.specs.Prelude.{slice_get}
use Rattle.std.proofs.lemmas.Bool.Decides.{nat_tests}
use Rattle.std.proofs.lemmas.List.{length-map}
use Rattle.std.proofs.lemmas.Option.{slice_get_within}
use Rattle.application.specs.declared.app.App.{App}
use Rattle.chk_base.specs.Operators.{truth}
use Rattle.chk_base.specs.Term.{Term}
use Rattle.chk_base.specs.WordValue.{word_at}
use Rattle.step_ir.specs.declared.code.Code.{Code}
use Rattle.step_ir.specs.declared.code.EntityCode.{EntityCode}
use Rattle.step_ir.specs.Fits.{Fits, AreNextsFit, IsPointFit, bit_count}
use Rattle.step_ir.specs.Points.{PlainPoint, plain_of, points_of, points_in, first_cell, start_word}
use Rattle.step_ir.specs.PointStep.{val, first, or_zero}
use Rattle.typed_unit.specs.Plain.{PlainFunction, PlainEntity, PlainUnit}
use Rattle.lower_law.specs.Counts.{call_depth, things_in, function_points, entity_points, if_body, point_total, bit_total}
use Rattle.lower_law.specs.Exact.{FitsEntity, exchanged, first_position}
use Rattle.lower_law.specs.FitsBody.{FitsTo}
use Rattle.lower_law.specs.Layout.{layout, cell_width, lowered_points}
use Rattle.lower_law.specs.Lowered.{Nexts, size_all, closing_size, plan_of, plan_to, outer, entry_of_entity}
use Rattle.lower_law.specs.Statements.{CellFunction, rooms_to}
use Rattle.lower_law.specs.Translated.{is_entity, entity_body, unit_over_cells}
use Rattle.lower_law.proofs.Bits.{all_bits, points_counted}
use Rattle.lower_law.proofs.Sizes.{sized_to}
use Rattle.lower_law.proofs.Totals.{size_in, plan_points, points_same}
use Rattle.lower_law.proofs.Wholes.{body_stands, entity_fits}
use Rattle.scope_law.specs.Right.{HasBody}
use Rattle.scope_law.specs.Serving.{AreServing}
use Rattle.scope_law.specs.Variables.{AreVariablesFit}
use Rattle.fit_law.specs.Codes.{IsCodeOf, first_point}
use Rattle.fit_law.proofs.Expressions.{Space}
use Rattle.fit_law.proofs.Nexts.{Goes, ArePointsFit}
use Rattle.fit_law.proofs.Bodies.{AreSound, IsSoundTo, IsContext, plan_goes, plan_fit, calls_fit}
use Rattle.fit_law.proofs.Sound.{body_sound}
use Rattle.fit_law.proofs.Cells.{value_cells, cells_are, first_is, points_are, starts_fit}

-- the body of an entity is one of the unit's
body_at : (e : ℕ) (bs : List PlainEntity) (b : PlainEntity) → entity_body e bs ≡ Some b → (i : ℕ) × (slice_get bs i ≡ Some b)
body_at e [] b h = absurd (let k : ◌≡◌ {A = Option PlainEntity} None (Some b) = h in cc)
body_at e (x ∷ xs) b h = go (is_entity e x.entity) h (body_at e xs b) where
  go : (c : Bool) → (if c then Some x else entity_body e xs) ≡ Some b → (entity_body e xs ≡ Some b → (i : ℕ) × (slice_get xs i ≡ Some b)) → (i : ℕ) × (slice_get (x ∷ xs) i ≡ Some b)
  go true k ih = (0, k)
  go false k ih = let r = ih k in (suc r.0, r.1)

-- two positions that change places stay below the end
exchanged_below : (z i total : ℕ) → z < total → i < total → exchanged z i < total
exchanged_below z i total lz li = grind (arith, nat_tests)

module _ (app : App) (u : PlainUnit) (n : ℕ) (code : Code) (is : IsCodeOf u n code) (serving : AreServing app u) (variables : AreVariablesFit u.globals) where
  -- the first next is a point of the entity
  first_below : (e : ℕ) (v : Term → ℕ) (xs : Nexts) → AreNextsFit code e xs → 0 < length (points_in code e) → or_zero (first v xs) < length (points_in code e)
  first_below e v [] f z = z
  first_below e v (x ∷ xs) f z = go (truth (v x.0)) (first_below e v xs f.2 z) where
    go : (b : Bool) → or_zero (first v xs) < length (points_in code e) → or_zero (if b then Some x.1 else first v xs) < length (points_in code e)
    go true r = f.1
    go false r = r

  -- points that fit, by their numbers
  fit_at : (e : ℕ) (ps : List PlainPoint) (at : ℕ) (p : PlainPoint) → ArePointsFit code e app ps → slice_get ps at ≡ Some p → IsPointFit app code e p
  fit_at e [] at p f h = absurd (let k : ◌≡◌ {A = Option PlainPoint} None (Some p) = h in cc)
  fit_at e (q ∷ qs) zero p f h = subst (IsPointFit app code e) (let k : q ≡ p = cc in k) f.0
  fit_at e (q ∷ qs) (suc at) p f h = fit_at e qs at p f.1 h

  module _ (e : ℕ) (lt : e < n) (b : PlainEntity) (there : entity_body e u.entities ≡ Some b) where
    -- the points of the entity's plan, whatever their numbers
    plan_total : (number : ℕ → ℕ) → (plan_of number ((layout u).temp e) (unit_over_cells u).fun (rooms_to (unit_over_cells u) call_depth) (plan_to number ((layout u).temp e) (unit_over_cells u) call_depth) ((unit_over_cells u).entity e)).size ≡ entity_points u b
    plan_total number =
        let s = body_stands u e b there in
        let c = unit_over_cells u in
        let temp = (layout u).temp e in
        let rooms = rooms_to c call_depth in
        let plans = plan_to number temp c call_depth in
        let z = ap (λ (f : CellFunction). size_all number temp c.fun rooms plans f.body + closing_size f.gives) s.body in
        let x = size_in u.globals number temp c.fun rooms plans b.locals b.body in
        let y = points_same (λ f. (plans f).size) (function_points u call_depth) (things_in b.body) (plan_points u number temp call_depth) in
        z ∙ omega arith

    -- the code has the points that are counted
    length_points : length (points_in code e) ≡ entity_points u b
    length_points = (is.points e lt).long ∙ points_counted u n e b there

    -- so there is one
    some_points : 1 ≤ length (points_in code e)
    some_points = let l = length_points in omega arith

    module _ (fe : FitsEntity (unit_over_cells u) call_depth (layout u) (cell_width u n) e) (sound : AreSound app (length u.functions) (IsSoundTo app (length u.functions) (unit_over_cells u) call_depth) ((unit_over_cells u).entity e).body) where
      -- how many points there are
      abbrev total : ℕ
      total = entity_points u b

      -- the cells of the entity
      space : Space code e (layout u).globals ((layout u).temp e) ((layout u).top e)
      space =
          let here = first_is u n code is e (omega arith) in
          let z : e + 1 ≡ suc e = omega arith in
          let last = ap (first_cell code) z ∙ first_is u n code is (suc e) (omega arith) in
          let few = ap length is.globals in
          let room = fe.room in
          record {
            few = omega arith;
            low = omega arith;
            middle = room;
            high = omega arith;
            wide = λ c low high. ap (λ l. (word_at (map start_word l) c).width) (cells_are u n code is) ∙ value_cells u n e b lt there c low high;
          }

      -- the code has the functions of the unit
      exist : length u.functions ≤ length code.functions
      exist =
          let a = ap length is.functions in
          let m = length-map u.functions (λ (f : PlainFunction). f.name.text) in
          omega arith

      -- the context of its body
      context : IsContext app code e (outer ((layout u).first e))
      context = record { low = let here = first_is u n code is e (omega arith) in omega arith; after = refl; into = tt }

      -- it has no result
      inner : ((unit_over_cells u).entity e).gives ≡ true → false ≡ true
      inner g = let v = fe.void in cc

      -- with positions for numbers, it begins at one of its points
      begins : Goes code e (entry_of_entity (λ i. i) ((layout u).temp e) (unit_over_cells u) call_depth ((layout u).first e) ((unit_over_cells u).entity e))
      begins =
          let c = unit_over_cells u in
          let lay = layout u in
          let functions = length u.functions in
          let width = cell_width u n in
          let l = length_points in
          let t = plan_total (λ i. i) in
          let inside : (at : ℕ) → at < total → at < length (points_in code e) = λ at h. omega arith in
          let calls = calls_fit app code e (λ i. i) total inside lay.globals (lay.temp e) (lay.top e) space width functions exist c call_depth in
          plan_goes app code e (λ i. i) total inside lay.globals (lay.temp e) (lay.top e) space width functions exist c (rooms_to c call_depth) (plan_to (λ i. i) (lay.temp e) c call_depth) (sized_to (λ i. i) (lay.temp e) c call_depth) (FitsTo width lay.globals (lay.temp e) (lay.top e) c call_depth) (IsSoundTo app functions c call_depth) calls (c.entity e) (outer (lay.first e)) 0 fe.fits sound context inner (omega arith)

      -- its points fit
      points_fit : ArePointsFit code e app (lowered_points u n e)
      points_fit =
          let c = unit_over_cells u in
          let lay = layout u in
          let functions = length u.functions in
          let width = cell_width u n in
          let l = length_points in
          let z = first_position c call_depth lay width e in
          let below = first_below e (val width (λ i. 0)) (entry_of_entity (λ i. i) (lay.temp e) c call_depth (lay.first e) (c.entity e)) begins.fit some_points in
          let number = exchanged z in
          let t = plan_total number in
          let inside : (at : ℕ) → at < total → number at < length (points_in code e) = λ at h. exchanged_below z at (length (points_in code e)) below (omega arith) in
          let calls = calls_fit app code e number total inside lay.globals (lay.temp e) (lay.top e) space width functions exist c call_depth in
          plan_fit app code e number total inside lay.globals (lay.temp e) (lay.top e) space width functions exist c (rooms_to c call_depth) (plan_to number (lay.temp e) c call_depth) (sized_to number (lay.temp e) c call_depth) (FitsTo width lay.globals (lay.temp e) (lay.top e) c call_depth) (IsSoundTo app functions c call_depth) calls (c.entity e) (outer (lay.first e)) 0 fe.fits sound context inner (omega arith)

  module _ (bodies : (e : ℕ) → e < n → HasBody u e) where
    -- so the points of each entity fit, by their positions
    entity_fit : (e : ℕ) → e < n → ArePointsFit code e app (lowered_points u n e)
    entity_fit e lt =
        let h = bodies e lt in
        let fe = entity_fits u n e h.body lt h.is h.right in
        let s = body_stands u e h.body h.is in
        let at = body_at e u.entities h.body h.is in
        let sound = body_sound app u variables serving h.body h.right (serving.entities at.0 h.body at.1) in
        let here = subst (λ (f : CellFunction). AreSound app (length u.functions) (IsSoundTo app (length u.functions) (unit_over_cells u) call_depth) f.body) (sym s.body) sound in
        points_fit e lt h.body h.is fe here

    -- there are as many as are counted
    length_fit : (e : ℕ) → e < n → length (points_in code e) ≡ if_body (entity_points u) (entity_body e u.entities)
    length_fit e lt = let h = bodies e lt in length_points e lt h.body h.is ∙ sym (ap (if_body (entity_points u)) h.is)

    -- by their numbers
    point_fit : (e at : ℕ) (p : PlainPoint) → slice_get (points_in code e) at ≡ Some p → IsPointFit app code e p
    point_fit e at p h = go (slice_get code.entities e) refl h where
      go : (o : Option EntityCode) → slice_get code.entities e ≡ o → slice_get (map plain_of (points_of o)) at ≡ Some p → IsPointFit app code e p
      go None q k = absurd (let none : ◌≡◌ {A = Option PlainPoint} None (Some p) = k in cc)
      go (Some x) q k =
          let within = slice_get_within code.entities e x q in
          let all = is.entities in
          let lt : e < n = omega arith in
          fit_at e (lowered_points u n e) (exchanged (first_point u n e) at) p (entity_fit e lt) (sym ((is.points e lt).at at) ∙ h)

    -- the code fits
    pub code_fits : n ≡ length app.tasks + length app.routines → point_total u n ≤ 2048 → bit_total u n ≤ 8192 → Fits app code
    code_fits same points bits =
        let total_points = points_are u n code is length_fit in
        let total_bits = ap bit_count (cells_are u n code is) ∙ all_bits u n in
        record {
          entities = is.entities ∙ same;
          begins = λ e lt. let all = is.entities in let here : e < n = omega arith in let h = bodies e here in some_points e here h.body h.is;
          points = point_fit;
          starts = starts_fit u n code is variables;
          few_points = omega arith;
          few_bits = omega arith;
        }
